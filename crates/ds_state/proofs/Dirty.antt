-- The dirty bit added to a mark.
use Rattle.std.proofs.Common.{ℕ, ◌≡◌, ◌+◌, ◌*◌, ◌/◌, ap, ◌∙◌, subst, arith, zero, suc}
use Rattle.std.specs.Prelude.{bit_or}
use Rattle.std.specs.Int.{bit_at}
use Rattle.std.proofs.lemmas.Nat.Bits.{bit_at_lowest, bit_at-suc, bit_at-zero, bit_at_or, same_from_bits}
use Rattle.ds_words.specs.Memory.{OrsAt, StoresAt}
use Rattle.ds_layout.specs.declared.place.Place.TheVariants.{Mark}
use Rattle.ds_layout.specs.declared.mark.TheConstants.{DIRTY}
use Rattle.ds_state.specs.World.{PlainWorld}
use Rattle.ds_state.specs.WordsFit.{MarkFits}
use Rattle.ds_state.proofs.Frames.{MovesMark}

dirty_bit : (x i : ℕ) → bit_at (bit_or x 1) i ≡ bit_at (x / 2 * 2 + 1) i
dirty_bit x zero =
    let a = bit_at_or x 1 0 in
    let b = bit_at_lowest x in
    let c = bit_at_lowest 1 in
    let d = bit_at_lowest (x / 2 * 2 + 1) in
    omega arith
dirty_bit x (suc i) =
    let a = bit_at_or x 1 (suc i) in
    let b = bit_at-suc x i in
    let c : bit_at 1 (suc i) ≡ 0 = bit_at-suc 1 i ∙ bit_at-zero i in
    let half : (x / 2 * 2 + 1) / 2 ≡ x / 2 = omega arith in
    let d : bit_at (x / 2 * 2 + 1) (suc i) ≡ bit_at (x / 2) i = bit_at-suc (x / 2 * 2 + 1) i ∙ ap (λ (y : ℕ). bit_at y i) half in
    omega arith

-- the dirty bit added to a mark's word: the odd word of the same tenure
pub or_dirty : (x : ℕ) → bit_or x DIRTY ≡ x / 2 * 2 + 1
or_dirty x = same_from_bits (bit_or x 1) (x / 2 * 2 + 1) (λ i. dirty_bit x i)

-- so an `or` of it moves a mark as every process may
pub or_moves : (p c v : ℕ) → MovesMark p c v (bit_or c DIRTY) v
or_moves p c v =
    let is = or_dirty c in
    record {
      cached = omega arith;
      persisted = omega arith;
      holds = λ q ne. record { cached = λ h. omega arith; persisted = λ h k. k; came = λ h. omega arith };
    }

-- a mark that fits also fits with the dirty bit added on its cached side
pub or_mark_fits : (w : PlainWorld) (cell c v : ℕ) → MarkFits w cell c v → MarkFits w cell (bit_or c DIRTY) v
or_mark_fits w cell c v h =
    let is = or_dirty c in
    let behind = h.behind in
    let few = h.few in
    record { behind = omega arith; few = omega arith; holder = λ q by. (let k = h.holder q (omega arith) in let top = k.2 in (k.0, k.1, omega arith)); persisted_holder = h.persisted_holder }

-- it is a store of an odd mark of the same turn
pub or_stores : (old new : PlainWorld) (d : ℕ) → OrsAt (Mark d) DIRTY old.memory new.memory → StoresAt (Mark d) (old.memory.cached (Mark d) / 2 * 2 + 1) old.memory new.memory
or_stores old new d m = subst (λ (n : ℕ). StoresAt (Mark d) n old.memory new.memory) (or_dirty (old.memory.cached (Mark d))) m
