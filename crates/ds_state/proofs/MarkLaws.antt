-- What the mark of a cell says, and who holds it.
use Rattle.std.proofs.Common.{ℕ, ◌≡◌, ◌<◌, ◌+◌, ◌-◌, ◌/◌, ◌%◌, ◌==◌, refl, sym, subst, arith, zero, suc, Bool, true, false, Some, None, if◌then◌else◌, nat_lt}
use Rattle.std.specs.Prelude.{length}
use Rattle.std.proofs.lemmas.Bool.{eqb-true, eqb-false, ltb-true, lt-ltb}
use Rattle.ds_layout.specs.declared.place.Place.TheVariants.{Mark}
use Rattle.ds_layout.specs.Mark.{IsHeldBy, holder_code, holder_of, present, dirty_bit, mark_word}
use Rattle.ds_state.specs.World.{PlainWorld}
use Rattle.ds_state.specs.Works.{PlainWorkCall}
use Rattle.ds_state.specs.Shown.{mark_at, MayHold}
use Rattle.ds_state.specs.KnownWork.{Hold, free, seen, claimed, held, outrun, HoldFits, work_known}
use Rattle.ds_state.specs.CallsFit.{CallFits}
use Rattle.ds_state.specs.Sound.{IsSound}
use Rattle.ds_state.specs.declared.situation.Situation.{Situation}
use Rattle.ds_state.specs.declared.situation.Situation.TheVariants.{Idle, Stopped, Editing, Working, Recovering, Showing, Migrating}

-- the holder's code is the one in the word, where each holder there is one of the processes
code_of : (processes code : ℕ) → ((q : ℕ) → code ≡ q + 1 → q < processes) → holder_code (present processes (holder_of code)) ≡ code
code_of processes code low = by (code == 0) refl
  where
    inside : (b : Bool) → b ≡ true → (code ≡ 0 → ⊥) → holder_code (if b then Some (code - 1) else None) ≡ code
    inside true is some = omega (arith, some)
    inside false is some = absurd (cc)

    by : (b : Bool) → (code == 0) ≡ b → holder_code (present processes (if b then None else Some (code - 1))) ≡ code
    by true is = sym (eqb-true code 0 is)
    by false is = let some = eqb-false code 0 is in inside (nat_lt (code - 1) processes) (lt-ltb (code - 1) processes (low (code - 1) (omega (arith, some)))) some

dirty_is : (bit : ℕ) → bit < 2 → dirty_bit (bit == 1) ≡ bit
dirty_is zero lt = refl
dirty_is (suc zero) lt = refl
dirty_is (suc (suc n)) lt = absurd (omega arith)

-- in a sound world a mark's word says no more than what is read of it
pub mark_whole : (w : PlainWorld) (cell : ℕ) → IsSound w → mark_word (mark_at w.layout w.memory cell) ≡ w.memory.cached (Mark cell)
mark_whole w cell sound =
    let word : ℕ = w.memory.cached (Mark cell) in
    let code = code_of w.layout.processes (word / 2 % 16) (λ q is. ((sound.words (Mark cell)).holder q is).0) in
    let dirty = dirty_is (word % 2) (omega arith) in
    omega (arith, code, dirty)

-- a holder that a mark names is one of the processes, and the word's
named : (processes code q : ℕ) → present processes (holder_of code) ≡ Some q → (q < processes) × (code ≡ q + 1)
named processes code q = by (code == 0) refl
  where
    inside : (b : Bool) → nat_lt (code - 1) processes ≡ b → (code ≡ 0 → ⊥) → (if b then Some (code - 1) else None) ≡ Some q → (q < processes) × (code ≡ q + 1)
    inside true lt some same = let one : code - 1 ≡ q = cc in (subst (λ x. x < processes) one (ltb-true (code - 1) processes lt), omega (arith, some, one))
    inside false lt some same = absurd (cc)

    by : (b : Bool) → (code == 0) ≡ b → present processes (if b then None else Some (code - 1)) ≡ Some q → (q < processes) × (code ≡ q + 1)
    by true is same = absurd (cc)
    by false is same = inside (nat_lt (code - 1) processes) refl (eqb-false code 0 is) same

-- a work holds its own cell's mark alone
by_work : (w : PlainWorld) (e : PlainWorkCall) (cell : ℕ) (hold : Hold) → HoldFits w e hold → IsHeldBy e.process (w.memory.cached (Mark cell)) → e.cell ≡ cell
by_work w e cell free fits by = absurd (fits cell by)
by_work w e cell seen fits by = absurd (fits.0 cell by)
by_work w e cell claimed fits by = sym (fits.alone cell by)
by_work w e cell held fits by = sym (fits.claim.alone cell by)
by_work w e cell outrun fits by = sym (fits.0.claim.alone cell by)

by_call : (w : PlainWorld) (cell q : ℕ) (s : Situation) → CallFits w q s → IsHeldBy q (w.memory.cached (Mark cell)) → MayHold cell s
by_call w cell q (Idle next) fits by = fits.holds_none cell by
by_call w cell q Stopped fits by = tt
by_call w cell q (Editing e) fits by = fits.holds_none cell (subst (λ p. IsHeldBy p (w.memory.cached (Mark cell))) (sym fits.mine) by)
by_call w cell q (Working e) fits by = by_work w e cell (work_known (length e.inputs) e.stage).hold fits.knows.hold (subst (λ p. IsHeldBy p (w.memory.cached (Mark cell))) (sym fits.mine) by)
by_call w cell q (Recovering e) fits by = tt
by_call w cell q (Showing e) fits by = fits.1.holds_none cell (subst (λ p. IsHeldBy p (w.memory.cached (Mark cell))) (sym fits.1.mine) by)
by_call w cell q (Migrating e) fits by = tt

-- in a sound world a mark names a process of the sheet that may hold the cell
pub mark_names : (w : PlainWorld) (cell q : ℕ) → IsSound w → (mark_at w.layout w.memory cell).holder ≡ Some q → (q < w.layout.processes) × MayHold cell (w.situation q)
mark_names w cell q sound is =
    let one = named w.layout.processes (w.memory.cached (Mark cell) / 2 % 16) q is in
    (one.0, by_call w cell q (w.situation q) (sound.calls q one.0) one.1)
