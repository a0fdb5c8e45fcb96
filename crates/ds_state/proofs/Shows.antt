-- Two words show an entry that a cell can show; the words of such an entry read back.
use Rattle.std.proofs.Common.{ℕ, ℤ, pos, negsuc, ◌≡◌, ◌<◌, ◌≤◌, ◌-◌, ◌/◌, ◌%◌, ◌^◌, ◌==◌, Bool, true, false, if◌then◌else◌, nat_lt, [], suc, refl, sym, ap, subst, ◌∙◌, arith, inl, inr}
use Rattle.std.specs.Prelude.{FitsSigned}
use Rattle.std.specs.Int.{w64, cast_signed}
use Rattle.std.proofs.lemmas.Bool.{ltb-true, ltb-false, lt-ltb}
use mir.Val.{sel}
use Rattle.ds_formula.specs.declared.cells.Shape.{Shape}
use Rattle.ds_formula.specs.declared.cells.Cell.{Cell}
use Rattle.ds_formula.specs.Cells.{IsInside, index_of, count_of}
use Rattle.ds_formula.specs.Plain.{PlainContent}
use Rattle.ds_formula.specs.Refs.{Refers}
use Rattle.ds_formula.specs.Grammar.{Reads, blank}
use Rattle.ds_eval.specs.declared.value.Value.{Value}
use Rattle.ds_eval.specs.declared.value.Value.TheVariants as value
use Rattle.ds_eval.specs.declared.inputs.Entry as entries
use Rattle.ds_eval.specs.Numbers.{is_i64}
use Rattle.ds_eval.specs.Local.{local}
use Rattle.ds_eval.specs.Showable.{CanShow, ordinary, round}
use Rattle.ds_eval.proofs.Showable.{local_shown}
use Rattle.ds_layout.specs.declared.stored.Kind.{Kind}
use Rattle.ds_layout.specs.declared.stored.Kind.TheVariants as kind
use Rattle.ds_layout.specs.declared.stored.Stored.{Stored}
use Rattle.ds_layout.specs.Places.{cells_of}
use Rattle.ds_layout.specs.Stored.{Goes, stored_by, stored_of}
use Rattle.ds_layout.proofs.Packed.{IsStored-stored_of, stored_of-words}
use Rattle.ds_state.specs.World.{PlainWorld}
use Rattle.ds_state.specs.Standing.{Side, shown, shown_of, shown_entry, stored_for, kind_for, number_for, value_for, word_for, entry_on, HasContent}

abbrev Small : ℤ → Type 0
Small z = is_i64 z ≡ true

-- any word is a number of 64 bits
small_cast : (n : ℕ) → Small (cast_signed w64 n)
small_cast n = go (nat_lt n (2 ^ 63)) (ltb-true n (2 ^ 63)) (ltb-false n (2 ^ 63))
  where
    go : (b : Bool) → (b ≡ true → n < 2 ^ 63) → (b ≡ false → 2 ^ 63 ≤ n) → Small (sel b (pos n) (negsuc (2 ^ 64 - suc n)))
    go true l g = lt-ltb n (2 ^ 63) (l refl)
    go false l g = let m = g refl in lt-ltb (2 ^ 64 - suc n) (2 ^ 63) (omega arith)

fits : (z : ℤ) → Small z → FitsSigned w64 z
fits (pos n) h = record { sfits = ltb-true n (2 ^ 63) h }
fits (negsuc n) h = record { sfits = ltb-true n (2 ^ 63) h }

if_small : (b : Bool) (x y : Stored) → Small x.value → Small y.value → Small (if b then x else y).value
if_small true x y p q = p
if_small false x y p q = q

small_by : (cells height code : ℕ) (z : ℤ) → Small z → Small (stored_by cells height code z).value
small_by cells height code z h = if_small (code == 0) _ _ refl (if_small (code == 1) _ _ h (if_small (code == 2) _ _ refl (if_small (code == 3) _ _ refl refl)))

small_stored : (cells v k : ℕ) → Small (stored_of cells v k).value
small_stored cells v k = if_small (nat_lt (k / 8) cells) _ _ (small_by cells (k / 8) (k % 8) (cast_signed w64 v) (small_cast v)) refl

can_show : (shape : Shape) (k : Kind) (height : ℕ) (z : ℤ) → Goes (count_of shape) k height z → Small z → CanShow shape (record { value = shown k z; height = height })
can_show shape kind.Blank height z h s = ordinary h.0 tt
can_show shape kind.Number height z h s = ordinary h s
can_show shape kind.DivZero height z h s = ordinary h.0 tt
can_show shape kind.Num height z h s = ordinary h.0 tt
can_show shape kind.Circular height z h s = round h.0 refl

-- whatever two words show, a cell can show
pub words_show : (shape : Shape) (v k : ℕ) → CanShow shape (shown_entry (count_of shape) v k)
words_show shape v k =
    let s : Stored = stored_of (count_of shape) v k in
    can_show shape s.kind s.height s.value (IsStored-stored_of (count_of shape) v k) (small_stored (count_of shape) v k)

goes_for : (shape : Shape) (v : Value) (h : ℕ) → CanShow shape (record { value = v; height = h }) → Goes (count_of shape) (kind_for v) h (number_for v)
goes_for shape value.Blank h (ordinary l o) = (l, refl)
goes_for shape value.Blank h (round at is) = absurd cc
goes_for shape (value.Number z) h (ordinary l o) = l
goes_for shape (value.Number z) h (round at is) = absurd cc
goes_for shape value.DivZero h (ordinary l o) = (l, refl)
goes_for shape value.DivZero h (round at is) = absurd cc
goes_for shape value.Num h (ordinary l o) = (l, refl)
goes_for shape value.Num h (round at is) = absurd cc
goes_for shape value.Circular h (ordinary l o) = absurd o
goes_for shape value.Circular h (round at is) = (at, refl)

small_for : (shape : Shape) (v : Value) (h : ℕ) → CanShow shape (record { value = v; height = h }) → Small (number_for v)
small_for shape value.Blank h c = refl
small_for shape (value.Number z) h (ordinary l o) = o
small_for shape (value.Number z) h (round at is) = absurd cc
small_for shape value.DivZero h c = refl
small_for shape value.Num h c = refl
small_for shape value.Circular h c = refl

shown_for : (v : Value) → shown (kind_for v) (number_for v) ≡ v
shown_for value.Blank = refl
shown_for (value.Number z) = refl
shown_for value.DivZero = refl
shown_for value.Num = refl
shown_for value.Circular = refl

entry_by : Stored → entries.Entry
entry_by s = record { value = shown_of s; height = s.height }

entry_with : ℕ → Value → entries.Entry
entry_with h v = record { value = v; height = h }

-- the words of an entry that a cell can show read back
pub words_back : (shape : Shape) (e : entries.Entry) → CanShow shape e → shown_entry (count_of shape) (value_for e) (word_for e) ≡ e
unfolding entry_by entry_with
words_back shape e h =
    ap entry_by (stored_of-words (count_of shape) (stored_for e) (fits (number_for e.value) (small_for shape e.value e.height h)) (goes_for shape e.value e.height h))
    ∙ ap (entry_with e.height) (shown_for e.value)

-- what a content gives of what words show, words show
pub local_back : (w : PlainWorld) (side : Side) (cell head : ℕ) (content : PlainContent) (u : Cell → entries.Entry) → HasContent w cell head content
    → ((d : Cell) → Refers content d → IsInside w.layout.shape d → u d ≡ entry_on w.layout side (index_of w.layout.shape d))
    → shown_entry (cells_of w.layout) (value_for (local w.layout.shape content u)) (word_for (local w.layout.shape content u)) ≡ local w.layout.shape content u
local_back w side cell head content u has near =
    let each : (d : Cell) → Refers content d → IsInside w.layout.shape d → CanShow w.layout.shape (u d) =
    (λ d refers inside. subst (λ (e : entries.Entry). CanShow w.layout.shape e) (sym (near d refers inside)) (words_show w.layout.shape (side.value (index_of w.layout.shape d)) (side.kind (index_of w.layout.shape d)))) in
    words_back w.layout.shape (local w.layout.shape content u) (elim has [
      | inl none ↦ local_shown w.layout.shape [] content u (subst (λ (p : PlainContent). Reads w.layout.shape [] p) (sym none.1) (record { short = omega arith; reads = blank })) each
      | inr text ↦ local_shown w.layout.shape text.by.text content u text.reads each
    ])
