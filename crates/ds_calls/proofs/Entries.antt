-- Entries after n rounds: those after as many rounds as there are cells are the only ones.
use Rattle.std.proofs.Common.{ℕ, zero, suc, ◌≡◌, ◌<◌, ◌≤◌, sym, ap, ◌∙◌, inl, inr, arith}
use Rattle.std.proofs.lemmas.Bool.{cases_lt}
use Rattle.ds_formula.specs.declared.cells.Shape.{Shape}
use Rattle.ds_formula.specs.declared.cells.Cell.{Cell}
use Rattle.ds_formula.specs.Cells.{count_of}
use Rattle.ds_formula.specs.Plain.{PlainContent}
use Rattle.ds_eval.specs.declared.inputs.Entry.{Entry}
use Rattle.ds_eval.specs.declared.value.Value.{Value}
use Rattle.ds_eval.specs.Scratch.{Walk, value}
use Rattle.ds_eval.specs.Rounds.{IsSettled}
use Rattle.ds_eval.proofs.Neighbours.{value_on}
use Rattle.ds_eval.proofs.Walks.{shorter}

both : (h k : ℕ) (v w : Value) → h ≡ k → v ≡ w → (let e : Entry = record { value = v; height = h } in e) ≡ record { value = w; height = k }
both h k v w a b = ap (λ (n : ℕ). let e : Entry = record { value = v; height = n } in e) a ∙ ap (λ (x : Value). let e : Entry = record { value = x; height = k } in e) b

pub same_entry : (e f : Entry) → e.height ≡ f.height → e.value ≡ f.value → e ≡ f
same_entry e f a b = both e.height f.height e.value f.value a b

module _ (shape : Shape) (sheet : Cell → PlainContent) where
  value_stays : (n : ℕ) (c : Cell) → (Walk shape sheet n c → ⊥) → value shape sheet (suc n) c ≡ value shape sheet n c
  value_stays zero c w = absurd (w tt)
  value_stays (suc n) c w = value_on shape (value shape sheet (suc n)) (value shape sheet n) (sheet c) (λ d r i. value_stays n d (λ v. w (d, r, i, v)))

  -- what is known after a round more
  pub weaker : (n : ℕ) (e : Entry) (c : Cell) → IsSettled shape sheet (suc n) e c → IsSettled shape sheet n e c
  weaker n e c s = record {
    sound = λ w. s.sound (λ v. w (shorter shape sheet n c v));
    complete = λ k l. s.complete k (omega arith);
    circular = λ l. s.circular (omega arith);
    computed = λ w. s.computed (λ v. w (shorter shape sheet n c v)) ∙ value_stays n c w;
  }

  -- a low entry's cell begins no walk of all cells
  low_ends : (e : Entry) (c : Cell) → IsSettled shape sheet (count_of shape) e c → e.height < count_of shape → Walk shape sheet (count_of shape) c → ⊥
  low_ends e c s l w = let h = s.complete (count_of shape) (omega arith) (omega arith) w in omega arith

  -- an entry is no higher than another one of its cell
  lower : (e f : Entry) (c : Cell) → IsSettled shape sheet (count_of shape) e c → IsSettled shape sheet (count_of shape) f c → (Walk shape sheet (count_of shape) c → ⊥) → e.height ≤ count_of shape → e.height ≤ f.height
  lower e f c s t none l = t.complete e.height l l (s.sound none e.height (omega arith))

  pub last_same : (e f : Entry) (c : Cell) → 1 ≤ count_of shape → IsSettled shape sheet (count_of shape) e c → IsSettled shape sheet (count_of shape) f c → e.height ≤ count_of shape → f.height ≤ count_of shape → e ≡ f
  last_same e f c some s t a b = elim (cases_lt e.height (count_of shape)) [
    | inl l ↦ low (low_ends e c s l)
    | inr g ↦ elim (cases_lt f.height (count_of shape)) [
      | inl l ↦ low (low_ends f c t l)
      | inr h ↦ same_entry e f (omega arith) (s.circular some g ∙ sym (t.circular some h))
    ]
  ]
    where
      low : (Walk shape sheet (count_of shape) c → ⊥) → e ≡ f
      low none =
          let p = lower e f c s t none a in
          let q = lower f e c t s none b in
          same_entry e f (omega arith) (s.computed none ∙ sym (t.computed none))
