-- Right receipts, one more.
use Rattle.std.proofs.Common.{ℕ, ◌≡◌, ◌<◌, ◌+◌, List, [], ◌∷◌, ◌++◌, take, length, get_or, sym, ap, ◌∙◌, subst}
use Rattle.std.specs.Prelude.{Contains, ◌≢◌}
use Rattle.std.proofs.lemmas.List.{take_more, get_or_default}
use Rattle.std.proofs.lemmas.List.Elements.{All-push}
use Rattle.std.proofs.lemmas.List.Quantifiers.{all_pairs_push}
use Rattle.ds_formula.specs.declared.cells.Shape.{Shape}
use Rattle.ds_state.specs.World.{PlainEdit}
use Rattle.ds_crew.specs.Receipts.{PlainReceipt}
use Rattle.ds_crew.specs.Audits.{Stands, AreRight}

-- right receipts, and one more that stands and is not among them
one_more : (shape : Shape) (counted : List PlainEdit) (rs : List PlainReceipt) (r : PlainReceipt) → AreRight shape counted rs → Stands shape counted r → (Contains rs r → ⊥) → AreRight shape counted (rs ++ r ∷ [])
one_more shape counted rs r right stands new = record {
  stand = All-push (Stands shape counted) rs r right.stand stands;
  once = all_pairs_push (λ a b. a ≢ b) rs r right.once (λ k d below same. new (k, below, get_or_default rs k r d below ∙ same));
}

-- so many right receipts, and a further one that stands and is not among them, are right
pub right_more : (shape : Shape) (counted : List PlainEdit) (rs : List PlainReceipt) (n : ℕ) (r : PlainReceipt) → n < length rs → get_or rs n r ≡ r → AreRight shape counted (take n rs) → Stands shape counted r → (Contains (take n rs) r → ⊥) → AreRight shape counted (take (n + 1) rs)
right_more shape counted rs n r below is right stands new =
    subst (AreRight shape counted) (sym (take_more rs n r below ∙ ap (λ x. take n rs ++ x ∷ []) is)) (one_more shape counted (take n rs) r right stands new)
