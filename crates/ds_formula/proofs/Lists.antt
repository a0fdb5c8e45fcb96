-- Cells that are listed after others, in reading order.
use Rattle.std.proofs.Common.{◌≡◌, inl, inr, ℕ, ◌-◌, ◌<◌, ◌≤◌, List, [], ◌∷◌, ◌++◌, length, get_or, subst, ◌∙◌, arith}
use Rattle.std.proofs.lemmas.Bool.{cases_lt}
use Rattle.std.proofs.lemmas.List.{get_or_default}
use Rattle.std.proofs.lemmas.List.Elements.{Contains-push, Contains-push_cases, Contains-append_left}
use Rattle.std.specs.List.{Contains, AllPairs}
use Rattle.ds_formula.specs.declared.cells.Cell.{Cell}
use Rattle.ds_formula.specs.declared.content.Operator.{Operator}
use Rattle.ds_formula.specs.Plain.{Formula, At, Joined, Computed}
use Rattle.ds_formula.specs.Refs.{IsPossible, IsBefore, IsListed, AreRefs}
use Rattle.ds_formula.proofs.Marks.{push_ascends}

before_all : (c d e : Cell) → IsBefore c d → IsBefore d e → IsBefore c e
before_all c d e (inl a) (inl b) = inl (omega (arith, a, b))
before_all c d e (inl a) (inr b) = inl (let same = b.0 in omega (arith, a, same))
before_all c d e (inr a) (inl b) = inl (let same = a.0 in omega (arith, b, same))
before_all c d e (inr a) (inr b) = inr (a.0 ∙ b.0, (let p = a.1 in let q = b.1 in omega (arith, p, q)))

-- what comes after the last cell comes after all
pub behind_last : (xs : List Cell) (other d : Cell) → AllPairs IsBefore xs → 1 ≤ length xs → IsBefore (get_or xs (length xs - 1) other) d → (c : Cell) → Contains xs c → IsBefore c d
behind_last xs other d ascend some before c h =
    let k = h.0 in
    let there : k < length xs = h.1 in
    let is : get_or xs k other ≡ c = get_or_default xs k other c there ∙ h.2 in
    subst (λ (x : Cell). IsBefore x d) is (elim (cases_lt k (length xs - 1)) [
      | inl lt ↦ before_all (get_or xs k other) (get_or xs (length xs - 1) other) d (ascend k (length xs - 1) other lt (omega (arith, some))) before
      | inr ge ↦ (let last : length xs - 1 ≡ k = omega (arith, there, ge, some) in subst (λ (i : ℕ). IsBefore (get_or xs i other) d) last before)
    ])

-- a possible cell after all that are listed is put after them
pub one_listed : (d : Cell) (xs : List Cell) → AllPairs IsBefore xs → ((c : Cell) → Contains xs c → IsBefore c d) → IsPossible d → IsListed (At d) xs (xs ++ d ∷ [])
one_listed d xs ascend behind possible = record {
  ascending = push_ascends xs d ascend behind;
  possible = λ old c h. elim (Contains-push_cases xs d c h) [
    | inl there ↦ old c there
    | inr same ↦ subst IsPossible same possible
  ];
  only = λ c h. Contains-push_cases xs d c h;
  kept = λ c h. Contains-append_left xs (d ∷ []) c h;
  all = λ c same. subst (λ (x : Cell). Contains (xs ++ d ∷ []) x) same (Contains-push xs d);
}

-- listing the left side and then the right one lists what an operator joins
pub both_listed : (o : Operator) (f g : Formula) (xs ys zs : List Cell) → IsListed f xs ys → IsListed g ys zs → IsListed (Joined o f g) xs zs
both_listed o f g xs ys zs h k = record {
  ascending = k.ascending;
  possible = λ old. k.possible (h.possible old);
  only = λ c there. elim (k.only c there) [
    | inl before ↦ (elim (h.only c before) [ inl old ↦ inl old | inr left ↦ inr (inl left) ])
    | inr right ↦ inr (inr right)
  ];
  kept = λ c old. k.kept c (h.kept c old);
  all = λ c m. elim m [ inl left ↦ k.kept c (h.all c left) | inr right ↦ k.all c right ];
}

-- what is listed after no cell are the references
pub refs_listed : (f : Formula) (xs : List Cell) → IsListed f [] xs → AreRefs (Computed f) xs
refs_listed f xs h = record {
  ascending = h.ascending;
  possible = h.possible (λ c none. absurd (let k = none.1 in omega (arith, k)));
  only = λ c there. elim (h.only c there) [ inl none ↦ absurd (let k = none.1 in omega (arith, k)) | inr written ↦ written ];
  all = λ c written possible. h.all c written;
}
