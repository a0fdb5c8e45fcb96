-- How the numbers of heads grow.
use Rattle.std.proofs.Common.{ℕ, ◌≡◌, ◌≢◌, ◌<◌, ◌≤◌, ◌+◌, ◌*◌, ◌⊎◌, List, [], ◌∷◌, ◌++◌, refl, ap, sym, ◌∙◌, subst, arith, append_assoc, length, inl, inr, length-append, max, get_or}
use Rattle.std.specs.Prelude.{All, ◌==◌, true, zero, suc}
use Rattle.std.proofs.Math.Seq.{get_or-append_seam}
use Rattle.std.proofs.lemmas.Bool.{eqb-true, eq-eqb}
use Rattle.std.proofs.lemmas.Bool.Decides.{eqb_tells}
use Rattle.std.proofs.lemmas.List.Elements.{All-head, All-tail, All-filter, filter-append, filter_passes}
use Rattle.ds_state.specs.World.{PlainEdit, PlainWorld, of_cell, head_after_all, head_from, head_by, IsHeadBy}
use Rattle.ds_state.specs.WordsFit.{IsOnItsWay}
use Rattle.ds_state.specs.Sound.{IsOfSheet}

-- the parts of a head fit their places
pub record IsSmall (e : PlainEdit) : Type 0 where
  pub process : e.process < 256
  pub number : e.number < 256

-- the processes and numbers of all these edits fit their places in a head
abbrev pub Small : List PlainEdit → Type 0
Small es = All (λ e. IsSmall e) es

pub IsSmall-of_sheet : (w : PlainWorld) (e : PlainEdit) → IsOfSheet w e → IsSmall e
IsSmall-of_sheet w e h = let p = h.process in let n = h.number in let l = w.layout.limited in record { process = omega arith; number = omega arith }

-- the processes and numbers of edits of the sheet fit their places in a head
pub small_counted : (w : PlainWorld) → All (λ e. IsOfSheet w e) w.counted → Small w.counted
small_counted w h = λ k d lt. IsSmall-of_sheet w (get_or w.counted k d) (h k d lt)

-- the edits of a cell in two lists, one after the other, are those in the first and then those in the second
pub of_cell-append : (cell : ℕ) (xs ys : List PlainEdit) → of_cell cell (xs ++ ys) ≡ of_cell cell xs ++ of_cell cell ys
unfolding of_cell
of_cell-append cell xs ys = filter-append (λ e. e.cell == cell) xs ys

-- what fits in all edits fits in those of one cell
pub small_of_cell : (cell : ℕ) (es : List PlainEdit) → Small es → Small (of_cell cell es)
unfolding of_cell
small_of_cell cell es h = All-filter (λ e. e.cell == cell) (λ e. IsSmall e) es h

-- each is an edit of the cell
pub cell_of-middle : (cell : ℕ) (edits before : List PlainEdit) (e : PlainEdit) (after : List PlainEdit) → of_cell cell edits ≡ before ++ e ∷ after → e.cell ≡ cell
unfolding of_cell
cell_of-middle cell edits before e after parts =
    let passes : All (λ (f : PlainEdit). (f.cell == cell) ≡ true) (before ++ e ∷ after) = subst (λ (xs : List PlainEdit). All (λ (f : PlainEdit). (f.cell == cell) ≡ true) xs) parts (filter_passes (λ (f : PlainEdit). f.cell == cell) edits) in
    let at : (get_or (before ++ e ∷ after) (length before) e).cell == cell ≡ true = passes (length before) e (omega (arith, length-append before (e ∷ after))) in
    let is : get_or (before ++ e ∷ after) (length before) e ≡ e = get_or-append_seam before e after e in
    eqb-true e.cell cell (rw (sym is) at)

-- an edit alone, for its own cell and for another
pub of_cell-own : (e : PlainEdit) → of_cell e.cell (e ∷ []) ≡ e ∷ []
unfolding of_cell
of_cell-own e = rw (eq-eqb e.cell e.cell refl) refl

-- an edit of another cell is none of the cell's
pub of_cell-other : (cell : ℕ) (e : PlainEdit) → e.cell ≢ cell → of_cell cell (e ∷ []) ≡ []
unfolding of_cell
of_cell-other cell e ne = elim (eqb_tells e.cell cell) [ inl (t, eq) ↦ absurd (ne eq) | inr (f, ne') ↦ rw f refl ]

small_head : (e : PlainEdit) (es : List PlainEdit) → Small (e ∷ es) → IsSmall e
small_head e es s = All-head (λ e. IsSmall e) e es s

small_tail : (e : PlainEdit) (es : List PlainEdit) → Small (e ∷ es) → Small es
small_tail e es s = All-tail (λ e. IsSmall e) e es s

get_or-left : (xs ys : List PlainEdit) (k : ℕ) (d : PlainEdit) → k < length xs → get_or (xs ++ ys) k d ≡ get_or xs k d
get_or-left [] ys k d lt = absurd (omega arith)
get_or-left (x ∷ xs) ys zero d lt = refl
get_or-left (x ∷ xs) ys (suc k) d lt = get_or-left xs ys k d (omega arith)

-- what fits in all edits fits in the first of them
pub small_before : (xs ys : List PlainEdit) → Small (xs ++ ys) → Small xs
small_before xs ys h = λ k d lt.
    subst (λ (e : PlainEdit). IsSmall e) (get_or-left xs ys k d lt) (h k d (omega (arith, length-append xs ys)))

bounds : (es : List PlainEdit) (stamp head : ℕ) → Small es → stamp * 65536 ≤ head → head < (stamp + 1) * 65536
    → ((stamp + length es) * 65536 ≤ head_from stamp head es) × (head_from stamp head es < (stamp + length es + 1) * 65536)
bounds [] stamp head s low high = (omega arith, omega arith)
bounds (e ∷ es) stamp head s low high =
    let p : e.process < 256 = (small_head e es s).process in
    let n : e.number < 256 = (small_head e es s).number in
    let h = bounds es (stamp + 1) (head_by (stamp + 1) e) (small_tail e es s) (omega arith) (omega arith) in
    (omega arith, omega arith)

-- the head after n edits has no stamp below their number
pub head_low : (es : List PlainEdit) → Small es → length es * 65536 ≤ head_after_all es
unfolding head_after_all
head_low es s = let h = bounds es 0 0 s (omega arith) (omega arith) in omega (arith, h.0)

-- the head after n edits has no stamp above their number
pub head_high : (es : List PlainEdit) → Small es → head_after_all es < (length es + 1) * 65536
unfolding head_after_all
head_high es s = let h = bounds es 0 0 s (omega arith) (omega arith) in omega (arith, h.1)

from-push : (es : List PlainEdit) (stamp head : ℕ) (e : PlainEdit) → head_from stamp head (es ++ e ∷ []) ≡ head_by (stamp + length es + 1) e
from-push [] stamp head e = ap (λ n. head_by n e) (omega arith)
from-push (x ∷ es) stamp head e = from-push es (stamp + 1) (head_by (stamp + 1) x) e ∙ ap (λ n. head_by n e) (omega arith)

-- the head after one edit more is that edit's, with the next stamp
pub head_push : (es : List PlainEdit) (e : PlainEdit) → head_after_all (es ++ e ∷ []) ≡ head_by (length es + 1) e
unfolding head_after_all
head_push es e = from-push es 0 0 e ∙ ap (λ n. head_by n e) (omega arith)

-- the head after some edits is less than that after one more, and whatever comes after it
pub head_grows : (before : List PlainEdit) (e : PlainEdit) (after : List PlainEdit) → Small (before ++ e ∷ after) → head_after_all before < head_after_all (before ++ e ∷ after)
head_grows before e after s =
    let low = head_low (before ++ e ∷ after) s in
    let high = head_high before (small_before before (e ∷ after) s) in
    omega (arith, length-append before (e ∷ after))

-- one head of a cell and its last one
most : (before : List PlainEdit) (e : PlainEdit) (after : List PlainEdit) → Small (before ++ e ∷ after) → head_by (length before + 1) e ≤ head_after_all (before ++ e ∷ after)
most before e [] s = let l = head_push before e in omega arith
most before e (x ∷ after) s =
    let again : (before ++ e ∷ []) ++ x ∷ after ≡ before ++ e ∷ x ∷ after = append_assoc before (e ∷ []) (x ∷ after) in
    let grows = head_grows (before ++ e ∷ []) x after (subst (λ (xs : List PlainEdit). Small xs) (sym again) s) in
    let same = ap head_after_all again in
    let l = head_push before e in
    omega arith

-- a head that one of the edits gave is no greater than the head after all of them
pub by_most : (es : List PlainEdit) (word : ℕ) (e : PlainEdit) → Small es → IsHeadBy es word e → word ≤ head_after_all es
by_most es word e s h =
    let m = most h.before e h.after (subst (λ (xs : List PlainEdit). Small xs) h.parts s) in
    let all = ap head_after_all h.parts in
    let w = h.is in
    omega arith

-- a head that an edit gave is still that edit's where others come after it
pub by_append : (es more : List PlainEdit) (word : ℕ) (e : PlainEdit) → IsHeadBy es word e → IsHeadBy (es ++ more) word e
by_append es more word e h = record {
  before = h.before;
  after = h.after ++ more;
  parts = ap (λ xs. xs ++ more) h.parts ∙ append_assoc h.before (e ∷ h.after) more;
  is = h.is;
}

-- the head after all edits is that of the last one
pub by_last : (es : List PlainEdit) (e : PlainEdit) → IsHeadBy (es ++ e ∷ []) (head_after_all (es ++ e ∷ [])) e
by_last es e = record { before = es; after = []; parts = refl; is = head_push es e }

-- an element of a list with one more is that one, or one of the list
pub parts_cases : (es : List PlainEdit) (last : PlainEdit) (before : List PlainEdit) (e : PlainEdit) (after : List PlainEdit) → es ++ last ∷ [] ≡ before ++ e ∷ after
    → ((es ≡ before) × (e ≡ last)) ⊎ ((rest : List PlainEdit) × (es ≡ before ++ e ∷ rest))
parts_cases [] last [] e after parts = inl (refl, cc)
parts_cases [] last (y ∷ before) e after parts =
    let l : length ([] ++ last ∷ []) ≡ length ((y ∷ before) ++ e ∷ after) = ap length parts in
    absurd (omega (arith, length-append before (e ∷ after)))
parts_cases (x ∷ xs) last [] e after parts = inr (xs, let same : x ≡ e = cc in ap (λ z. z ∷ xs) same)
parts_cases (x ∷ xs) last (y ∷ before) e after parts =
    let tails : xs ++ last ∷ [] ≡ before ++ e ∷ after = cc in
    let firsts : x ≡ y = cc in
    elim (parts_cases xs last before e after tails) [
      | inl same ↦ inl (ap (λ z. z ∷ xs) firsts ∙ ap (λ zs. y ∷ zs) same.0, same.1)
      | inr rest ↦ inr (rest.0, ap (λ z. z ∷ xs) firsts ∙ ap (λ zs. y ∷ zs) rest.1)
    ]

-- a head of a cell is its last edit's, or one of those before
pub by_cases : (es : List PlainEdit) (last : PlainEdit) (word : ℕ) (e : PlainEdit) → IsHeadBy (es ++ last ∷ []) word e → (word ≡ head_after_all (es ++ last ∷ [])) ⊎ IsHeadBy es word e
by_cases es last word e h =
    elim (parts_cases es last h.before e h.after h.parts) [
      | inl same ↦ inl (h.is ∙ ap (λ (xs : List PlainEdit). head_by (length xs + 1) e) (sym same.0) ∙ ap (λ (x : PlainEdit). head_by (length es + 1) x) same.1 ∙ sym (head_push es last))
      | inr rest ↦ inr (record { before = h.before; after = rest.0; parts = rest.1; is = h.is })
    ]

-- the persisted head is no greater than the cached one
pub persisted_most : (w : PlainWorld) (es : List PlainEdit) (cached persisted : ℕ) → Small es → cached ≡ head_after_all es → (persisted ≡ cached) ⊎ IsOnItsWay w es persisted → persisted ≤ cached
persisted_most w es cached persisted s is (inl same) = omega arith
persisted_most w es cached persisted s is (inr b) =
    let grows = head_grows b.before b.last [] (subst (λ (xs : List PlainEdit). Small xs) b.parts s) in
    let e : head_after_all es ≡ head_after_all (b.before ++ b.last ∷ []) = ap head_after_all b.parts in
    let p = b.is in
    omega arith

-- a head that is written back is the cached one, or no newer than the persisted one
pub written_back : (w : PlainWorld) (es : List PlainEdit) (cached persisted word : ℕ) (e : PlainEdit) → Small es → cached ≡ head_after_all es → (persisted ≡ cached) ⊎ IsOnItsWay w es persisted
    → IsHeadBy es word e → (max persisted word ≡ persisted) ⊎ (max persisted word ≡ cached)
written_back w es cached persisted word e s is (inl same) h = let m = by_most es word e s h in inl (omega arith)
written_back w es cached persisted word e s is (inr b) h =
    let m = by_most es word e s h in
    let s' : Small (b.before ++ b.last ∷ []) = subst (λ (xs : List PlainEdit). Small xs) b.parts s in
    let grows = head_grows b.before b.last [] s' in
    let all : head_after_all es ≡ head_after_all (b.before ++ b.last ∷ []) = ap head_after_all b.parts in
    let p = b.is in
    elim (by_cases b.before b.last word e (subst (λ (xs : List PlainEdit). IsHeadBy xs word e) b.parts h)) [
      | inl newest ↦ inr (omega arith)
      | inr older ↦ let o = by_most b.before word e (small_before b.before (b.last ∷ []) s') older in inl (omega arith)
    ]
