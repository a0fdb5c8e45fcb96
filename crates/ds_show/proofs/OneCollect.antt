-- Values that were collected in two quiescent worlds are of no one moment between.
use Rattle.std.proofs.Common.{◌≡◌, ◌⊎◌, List, [], ◌∷◌, ◌++◌, ap, sym, ◌∙◌, subst, inl, inr, append_assoc}
use Rattle.std.proofs.lemmas.List.{append-nil, append_cancel_left}
use Rattle.ds_formula.specs.Cells.{IsInside, index_of}
use Rattle.ds_formula.specs.declared.cells.Cell.{Cell}
use Rattle.ds_formula.specs.declared.cells.Shape.{Shape}
use Rattle.ds_formula.proofs.Whole.{only_content}
use Rattle.ds_eval.specs.Scratch.{at, IsScratch}
use Rattle.ds_eval.specs.declared.value.Value.{Value}
use Rattle.ds_eval.proofs.Sheets.{scratch_on}
use Rattle.ds_eval.proofs.Walks.{runs_or_not}
use Rattle.ds_layout.specs.declared.layout.Layout.{Layout}
use Rattle.ds_state.specs.KnownShow.{AreScratch}
use Rattle.ds_state.specs.Shown.{values_shown, last_text}
use Rattle.ds_state.specs.World.{PlainEdit, PlainWorld, of_cell}
use Rattle.ds_state.proofs.QuietShown.{quiet_still, quiet_shows}
use Rattle.ds_show.specs.OneCollect.{AreAnEditApart, AreMixed, AreOfNoMoment}

-- the same edits have the same values
same_value : (shape : Shape) (es : List PlainEdit) (xs ys : List Value) → AreScratch shape es xs → AreScratch shape es ys → (c : Cell) → IsInside shape c → at xs (index_of shape c) ≡ at ys (index_of shape c)
same_value shape es xs ys a b c inside =
    let same : (d : Cell) → IsInside shape d → a.sheet d ≡ b.sheet d = λ d i. only_content shape (last_text (of_cell (index_of shape d) es)) (a.sheet d) (b.sheet d) (a.is.each d i) (b.is.each d i) in
    let s : IsScratch shape b.sheet xs = scratch_on shape a.sheet b.sheet xs same a.scratch in
    elim (runs_or_not shape b.sheet c) [
      | inl runs ↦ s.circular c inside runs ∙ sym (b.scratch.circular c inside runs)
      | inr ends ↦ s.computed c inside ends ∙ sym (b.scratch.computed c inside ends)
    ]

-- of two lists that one edit parts there is none between
nothing_behind : (xs ys : List PlainEdit) → xs ++ ys ≡ [] → ys ≡ []
nothing_behind [] ys is = is
nothing_behind (x ∷ xs) ys is = absurd (cc)

one_of_both : (earlier es later : List PlainEdit) (e : PlainEdit) → later ≡ earlier ++ e ∷ [] → (since : List PlainEdit) → es ≡ earlier ++ since → (until : List PlainEdit) → later ≡ es ++ until → (es ≡ earlier) ⊎ (es ≡ later)
one_of_both earlier es later e one [] grown until grows = inl (grown ∙ append-nil earlier)
one_of_both earlier es later e one (x ∷ since) grown until grows =
    let both : earlier ++ ((x ∷ since) ++ until) ≡ earlier ++ e ∷ [] = sym (append_assoc earlier (x ∷ since) until) ∙ ap (λ zs. zs ++ until) (sym grown) ∙ sym grows ∙ one in
    let rest : x ∷ (since ++ until) ≡ e ∷ [] = append_cancel_left earlier ((x ∷ since) ++ until) (e ∷ []) both in
    let none : since ++ until ≡ [] = cc in
    inr (sym (append-nil es) ∙ ap (λ zs. es ++ zs) (sym (nothing_behind since until none)) ∙ sym grows)

module _ (first last : PlainWorld) (e : PlainEdit) (values : List Value) (apart : AreAnEditApart first last e) (mixed : AreMixed first last values) where
  not_first : AreScratch first.layout.shape first.counted values → ⊥
  not_first are = mixed.late_changed (same_value first.layout.shape first.counted (values_shown first) values (quiet_shows first apart.first_sound apart.first_quiet) are mixed.late mixed.late_inside ∙ mixed.late_is)

  not_last : AreScratch first.layout.shape last.counted values → ⊥
  not_last are =
      let shape : last.layout.shape ≡ first.layout.shape = ap (λ (l : Layout). l.shape) apart.layout in
      let shows : AreScratch first.layout.shape last.counted (values_shown last) = subst (λ (s : Shape). AreScratch s last.counted (values_shown last)) shape (quiet_shows last apart.last_sound apart.last_quiet) in
      mixed.early_changed (sym mixed.early_is ∙ same_value first.layout.shape last.counted values (values_shown last) are shows mixed.early mixed.early_inside
      ∙ ap (λ (s : Shape). at (values_shown last) (index_of s mixed.early)) (sym shape))

  no_time : (es : List PlainEdit) → (es ≡ first.counted) ⊎ (es ≡ last.counted) → AreScratch first.layout.shape es values → ⊥
  no_time es (inl same) are = not_first (subst (λ xs. AreScratch first.layout.shape xs values) same are)
  no_time es (inr same) are = not_last (subst (λ xs. AreScratch first.layout.shape xs values) same are)

  pub no_moment : AreOfNoMoment first last values
  no_moment = record {
    first_still = quiet_still first apart.first_sound apart.first_quiet;
    last_still = quiet_still last apart.last_sound apart.last_quiet;
    none = λ es b are. no_time es (one_of_both first.counted es last.counted e apart.counted b.since b.grown b.until b.grows) are;
  }

-- values that are collected half before an edit and half after it are those of no moment
pub mixed_of_none : (first last : PlainWorld) (e : PlainEdit) (values : List Value) → AreAnEditApart first last e → AreMixed first last values → AreOfNoMoment first last values
mixed_of_none first last e values apart mixed = no_moment first last e values apart mixed
