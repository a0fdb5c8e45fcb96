-- What a step does by its effect is what it does at its stage.
use Rattle.std.proofs.Common.{ℕ, ◌≡◌, [], ◌∷◌, refl, ap, subst, inl, inr, ◌==◌}
use Rattle.std.specs.Prelude.{Bool, true, false, if◌then◌else◌, Option}
use Rattle.std.proofs.lemmas.Bool.Decides.{eqb_tells}
use Rattle.ds_state.specs.Edits.{PlainEditCall}
use Rattle.ds_state.specs.World.{PlainEdit, PlainIssue}
use Rattle.ds_state.specs.declared.stage.Stage.{Stage}
use Rattle.ds_state.specs.declared.stage.Stage.TheVariants.{Swap, Answer}
use Rattle.ds_state.specs.declared.situation.Situation.TheVariants.{Editing}
use Rattle.ds_edit.specs.EditSteps.{next_at}
use Rattle.ds_edit.specs.EditTakes.{after, after_by, counted_at, counted_by, effect_at, open_edit_at, open_edit_by, outcome_by}
use Rattle.ds_state.specs.EditEndings.{outcome_at}
use Rattle.ds_edit.specs.declared.machine.Effect.{Effect}
use Rattle.ds_edit.specs.declared.machine.Effect.TheVariants.{GoesOn, Counts}

-- where the two effects of a swap give the same, it does not matter which
either : {X : Type 0} (f : Effect → X) (x : X) (b : Bool) → f Counts ≡ x → f GoesOn ≡ x → f (if b then Counts else GoesOn) ≡ x
either f x true won lost = won
either f x false won lost = lost

-- what the process does after a step is the same by the step's effect and by its stage
pub after_same : (e : PlainEditCall) (s : Stage) (word : ℕ) → e.stage ≡ s → after_by e word (effect_at s word) ≡ after e s word
after_same e (Swap noted) word is = either (λ what. after_by e word what) (after e (Swap noted) word) (word == noted) (ap (λ x. Editing (record e { stage = next_at e x word })) is) (ap (λ x. Editing (record e { stage = next_at e x word })) is)
after_same e (Answer how) word is = refl
after_same e s word is = ap (λ x. Editing (record e { stage = next_at e x word })) is

-- the same, of what is linearized
pub counted_same : (e : PlainEdit) (s : Stage) (word : ℕ) → counted_by e (effect_at s word) ≡ counted_at e s word
counted_same e (Swap noted) word = won (word == noted)
  where
    won : (b : Bool) → counted_by e (if b then Counts else GoesOn) ≡ (if b then e ∷ [] else [])
    won true = refl
    won false = refl
counted_same e _ word = refl

-- the same, of the process's open edit
pub open_edit_same : (issue : Option PlainIssue) (s : Stage) (word : ℕ) → open_edit_by issue (effect_at s word) ≡ open_edit_at issue s
open_edit_same issue (Swap noted) word = either (λ what. open_edit_by issue what) issue (word == noted) refl refl
open_edit_same issue _ word = refl

-- the same, of how the edit ended
pub outcome_same : (s : Stage) (word : ℕ) → outcome_by (effect_at s word) ≡ outcome_at s
outcome_same (Swap noted) word = either (λ what. outcome_by what) (outcome_at (Swap noted)) (word == noted) refl refl
outcome_same _ word = refl

-- only a swap that wins linearizes an edit
pub counts_swaps : (s : Stage) (word : ℕ) → effect_at s word ≡ Counts → (noted : ℕ) × (s ≡ Swap noted) × (word ≡ noted)
counts_swaps (Swap noted) word is = elim (eqb_tells word noted) [
  | inl same ↦ (noted, refl, same.1)
  | inr other ↦ absurd (let lost : GoesOn ≡ Counts = subst (λ (b : Bool). (if b then Counts else GoesOn) ≡ Counts) other.0 is in cc)
]
counts_swaps _ word is = absurd (cc)
