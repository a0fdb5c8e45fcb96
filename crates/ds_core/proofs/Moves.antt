-- What each event does to the ledger.
use Rattle.std.proofs.Common.{ℕ, ◌≡◌, ◌<◌, ◌⊎◌, List, [], ◌∷◌, ◌++◌, refl, ap, sym, ◌∙◌, subst, arith, inl, inr, length, Some, None}
use Rattle.std.specs.Prelude.{Option, Contains}
use Rattle.std.proofs.lemmas.Bool.{cases_eq}
use Rattle.std.proofs.lemmas.List.{append-nil}
use Rattle.std.proofs.lemmas.List.Elements.{All-contains}
use Rattle.ds_layout.specs.Head.{head_of}
use Rattle.ds_state.specs.Edits.{PlainEditCall, text_parts}
use Rattle.ds_state.specs.World.{PlainEdit, PlainIssue, PlainWorld, edit_of}
use Rattle.ds_state.specs.Known.{AreBelow, Knowing, known_at}
use Rattle.ds_state.specs.Value.{WorldValue, world_of}
use Rattle.ds_state.specs.CallsFit.{CallFits, EditFits, IdleFits}
use Rattle.ds_state.specs.Sound.{IsSound}
use Rattle.ds_state.specs.declared.stage.Outcome.{Outcome}
use Rattle.ds_state.specs.declared.stage.Outcome.TheVariants as outcome
use Rattle.ds_state.specs.declared.stage.Stage.{Stage}
use Rattle.ds_state.specs.declared.stage.Stage.TheVariants.{Swap, Answer}
use Rattle.ds_state.specs.declared.situation.Situation.{Situation}
use Rattle.ds_state.specs.declared.situation.Situation.TheVariants.{Editing}
use Rattle.ds_edit.specs.EditTakes.{rest_before, Begins, counted_at, open_edit_at}
use Rattle.ds_edit.specs.EditAnswers.{IsTrueAnswer, IsTrueOf}
use Rattle.ds_edit.specs.Begun.{IsBegun}
use Rattle.ds_edit.proofs.Truth.{answer_true}
use Rattle.ds_core.specs.EditEvents.{reply_with, EditStepsBy}
use Rattle.ds_state.specs.declared.answer.Answer.TheVariants.{Edit}
use Rattle.ds_state.specs.EditEndings.{end_of, other_of, outcome_at}
use Rattle.ds_core.proofs.Traces.{Stays, Issues, Counts, Closes, StepMoves}
use Rattle.ds_core.specs.declared.reply.Reply.{Reply}
use Rattle.ds_core.specs.declared.reply.Reply.TheVariants.{Answered}
use Rattle.ds_edit.proofs.Driving.{counted_cases, answers_at, goes_on_at}
use Rattle.ds_core.proofs.Replied.{replied}

-- an edit is linearized at its swap alone
pub counts_at : (e : PlainEdit) (s : Stage) (word : ℕ) → counted_at e s word ≡ e ∷ [] → (noted : ℕ) × (s ≡ Swap noted)
counts_at e (Swap noted) word is = (noted, refl)
counts_at e _ word is = absurd (cc)

pub same_stays : (old new : WorldValue) → new ≡ old → Stays (world_of old) (world_of new)
same_stays old new same = subst (λ (v : WorldValue). Stays (world_of old) (world_of v)) (sym same) (record { counted = refl; open_edits = λ q. refl })

not_below : (w : PlainWorld) (e : PlainEdit) → AreBelow w e.process e.number → Contains w.counted e → ⊥
not_below w e below there = let l = All-contains (λ (f : PlainEdit). f.process ≡ e.process → f.number < e.number) w.counted e below there refl in omega arith

same_since : (a b : PlainIssue) → Some a ≡ Some b → a.since ≡ b.since
same_since a b same = let one : a ≡ b = cc in ap (λ (i : PlainIssue). i.since) one

-- an edit begins
pub begins_move : (old new : PlainWorld) → IsSound old → (process cell : ℕ) (text : List ℕ) (number : ℕ) → IsBegun old process cell text number new
    → Issues old (record { process = process; number = number; cell = cell; text = text }) new
begins_move old new sound process cell text number h =
    let e : PlainEditCall = h.edit in
    let b : Begins e old new = h.begins in
    let low : e.process < old.layout.processes = rw h.asked.sheet.processes h.asked.is.process in
    let idle : IdleFits old e.process (rest_before e) = subst (λ (x : Situation). CallFits old e.process x) b.idle (sound.calls e.process low) in
    let i : Issues old (edit_of e) new = record {
      none = idle.open_edits;
      issued = b.open_edits;
      others = b.others_open_edits;
      fresh = not_below old (edit_of e) idle.below;
      counted = b.counted;
    } in
    subst (λ (x : PlainEdit). Issues old x new) h.asked.asked i

module _ (old new : WorldValue) (g : IsSound (world_of old)) (p : ℕ) (reply : Reply) (h : EditStepsBy old p reply new) where
  w : PlainWorld
  w = world_of old

  abbrev E : PlainEdit
  E = edit_of h.steps.edit

  low : h.steps.edit.process < old.sheet.layout.processes
  low = rw h.steps.mine h.steps.there

  here : (world_of old).situation h.steps.edit.process ≡ Editing h.steps.edit
  here = ap (λ q. (world_of old).situation q) h.steps.mine ∙ h.steps.at

  fits : EditFits (world_of old) h.steps.edit.process h.steps.edit
  fits = subst (λ (x : Situation). CallFits (world_of old) h.steps.edit.process x) here (g.calls h.steps.edit.process low)

  open_here : (world_of old).open_edits p ≡ Some (record { edit = E; since = fits.since })
  open_here = ap (λ q. (world_of old).open_edits q) (sym h.steps.mine) ∙ fits.open_edits

  open_edit_there : (q : ℕ) → outcome_at h.steps.edit.stage ≡ None → (world_of new).open_edits q ≡ (world_of old).open_edits q
  open_edit_there q goes = elim (cases_eq q h.steps.edit.process) [
    | inl same ↦ rw same (h.steps.steps.open_edits ∙ goes_on_at h.steps.edit.stage _ goes)
    | inr other ↦ h.steps.steps.others_open_edits q other
  ]

  steps_on : outcome_at h.steps.edit.stage ≡ None → Stays (world_of old) (world_of new) ⊎ Counts (world_of old) p (world_of new)
  steps_on goes = elim (counted_cases E h.steps.edit.stage h.steps.word) [
    | inl none ↦ inl (record {
      counted = h.steps.steps.counted ∙ ap (λ es. old.counted ++ es) none ∙ append-nil old.counted;
      open_edits = λ q. open_edit_there q goes;
    })
    | inr one ↦ inr (
        let swaps = counts_at E h.steps.edit.stage h.steps.word one in
        let knows : Knowing (world_of old) h.steps.edit.edition E h.steps.edit.refs fits.since (known_at (text_parts h.steps.edit.text) (length h.steps.edit.refs) (Swap swaps.0)) =
        subst (λ (s : Stage). Knowing (world_of old) h.steps.edit.edition E h.steps.edit.refs fits.since (known_at (text_parts h.steps.edit.text) (length h.steps.edit.refs) s)) swaps.1 fits.knows in
        record {
          issue = record { edit = E; since = fits.since };
          open_is = open_here;
          mine = h.steps.mine;
          not_yet = not_below (world_of old) E knows.standing;
          counted = h.steps.steps.counted ∙ ap (λ es. old.counted ++ es) one;
          open_edits = λ q. open_edit_there q goes;
        })
  ]

  closes : (how : Outcome) (Is : PlainIssue → Type 0) → h.steps.edit.stage ≡ Answer how → Is (record { edit = E; since = fits.since }) → Closes (world_of old) p h.steps.edit.number Is (world_of new)
  closes how Is at is = record {
    issue = record { edit = E; since = fits.since };
    open_is = open_here;
    number_is = refl;
    is = is;
    closed = ap (λ q. (world_of new).open_edits q) (sym h.steps.mine) ∙ h.steps.steps.open_edits ∙ ap (λ s. open_edit_at ((world_of old).open_edits h.steps.edit.process) s) at;
    others = λ q ne. h.steps.steps.others_open_edits q (λ same. ne (same ∙ h.steps.mine));
    counted = h.steps.steps.counted ∙ ap (λ s. old.counted ++ counted_at E s h.steps.word) at ∙ append-nil old.counted;
  }

  true_here : (how : Outcome) → h.steps.edit.stage ≡ Answer how → IsTrueOf (world_of old) E fits.since how
  true_here how at =
      let t : IsTrueAnswer (world_of old) E how = answer_true h.steps.edit how (world_of old) g low at here in
      let since : t.since ≡ fits.since = same_since (record { edit = E; since = t.since }) (record { edit = E; since = fits.since }) (sym t.issued ∙ fits.open_edits) in
      subst (λ (n : ℕ). IsTrueOf (world_of old) E n how) since t.holds

  answers : (how : Outcome) → h.steps.edit.stage ≡ Answer how → StepMoves (world_of old) p (Answered (Edit (end_of old.sheet.layout.processes h.steps.edit.number how))) (world_of new)
  answers outcome.Done at = closes outcome.Done _ at (true_here outcome.Done at)
  answers (outcome.Overtaken noted seen) at =
      let t = true_here (outcome.Overtaken noted seen) at in
      let found : other_of (head_of old.sheet.layout.processes seen) ≡ record { process = t.1.head.process; number = t.1.head.number } = ap other_of t.1.reads in
      closes (outcome.Overtaken noted seen) _ at (record {
        out = t.0;
        by = t.1.by;
        since = t.1.counted;
        cell = t.1.cell;
        process = sym t.1.process ∙ ap (λ o. o.process) (sym found);
        number = sym t.1.number ∙ ap (λ o. o.number) (sym found);
      })

  pub step_moves : StepMoves (world_of old) p reply (world_of new)
  step_moves = by_outcome (outcome_at h.steps.edit.stage) refl
    where
      by_outcome : (o : Option Outcome) → outcome_at h.steps.edit.stage ≡ o → StepMoves (world_of old) p reply (world_of new)
      by_outcome None is = subst (λ (r : Reply). StepMoves (world_of old) p r (world_of new)) (sym (replied old new p reply h ∙ ap (λ o. reply_with old.sheet.layout.processes h.steps.edit.number o) is)) (steps_on is)
      by_outcome (Some how) is = subst (λ (r : Reply). StepMoves (world_of old) p r (world_of new)) (sym (replied old new p reply h ∙ ap (λ o. reply_with old.sheet.layout.processes h.steps.edit.number o) is)) (answers how (answers_at h.steps.edit.stage how is))
