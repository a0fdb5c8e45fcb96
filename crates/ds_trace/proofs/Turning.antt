-- The row of a command's event.
use Rattle.std.proofs.Common.{ℕ, ◌≡◌, ◌∙◌, ◌⊎◌, inl, inr, Bool, true, false, List, [], Some, refl, sym, ap, subst, arith}
use Rattle.ds_formula.specs.Cells.{cell_at}
use Rattle.ds_formula.specs.declared.cells.Shape.{Shape}
use Rattle.ds_words.specs.declared.access.Access.{Access}
use Rattle.ds_eval.specs.Tasks.{PlainEvaluated}
use Rattle.ds_layout.specs.declared.place.Place.{Place}
use Rattle.ds_state.specs.Value.{WorldValue, world_of}
use Rattle.ds_state.specs.Works.{PlainWorkCall}
use Rattle.ds_state.specs.declared.situation.Situation.{Situation}
use Rattle.ds_state.specs.declared.situation.Situation.TheVariants.{Working}
use Rattle.ds_state.specs.declared.work.WorkStage.{WorkStage}
use Rattle.ds_state.specs.declared.work.WorkStage.TheVariants.{Wait}
use Rattle.ds_core.specs.declared.event.Event.{Event}
use Rattle.ds_core.specs.declared.event.Event.TheVariants.{Step, Offer, BeginWork}
use Rattle.ds_core.specs.declared.reply.Reply.{Reply}
use Rattle.ds_core.specs.declared.reply.Reply.TheVariants.{Stepped}
use Rattle.ds_calls.specs.Wanted.{wanted, wanted_at, wants, evaluated}
use Rattle.ds_script.specs.declared.turn.Left.{Left}
use Rattle.ds_script.specs.declared.turn.Left.TheVariants as left
use Rattle.ds_script.specs.declared.turn.CommandTurn.{CommandTurn}
use Rattle.ds_script.specs.ScriptTurns.{IsStep}
use Rattle.ds_script.specs.ScriptTurns as turns
use Rattle.ds_trace.specs.declared.row.TraceRow.{TraceRow}
use Rattle.ds_trace.specs.declared.row.Begin.TheVariants as begins
use Rattle.ds_trace.specs.declared.row.Happening.{Happening}
use Rattle.ds_trace.specs.declared.row.Happening.TheVariants.{Begins, Steps, TakesEntry}
use Rattle.ds_trace.specs.Rows.{OneMore, Tells, access_of, text_by, what_of}
use Rattle.ds_trace.specs.Trails.{TakesTurn, happened, next_of}
use Rattle.ds_trace.proofs.Sides.{told}

-- ---- what a process that is driven wants

wants_at : (p : ℕ) (shape : Shape) (e : PlainWorkCall) (stage : WorkStage) → (wanted_at p shape e stage ≡ Step p) ⊎ ((value : PlainEvaluated) × (wanted_at p shape e stage ≡ Offer value))
wants_at p shape e Wait = inr (evaluated shape e, refl)
wants_at p shape e stage = inl refl

-- it is a step, or an offer
wants_in : (p : ℕ) (shape : Shape) (s : Situation) → (wanted p shape s ≡ Step p) ⊎ ((value : PlainEvaluated) × (wanted p shape s ≡ Offer value))
wants_in p shape (Working e) = wants_at p shape e e.stage
wants_in p shape s = inl refl

some_is : (a b : Event) → Some a ≡ Some b → a ≡ b
some_is a b is = cc

-- ---- what the event was

step_what : (p : ℕ) (access : Access Place) (stepped : Bool) (reply : Reply) → IsStep stepped (Step p) reply → happened (Steps p access) stepped reply ≡ Steps p access
step_what p access true reply is = refl
step_what p access false Stepped is = absurd (omega (arith, is))
step_what p access false reply is = refl

offer_what : (p : ℕ) (access : Access Place) (value : PlainEvaluated) (stepped : Bool) → IsStep stepped (Offer value) Stepped → value.task.process ≡ p → happened (Steps p access) stepped Stepped ≡ TakesEntry value.task.process
offer_what p access value true is mine = absurd (let e : Offer value ≡ Step is.0 = is.1 in cc)
offer_what p access value false is mine = ap (λ (q : ℕ). TakesEntry q) (sym mine)

driven_what : (old : WorldValue) (p : ℕ) (event : Event) (stepped : Bool) (reply : Reply) → ((value : PlainEvaluated) → event ≡ Offer value → (value.task.process ≡ p) × (reply ≡ Stepped)) → event ≡ wants old p
    → IsStep stepped event reply → (happened (Steps p (access_of old p)) stepped reply ≡ what_of old event) × ([] ≡ text_by event)
driven_what old p event stepped reply offers asked is = elim (wants_in p old.sheet.layout.shape ((world_of old).situation p)) [
  | inl step ↦ subst (λ (e : Event). (happened (Steps p (access_of old p)) stepped reply ≡ what_of old e) × ([] ≡ text_by e)) (sym (asked ∙ step))
      (step_what p (access_of old p) stepped reply (subst (λ (e : Event). IsStep stepped e reply) (asked ∙ step) is), refl)
  | inr offer ↦ subst (λ (e : Event). (happened (Steps p (access_of old p)) stepped reply ≡ what_of old e) × ([] ≡ text_by e)) (sym (asked ∙ offer.1))
      (let own = offers offer.0 (asked ∙ offer.1) in (
        subst (λ (r : Reply). happened (Steps p (access_of old p)) stepped r ≡ TakesEntry offer.0.task.process) (sym own.1)
            (offer_what p (access_of old p) offer.0 stepped (subst (λ (r : Reply). IsStep stepped (Offer offer.0) r) own.1 (subst (λ (e : Event). IsStep stepped e reply) (asked ∙ offer.1) is)) own.0),
        refl,
      ))
]

begun_what : (old : WorldValue) (p cell : ℕ) (event : Event) (stepped : Bool) (reply : Reply) → event ≡ BeginWork p (cell_at old.sheet.layout.shape cell)
    → (happened (Begins p (begins.Work (cell_at old.sheet.layout.shape cell))) stepped reply ≡ what_of old event) × ([] ≡ text_by event)
begun_what old p cell event stepped reply asked =
    subst (λ (e : Event). (happened (Begins p (begins.Work (cell_at old.sheet.layout.shape cell))) stepped reply ≡ what_of old e) × ([] ≡ text_by e)) (sym asked) (refl, refl)

-- what it was, and that it has no text
turn_what : (l : Left) (old new : WorldValue) (turn : CommandTurn) (takes : turns.TakesTurn l old turn new)
    → (happened (next_of old l) turn.stepped turn.reply ≡ what_of old takes.event) × ([] ≡ text_by takes.event)
turn_what (left.Drives p until) old new turn takes = driven_what old p takes.event turn.stepped turn.reply takes.offers (sym (some_is (wants old p) takes.event takes.asked)) takes.is
turn_what (left.DrivesInOrder p rest) old new turn takes = driven_what old p takes.event turn.stepped turn.reply takes.offers (sym (some_is (wants old p) takes.event takes.asked)) takes.is
turn_what (left.Works p rounds cell) old new turn takes =
    begun_what old p cell takes.event turn.stepped turn.reply (sym (some_is (BeginWork p (cell_at old.sheet.layout.shape cell)) takes.event takes.asked))
turn_what (left.WorksInOrder p cell rest) old new turn takes =
    begun_what old p cell takes.event turn.stepped turn.reply (sym (some_is (BeginWork p (cell_at old.sheet.layout.shape cell)) takes.event takes.asked))

-- ---- its row

pub takes_turn : (places : List Place) (l : Left) (old new : WorldValue) (turn : CommandTurn) (what : Happening) (r s : List TraceRow) → turns.TakesTurn l old turn new
    → what ≡ happened (next_of old l) turn.stepped turn.reply → OneMore (Tells places new what turn.reply []) r s → TakesTurn places l old turn.left new r s
takes_turn places l old new turn what r s takes is row =
    let was = turn_what l old new turn takes in
    record {
      event = takes.event;
      reply = turn.reply;
      asked = takes.asked;
      happens = record { fits = takes.fits; row = told places old new takes.event turn.reply what [] r s (is ∙ was.0) was.1 row };
      remains = takes.remains;
      within = takes.within;
    }
