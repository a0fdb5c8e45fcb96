-- What a process at work says of its edits.
use Rattle.std.proofs.Common.{ℕ, ◌≡◌, refl, ap, sym, ◌∙◌, inl, inr, Bool, true, false, Some, length}
use Rattle.std.specs.Prelude.{nat_lt, if◌then◌else◌}
use Rattle.std.proofs.lemmas.Bool.{cases_eq}
use Rattle.ds_state.specs.Works.{PlainWorkCall, PlainShowCall}
use Rattle.ds_state.specs.Value.{WorldValue, world_of}
use Rattle.ds_state.specs.declared.situation.Situation.{Situation}
use Rattle.ds_state.specs.declared.situation.Situation.TheVariants.{Idle, Working, Showing}
use Rattle.ds_state.specs.declared.work.WorkStage.TheVariants as stages
use Rattle.ds_eval.specs.Tasks.{PlainEvaluated}
use Rattle.ds_state.specs.declared.situation.Rest.{Rest}
use Rattle.ds_state.specs.declared.turn.Turn.{Turn}
use Rattle.ds_state.specs.declared.work.WorkEnd.{WorkEnd}
use Rattle.ds_work.specs.WorkTakes as works
use Rattle.ds_work.specs.WorkSteps as work_steps
use Rattle.ds_work.proofs.Next.{next_noted}
use Rattle.ds_work.proofs.WorkAlone.{after_on}
use Rattle.ds_core.specs.WorkEvents.{WorkStepsBy, WorkBegins, TakesEntry}
use Rattle.ds_core.specs.declared.reply.Reply.{Reply}
use Rattle.ds_core.proofs.Ledgers.{SaysSame, says_same, doubts, numbered}
use Rattle.ds_core.proofs.Turns.{IsTurn}

-- at work, or idle, and knows this
pub data IsAtWork (n : Rest) (s : Situation) : Type 0 where
  in_work : (e : PlainWorkCall) → work_steps.rest_of e ≡ n → s ≡ Working e → IsAtWork n s
  at_rest : s ≡ Idle n → IsAtWork n s

says_number : (n : Rest) (s : Situation) → IsAtWork n s → numbered s ≡ Some n.number
says_number n s (in_work e next is) = ap numbered is ∙ ap (λ (x : Rest). Some x.number) next
says_number n s (at_rest is) = ap numbered is

-- a process at work, or idle, has no edit in doubt
pub at_work_sure : (n : Rest) (s : Situation) → IsAtWork n s → doubts s ≡ false
at_work_sure n s (in_work e next is) = ap doubts is
at_work_sure n s (at_rest is) = ap doubts is

-- a process at work, or idle, is in no show
pub at_work_shows_not : (n : Rest) (s : Situation) → IsAtWork n s → (f : PlainShowCall) → s ≡ Showing f → ⊥
at_work_shows_not n s (in_work e next is) f at = (let bad : Working e ≡ Showing f = sym is ∙ at in cc)
at_work_shows_not n s (at_rest is) f at = (let bad : Idle n ≡ Showing f = sym is ∙ at in cc)

-- the process is at work before and after, and knows the same
pub record StaysAtWork (p : ℕ) (old new : WorldValue) : Type 0 where
  pub number : Rest
  pub was : IsAtWork number ((world_of old).situation p)
  pub now : IsAtWork number ((world_of new).situation p)

-- a turn of a process at work leaves what each situation says of its process's edits
pub work_says : (p : ℕ) (old new : WorldValue) → StaysAtWork p old new → IsTurn p old new → (q : ℕ) → SaysSame ((world_of old).situation q) ((world_of new).situation q)
work_says p old new s turn q = elim (cases_eq q p) [
  | inl here ↦ (
      let sit : (w : WorldValue) → (world_of w).situation q ≡ (world_of w).situation p = λ w. ap (λ x. (world_of w).situation x) here in
      record {
        number = ap numbered (sit new) ∙ says_number s.number _ s.now ∙ sym (says_number s.number _ s.was) ∙ sym (ap numbered (sit old));
        doubt = ap doubts (sit new) ∙ at_work_sure s.number _ s.now ∙ sym (at_work_sure s.number _ s.was) ∙ sym (ap doubts (sit old));
      })
  | inr other ↦ says_same _ _ (turn.others q other)
]

-- ---- its steps

next_if : (b : Bool) (x y : PlainWorkCall) (n : Rest) → work_steps.rest_of x ≡ n → work_steps.rest_of y ≡ n → work_steps.rest_of (if b then x else y) ≡ n
next_if true x y n a c = a
next_if false x y n a c = c

module _ (p : ℕ) (old new : WorldValue) (e : PlainWorkCall) (mine : e.process ≡ p) (is : (world_of old).situation p ≡ Working e) where
  here : (s : Situation) → (world_of new).situation e.process ≡ s → (world_of new).situation p ≡ s
  here s at = ap (λ x. (world_of new).situation x) (sym mine) ∙ at

  by_turn : (f : PlainWorkCall) → work_steps.rest_of f ≡ work_steps.rest_of e → (world_of new).situation e.process ≡ Working f → StaysAtWork p old new
  by_turn f same at = record { number = work_steps.rest_of e; was = in_work e refl is; now = in_work f same (here _ at) }

  by_taken : (what : Turn WorkEnd) → works.TakesTurn e (world_of old) (world_of new) what → StaysAtWork p old new
  by_taken what (works.steps word t on) = by_turn (work_steps.next_at e e.stage word) (ap (λ (f : PlainWorkCall). work_steps.rest_of f) (next_noted e word e.stage)) (t.situation ∙ after_on e e.stage word on)
  by_taken what (works.reads content inputs at t) = by_turn (work_steps.read_from e content inputs) (next_if (nat_lt 0 (length inputs)) _ _ (work_steps.rest_of e) refl refl) t.turn.situation
  by_taken what (works.lacked at t) = by_turn (work_steps.lacks e) refl t.situation
  by_taken what (works.answers end at t) = record { number = work_steps.rest_of e; was = in_work e refl is; now = at_rest (here _ t.situation) }

-- a step of work leaves its process at work, or idle, with what it knows
pub work_stays : (p : ℕ) (old new : WorldValue) (reply : Reply) → WorkStepsBy old p reply new → StaysAtWork p old new
work_stays p old new reply h = by_taken p old new h.steps.work h.steps.mine h.steps.works h.what h.steps.turn

-- the begin of work leaves its process at work, or idle, with what it knows
pub work_begins_stays : (p : ℕ) (old new : WorldValue) (cell : _) → WorkBegins old p cell new → StaysAtWork p old new
work_begins_stays p old new cell h =
    let b = h.begun.begins in
    let mine = h.begun.process_is in
    record {
      number = h.begun.next;
      was = at_rest (ap (λ x. (world_of old).situation x) (sym mine) ∙ b.was);
      now = in_work (work_steps.at h.begun.work stages.LoadMark) b.next_is (ap (λ x. (world_of new).situation x) (sym mine) ∙ b.turn.situation);
    }

-- an offer leaves its process at work, with what it knows
pub offer_stays : (old new : WorldValue) (value : PlainEvaluated) → TakesEntry old value new → StaysAtWork value.task.process old new
offer_stays old new value h =
    let o = h.offered in
    by_turn value.task.process old new o.work o.mine o.waits.works (work_steps.offered o.work value.entry) refl o.offers.turn.situation
