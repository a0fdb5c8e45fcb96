-- A step of a call under the lock, and one that is answered Settled.
use Rattle.std.proofs.Common.{ℕ, ◌≡◌, ◌<◌, ◌+◌, List, [], length, refl, sym, ap, ◌∙◌, subst, arith}
use Rattle.std.proofs.lemmas.List.{length-set, get_or-set_same}
use Rattle.std.proofs.lemmas.List.FromFn.{length-map-range_with_len}
use Rattle.std.specs.Prelude.{Option, Some, None}
use Rattle.ds_eval.specs.declared.value.Value.{Value}
use Rattle.ds_state.specs.Value.{WorldValue, IsGood, world_of}
use Rattle.ds_state.specs.CallsFit.{CallFits}
use Rattle.ds_state.specs.Reports.{PlainReports, with_report}
use Rattle.ds_state.specs.declared.show.ShowEnd.{ShowEnd}
use Rattle.ds_state.specs.declared.show.ShowEnd.TheVariants.{Settled, Unsettled}
use Rattle.ds_state.specs.declared.situation.Situation.{Situation}
use Rattle.ds_state.specs.declared.situation.Situation.TheVariants.{Showing}
use Rattle.ds_state.specs.declared.turn.Turn.{Turn}
use Rattle.ds_state.specs.declared.turn.Turn.TheVariants.{GoesOn, Answers}
use Rattle.ds_core.specs.Counts.{done_of, settled_of}
use Rattle.ds_core.specs.Ends.{Kind, StepsAs}
use Rattle.ds_show.specs.ShowSteps.{answered}
use Rattle.ds_show.specs.ShowTakes.{reports_by}
use Rattle.ds_core.specs.ShowEvents.{ShowStepsBy, show_reply}
use Rattle.ds_core.specs.StepEvents.{StepsBy, edits, works, reports, recoveries, migrations}
use Rattle.ds_core.specs.Takes.{Fits}
use Rattle.ds_core.specs.declared.event.Event.TheVariants.{Step}
use Rattle.ds_core.specs.declared.reply.Reply.{Reply}
use Rattle.ds_core.specs.declared.reply.Reply.TheVariants.{Answered, NotEnabled}
use Rattle.ds_state.specs.declared.answer.Answer.{Answer}
use Rattle.ds_core.proofs.Counts.{adds}
use Rattle.ds_crew.specs.LockedCalls.{IsKindOf, call_in, step_reply}
use Rattle.ds_crew.specs.Kept.{HasMade, HasShow, HasSettled, HasStepped, StepsIn, stepped, no_room, settled_reply, report_of}
use Rattle.ds_crew.specs.declared.steps.Call.{Call}
use Rattle.ds_crew.specs.declared.steps.Call.TheVariants.{Show}

-- a good world's step that is answered Settled, and the values of the world behind it
pub settled_by : (process : ℕ) (old new : WorldValue) (reply : Reply) → IsGood old → Fits old (Step process) reply new → reply ≡ settled_reply → HasSettled process (report_of new.reports process)
settled_by process old new reply good fits is = record {
  old = old;
  new = new;
  good = good;
  fits = subst (λ (r : Reply). Fits old (Step process) r new) is fits;
  values_are = refl;
}

-- the same, of values that are the world's
pub settled_as : (process : ℕ) (values : List Value) (new : WorldValue) → values ≡ report_of new.reports process → HasSettled process (report_of new.reports process) → HasSettled process values
settled_as process values new are settled = subst (λ (v : List Value). HasSettled process v) (sym are) settled

-- a step that was asked of a good world
pub stepped_by : (call : Call) (process : ℕ) (old new : WorldValue) (reply : Reply) → IsGood old → StepsIn call process old reply new → HasStepped call process reply
stepped_by call process old new reply good steps = record { old = old; new = new; good = good; steps = steps }

-- a step of a process that is in a call of this kind
module _ {E : Type 0} (kind : Kind E) (call : Call) (process : ℕ) (old new : WorldValue) where
  -- is one of those that the world takes
  pub fits_as : (turn : Option (Turn E)) → IsKindOf call kind → call_in ((world_of old).situation process) ≡ Some call → IsGood new → StepsAs kind old process turn new → Fits old (Step process) (step_reply kind turn) new
  fits_as None of_kind is good h = record { takes = record { same = h.same; waits = λ low calls. h.waits low (of_kind ((world_of old).situation process) is) }; good = good }
  fits_as (Some GoesOn) of_kind is good h = record { takes = h; good = good }
  fits_as (Some (Answers end)) of_kind is good h = record { takes = h; good = good }

  -- is a step in that call
  pub steps_in : (reply : Reply) → call_in ((world_of old).situation process) ≡ Some call → Fits old (Step process) reply new → StepsIn call process old reply new
  steps_in reply is fits = record { taken = λ in_it. fits; none = λ not. absurd (not is) }

-- what a step adds to the counts
pub done_by : (process : ℕ) (old new : WorldValue) (reply : Reply) → Fits old (Step process) reply new → new.done ≡ old.done + done_of reply
done_by process old new reply fits = (adds old new (Step process) reply fits.takes).done

-- a step adds to the count of settled reports what its reply says
pub counted_by : (process : ℕ) (old new : WorldValue) (reply : Reply) → Fits old (Step process) reply new → new.settled ≡ old.settled + settled_of reply
counted_by process old new reply fits = (adds old new (Step process) reply fits.takes).settled

-- ---- the values of a show that is answered Settled

settles : (what : Turn ShowEnd) → settled_reply ≡ show_reply what → what ≡ Answers Settled
settles GoesOn is = absurd (cc)
settles (Answers Settled) is = refl
settles (Answers (Unsettled place word)) is = absurd (cc)

show_left : (process : ℕ) (old new : WorldValue) → IsGood old → ShowStepsBy old process settled_reply new → HasShow old.sheet.layout process new.reports
show_left process old new good h =
    let e = h.steps.show in
    let kept : new.reports ≡ with_report old.reports e.process (answered e) = h.steps.reports ∙ ap (reports_by old.reports e) (settles h.what h.is) in
    let mine : new.reports ≡ with_report old.reports process (answered e) = kept ∙ ap (λ (q : ℕ). with_report old.reports q (answered e)) h.steps.mine in
    let many : length old.reports.values ≡ old.sheet.layout.processes = good.reports.processes in
    let there = h.steps.there in
    let low : process < length old.reports.values = omega (arith, many, there) in
    let fits : CallFits (world_of old) process (Showing e) = subst (λ (s : Situation). CallFits (world_of old) process s) h.steps.at (good.sound.calls process there) in
    record {
      process_is = subst (λ (r : PlainReports). process < length r.values) (sym mine) (subst (λ (n : ℕ). process < n) (sym (length-set old.reports.values process (answered e))) low);
      full =
          ap (λ (r : PlainReports). length (report_of r process)) mine ∙ ap length (get_or-set_same old.reports.values process (answered e) [] low) ∙ length-map-range_with_len _ 0 e.cells
          ∙ sym fits.1.cells;
    }

by_show : (process : ℕ) (old new : WorldValue) → IsGood old → StepsBy old process settled_reply new → new.settled ≡ old.settled + 1 → HasShow old.sheet.layout process new.reports
by_show process old new good (edits h) more = absurd (let same = h.steps.reports.settled in omega (arith, same, more))
by_show process old new good (works h) more = absurd (let same = h.reports.settled in omega (arith, same, more))
by_show process old new good (reports h) more = show_left process old new good h
by_show process old new good (recoveries h) more = absurd (let same = h.steps.settled in omega (arith, same, more))
by_show process old new good (migrations h) more = absurd (let same = h.steps.settled in omega (arith, same, more))

-- the process has a last report, with a value for each cell
pub reported_by : (process : ℕ) (old new : WorldValue) (reply : Reply) → IsGood old → Fits old (Step process) reply new → reply ≡ settled_reply → HasShow old.sheet.layout process new.reports
reported_by process old new reply good fits is =
    let settled = subst (λ (r : Reply). Fits old (Step process) r new) is fits in
    by_show process old new good settled.takes (counted_by process old new settled_reply settled)

-- ---- ends

-- a step of the pass's process that is answered was made
pub answered_by : (p q : ℕ) (reply : Reply) (answer : Answer) → q ≡ p → reply ≡ Answered answer → HasMade Show q reply → HasStepped Show p (Answered answer)
answered_by p q reply answer same is (stepped h) = subst (λ (n : ℕ). HasStepped Show n (Answered answer)) same (subst (λ (r : Reply). HasStepped Show q r) is h)
answered_by p q reply answer same is (no_room show none) = absurd (let bad : NotEnabled ≡ Answered answer = sym none ∙ is in cc)
