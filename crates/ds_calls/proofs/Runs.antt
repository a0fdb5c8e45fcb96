-- Whole calls and settles as runs.
use Rattle.std.proofs.Common.{ℕ, ◌≡◌, List, [], ◌∷◌, ◌++◌, refl, subst}
use Rattle.std.specs.Prelude.{Result}
use Rattle.ds_state.specs.Value.{WorldValue}
use Rattle.ds_state.specs.declared.refusal.Refusal.{Refusal}
use Rattle.ds_state.specs.declared.answer.Answer.{Answer}
use Rattle.ds_core.specs.Takes.{WorldRun}
use Rattle.ds_core.specs.declared.event.Event.{Event}
use Rattle.ds_core.specs.declared.event.Event.TheVariants.{Step}
use Rattle.ds_core.specs.declared.reply.Reply.{Reply}
use Rattle.ds_core.specs.declared.reply.Reply.TheVariants.{Refused, Stepped, Answered}
use Rattle.ds_core.proofs.Runs.{run_more}
use Rattle.ds_core.proofs.Bound.{run_layout}
use Rattle.ds_calls.specs.declared.settle.SettleStage.{SettleStage}
use Rattle.ds_calls.specs.Wanted.{wants}
use Rattle.ds_calls.specs.Whole.{Goes, stays, goes, Finishes, Whole, finishes, refused, IsRun}
use Rattle.ds_calls.specs.Settling.{Settling, begins, works}
use Rattle.ds_calls.specs.Traces.{Trace, no_trace, both, Leads, call_trace, settle_trace}

-- ---- runs

-- no events are a run
pub no_events : (old : WorldValue) → IsRun old old
no_events old = record { events = []; replies = []; run = refl }

-- one run after another
pub run_both : (events : List Event) (replies : List Reply) (events' : List Event) (replies' : List Reply) (old mid new : WorldValue)
    → WorldRun old events replies mid → WorldRun mid events' replies' new → WorldRun old (events ++ events') (replies ++ replies') new
run_both [] [] events' replies' old mid new h k = subst (λ (v : WorldValue). WorldRun v events' replies' new) h k
run_both (event ∷ events) (reply ∷ replies) events' replies' old mid new h k = (h.0, h.1, run_both events replies events' replies' h.0 mid new h.2 k)
run_both [] (reply ∷ replies) events' replies' old mid new h k = absurd h
run_both (event ∷ events) [] events' replies' old mid new h k = absurd h

-- two runs, one after the other, are a run
pub runs_on : (old mid new : WorldValue) → IsRun old mid → IsRun mid new → IsRun old new
runs_on old mid new h k = record { events = h.events ++ k.events; replies = h.replies ++ k.replies; run = run_both h.events h.replies k.events k.replies old mid new h.run k.run }

-- where nothing changes there is a run
pub same_run : (old new : WorldValue) → new ≡ old → IsRun old new
same_run old new is = record { events = []; replies = []; run = is }

-- a run keeps the sheet's layout
pub run_keeps_layout : (old new : WorldValue) → IsRun old new → new.sheet.layout ≡ old.sheet.layout
run_keeps_layout old new h = run_layout h.events h.replies old new h.run

-- ---- calls

goes_runs : (p : ℕ) (first : WorldValue) (events : List Event) (replies : List Reply) (new : WorldValue) → Goes p first events replies new → WorldRun first events replies new
goes_runs p first events replies new stays = refl
goes_runs p first events replies new (goes es rs old n so_far fits) = run_more first old new es (wants old p) rs Stepped (goes_runs p first es rs old so_far) fits

pub finishes_runs : (p : ℕ) (old : WorldValue) (answer : Answer) (new : WorldValue) → Finishes p old answer new → IsRun old new
finishes_runs p old answer new h = record {
  events = h.events ++ Step p ∷ [];
  replies = h.replies ++ Answered answer ∷ [];
  run = run_more old h.last new h.events (Step p) h.replies (Answered answer) (goes_runs p old h.events h.replies h.last h.goes) h.answers;
}

-- two traces, one after the other, lead from the first world to the last
pub both_lead : (first next : Trace) (old mid new : WorldValue) → Leads old first mid → Leads mid next new → Leads old (both first next) new
both_lead first next old mid new h k = run_both first.events first.replies next.events next.replies old mid new h k

-- the trace of a whole call leads from its first world to its last
pub call_leads : {E : Type 0} (answer : E → Answer) (p : ℕ) (event : Event) (old : WorldValue) (result : Result E Refusal) (new : WorldValue) (h : Whole answer p event old result new) → Leads old (call_trace answer p event old result new h) new
call_leads answer p event old result new (finishes reply mid n end begun fits h) = (mid, fits, run_more mid h.last new h.events (Step p) h.replies (Answered (answer end)) (goes_runs p mid h.events h.replies h.last h.goes) h.answers)
call_leads answer p event old result new (refused why n fits) = (new, fits, refl)

-- the trace of a settle leads from its first world to that of each turn
pub settle_leads : (p : ℕ) (first : WorldValue) (turn : SettleStage) (new : WorldValue) (h : Settling p first turn new) → Leads first (settle_trace p first turn new h) new
settle_leads p first turn new begins = refl
settle_leads p first turn new (works rounds cell old n result so_far whole) =
    both_lead (settle_trace p first _ old so_far) (call_trace _ p _ old result new whole) first old new (settle_leads p first _ old so_far) (call_leads _ p _ old result new whole)

-- a whole call is a run
pub whole_runs : (E : Type 0) (answer : E → Answer) (p : ℕ) (event : Event) (old : WorldValue) (result : Result E Refusal) (new : WorldValue) → Whole answer p event old result new → IsRun old new
whole_runs E answer p event old result new (finishes reply mid n end begun fits h) =
    let r = finishes_runs p mid (answer end) new h in record { events = event ∷ r.events; replies = reply ∷ r.replies; run = (mid, fits, r.run) }
whole_runs E answer p event old result new (refused why n fits) = record { events = event ∷ []; replies = Refused why ∷ []; run = (new, fits, refl) }

-- ---- settles

-- a settle, up to each turn, is a run
pub settling_runs : (p : ℕ) (first : WorldValue) (turn : SettleStage) (new : WorldValue) → Settling p first turn new → IsRun first new
settling_runs p first turn new begins = no_events first
settling_runs p first turn new (works rounds cell old n result so_far whole) = runs_on first old new (settling_runs p first _ old so_far) (whole_runs _ _ p _ old result new whole)
