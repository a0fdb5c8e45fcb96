-- What calls of the library do is a run.
use Rattle.std.proofs.Common.{ℕ, refl}
use Rattle.ds_state.specs.Value.{WorldValue}
use Rattle.ds_state.specs.declared.answer.Answer.{Answer}
use Rattle.ds_core.specs.Takes.{Fits}
use Rattle.ds_core.specs.declared.event.Event.{Event}
use Rattle.ds_core.specs.declared.event.Event.TheVariants.{BeginMigrate, Offer, Evict, Crash}
use Rattle.ds_core.specs.declared.reply.Reply.{Reply}
use Rattle.ds_core.specs.declared.reply.Reply.TheVariants.{Evicted, Crashed}
use Rattle.ds_calls.specs.Traces.{Leads, call_trace, settle_trace}
use Rattle.ds_calls.specs.declared.settle.SettleStage.TheVariants.{Ends}
use Rattle.ds_calls.proofs.Runs.{call_leads, settle_leads}
use Rattle.ds_recalculation.specs.Recalculations.{trace_of}
use Rattle.ds_recalculation.proofs.Recalculated as recalculated
use Rattle.ds_c.specs.declared.answer.AnswerRow.{AnswerRow}
use Rattle.ds_c.specs.declared.rows.PlaceRow.{PlaceRow}
use Rattle.ds_c.specs.Events.{evaluated, one_event, Replies, Ended, Migrates, Settles, Recalculates, Offers, Evicts, Crashes}

event_leads : (event : Event) (reply : Reply) (old new : WorldValue) → Fits old event reply new → Leads old (one_event event reply) new
event_leads event reply old new fits = (new, fits, refl)

-- an event with its reply leads on
pub replies_lead : (event : Event) (old : WorldValue) (row : AnswerRow) (new : WorldValue) (h : Replies event old row new) → Leads old (one_event event h.reply) new
replies_lead event old row new h = event_leads event h.reply old new h.fits

-- an offer of an evaluated task leads on
pub offers_lead : (p : ℕ) (old : WorldValue) (row : AnswerRow) (new : WorldValue) (h : Offers p old row new) → Leads old (one_event (Offer (evaluated h.task)) h.replies.reply) new
offers_lead p old row new h = replies_lead (Offer (evaluated h.task)) old row new h.replies

-- an eviction leads on
pub evicts_lead : (named : PlaceRow) (old : WorldValue) (nothing : Unit {0}) (new : WorldValue) (h : Evicts named old nothing new) → Leads old (one_event (Evict h.place) Evicted) new
evicts_lead named old nothing new h = event_leads (Evict h.place) Evicted old new h.fits

-- a crash leads on
pub crashes_lead : (old : WorldValue) (nothing : Unit {0}) (new : WorldValue) → Crashes old nothing new → Leads old (one_event Crash Crashed) new
crashes_lead old nothing new h = event_leads Crash Crashed old new h

-- a whole call leads on
pub ended_lead : {E : Type 0} (answer : E → Answer) (p : ℕ) (event : Event) (old : WorldValue) (row : AnswerRow) (new : WorldValue) (h : Ended answer p event old row new) → Leads old (call_trace answer p event old h.came_to new h.whole.whole) new
ended_lead answer p event old row new h = call_leads answer p event old h.came_to new h.whole.whole

-- a whole migration leads on
pub migrates_lead : (p : ℕ) (old : WorldValue) (row : AnswerRow) (new : WorldValue) (h : Migrates p old row new) → Leads old (call_trace _ p (BeginMigrate p) old h.came_to new h.whole.whole) new
migrates_lead p old row new h = call_leads _ p (BeginMigrate p) old h.came_to new h.whole.whole

-- a settle leads on
pub settles_lead : (p : ℕ) (old : WorldValue) (row : AnswerRow) (new : WorldValue) (h : Settles p old row new) → Leads old (settle_trace p old (Ends h.end) new h.settles) new
settles_lead p old row new h = settle_leads p old (Ends h.end) new h.settles

-- a recalculation leads on
pub recalculates_lead : (p : ℕ) (old : WorldValue) (row : AnswerRow) (new : WorldValue) (h : Recalculates p old row new) → Leads old (trace_of p old h.end new h.recalculates) new
recalculates_lead p old row new h = recalculated.recalculates_lead p old h.end new h.recalculates
