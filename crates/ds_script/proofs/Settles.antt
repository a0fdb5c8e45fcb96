-- Whole calls, and a settle of them, as commands.
use Rattle.std.proofs.Common.{ℕ, ◌≡◌, ◌<◌, List, Some, refl, ap}
use Rattle.std.specs.Prelude.{Result, Ok}
use Rattle.ds_formula.specs.declared.cells.Cell.{Cell}
use Rattle.ds_formula.specs.Cells.{cell_at}
use Rattle.ds_state.specs.Value.{WorldValue}
use Rattle.ds_state.specs.declared.refusal.Refusal.{Refusal}
use Rattle.ds_state.specs.declared.answer.Answer.{Answer}
use Rattle.ds_state.specs.declared.answer.Answer.TheVariants.{Work}
use Rattle.ds_state.specs.declared.work.WorkEnd.{WorkEnd}
use Rattle.ds_core.specs.Takes.{Fits}
use Rattle.ds_core.specs.declared.event.Event.{Event}
use Rattle.ds_core.specs.declared.event.Event.TheVariants.{Step, Offer, BeginWork}
use Rattle.ds_core.specs.declared.reply.Reply.{Reply}
use Rattle.ds_core.specs.declared.reply.Reply.TheVariants.{Begun, Entered, Refused, Stepped, Answered}
use Rattle.ds_calls.specs.declared.settle.SettleStage.{SettleStage}
use Rattle.ds_calls.specs.Wanted.{wants}
use Rattle.ds_calls.specs.Whole as whole
use Rattle.ds_calls.specs.Whole.{Goes, Finishes, Whole, HasBegun, IsCallingAs, request}
use Rattle.ds_core.specs.Kinds.{IsEditAnswer, IsWorkAnswer, IsShowAnswer, IsRecoveryAnswer, IsMigrationAnswer}
use Rattle.ds_calls.specs.Settling as settling
use Rattle.ds_calls.specs.Settling.{Settling, worked}
use Rattle.ds_calls.proofs.Stepping.{answered_wants}
use Rattle.ds_calls.proofs.Begins.{edit_begins, work_begins, show_begins, recovery_begins, migration_begins}
use Rattle.ds_script.specs.declared.drive.Until.{Until}
use Rattle.ds_script.specs.declared.drive.Until.TheVariants.{InRound, ToAnswer}
use Rattle.ds_script.specs.declared.order.Call.{Call}
use Rattle.ds_script.specs.declared.order.Call.TheVariants as calls
use Rattle.ds_script.specs.Orders.{beginning}
use Rattle.ds_script.specs.ScriptTexts.{reply_text}
use Rattle.ds_script.specs.Doing.{Says, Calls, Drives, Works, called, driven, ended, at_turn, settle}
use Rattle.ds_script.specs.Plays.{Leads}
use Rattle.ds_script.proofs.Played.{leads_on, stays, one}

-- ---- a call that goes on to its answer

-- neither a step nor an offer ends the drive up to here
abbrev pub GoesOnAlways : ℕ → Until → Type 0
GoesOnAlways p until = (w : WorldValue) (event : Event) → driven w p until event Stepped ≡ Drives p until

on_in_round : (p rounds cell : ℕ) → GoesOnAlways p (InRound rounds cell)
on_in_round p rounds cell w (Offer value) = refl
on_in_round p rounds cell w event = refl

on_to_answer : (p : ℕ) → GoesOnAlways p ToAnswer
on_to_answer p w (Offer value) = refl
on_to_answer p w event = refl

module _ (p : ℕ) (until : Until) (on : GoesOnAlways p until) where
  goes_leads : (first : WorldValue) (events : List Event) (replies : List Reply) (new : WorldValue) → Goes p first events replies new
      → Leads (Drives p until) first (Drives p until) new
  goes_leads first events replies new whole.stays = stays (Drives p until) (Drives p until) first refl
  goes_leads first events replies new (whole.goes es rs old n so_far fits) =
      leads_on (Drives p until) (Drives p until) (Drives p until) first old new (goes_leads first es rs old so_far)
      (one (Drives p until) (Drives p until) old new (wants old p) Stepped refl fits (on new (wants old p)))

  finishes_leads : (old : WorldValue) (answer : Answer) (new : WorldValue) → Finishes p old answer new → Leads (Drives p until) old (ended new p until (Answered answer)) new
  finishes_leads old answer new h =
      leads_on (Drives p until) (Drives p until) (ended new p until (Answered answer)) old h.last new
      (goes_leads old h.events h.replies h.last h.goes)
      (one (Drives p until) (ended new p until (Answered answer)) h.last new (Step p) (Answered answer)
      (ap (λ (e : Event). Some e) (answered_wants h.last new p answer h.answers)) h.answers refl)

-- ---- a whole work

begun_drives : (w : WorldValue) (p : ℕ) (until : Until) (reply : Reply) → HasBegun reply → called w p until reply ≡ Drives p until
begun_drives w p until (Begun number) h = refl
begun_drives w p until Entered h = refl
begun_drives w p until _ h = absurd h

whole_leads : (p rounds cell : ℕ) (old : WorldValue) (result : Result WorkEnd Refusal) (new : WorldValue) → Whole Work p (BeginWork p (cell_at old.sheet.layout.shape cell)) old result new
    → Leads (Works p rounds cell) old (at_turn new p (worked new rounds cell result)) new
whole_leads p rounds cell old result new (whole.finishes reply mid n end begun fits h) =
    leads_on (Works p rounds cell) (Drives p (InRound rounds cell)) (at_turn new p (worked new rounds cell (Ok end))) old mid new
    (one (Works p rounds cell) (Drives p (InRound rounds cell)) old mid (BeginWork p (cell_at old.sheet.layout.shape cell)) reply refl fits (begun_drives mid p (InRound rounds cell) reply begun))
    (finishes_leads p (InRound rounds cell) (on_in_round p rounds cell) mid (Work end) new h)
whole_leads p rounds cell old result new (whole.refused why n fits) =
    one (Works p rounds cell) (Says (reply_text new p (Refused why))) old new (BeginWork p (cell_at old.sheet.layout.shape cell)) (Refused why) refl fits refl

-- ---- a whole call

-- a call that begins so, and goes on to its answer
pub call_leads : (old mid new : WorldValue) (p : ℕ) (event : Event) (reply : Reply) (answer : Answer) → Fits old event reply mid → called mid p ToAnswer reply ≡ Drives p ToAnswer → Finishes p mid answer new
    → Leads (Calls p event) old (Says (reply_text new p (Answered answer))) new
call_leads old mid new p event reply answer fits begun h =
    leads_on (Calls p event) (Drives p ToAnswer) (Says (reply_text new p (Answered answer))) old mid new
    (one (Calls p event) (Drives p ToAnswer) old mid event reply refl fits begun) (finishes_leads p ToAnswer (on_to_answer p) mid answer new h)

-- a call of some kind is one of any
of_any : (kind : Answer → Type 0) (v : WorldValue) (p : ℕ) → IsCallingAs kind v p → IsCallingAs (λ answer. Unit {0}) v p
of_any kind v p calling = record { there = calling.there; calls = (calling.calls.0, λ answer h. tt) }

-- a call that has begun is one of a process of the sheet
pub starts : (old new : WorldValue) (p : ℕ) (call : Call) (reply : Reply) → Fits old (beginning p call) reply new → HasBegun reply → IsCallingAs (λ answer. Unit {0}) new p
starts old new p (calls.Edit cell text) (Begun number) fits h = of_any IsEditAnswer new p (edit_begins old new (request p cell text.now) (Begun number) fits.takes.named fits)
starts old new p (calls.Edit cell text) Entered fits h = absurd fits.takes
starts old new p (calls.Work cell) Entered fits h = of_any IsWorkAnswer new p (work_begins old new p cell Entered fits.takes.named fits)
starts old new p (calls.Work cell) (Begun number) fits h = absurd fits.takes
starts old new p calls.Show Entered fits h = of_any IsShowAnswer new p (show_begins old new p Entered fits.takes.there fits)
starts old new p calls.Show (Begun number) fits h = absurd fits.takes
starts old new p calls.Recovery Entered fits h = of_any IsRecoveryAnswer new p (recovery_begins old new p Entered fits.takes.there fits)
starts old new p calls.Recovery (Begun number) fits h = absurd fits.takes
starts old new p calls.Migration Entered fits h = of_any IsMigrationAnswer new p (migration_begins old new p Entered fits.takes.there fits)
starts old new p calls.Migration (Begun number) fits h = absurd fits.takes
starts old new p call _ fits h = absurd h

-- ---- a settle

-- a settle, up to each turn, leads its command to that turn
pub settling_leads : (p : ℕ) (first : WorldValue) (turn : SettleStage) (new : WorldValue) → Settling p first turn new → Leads (settle first p) first (at_turn new p turn) new
settling_leads p first turn new settling.begins = stays (settle first p) (settle first p) first refl
settling_leads p first turn new (settling.works rounds cell old n result so_far whole) =
    leads_on (settle first p) (Works p rounds cell) (at_turn new p (worked new rounds cell result)) first old new
    (settling_leads p first _ old so_far) (whole_leads p rounds cell old result new whole)

-- ---- a process that the sheet does not have

-- the begin of work of a process that the sheet doesn't have is answered by its reply alone
pub of_nobody : (old new : WorldValue) (p : ℕ) (cell : Cell) (until : Until) (reply : Reply) → Fits old (BeginWork p cell) reply new → (p < old.sheet.layout.processes → ⊥) → called new p until reply ≡ Says (reply_text new p reply)
of_nobody old new p cell until (Begun number) fits none = absurd fits.takes
of_nobody old new p cell until Entered fits none = absurd (none fits.takes.named.process)
of_nobody old new p cell until reply fits none = refl
