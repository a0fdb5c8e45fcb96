-- What is reported after the crash of a block, where its settle is alone.
use Rattle.std.specs.Prelude.{ℕ, ◌≡◌, List, [], ◌++◌}
use Rattle.ds_state.specs.Value.{WorldValue}
use Rattle.ds_core.specs.declared.event.Event.{Event}
use Rattle.ds_core.specs.declared.event.Event.TheVariants.{BeginShow}
use Rattle.ds_core.specs.declared.reply.Reply.{Reply}
use Rattle.ds_script.specs.LoneSettles.{SaysClean}
use Rattle.ds_script.specs.Orders.{Whole, Settle}
use Rattle.ds_script.specs.Doing.{Says, plan}
use Rattle.ds_script.specs.Plays.{Plays}
use Rattle.ds_script_stops.specs.StopBlocks.{InTurn, recoveries}

-- from the world that a crash left, these events with their replies and the texts of their answers are: a recovery of
-- each process, in their order; a settle by process 0, whose line says that all cells are clean, or that an allocation
-- failed; and its report
pub record TellsClean (crashed : WorldValue) (events : List Event) (replies : List Reply) (answers : List ℕ) (new : WorldValue) : Type 0 where
  pub recover_events : List Event
  pub recover_replies : List Reply
  pub told : List ℕ
  pub recovered : WorldValue
  pub recovers : InTurn crashed (recoveries crashed.sheet.layout.processes) recover_events recover_replies told recovered
  pub settle_events : List Event
  pub settle_replies : List Reply
  pub line : List ℕ
  pub settled : WorldValue
  pub settles : Plays (plan recovered [] (Settle 0)) recovered settle_events settle_replies (Says line) settled
  pub clean : SaysClean 0 line
  pub report_events : List Event
  pub report_replies : List Reply
  pub report : List ℕ
  pub reports : Plays (plan settled [] (Whole 0 (BeginShow 0))) settled report_events report_replies (Says report) new
  pub events_are : events ≡ (recover_events ++ settle_events) ++ report_events
  pub replies_are : replies ≡ (recover_replies ++ settle_replies) ++ report_replies
  pub answers_are : answers ≡ (told ++ line) ++ report
