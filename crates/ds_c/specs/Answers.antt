-- Replies and answers as rows of numbers.
use Rattle.std.specs.Prelude.{ℕ, Result, Ok, Err}
use Rattle.ds_calls.specs.declared.settle.SettleEnd.{SettleEnd}
use Rattle.ds_calls.specs.declared.settle.SettleEnd.TheVariants as ends
use Rattle.ds_core.specs.declared.reply.Reply.{Reply}
use Rattle.ds_core.specs.declared.reply.Reply.TheVariants as reply
use Rattle.ds_state.specs.declared.answer.Answer.{Answer}
use Rattle.ds_state.specs.declared.answer.Answer.TheVariants as answer
use Rattle.ds_state.specs.declared.answer.EditEnd.TheVariants as edit_ends
use Rattle.ds_state.specs.declared.work.WorkEnd.TheVariants as work_ends
use Rattle.ds_state.specs.declared.recovery.RecoveryEnd.TheVariants as recovery_ends
use Rattle.ds_state.specs.declared.migration.MigrateEnd.TheVariants as migrate_ends
use Rattle.ds_state.specs.declared.show.ShowEnd.TheVariants as show_ends
use Rattle.ds_formula.specs.declared.fault.FaultKind.{FaultKind}
use Rattle.ds_formula.specs.declared.fault.FaultKind.TheVariants as fault
use Rattle.ds_layout.specs.declared.place.Place.{Place}
use Rattle.ds_layout.specs.declared.place.Place.TheVariants as place
use Rattle.ds_shared.specs.declared.ended.Ended.{Ended}
use Rattle.ds_shared.specs.declared.ended.Ended.TheVariants as ended
use Rattle.ds_state.specs.declared.refusal.Refusal.{Refusal}
use Rattle.ds_state.specs.declared.refusal.Refusal.TheVariants as refusal
use Rattle.ds_c.specs.declared.answer.AnswerRow.{AnswerRow}
use Rattle.ds_c.specs.declared.answer_kind.AnswerKind.{AnswerKind}
use Rattle.ds_c.specs.declared.answer_kind.AnswerKind.TheVariants as kind
use Rattle.ds_c.specs.AnswerKinds.{kind_number}
use Rattle.ds_c.specs.Flags.{flag}

-- a row that has its kind alone
abbrev pub plain_row : AnswerKind → AnswerRow
plain_row k = record { kind = kind_number k; cause = 0; fault = 0; holds = 0; number = 0; process = 0; other = 0; cell = 0; seen = 0 }

-- the number of what is wrong with a text
abbrev pub fault_number : FaultKind → ℕ
fault_number fault.TooLong = 1
fault_number fault.BadToken = 2
fault_number fault.NotWhole = 3
fault_number fault.NumberTooLarge = 4
fault_number fault.UnknownFunction = 5
fault_number fault.WrongArguments = 6
fault_number fault.OutsideSheet = 7
fault_number fault.RangeNotAllowed = 8
fault_number fault.TooDeep = 9
fault_number fault.Unfinished = 10
fault_number fault.NoMemory = 11

-- the row of a refusal: its cause, and of a text what is wrong with it, and where; or the process that stands in the way
-- of a recovery or a migration
abbrev pub refusal_row : Refusal → AnswerRow
refusal_row (refusal.Text f) = record (plain_row kind.Refused) { cause = 1; fault = fault_number f.kind; number = f.offset }
refusal_row refusal.Busy = record (plain_row kind.Refused) { cause = 2 }
refusal_row refusal.Stopped = record (plain_row kind.Refused) { cause = 3 }
refusal_row refusal.RecordsFull = record (plain_row kind.Refused) { cause = 4 }
refusal_row refusal.NoMemory = record (plain_row kind.Refused) { cause = 5 }
refusal_row (refusal.Migrating p) = record (plain_row kind.Refused) { cause = 6; process = p }
refusal_row (refusal.NotStopped p) = record (plain_row kind.Refused) { cause = 7; process = p }

-- the row of what a report saw that was not at rest
abbrev pub unsettled_row : Place → ℕ → AnswerRow
unsettled_row (place.Mark c) seen = record (plain_row kind.UnsettledMark) { cell = c; seen = seen }
unsettled_row (place.Announce p) seen = record (plain_row kind.UnsettledAnnouncement) { process = p; seen = seen }
unsettled_row _ seen = plain_row kind.UnsettledWord

-- the row of an answer
abbrev pub answer_row : Answer → AnswerRow
answer_row (answer.Edit (edit_ends.Done n)) = record (plain_row kind.Done) { number = n }
answer_row (answer.Edit (edit_ends.Overtaken n other)) = record (plain_row kind.Overtaken) { number = n; process = other.process; other = other.number }
answer_row (answer.Work work_ends.NotDirty) = plain_row kind.NotDirty
answer_row (answer.Work work_ends.Missed) = plain_row kind.Missed
answer_row (answer.Work work_ends.Worn) = plain_row kind.Worn
answer_row (answer.Work (work_ends.Published changed)) = record (plain_row kind.Published) { holds = flag changed }
answer_row (answer.Work work_ends.Again) = plain_row kind.Again
answer_row (answer.Work work_ends.NoMemory) = plain_row kind.NoMemory
answer_row (answer.Recovery (recovery_ends.Last told)) = record (plain_row kind.Last) { number = told.number; cell = told.cell; holds = flag told.counts }
answer_row (answer.Recovery recovery_ends.Nothing) = plain_row kind.Nothing
answer_row (answer.Migration migrate_ends.Migrated) = plain_row kind.Migrated
answer_row (answer.Migration migrate_ends.Already) = plain_row kind.Already
answer_row (answer.Show show_ends.Settled) = plain_row kind.Settled
answer_row (answer.Show (show_ends.Unsettled at seen)) = unsettled_row at seen

-- the row of a reply to an event
abbrev pub reply_row : Reply → AnswerRow
reply_row (reply.Begun n) = record (plain_row kind.Begun) { number = n }
reply_row reply.Entered = plain_row kind.Entered
reply_row (reply.Refused why) = refusal_row why
reply_row reply.Stepped = plain_row kind.Stepped
reply_row (reply.Answered a) = answer_row a
reply_row reply.WrongTask = plain_row kind.WrongTask
reply_row reply.Evicted = plain_row kind.Evicted
reply_row reply.Stopped = plain_row kind.Stopped
reply_row reply.Crashed = plain_row kind.Crashed
reply_row reply.NotEnabled = plain_row kind.NotEnabled

-- the row of what a whole call came to, whose ends are answered so
abbrev pub result_row : {E : Type 0} → (E → Answer) → Result E Refusal → AnswerRow
result_row answered (Ok end) = answer_row (answered end)
result_row answered (Err why) = refusal_row why

-- the row of how a settle ended
abbrev pub settle_row : SettleEnd → AnswerRow
settle_row (ends.Left cells) = record (plain_row kind.Left) { number = cells }
settle_row (ends.Refused why) = refusal_row why
settle_row ends.NoMemory = plain_row kind.NoMemory

-- the row of how a call on a sheet that threads share ended, whose ends are answered so
abbrev pub ended_row : {E : Type 0} → (E → Answer) → Ended E → AnswerRow
ended_row answered (ended.Answered end) = answer_row (answered end)
ended_row answered (ended.Refused why) = refusal_row why
ended_row answered ended.Stopped = plain_row kind.Stopped
