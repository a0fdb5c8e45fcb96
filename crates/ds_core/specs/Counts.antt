-- What an answer says by itself.
use Rattle.std.specs.Prelude.{ℕ, ◌≡◌, ◌≢◌, [], slice_index_or}
use Rattle.ds_state.specs.Value.{WorldValue}
use Rattle.ds_state.specs.declared.answer.Answer.TheVariants.{Edit, Show}
use Rattle.ds_state.specs.declared.answer.EditEnd.TheVariants.{Done}
use Rattle.ds_state.specs.declared.show.ShowEnd.TheVariants.{Settled}
use Rattle.ds_core.specs.declared.event.Event.{Event}
use Rattle.ds_core.specs.declared.event.Event.TheVariants.{BeginEdit, BeginWork, BeginShow, BeginRecover, BeginMigrate, Step, Offer, Evict, Stop, Crash}
use Rattle.ds_core.specs.declared.reply.Reply.{Reply}
use Rattle.ds_core.specs.declared.reply.Reply.TheVariants.{Begun, Entered, Refused, Stepped, Answered, WrongTask, Evicted, Stopped, Crashed, NotEnabled}

-- the replies that an event of each kind can have; an offer and a crash are never answered NotEnabled
abbrev pub IsReplyTo : Event → Reply → Type 0
IsReplyTo (BeginEdit r) (Begun number) = Unit {0}
IsReplyTo (BeginEdit r) (Refused why) = Unit {0}
IsReplyTo (BeginWork p cell) Entered = Unit {0}
IsReplyTo (BeginWork p cell) (Refused why) = Unit {0}
IsReplyTo (BeginShow p) Entered = Unit {0}
IsReplyTo (BeginShow p) (Refused why) = Unit {0}
IsReplyTo (BeginRecover p) Entered = Unit {0}
IsReplyTo (BeginRecover p) (Refused why) = Unit {0}
IsReplyTo (BeginMigrate p) Entered = Unit {0}
IsReplyTo (BeginMigrate p) (Refused why) = Unit {0}
IsReplyTo (Step p) Stepped = Unit {0}
IsReplyTo (Step p) (Answered answer) = Unit {0}
IsReplyTo (Offer value) Stepped = Unit {0}
IsReplyTo (Offer value) WrongTask = Unit {0}
IsReplyTo (Offer value) reply = ⊥
IsReplyTo (Evict place) Evicted = Unit {0}
IsReplyTo (Stop p) Stopped = Unit {0}
IsReplyTo Crash Crashed = Unit {0}
IsReplyTo Crash reply = ⊥
IsReplyTo event NotEnabled = Unit {0}
IsReplyTo event reply = ⊥

-- how many edits a reply answers Done: 1 or 0
abbrev pub done_of : Reply → ℕ
done_of (Answered (Edit (Done number))) = 1
done_of reply = 0

-- how many shows a reply answers Settled: 1 or 0
abbrev pub settled_of : Reply → ℕ
settled_of (Answered (Show Settled)) = 1
settled_of reply = 0

-- the values of each process's last settled show stay, but for that of the process which is answered Settled
abbrev pub KeepsReports : WorldValue → Event → Reply → WorldValue → Type 0
KeepsReports old (Step p) (Answered (Show Settled)) new = (q : ℕ) → q ≢ p → slice_index_or new.reports.values q [] ≡ slice_index_or old.reports.values q []
KeepsReports old event reply new = new.reports ≡ old.reports
