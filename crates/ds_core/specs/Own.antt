-- How many steps a process makes in a run.
use Rattle.std.specs.Prelude.{ℕ, ◌≡◌, ◌<◌, ◌+◌, ◌*◌, ◌==◌, List, [], ◌∷◌, if◌then◌else◌, length}
use Rattle.ds_layout.specs.Bits.{parts_for}
use Rattle.ds_state.specs.Works.{PlainWorkCall, old_words}
use Rattle.ds_state.specs.Value.{WorldValue, world_of}
use Rattle.ds_state.specs.declared.situation.Situation.{Situation}
use Rattle.ds_state.specs.declared.situation.Situation.TheVariants.{Idle, Stopped, Editing, Working, Recovering, Showing, Migrating}
use Rattle.ds_edit.specs.EditSteps.{rank}
use Rattle.ds_work.specs.WorkRank as works
use Rattle.ds_show.specs.ShowSteps as shows
use Rattle.ds_recover.specs.RecoverySteps as recoveries
use Rattle.ds_recover.specs.MigrationSteps as migrations
use Rattle.ds_core.specs.declared.event.Event.{Event}
use Rattle.ds_core.specs.declared.event.Event.TheVariants.{BeginEdit, BeginWork, BeginShow, BeginRecover, BeginMigrate, Step, Offer, Evict, Stop, Crash}
use Rattle.ds_core.specs.declared.reply.Reply.{Reply}
use Rattle.ds_core.specs.declared.reply.Reply.TheVariants as reply

-- how many steps of the process an event with its reply is: 1 for a step of it that happens, else 0
abbrev pub own_step : ℕ → Event → Reply → ℕ
own_step p (Step q) reply.Stepped = if q == p then 1 else 0
own_step p (Step q) (reply.Answered answer) = if q == p then 1 else 0
own_step p (Step q) _ = 0
own_step p (BeginEdit request) _ = 0
own_step p (BeginWork q cell) _ = 0
own_step p (BeginShow q) _ = 0
own_step p (BeginRecover q) _ = 0
own_step p (BeginMigrate q) _ = 0
own_step p (Offer value) _ = 0
own_step p (Evict place) _ = 0
own_step p (Stop q) _ = 0
own_step p Crash _ = 0

-- how many steps the process makes in a list of events with their replies
abbrev pub own_steps : ℕ → List Event → List Reply → ℕ
own_steps p (event ∷ events) (r ∷ replies) = own_step p event r + own_steps p events replies
own_steps p events replies = 0

-- the event, with its reply, neither answers the process nor stops it
abbrev pub IsUnanswered : ℕ → Event → Reply → Type 0
IsUnanswered p (Step q) (reply.Answered answer) = q ≡ p → ⊥
IsUnanswered p (Step q) _ = Unit {0}
IsUnanswered p (BeginEdit request) _ = Unit {0}
IsUnanswered p (BeginWork q cell) _ = Unit {0}
IsUnanswered p (BeginShow q) _ = Unit {0}
IsUnanswered p (BeginRecover q) _ = Unit {0}
IsUnanswered p (BeginMigrate q) _ = Unit {0}
IsUnanswered p (Offer value) _ = Unit {0}
IsUnanswered p (Evict place) _ = Unit {0}
IsUnanswered p (Stop q) reply.Stopped = q ≡ p → ⊥
IsUnanswered p (Stop q) _ = Unit {0}
IsUnanswered p Crash _ = ⊥

-- no event of a list answers the process or stops it
abbrev pub AreUnanswered : ℕ → List Event → List Reply → Type 0
AreUnanswered p (event ∷ events) (r ∷ replies) = IsUnanswered p event r × AreUnanswered p events replies
AreUnanswered p events replies = Unit {0}

-- how many steps the call of a situation has left at most, with the one that answers; 0 outside a call
abbrev pub left_in : Situation → ℕ
left_in (Editing e) = rank e e.stage
left_in (Working e) = works.steps_left e.cells e
left_in (Recovering e) = recoveries.rank e.cells e.stage
left_in (Showing e) = shows.rank e
left_in (Migrating e) = migrations.rank (old_words e.processes) e.stage
left_in (Idle number) = 0
left_in Stopped = 0

-- how many steps the process's call has left at most, with the one that answers; 0 outside a call
abbrev pub steps_left : ℕ → WorldValue → ℕ
steps_left p v = left_in ((world_of v).situation p)

-- the process is in a call: an edit, a work, a recovery, a show or a migration
abbrev pub IsInCall : Situation → Type 0
IsInCall (Idle number) = ⊥
IsInCall Stopped = ⊥
IsInCall (Editing e) = Unit {0}
IsInCall (Working e) = Unit {0}
IsInCall (Recovering e) = Unit {0}
IsInCall (Showing e) = Unit {0}
IsInCall (Migrating e) = Unit {0}

-- the event neither stops the process nor crashes the machine
abbrev pub IsUnhalted : ℕ → Event → Type 0
IsUnhalted p (BeginEdit request) = Unit {0}
IsUnhalted p (BeginWork q cell) = Unit {0}
IsUnhalted p (BeginShow q) = Unit {0}
IsUnhalted p (BeginRecover q) = Unit {0}
IsUnhalted p (BeginMigrate q) = Unit {0}
IsUnhalted p (Step q) = Unit {0}
IsUnhalted p (Offer value) = Unit {0}
IsUnhalted p (Evict place) = Unit {0}
IsUnhalted p (Stop q) = q ≡ p → ⊥
IsUnhalted p Crash = ⊥

-- no event of a list stops the process or crashes the machine
abbrev pub AreUnhalted : ℕ → List Event → Type 0
AreUnhalted p [] = Unit {0}
AreUnhalted p (event ∷ events) = IsUnhalted p event × AreUnhalted p events

-- the process is in the work that this one has come to be, n steps of its own later: fewer than two for each
-- reference that it has read, three for each cell, one for each part of an index row, and 51
pub record WorkGoesOn (p : ℕ) (e : PlainWorkCall) (steps : ℕ) (new : WorldValue) : Type 0 where
  pub work : PlainWorkCall
  pub works : (world_of new).situation p ≡ Working work
  pub few : steps < 2 * length work.inputs + 3 * e.cells + parts_for e.cells + 51
