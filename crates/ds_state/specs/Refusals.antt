-- Which refusal a text's fault is, and which process may begin a call.
use Rattle.std.specs.Prelude.{Result, Ok, Err}
use Rattle.ds_formula.specs.declared.fault.TextFault.{TextFault}
use Rattle.ds_formula.specs.declared.fault.FaultKind.{FaultKind}
use Rattle.ds_formula.specs.declared.fault.FaultKind.TheVariants as kinds
use Rattle.ds_state.specs.declared.refusal.Refusal.{Refusal}
use Rattle.ds_state.specs.declared.refusal.Refusal.TheVariants.{Text, NoMemory}
use Rattle.ds_state.specs.declared.refusal.Refusal.TheVariants as refusal
use Rattle.ds_state.specs.declared.situation.Rest.{Rest}
use Rattle.ds_state.specs.declared.situation.Situation.{Situation}
use Rattle.ds_state.specs.declared.situation.Situation.TheVariants.{Idle, Stopped, Editing, Working, Recovering, Showing, Migrating}

-- the refusal that a text's fault of this kind is: out of memory is a refusal of its own
abbrev pub refusal_by : FaultKind → TextFault → Refusal
refusal_by kinds.NoMemory fault = NoMemory
refusal_by kind fault = Text fault

-- the refusal that a text's fault is
abbrev pub refusal_of : TextFault → Refusal
refusal_of fault = refusal_by fault.kind fault

-- what a process in this situation knows of its next edit and of the layout, if it may begin an edit, work or a show;
-- else why it may not
abbrev pub next_edit : Situation → Result Rest Refusal
next_edit (Idle next) = Ok next
next_edit Stopped = Err refusal.Stopped
next_edit (Editing e) = Err refusal.Busy
next_edit (Working e) = Err refusal.Busy
next_edit (Recovering e) = Err refusal.Busy
next_edit (Showing e) = Err refusal.Busy
next_edit (Migrating e) = Err refusal.Busy
