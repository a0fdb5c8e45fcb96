-- A stop of a process, and a crash, from world to world.
use Rattle.std.specs.Prelude.{ℕ, ◌≡◌, ◌≢◌, ◌<◌}
use Rattle.ds_layout.specs.declared.layout.Layout.{Layout}
use Rattle.ds_layout.specs.Places.{cells_of}
use Rattle.ds_state.specs.World.{PlainEdit}
use Rattle.ds_state.specs.Value.{WorldValue, world_of, SameReports}
use Rattle.ds_state.specs.Crashes.{StopsIn, CrashesTo}
use Rattle.ds_state.specs.declared.situation.Situation.TheVariants as situation
use Rattle.ds_core.specs.declared.reply.Reply.{Reply}
use Rattle.ds_core.specs.declared.reply.Reply.TheVariants.{Stopped, Crashed, NotEnabled}

-- the process, which had not stopped, stops: its call and its buffer are lost
pub record StopsProcess (old : WorldValue) (p : ℕ) (new : WorldValue) : Type 0 where
  pub there : p < old.sheet.layout.processes
  pub stops : StopsIn p (world_of old) (world_of new)
  pub done : new.done ≡ old.done
  pub reports : SameReports old new

-- the process has stopped already, or the sheet has no such process; the world stays
pub record CanNotStop (old : WorldValue) (p : ℕ) (new : WorldValue) : Type 0 where
  pub same : new ≡ old
  pub none : p < old.sheet.layout.processes → (world_of old).situation p ≢ situation.Stopped → ⊥

-- what a stop of a process does, by its reply
abbrev pub StopTakes : WorldValue → ℕ → Reply → WorldValue → Type 0
StopTakes old p Stopped new = StopsProcess old p new
StopTakes old p NotEnabled new = CanNotStop old p new
StopTakes old p _ new = ⊥

-- a crash: every process stops, and what was not persisted is lost; counts and kept snapshots stay
pub record CrashesWorld (old new : WorldValue) : Type 0 where
  pub crashes : CrashesTo (world_of old) (world_of new)
  pub done : new.done ≡ old.done
  pub reports : SameReports old new

-- what a crash does: it always happens, and is answered Crashed
abbrev pub CrashTakes : WorldValue → Reply → WorldValue → Type 0
CrashTakes old Crashed new = CrashesWorld old new
CrashTakes old _ new = ⊥

-- the edit's cell is one of the sheet, and its process and number fit into a head
pub record HasHeadPlace (layout : Layout) (e : PlainEdit) : Type 0 where
  pub cell : e.cell < cells_of layout
  pub process : e.process < 256
  pub number : e.number < 256
