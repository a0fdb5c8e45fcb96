-- A crash, and a stop, from world to world.
use Rattle.std.specs.Prelude.{ℕ, ◌≡◌, ◌≢◌, ◌<◌, ◌==◌, Bool, true, false, List, filter, if◌then◌else◌}
use Rattle.ds_words.specs.Memory.{Memory, Crashes, StopsAt}
use Rattle.ds_layout.specs.Head.{names_edit}
use Rattle.ds_layout.specs.declared.place.Place.{Place}
use Rattle.ds_layout.specs.declared.place.Place.TheVariants as place
use Rattle.ds_state.specs.World.{PlainEdit, PlainWorld}
use Rattle.ds_state.specs.declared.situation.Situation.TheVariants.{Stopped}

-- whether a crash takes the edit: it is its cell's cached head, and that is not persisted
abbrev pub is_lost : Memory Place → PlainEdit → Bool
is_lost m e = if m.cached (place.Head e.cell) == m.persisted (place.Head e.cell) then false else names_edit (m.cached (place.Head e.cell)) e.process e.number

-- the edits that a crash leaves
unfoldable pub survivors : Memory Place → List PlainEdit → List PlainEdit
survivors m edits = filter (λ e. if is_lost m e then false else true) edits

-- every process stops, the cached sides are lost, and so are the edits that only these had
pub record CrashesTo (old new : PlainWorld) : Type 0 where
  pub layout : new.layout ≡ old.layout
  pub memory : Crashes old.memory new.memory
  pub situation : (q : ℕ) → q < old.layout.processes → new.situation q ≡ Stopped
  pub counted : new.counted ≡ survivors old.memory old.counted
  pub open_edits : (q : ℕ) → new.open_edits q ≡ old.open_edits q

-- a process that has not stopped stops
pub record StopsIn (p : ℕ) (old new : PlainWorld) : Type 0 where
  pub runs : old.situation p ≢ Stopped
  pub layout : new.layout ≡ old.layout
  pub memory : StopsAt p old.memory new.memory
  pub situation : new.situation p ≡ Stopped
  pub others : (q : ℕ) → q ≢ p → new.situation q ≡ old.situation q
  pub counted : new.counted ≡ old.counted
  pub open_edits : (q : ℕ) → new.open_edits q ≡ old.open_edits q
