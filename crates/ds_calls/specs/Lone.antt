-- A settle that is alone.
use Rattle.std.specs.Prelude.{ℕ, ◌≡◌, ◌<◌, ◌≤◌, ◌+◌, ◌*◌}
use Rattle.ds_state.specs.declared.situation.Rest.{Rest}
use Rattle.ds_layout.specs.Places.{cells_of}
use Rattle.ds_layout.specs.Mark.{generation_of}
use Rattle.ds_layout.specs.declared.place.Place.TheVariants.{Mark}
use Rattle.ds_state.specs.Works.{SEEN_MOST}
use Rattle.ds_state.specs.World.{PlainWorld}
use Rattle.ds_state.specs.Shown.{IsQuiet}
use Rattle.ds_state.specs.declared.refusal.Refusal.TheVariants as refusal
use Rattle.ds_state.specs.declared.situation.Situation.TheVariants.{Idle}
use Rattle.ds_calls.specs.declared.settle.SettleEnd.{SettleEnd}
use Rattle.ds_calls.specs.declared.settle.SettleEnd.TheVariants.{Left, Refused, NoMemory}

-- each process is idle: in no call, and neither stopped nor recovering; so no edit is open, and no cell is held
pub record AreIdle (w : PlainWorld) : Type 0 where
  pub each : (q : ℕ) → q < w.layout.processes → (n : Rest) × (w.situation q ≡ Idle n)

-- each mark has generations left for work in n rounds
pub record AreYoung (w : PlainWorld) (rounds : ℕ) : Type 0 where
  pub each : (c : ℕ) → c < cells_of w.layout → generation_of (w.memory.cached (Mark c)) + 2 * rounds ≤ SEEN_MOST

-- a settle ends in a quiescent world, with no cell left, unless an allocation failed
abbrev pub EndsClean : PlainWorld → SettleEnd → Type 0
EndsClean w (Left left) = (left ≡ 0) × IsQuiet w
EndsClean w (Refused why) = why ≡ refusal.NoMemory
EndsClean w NoMemory = Unit {0}
