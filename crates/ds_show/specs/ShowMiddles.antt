-- The middle of a show, from step to step, and where it is settled.
use Rattle.std.specs.Prelude.{ℕ, List, Contains}
use Rattle.ds_state.specs.Works.{PlainShowCall}
use Rattle.ds_state.specs.World.{PlainEdit, PlainWorld}
use Rattle.ds_state.specs.KnownShow.{moment_of, AreScratch, IsStill}
use Rattle.ds_state.specs.Lasts.{Lasts}
use Rattle.ds_state.specs.Middles.{IsMiddle}
use Rattle.ds_state.specs.declared.show.ShowStage.{ShowStage}
use Rattle.ds_state.specs.declared.show.ShowStage.TheVariants.{LoadKind}
use Rattle.ds_show.specs.ShowSteps.{answered}

-- the middle after a stage, where the world before it was this one: the load of a kind makes it that world, and the
-- load of the last kind, which ends the first collect, does so for good
abbrev pub middle_after : PlainWorld → PlainWorld → ShowStage → PlainWorld
middle_after w mid (LoadKind i) = w
middle_after w mid _ = mid

-- a show of p's, whose begin left `first`, was settled in the world `ended`, and this is its middle: all that it
-- noted is so there; then no mark was dirty, and no announcement pending; and the values that it answers are those
-- from scratch of the edits that were linearized there. It speaks of no world but these three, so that it stays as it
-- is
pub record WasSettled (first ended : PlainWorld) (p : ℕ) (e : PlainShowCall) (mid : PlainWorld) : Type 0 where
  pub since : Lasts first mid
  pub lasts : Lasts mid ended
  pub says : IsMiddle first ended p e e.cells e.processes mid
  pub still : IsStill mid.layout (moment_of mid)
  pub right : AreScratch mid.layout.shape mid.counted (answered e)

-- a show of p's was settled, and the world has come after that: its middle had each edit of this list, which holds
-- those that its seat was answered are done
pub record IsToldShow (w : PlainWorld) (p : ℕ) (e : PlainShowCall) (held : List PlainEdit) : Type 0 where
  pub begun : PlainWorld
  pub ended : PlainWorld
  pub mid : PlainWorld
  pub was : WasSettled begun ended p e mid
  pub lasts : Lasts ended w
  pub holds : (d : PlainEdit) → Contains held d → Contains mid.counted d
