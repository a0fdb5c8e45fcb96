-- What a recovery would find that looks at the done bit of its edit before it looks at the head.
use Rattle.std.specs.Prelude.{◌≡◌, ◌<◌, false, Contains}
use Rattle.ds_layout.specs.Bits.{HasBit}
use Rattle.ds_layout.specs.Head.{head_word}
use Rattle.ds_layout.specs.declared.head.Head.{Head}
use Rattle.ds_layout.specs.declared.place.Place.TheVariants as place
use Rattle.ds_state.specs.Edits.{PlainEditCall}
use Rattle.ds_state.specs.Sound.{IsSound}
use Rattle.ds_state.specs.Works.{PlainRecoverCall}
use Rattle.ds_state.specs.World.{PlainEdit, PlainWorld, done_place}
use Rattle.ds_state.specs.declared.recovery.RecoverStage.TheVariants as recovers
use Rattle.ds_state.specs.declared.situation.Situation.TheVariants.{Editing}
use Rattle.ds_state.specs.declared.stage.Stage.{Stage}
use Rattle.ds_state.specs.declared.stage.Stage.TheVariants.{OrDone, FlushDone, BackDone, Swap}
use Rattle.ds_edit.specs.EditTakes.{Steps}
use Rattle.ds_recover.specs.RecoverySteps.{next_at, at, number_of}

-- the done bit of the edit is not set, as processes see it
abbrev pub HasNoBit : PlainWorld → PlainEdit → Type 0
HasNoBit w f = HasBit (w.memory.cached (done_place f.process f.number)) f.number → ⊥

-- the edit at another stage
abbrev pub at_stage : PlainEditCall → Stage → PlainEditCall
at_stage e stage = record e { stage = stage }

-- an edit that has noted this head helps it and takes its place: its four steps, from the one that adds the done bit to
-- the swap, which wins
pub record TakesOver (e : PlainEditCall) (head : Head) (first last : PlainWorld) : Type 0 where
  pub inside : e.process < first.layout.processes
  pub ready : first.situation e.process ≡ Editing (at_stage e (OrDone head))
  pub second : PlainWorld
  pub third : PlainWorld
  pub fourth : PlainWorld
  pub ors : Steps (at_stage e (OrDone head)) 0 first second
  pub flushes : Steps (at_stage e (FlushDone head)) 0 second third
  pub backs : Steps (at_stage e (BackDone head)) 0 third fourth
  pub swings : Steps (at_stage e (Swap (head_word head))) (head_word head) fourth last

-- the recovery is that of this edit, by process, number and cell
pub record IsRecoveryOf (r : PlainRecoverCall) (f : PlainEdit) : Type 0 where
  pub process : r.process ≡ f.process
  pub number : number_of r ≡ f.number
  pub cell : r.cell ≡ f.cell

-- by the rows of a recovery it finds no done bit in the first world, where it goes on as for an edit that is not done;
-- and in the last one, which is sound, it finds another edit's head, where it goes on as for one that it does not see.
-- And yet the edit is linearized in both
pub record FindsNeither (r : PlainRecoverCall) (f : PlainEdit) (first last : PlainWorld) : Type 0 where
  pub bit : next_at r recovers.LoadDone (first.memory.cached (done_place r.process (number_of r))) ≡ at r (recovers.OrMark false)
  pub head : next_at r recovers.LoadHead (last.memory.cached (place.Head r.cell)) ≡ at r recovers.LoadDone
  pub sound : IsSound last
  pub counts : Contains first.counted f × Contains last.counted f
