-- What a run says of what its processes were answered.
use Rattle.std.specs.Prelude.{ℕ, List}
use Rattle.ds_state.specs.World.{PlainWorld}
use Rattle.ds_shared_runs.specs.CallEvents.{StandsAt}
use Rattle.ds_shared_runs.specs.Fitting.{Fits}
use Rattle.ds_shared_runs.specs.History.{Happened}
use Rattle.ds_shared_runs.specs.Runs.{IsRun, events_of, replies_of}
use Rattle.ds_shared_runs.specs.declared.history.CallEvent.{CallEvent}

-- what the process was answered stands at a place of the run, and fits it
pub record WasRight (first : PlainWorld) (hs : List Happened) (last : PlainWorld) (r : IsRun first hs last) (p : ℕ) (t : CallEvent) : Type 0 where
  pub place : ℕ
  pub stands : StandsAt r.old (events_of hs) (replies_of hs) r.new r.run p t place
  pub fits : Fits first hs last r p t place
