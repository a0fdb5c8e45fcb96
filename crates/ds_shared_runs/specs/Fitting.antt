-- What a run says of each answer that a process was answered.
use Rattle.std.specs.Prelude.{ℕ, ◌≡◌, ◌+◌, List, true, false}
use Rattle.ds_layout.specs.Head.{head_of}
use Rattle.ds_state.specs.EditEndings.{other_of}
use Rattle.ds_state.specs.Works.{PlainShowCall}
use Rattle.ds_state.specs.World.{PlainWorld}
use Rattle.ds_state.specs.declared.recovery.RecoveryEnd.{RecoveryEnd}
use Rattle.ds_state.specs.declared.recovery.RecoveryEnd.TheVariants.{Last, Nothing}
use Rattle.ds_state.specs.Edits.{PlainEditCall}
use Rattle.ds_state.specs.declared.show.ShowEnd.{ShowEnd}
use Rattle.ds_state.specs.declared.stage.Outcome.{Outcome}
use Rattle.ds_state.specs.declared.show.ShowEnd.TheVariants.{Settled, Unsettled}
use Rattle.ds_state.specs.declared.stage.Outcome.TheVariants.{Done, Overtaken}
use Rattle.ds_show.specs.ShowSteps.{answered}
use Rattle.ds_core.specs.Headline.{IsAcknowledged, IsToldDone, IsCall, SettledFits, UnsettledFits, HasCause}
use Rattle.ds_core.specs.LedgerSteps.{Closes, IsOvertakenBy, Resolves}
use Rattle.ds_core.specs.Moments.{Ledger}
use Rattle.ds_shared_runs.specs.History.{Happened}
use Rattle.ds_shared_runs.specs.declared.history.CallEvent.{CallEvent}
use Rattle.ds_shared_runs.specs.declared.history.CallEvent.TheVariants.{Began, Edited, Worked, Recovered, Reported}
use Rattle.ds_shared_runs.specs.Runs.{IsRun, events_of, replies_of}

module _ (first : PlainWorld) (hs : List Happened) (last : PlainWorld) (r : IsRun first hs last) where
  -- the ledger at a moment of the run
  abbrev pub ledger_at : ℕ → Ledger
  ledger_at k = (r.headline.is.run.moment k).ledger

  -- the process's show, which is answered at this place, began at that one
  abbrev pub IsOfCall : ℕ → ℕ → ℕ → Type 0
  IsOfCall p start k = IsCall (events_of hs) (replies_of hs) p start k

  -- a show that ended so fits a moment of its call: settled, its values are those from scratch of the linearized edits
  -- then; unsettled, the word that it names was then there
  abbrev pub ShowFits : ℕ → ℕ → PlainShowCall → ShowEnd → Type 0
  ShowFits p k e Settled = (start : ℕ) × IsOfCall p start k × SettledFits r.headline.is.run.moment start k (answered e)
  ShowFits p k e (Unsettled place word) = (start : ℕ) × IsOfCall p start k × UnsettledFits r.headline.is.run.moment start k place word

  -- an edit that is answered Done stands in the run's last list exactly once, as it was asked for; one that is answered
  -- Overtaken is not linearized, and the edit that is named is of the same cell, and was linearized since this one
  -- began
  abbrev pub EditFits : ℕ → ℕ → PlainEditCall → Outcome → Type 0
  EditFits p k e Done = IsAcknowledged r.old (events_of hs) (replies_of hs) k p e.number r.new.counted
  EditFits p k e (Overtaken noted seen) = Closes (ledger_at k) p e.number false false (IsOvertakenBy (ledger_at k) (other_of (head_of e.processes seen))) (ledger_at (k + 1))

  -- what a recovery reports is how the process's edit in doubt ended, with its number and its cell, or what it was
  -- answered last; one that is reported as done stands in the run's last list exactly once, as it was asked for
  abbrev pub IfDone : ℕ → ℕ → RecoveryEnd → Type 0
  IfDone p k Nothing = Unit {0}
  IfDone p k (Last resolved) = resolved.counts ≡ true → IsToldDone r.old (events_of hs) (replies_of hs) k p resolved r.new.counted

  -- what the process was answered at this place fits the run: a work's answer has its cause in its call
  abbrev pub Fits : ℕ → CallEvent → ℕ → Type 0
  Fits p (Began event reply) k = Unit {0}
  Fits p (Edited e how) k = EditFits p k e how
  Fits p (Worked e end) k = HasCause r.headline.is.run.moment (events_of hs) (replies_of hs) k p end
  Fits p (Recovered e end) k = Resolves (ledger_at k) p end (ledger_at (k + 1)) × IfDone p k end
  Fits p (Reported e end) k = ShowFits p k e end
