-- What a step of a show makes of a world, with what the world counts and keeps of snapshots.
use Rattle.std.specs.Prelude.{ℕ, ◌≡◌, ◌<◌, ◌+◌, Option, Some, None}
use Rattle.ds_state.specs.declared.turn.Turn.{Turn}
use Rattle.ds_state.specs.declared.show.ShowEnd.{ShowEnd}
use Rattle.ds_state.specs.Works.{PlainShowCall}
use Rattle.ds_state.specs.Value.{WorldValue, world_of}
use Rattle.ds_state.specs.Reports.{PlainReports, with_report}
use Rattle.ds_state.specs.declared.show.ShowEnd.TheVariants.{Settled}
use Rattle.ds_state.specs.declared.situation.Situation.TheVariants.{Showing}
use Rattle.ds_state.specs.declared.turn.Turn.TheVariants.{Answers}
use Rattle.ds_show.specs.ShowSteps.{Steps, answered, effect_at}

-- how many shows are answered Settled by a step of a show: 1 or 0
abbrev pub settled_by : Turn ShowEnd → ℕ
settled_by (Answers Settled) = 1
settled_by _ = 0

-- the kept snapshots after a step of a show: once it is settled, its values are the process's last ones
abbrev pub reports_by : PlainReports → PlainShowCall → Turn ShowEnd → PlainReports
reports_by r e (Answers Settled) = with_report r e.process (answered e)
reports_by r e _ = r

-- the process makes a step of its show
pub record StepsBy (old : WorldValue) (p : ℕ) (what : Turn ShowEnd) (new : WorldValue) : Type 0 where
  pub there : p < old.sheet.layout.processes
  pub show : PlainShowCall
  pub mine : show.process ≡ p
  pub at : (world_of old).situation p ≡ Showing show
  pub word : ℕ
  pub steps : Steps show word (world_of old) (world_of new)
  pub is : what ≡ effect_at show.stage
  pub done : new.done ≡ old.done
  pub settled : new.settled ≡ old.settled + settled_by what
  pub reports : new.reports ≡ reports_by old.reports show what

-- the process has no show under way, or the sheet has no such process
pub record CanNotStep (old : WorldValue) (p : ℕ) (new : WorldValue) : Type 0 where
  pub same : new ≡ old
  pub none : (show : PlainShowCall) → p < old.sheet.layout.processes → (world_of old).situation p ≡ Showing show → ⊥

-- the process makes a step of its show; or it can make none, and the world stays
abbrev pub StepTakes : WorldValue → ℕ → Option (Turn ShowEnd) → WorldValue → Type 0
StepTakes old p None new = CanNotStep old p new
StepTakes old p (Some what) new = StepsBy old p what new
