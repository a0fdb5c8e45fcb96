-- Worlds are made, and freed.
use Rattle.std.specs.Prelude.{ℕ, ◌≡◌, ◌≤◌}
use Rattle.c_handles.specs.Handles as handles
use Rattle.ds_formula.specs.Limits.{PROCESSES_MOST}
use Rattle.ds_formula.specs.Cells.{count_of}
use Rattle.ds_formula.specs.Shapes.{MayHave}
use Rattle.ds_state.specs.Value.{WorldValue, world_of, IsGood}
use Rattle.ds_state.specs.Reports.{no_reports}
use Rattle.ds_state.specs.Editions.{Agrees}
use Rattle.ds_state.specs.Fresh.{IsNew}
use Rattle.ds_layout.specs.declared.place.Edition.{Edition}
use Rattle.ds_c.specs.declared.handle.Handle.{Handle}
use Rattle.ds_c.specs.declared.failure.Failure.{Failure}
use Rattle.ds_c.specs.declared.failure.Failure.TheVariants.{Empty, BadShape, NoMemory}
use Rattle.ds_c.specs.Failures.{failure_number}
use Rattle.ds_c.specs.Handles.{Holds, IsEmpty, worlds}

-- a new and good sheet with these numbers of columns, rows and processes, in this layout, of which no call was answered
pub record IsMade (columns rows processes : ℕ) (edition : Edition) (v : WorldValue) : Type 0 where
  pub new : IsNew (world_of v)
  pub good : IsGood v
  pub says : Agrees (world_of v).memory edition
  pub columns_are : v.sheet.layout.shape.columns ≡ columns
  pub rows_are : v.sheet.layout.shape.rows ≡ rows
  pub processes_are : v.sheet.layout.processes ≡ processes
  pub done : v.done ≡ 0
  pub settled : v.settled ≡ 0
  pub reports : v.reports ≡ no_reports v.sheet.layout.processes (count_of v.sheet.layout.shape)

-- there may be a sheet with these numbers of columns, rows and processes
pub record MayBe (columns rows processes : ℕ) : Type 0 where
  pub shape : MayHave columns rows
  pub some : 1 ≤ processes
  pub few : processes ≤ PROCESSES_MOST

-- why there is no such world: there may be no such sheet, or an allocation failed
abbrev pub CanNotMake : ℕ → ℕ → ℕ → Failure → Type 0
CanNotMake columns rows processes BadShape = MayBe columns rows processes → ⊥
CanNotMake columns rows processes NoMemory = MayBe columns rows processes
CanNotMake columns rows processes why = ⊥

-- an empty handle gets a new world, in this layout; or it stays, for a cause that holds; or it is full, and stays
abbrev pub Makes : ℕ → ℕ → ℕ → Edition → Handle → Handle → ℕ → Type 0
Makes columns rows processes edition old new number = handles.Makes worlds (IsMade columns rows processes edition) (CanNotMake columns rows processes) old new number

-- a handle that held a world is empty; or it was empty, and stays
pub data Frees (old new : Handle) (number : ℕ) : Type 0 where
  freed : (v : WorldValue) → Holds old v → IsEmpty new → number ≡ 0 → Frees old new number
  empty : IsEmpty old → new ≡ old → number ≡ failure_number Empty → Frees old new number
