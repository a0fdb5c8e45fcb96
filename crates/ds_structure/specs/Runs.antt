-- What each run of a sheet as a structure tells.
use Rattle.std.specs.Prelude.{ℕ, List}
use Rattle.pm_base.specs.Structures.{In}
use Rattle.pm_base.specs.Runs.{Happened, Run, IsNew, deeds_by, history_of}
use Rattle.pm_base.specs.declared.history.Deed.TheVariants as deed
use Rattle.ds_structure.specs.Sheet.{SheetWorld, plain, IsWell, IsTrue, sheet}
use Rattle.ds_structure.specs.declared.response.Response.{Response}
use Rattle.ds_structure.specs.declared.sheet.SheetKey.{SheetKey}

-- a sheet's world after a run is sound, and what processes were answered in the run is true of it
pub record TellsTheTruth (key : SheetKey) (hs : List (Happened sheet key)) (last : SheetWorld) : Type 0 where
  pub well : IsWell (plain key last)
  pub answers : (p : ℕ) (t : Response) → In (deeds_by p (history_of sheet key hs)) (deed.Response t) → IsTrue (plain key last) last.hidden.before_crashes p t

-- so it is after each run from a new sheet
abbrev pub RunsTellTheTruth : SheetKey → Type 0
RunsTellTheTruth key = (first last : SheetWorld) (hs : List (Happened sheet key)) → IsNew sheet key first → Run sheet key first hs last → TellsTheTruth key hs last
