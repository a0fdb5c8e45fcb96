-- How a call on a board of a sheet ends, or is broken off.
use Rattle.std.specs.Prelude.{ℕ, ◌≡◌, ◌≤◌, ◌+◌, ◌∷◌, ◌++◌}
use Rattle.atomic_table.specs.Table.{Me}
use Rattle.ds_state.specs.declared.situation.Situation.{Situation}
use Rattle.pm_base.specs.Structures.{Calls, Came}
use Rattle.pm_base.specs.declared.history.Deed.TheVariants.{Began}
use Rattle.pm_board.specs.declared.board.View.{View}
use Rattle.pm_board.specs.Machines.{Grows, answered_so}
use Rattle.pm_board.specs.Views.{Sits, deeds_at}
use Rattle.ds_structure.specs.declared.response.Response.{Response}
use Rattle.ds_structure.specs.declared.sheet.SheetKey.{SheetKey}

-- the process began the call, and it has ended so, after n steps; those and what it has left are no more than it had left:
-- the process does what it does then, was answered what the call says then, and did nothing else
pub record Ends {C E : Type 0} (c : Calls SheetKey Situation Response C E) (first : C) (old new : Me ℕ (View Situation Response)) (call : C) (end : E) (n : ℕ) : Type 0 where
  pub ends : c.ends call end
  pub came : Came c first call
  pub sits : Sits new (c.process first) (c.doing call)
  pub done : (deeds_at new).done ≡ answered_so (c.says call) ++ (Began (c.doing first) ∷ (deeds_at old).done)
  pub grows : Grows (c.process first) (deeds_at old) (deeds_at new) n
  pub few : n + c.rank call ≤ c.rank first

-- the call was broken off after n steps, which are no more than it had left: before its first step, and the seat is as it
-- was; or where it goes on: the process is in it, began it, and did nothing else
pub data Stops {C E : Type 0} (c : Calls SheetKey Situation Response C E) (first : C) (old : Me ℕ (View Situation Response)) : Me ℕ (View Situation Response) → C → ℕ → Type 0 where
  unbegun : Stops c first old old first 0
  inside : (new : Me ℕ (View Situation Response)) (call : C) (n : ℕ) → Came c first call → c.goes call → Sits new (c.process first) (c.doing call) → (deeds_at new).done ≡ Began (c.doing first) ∷ (deeds_at old).done
      → Grows (c.process first) (deeds_at old) (deeds_at new) n → n ≤ c.rank first → Stops c first old new call n
