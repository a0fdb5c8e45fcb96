-- Where a raise of the mark has come.
use Rattle.std.specs.Prelude.{ℕ, ◌≡◌, ◌≤◌, Bool, true, false, List, [], ◌∷◌, ◌++◌}
use Rattle.atomic_table.specs.Table.{Me}
use Rattle.pm_base.specs.declared.history.Deed.{Deed}
use Rattle.pm_base.specs.declared.history.Deed.TheVariants as deed
use Rattle.pm_board.specs.declared.board.View.{View}
use Rattle.pm_board.specs.Machines.{Breaks, Grows}
use Rattle.pm_board.specs.Views.{deeds_at}
use Rattle.pm_mark.specs.Marks.{mark, raises}
use Rattle.pm_mark.specs.declared.mark.Raise.{Raise}
use Rattle.pm_mark.specs.declared.mark.Stage.TheVariants as stage
use Rattle.pm_mark.specs.declared.mark.Doing.{Doing}
use Rattle.pm_mark.specs.declared.mark.Doing.TheVariants.{Idle, Raising}
use Rattle.pm_board.specs.Views.{Sits}

-- a raise before its first step
abbrev pub first_raise : ℕ → ℕ → Raise
first_raise process value = record { process = process; value = value; stage = stage.Load }

-- what a raise that ended so is answered: that the mark has reached the value, or nothing, where another process was faster
abbrev pub says_up : ℕ → Bool → List (Deed Doing ℕ)
says_up value true = deed.Response value ∷ []
says_up value false = []

-- the process began the raise, and it ended so after n steps, at most 4; it did nothing else
pub record IsRaised (old new : Me ℕ (View Doing ℕ)) (process value : ℕ) (up : Bool) (n : ℕ) : Type 0 where
  pub sits : Sits new process Idle
  pub done : (deeds_at new).done ≡ says_up value up ++ (deed.Began (Raising (first_raise process value)) ∷ (deeds_at old).done)
  pub grows : Grows process (deeds_at old) (deeds_at new) n
  pub few : n ≤ 4

-- among m processes, the raise was broken off after n steps: before its first step, and the seat is as it was; or the process
-- began it, was answered nothing, and did nothing else
abbrev pub BreaksRaise : ℕ → Me ℕ (View Doing ℕ) → Me ℕ (View Doing ℕ) → ℕ → ℕ → ℕ → Type 0
BreaksRaise m old new process value n = (call : Raise) × Breaks mark raises m (first_raise process value) old new call n
