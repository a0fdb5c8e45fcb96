-- Where a write or a recovery of a register has come.
use Rattle.std.specs.Prelude.{ℕ, ◌≡◌, ◌≤◌, ◌∷◌}
use Rattle.atomic_table.specs.Table.{Me}
use Rattle.pm_base.specs.declared.history.Deed.TheVariants as deed
use Rattle.pm_board.specs.declared.board.View.{View}
use Rattle.pm_board.specs.Machines.{Breaks, Grows}
use Rattle.pm_board.specs.Views.{deeds_at}
use Rattle.pm_registers.specs.Registers.{recoveries, registers, writes}
use Rattle.pm_registers.specs.Runs.{first_write}
use Rattle.pm_registers.specs.declared.calls.WriteCall.{WriteCall}
use Rattle.pm_registers.specs.declared.calls.RecoverCall.{RecoverCall}
use Rattle.pm_registers.specs.declared.calls.RecoverStage.TheVariants as recover
use Rattle.pm_registers.specs.declared.calls.Doing.{Doing}
use Rattle.pm_registers.specs.declared.calls.Doing.TheVariants.{Idle, Writing, Recovering}
use Rattle.pm_registers.specs.declared.calls.Response.{Response}
use Rattle.pm_registers.specs.declared.calls.Response.TheVariants.{Wrote, Recalled}
use Rattle.pm_board.specs.Views.{Sits}

-- a recovery before its first step
abbrev pub first_recovery : ℕ → RecoverCall
first_recovery process = record { process = process; stage = recover.LoadAnnounce }

-- the process began the write, and was answered that it is done, after n steps, at most 7; it did nothing else, and all this
-- stands in the history that it has seen since
pub record IsWritten (old new : Me ℕ (View Doing Response)) (process value n : ℕ) : Type 0 where
  pub sits : Sits new process (Idle value)
  pub done : (deeds_at new).done ≡ deed.Response (Wrote value) ∷ deed.Began (Writing (first_write process value)) ∷ (deeds_at old).done
  pub grows : Grows process (deeds_at old) (deeds_at new) n
  pub few : n ≤ 7

-- the value that a recovery reports
abbrev pub last_of : Response → ℕ
last_of (Wrote v) = v
last_of (Recalled v had) = v

-- the process began a recovery, and was answered this, after n steps, at most 6; it did nothing else
pub record IsRecovered (old new : Me ℕ (View Doing Response)) (process : ℕ) (returned : Response) (n : ℕ) : Type 0 where
  pub sits : Sits new process (Idle (last_of returned))
  pub done : (deeds_at new).done ≡ deed.Response returned ∷ deed.Began (Recovering (first_recovery process)) ∷ (deeds_at old).done
  pub grows : Grows process (deeds_at old) (deeds_at new) n
  pub few : n ≤ 6

-- among m processes, the write was broken off after n steps: before its first step, and the seat is as it was; or the process
-- began it, was answered nothing, and did nothing else
abbrev pub BreaksWrite : ℕ → Me ℕ (View Doing Response) → Me ℕ (View Doing Response) → ℕ → ℕ → ℕ → Type 0
BreaksWrite m old new process value n = (call : WriteCall) × Breaks registers writes m (first_write process value) old new call n

-- so was a recovery
abbrev pub BreaksRecovery : ℕ → Me ℕ (View Doing Response) → Me ℕ (View Doing Response) → ℕ → ℕ → Type 0
BreaksRecovery m old new process n = (call : RecoverCall) × Breaks registers recoveries m (first_recovery process) old new call n
