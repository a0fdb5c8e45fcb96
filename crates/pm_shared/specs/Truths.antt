-- What the run of a board says of what the threads were answered.
use Rattle.std.specs.Prelude.{ℕ, ◌≡◌, ◌≤◌, List, ◌∷◌, ◌++◌}
use Rattle.pm_base.specs.Structures.{In}
use Rattle.pm_base.specs.Runs.{Happened}
use Rattle.pm_base.specs.declared.history.Deed.TheVariants as deed
use Rattle.pm_base.specs.declared.history.Event.TheVariants.{Step}
use Rattle.pm_board.specs.declared.board.Seated.{Seated}
use Rattle.pm_board.specs.Rule.{HasRun, world_on}
use Rattle.pm_mark.specs.Marks.{mark}
use Rattle.pm_mark.specs.declared.mark.Doing as marks
use Rattle.pm_registers.specs.Registers.{registers}
use Rattle.pm_registers.specs.Runs.{IsTrueOf, TookEffect}
use Rattle.pm_registers.specs.declared.calls.Doing.{Doing}
use Rattle.pm_registers.specs.declared.calls.Response.{Response}
use Rattle.pm_registers.specs.declared.calls.Response.TheVariants.{Wrote}

-- whatever n processes were answered of registers, at any time, through closes, crashes and openings: a value that was written
-- is one that its register has had for good, and a value that a recovery recalled is, exactly where it said so
abbrev pub SharedRegistersTellTheTruth : ℕ → Type 0
SharedRegistersTellTheTruth n = (words : List ℕ) (known : List (Seated Doing Response)) → (h : HasRun registers n words known) → (e : Seated Doing Response) (t : Response) → In known e → In e.deeds.done (deed.Response t) → IsTrueOf (world_on registers n words h.witness) e.process t

-- whatever n processes were answered of the mark: its persisted side has reached it, and stays there
abbrev pub SharedMarksTellTheTruth : ℕ → Type 0
SharedMarksTellTheTruth n = (words : List ℕ) (known : List (Seated marks.Doing ℕ)) → (h : HasRun mark n words known) → (e : Seated marks.Doing ℕ) (v : ℕ) → In known e → In e.deeds.done (deed.Response v) → v ≤ (world_on mark n words h.witness).memory.persisted 0

-- the answer stands in what happened at a step of the process, before which its write took effect
pub record IsLinearized (n : ℕ) (happened : List (Happened registers n)) (p v : ℕ) : Type 0 where
  pub later : List (Happened registers n)
  pub answer : Happened registers n
  pub before : List (Happened registers n)
  pub parts : happened ≡ later ++ (answer ∷ before)
  pub steps : answer.entry.event ≡ Step p
  pub tells : In answer.entry.responses (Wrote v)
  pub effect : TookEffect n before p v

-- so it is with each write that a thread was answered, in the run of its board
abbrev pub SharedWritesLinearize : ℕ → Type 0
SharedWritesLinearize n = (words : List ℕ) (known : List (Seated Doing Response)) → (h : HasRun registers n words known) → (e : Seated Doing Response) (v : ℕ) → In known e → In e.deeds.done (deed.Response (Wrote v)) → IsLinearized n h.happened e.process v
