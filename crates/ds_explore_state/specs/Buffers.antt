-- At which stages of its call a process has an empty buffer.
use Rattle.std.specs.Prelude.{ℕ, ◌≡◌, ◌<◌, ◌≤◌, []}
use Rattle.ds_layout.specs.SheetMemory.{memory}
use Rattle.ds_state.specs.CallsFit.{held_at}
use Rattle.ds_state.specs.CallsFit as edits
use Rattle.ds_state.specs.KnownWork.{work_held}
use Rattle.ds_state.specs.KnownWork as works
use Rattle.ds_state.specs.KnownRecovery.{recovery_held}
use Rattle.ds_state.specs.KnownRecovery as recoveries
use Rattle.ds_state.specs.Edits.{text_parts}
use Rattle.ds_state.specs.Value.{WorldValue, world_of}
use Rattle.ds_state.specs.declared.migration.MigrateStage.{MigrateStage}
use Rattle.ds_state.specs.declared.migration.MigrateStage.TheVariants.{BackNew, BackVersion}
use Rattle.ds_state.specs.declared.situation.Situation.{Situation}
use Rattle.ds_state.specs.declared.situation.Situation.TheVariants.{Editing, Working, Recovering, Migrating}

-- a migration has an empty buffer at this stage: it has flushed nothing that is not written back
abbrev pub MigratesEmpty : MigrateStage → Type 0
MigratesEmpty (BackNew at) = ⊥
MigratesEmpty (BackVersion how) = ⊥
MigratesEmpty _ = Unit {0}

-- a process in this situation has an empty buffer: before a call's first step, say, and at each point that scripts name
abbrev pub HasEmptyBuffer : Situation → Type 0
HasEmptyBuffer (Editing e) = held_at (text_parts e.text) e.refs e.stage ≡ edits.empty
HasEmptyBuffer (Working e) = work_held e e.stage ≡ works.empty
HasEmptyBuffer (Recovering e) = recovery_held e.cell e.stage ≡ recoveries.empty
HasEmptyBuffer (Migrating e) = MigratesEmpty e.stage
HasEmptyBuffer _ = Unit {0}

-- a world in which no process stands between a flush and its write-back: each is at rest, before a call's first step, or at
-- a point that scripts name, say; and in which there are no buffers but those of its processes
pub record HasEmptyBuffers (w : WorldValue) : Type 0 where
  pub empty : (p : ℕ) → p < w.sheet.layout.processes → HasEmptyBuffer ((world_of w).situation p)
  pub others : (q : ℕ) → w.sheet.layout.processes ≤ q → (memory w.sheet).buffer q ≡ []
