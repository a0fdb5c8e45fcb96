-- Numbers of edits that are spent.
use Rattle.std.specs.Prelude.{ℕ, ◌≤◌}
use Rattle.ds_layout.specs.declared.place.Place.TheVariants.{Announce}
use Rattle.ds_layout.specs.declared.announcement.Phase.TheVariants as phase
use Rattle.ds_state.specs.World.{PlainWorld, announcement}

-- the process has announced, on the persisted side, how its edit of this number ended, or a later one
abbrev pub IsSpent : PlainWorld → ℕ → ℕ → Type 0
IsSpent w process number = announcement number phase.Done ≤ w.memory.persisted (Announce process)
