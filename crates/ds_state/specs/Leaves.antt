-- What a process's doing leaves: all that a rule of shared words has to know of it, whatever it was.
use Rattle.std.specs.Prelude.{ℕ, ◌≡◌, ◌≢◌, ◌<◌, ◌≤◌, ◌⊎◌, Contains}
use Rattle.ds_layout.specs.declared.place.Place.TheVariants.{Announce}
use Rattle.ds_state.specs.World.{PlainEdit, PlainWorld}
use Rattle.ds_state.specs.Spent.{IsSpent}
use Rattle.ds_state.specs.Sound.{IsSound}
use Rattle.ds_state.specs.Lasts.{Lasts}
use Rattle.ds_state.specs.Middles.{HaveMiddles}

-- the process leaves the world sound, with what lasts; each other process's situation and buffer stay, and persisted
-- announcements grow, so that spent numbers stay so; an edit that was linearized is one of the process, with a number
-- that was not spent; and where each show under way had a middle, each has one
pub record Leaves (p : ℕ) (old new : PlainWorld) : Type 0 where
  pub sound : IsSound new
  pub lasts : Lasts old new
  pub situations : (q : ℕ) → q ≢ p → new.situation q ≡ old.situation q
  pub buffers : (q : ℕ) → q ≢ p → new.memory.buffer q ≡ old.memory.buffer q
  pub announced : (q : ℕ) → old.memory.persisted (Announce q) ≤ new.memory.persisted (Announce q)
  pub came : (d : PlainEdit) → Contains new.counted d → Contains old.counted d ⊎ ((d.process ≡ p) × ((n : ℕ) → IsSpent old p n → n < d.number))
  pub middles : HaveMiddles old → HaveMiddles new
