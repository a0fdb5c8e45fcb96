-- Events that are no process's, from world to world.
use Rattle.std.specs.Prelude.{ℕ, ◌≡◌}
use Rattle.ds_words.specs.Memory.{EvictsAt}
use Rattle.ds_layout.specs.declared.place.Place.{Place}
use Rattle.ds_state.specs.World.{PlainWorld}

-- a word is evicted, and nothing else happens
pub record Evicts (place : Place) (old new : PlainWorld) : Type 0 where
  pub layout : new.layout ≡ old.layout
  pub memory : EvictsAt place old.memory new.memory
  pub situation : (q : ℕ) → new.situation q ≡ old.situation q
  pub counted : new.counted ≡ old.counted
  pub open_edits : (q : ℕ) → new.open_edits q ≡ old.open_edits q
