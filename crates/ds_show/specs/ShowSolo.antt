-- A quiescent world, and a show that is alone in it.
use Rattle.std.specs.Prelude.{ℕ, ◌≡◌, ◌⊎◌, List, [], ◌∷◌}
use Rattle.ds_layout.specs.declared.place.Place.{Place}
use Rattle.ds_state.specs.World.{PlainWorld}
use Rattle.ds_state.specs.Shown.{IsQuiet}
use Rattle.ds_state.specs.Rely.{Rely}
use Rattle.ds_state.specs.Sound.{IsSound}
use Rattle.ds_show.specs.ShowRuns.{OwnStep, HasBegun}

-- beside a show that is alone, an eviction or an offer: the cached side of each word stays
pub record ShowsSame (p : ℕ) (old new : PlainWorld) : Type 0 where
  pub rely : Rely p old new
  pub cached : (r : Place) → new.memory.cached r ≡ old.memory.cached r

-- the worlds of a call that began in a quiescent world, the latest first, with no other process's steps between
abbrev pub SoloCall : ℕ → PlainWorld → List PlainWorld → Type 0
SoloCall p now [] = (b : HasBegun p now) × IsQuiet b.before
SoloCall p now (w ∷ past) = IsSound w × (OwnStep p w now ⊎ ShowsSame p w now) × SoloCall p w past
