-- The middle of a show: the sound world, of those of its call, that it speaks of.
use Rattle.std.specs.Prelude.{ℕ, ◌≡◌, ◌<◌, ◌≤◌, ◌==◌, ◌++◌, List, Contains, if◌then◌else◌}
use Rattle.ds_layout.specs.declared.place.Place.TheVariants as place
use Rattle.ds_state.specs.Works.{PlainShowCall}
use Rattle.ds_state.specs.World.{PlainEdit, PlainWorld}
use Rattle.ds_state.specs.Lasts.{Lasts}
use Rattle.ds_state.specs.Sound.{IsSound}
use Rattle.ds_state.specs.KnownShow.{noted, moment_of, ShowFitsAt}
use Rattle.ds_state.specs.declared.situation.Situation.TheVariants.{Showing}

-- the middle of a show of p's, from its begin on, which left `first`: a sound world of the time between that and
-- now, with each of p's linearized edits now. All that the show knows is so with its words as the moment of which it
-- speaks: where its first collect is through, and it has not ended at a mark or an announcement, it speaks of that
pub record Middle (first w : PlainWorld) (p : ℕ) (e : PlainShowCall) (mid : PlainWorld) : Type 0 where
  pub sound : IsSound mid
  pub since : Lasts first mid
  pub lasts : Lasts mid w
  pub own : (d : PlainEdit) → d.process ≡ p → Contains w.counted d → Contains mid.counted d
  pub fits : ShowFitsAt w p e (moment_of mid)

-- a middle for each show that is under way
abbrev pub Middles : (ℕ → PlainWorld) → (ℕ → PlainWorld) → PlainWorld → Type 0
Middles firsts mids w = (p : ℕ) → p < w.layout.processes → (e : PlainShowCall) → w.situation p ≡ Showing e → Middle (firsts p) w p e (mids p)

-- some middle for each show that is under way
abbrev pub HaveMiddles : PlainWorld → Type 0
HaveMiddles w = (firsts : (ℕ → PlainWorld)) × (mids : (ℕ → PlainWorld)) × Middles firsts mids w

-- the same worlds, but for one process's
abbrev pub but_for : (ℕ → PlainWorld) → ℕ → PlainWorld → ℕ → PlainWorld
but_for worlds p w q = if q == p then w else worlds q

-- what is so of the middle of a show of p's that has seen n marks and announcements again: its marks and
-- announcements are no smaller than the noted ones, and no greater than those of now; a cell's value and kind there
-- are those of now, where its mark is the noted one now; each mark that was seen again is there as it was noted, with
-- the noted value and kind, and so is each announcement; the linearized edits there are a front of those that are
-- linearized now, with each that was linearized at the show's begin, and each of p's that is linearized now
pub record IsMiddle (first w : PlainWorld) (p : ℕ) (e : PlainShowCall) (again_marks again : ℕ) (mid : PlainWorld) : Type 0 where
  pub sound : IsSound mid
  pub layout : mid.layout ≡ w.layout
  pub marks_from : (c : ℕ) → c < e.cells → noted e.marks c ≤ mid.memory.cached (place.Mark c)
  pub marks_to : (c : ℕ) → mid.memory.cached (place.Mark c) ≤ w.memory.cached (place.Mark c)
  pub announced_from : (q : ℕ) → q < e.processes → noted e.announcements q ≤ mid.memory.cached (place.Announce q)
  pub announced_to : (q : ℕ) → mid.memory.cached (place.Announce q) ≤ w.memory.cached (place.Announce q)
  pub values : (c : ℕ) → c < e.cells → w.memory.cached (place.Mark c) ≡ noted e.marks c
      → (mid.memory.cached (place.Value c) ≡ w.memory.cached (place.Value c)) × (mid.memory.cached (place.Kind c) ≡ w.memory.cached (place.Kind c))
  pub mark : (c : ℕ) → c < again_marks → mid.memory.cached (place.Mark c) ≡ noted e.marks c
  pub value : (c : ℕ) → c < again_marks → mid.memory.cached (place.Value c) ≡ noted e.values c
  pub kind : (c : ℕ) → c < again_marks → mid.memory.cached (place.Kind c) ≡ noted e.kinds c
  pub announcement : (q : ℕ) → q < again → mid.memory.cached (place.Announce q) ≡ noted e.announcements q
  pub more : List PlainEdit
  pub counted : w.counted ≡ mid.counted ++ more
  pub begun : (d : PlainEdit) → Contains first.counted d → Contains mid.counted d
  pub own : (d : PlainEdit) → d.process ≡ p → Contains w.counted d → Contains mid.counted d
