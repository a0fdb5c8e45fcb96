-- Positions that differ from a first one in what is followed alone.
use Rattle.std.specs.Prelude.{ℕ, ◌≡◌, ◌≢◌, List, Option, Some, None, length, slice_get, slice_index_or}
use Rattle.std.specs.List.{AllByRecursion}
use Rattle.ds_layout.specs.declared.place.Place.{Place}
use Rattle.ds_layout.specs.SheetMemory.{memory}
use Rattle.ds_state.specs.Value.{WorldValue, IsGood}
use Rattle.ds_explore_state.specs.declared.position.Move.{Move}
use Rattle.ds_explore_state.specs.declared.position.Move.TheVariants.{Step, Stop, Evict}
use Rattle.ds_explore_state.specs.declared.position.Position.{Position}
use Rattle.ds_explore_state.specs.States.{PlainSeat}
use Rattle.ds_explore_state.specs.Orders.{HasDirt, IsBusy, no_seat, seats_of}

-- the place is in none of the groups
abbrev pub IsOff : List (List Place) → Place → Type 0
IsOff groups r = AllByRecursion (AllByRecursion (λ place. r ≢ place)) groups

-- the place, if it is one, is in one of the groups
abbrev pub IsWithin : List (List Place) → Option Place → Type 0
IsWithin groups written = (place : Place) → written ≡ Some place → IsOff groups place → ⊥

-- the second world is a good one of the same sheet; outside of the groups its words are those of the first; and its
-- processes' buffers hold just what they are known to hold
pub record Follows (groups : List (List Place)) (v w : WorldValue) (seats : List PlainSeat) : Type 0 where
  pub layout : w.sheet.layout ≡ v.sheet.layout
  pub good : IsGood w
  pub count : length seats ≡ w.sheet.layout.processes
  pub cached : (r : Place) → IsOff groups r → (memory w.sheet).cached r ≡ (memory v.sheet).cached r
  pub persisted : (r : Place) → IsOff groups r → (memory w.sheet).persisted r ≡ (memory v.sheet).persisted r
  pub buffers : (q : ℕ) → (memory w.sheet).buffer q ≡ (slice_index_or seats q no_seat).buffer

-- the same of positions
abbrev pub IsFollowed : List (List Place) → Position → Position → Type 0
IsFollowed groups first x = Follows groups first.world x.world (seats_of x)

-- the buffers of the position's processes hold just what it says of them
abbrev pub KnowsBuffers : Position → Type 0
KnowsBuffers x = (q : ℕ) → (memory x.world.sheet).buffer q ≡ (slice_index_or (seats_of x) q no_seat).buffer

-- the position differs from the first one in what is followed alone, where the first one's buffers are known
abbrev pub IsKept : List (List Place) → Position → Position → Type 0
IsKept groups first x = KnowsBuffers first → IsFollowed groups first x

-- this can happen at the position
abbrev pub CanHappen : Position → Move → Type 0
CanHappen x (Step p) = IsBusy x p
CanHappen x (Stop p) = IsBusy x p
CanHappen x (Evict place) = HasDirt x.world place

-- each word whose sides differ is at one of these places
abbrev pub HasAllDirt : WorldValue → List Place → Type 0
HasAllDirt w places = (place : Place) → HasDirt w place → (i : ℕ) × (slice_get places i ≡ Some place)
