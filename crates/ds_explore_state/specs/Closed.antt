-- The states that were found, where what may happen leads, and orders.
use Rattle.std.specs.Prelude.{ℕ, ◌≡◌, ◌<◌, ◌++◌, Bool, true, false, List, [], ◌∷◌, All, IfSome, IsTrue, Some, length, map, slice_get, slice_index_or}
use Rattle.ds_layout.specs.declared.place.Place.{Place}
use Rattle.ds_explore_state.specs.declared.orders.Allowed.{Allowed}
use Rattle.ds_explore_state.specs.declared.position.Move.{Move}
use Rattle.ds_explore_state.specs.declared.position.Position.{Position}
use Rattle.ds_explore_state.specs.declared.keys.Keys.{Keys}
use Rattle.ds_explore_state.specs.declared.states.States.{States}
use Rattle.ds_explore_state.specs.States.{IsKey, crashed_state_of, state_of}
use Rattle.ds_explore_state.specs.declared.closure.Visit.{Visit}
use Rattle.ds_explore_state.specs.Alike.{ArePositionsAlike, LeaveAlike}
use Rattle.ds_explore_state.specs.Following.{IsFollowed, IsKept}
use Rattle.ds_explore_state.specs.Orders.{Happens, IsBusy, MayHappen}

-- keys, by their numbers
abbrev pub keys_in : Keys → List (List ℕ)
keys_in keys = map (λ key. key.items) keys.all.items

-- the keys of the states, by their numbers
abbrev pub keys_of : States → List (List ℕ)
keys_of states = keys_in states.keys

module _ (states : States) (groups : List (List Place)) where
  -- the state of the position has this number
  pub record HasNumber (x : Position) (number : ℕ) : Type 0 where
    pub key : List ℕ
    pub there : slice_get (keys_of states) number ≡ Some key
    pub is : IsKey states.numbers key (state_of groups x)

  -- that this happens at the position leads to the state with this number, and writes words of the groups alone
  pub record LeadsTo (x : Position) (move : Move) (number : ℕ) : Type 0 where
    pub position : Position
    pub happens : Happens x move position
    pub has : HasNumber position number
    pub follows : (first : Position) → IsFollowed groups first x → IsFollowed groups first position

-- A predicate says of a position whether what an order comes to that ends there is written, with a crash or without one.
module _ (groups : List (List Place)) (written : Position → Bool → Type 0) where
  -- a crash at the position leaves the same state as a crash at another one, of which it is written what that comes to
  pub record IsCrashWritten (first x : Position) : Type 0 where
    pub position : Position
    pub kept : IsKept groups first position
    pub same : crashed_state_of groups position ≡ crashed_state_of groups x
    pub is : written position true

module _ (states : States) (groups : List (List Place)) (written : Position → Bool → Type 0) where
  -- the key is that of a state which a crash leaves, of which it is written what the crash comes to
  pub record IsKeyWritten (first : Position) (key : List ℕ) : Type 0 where
    pub position : Position
    pub kept : IsKept groups first position
    pub is_key : IsKey states.numbers key (crashed_state_of groups position)
    pub is : written position true

-- each position that is visited is kept
abbrev pub AreKept : List (List Place) → Position → List Visit → Type 0
AreKept groups first visits = All (λ visit. IfSome visit.position (IsKept groups first)) visits

-- an order of what may happen, with evictions of these words, from the first position to another one
pub data Order (allowed : Allowed) (places : List Place) (first : Position) : List Move → Position → Type 0 where
  no_move : Order allowed places first [] first
  one_move_more : (moves : List Move) (move : Move) (x y : Position) → Order allowed places first moves x → MayHappen allowed places x move → Happens x move y
      → Order allowed places first (moves ++ move ∷ []) y

-- what an order comes to that ends at the position, where no call is under way, is written of a position that is alike
pub record IsRestWritten (written : Position → Bool → Type 0) (y : Position) : Type 0 where
  pub position : Position
  pub alike : ArePositionsAlike position y
  pub is : written position false

-- what an order comes to that ends at the position with a crash is written of a position of which a crash leaves the same
pub record IsLossWritten (written : Position → Bool → Type 0) (y : Position) : Type 0 where
  pub position : Position
  pub alike : LeaveAlike position y
  pub is : written position true
