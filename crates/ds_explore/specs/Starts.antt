-- Where orders begin, and where they end.
use Rattle.std.specs.Prelude.{ℕ, ◌≡◌, ◌≢◌, ◌^◌, ◌-◌, Bool, true, false, IsTrue, List, [], ◌++◌}
use Rattle.ds_script_stops.specs.Reaching.{EndsHere}
use Rattle.ds_explore_state.specs.declared.orders.Allowed.{Allowed}
use Rattle.ds_explore_state.specs.declared.position.Move.{Move}
use Rattle.ds_explore_state.specs.declared.position.Position.{Position}
use Rattle.ds_explore_state.specs.Buffers.{HasEmptyBuffers}
use Rattle.ds_explore_state.specs.Closed.{Order}
use Rattle.ds_explore_state.specs.Following.{HasAllDirt, KnowsBuffers}
use Rattle.ds_explore_state.specs.Orders.{IsBusy, seats_of}
use Rattle.ds_explore_state.specs.States.{all_places, groups_of, state_of}
use Rattle.ds_explore.specs.Judging.{IsJudgeOf}
use Rattle.ds_explore.specs.declared.options.Options.{Options}
use Rattle.ds_explore.specs.declared.search.Start.{Start}

-- what may come between the steps of calls, or after them
abbrev pub allowed_by : Options → Allowed
allowed_by options = record { stops = options.stops; evictions = options.evictions; crashes = options.crashes }

-- orders begin where the script ends, with what these options ask for; what buffers hold there is known where it is nothing.
-- The judge knows of that world what it judges by; the words that may be evicted are all that are followed, and all whose
-- sides differ there are among them
pub record IsStart (script : List ℕ) (options : Options) (start : Start) : Type 0 where
  pub asked : start.options ≡ options
  pub ends : EndsHere true script (2 ^ 64 - 1) start.first.world
  pub known : HasEmptyBuffers start.first.world → KnowsBuffers start.first
  pub judges : IsJudgeOf start.first.world start.judge
  pub evicts : start.touched.places.items ≡ all_places (groups_of start.touched)
  pub dirt : HasAllDirt start.first.world start.touched.places.items

-- an order may end at the position: with a crash, where crashes may come; without one, where no call is under way
abbrev pub MayEnd : Options → Position → Bool → Type 0
MayEnd options x true = IsTrue options.crashes
MayEnd options x false = (p : ℕ) → IsBusy x p → ⊥

-- an order from this start leads to a position of the same world, whose processes have the same
pub record IsLedTo (start : Start) (x : Position) : Type 0 where
  pub moves : List Move
  pub position : Position
  pub order : Order (allowed_by start.options) start.touched.places.items start.first moves position
  pub world : x.world ≡ position.world
  pub seats : seats_of x ≡ seats_of position

-- an order from this start ends there, with a crash or without one
pub record IsEnd (start : Start) (x : Position) (crashed : Bool) : Type 0 where
  pub led : IsLedTo start x
  pub may : MayEnd start.options x crashed

-- this order from this start leads to a position of the same world, whose processes have the same
pub record IsOrderTo (start : Start) (moves : List Move) (x : Position) : Type 0 where
  pub position : Position
  pub order : Order (allowed_by start.options) start.touched.places.items start.first moves position
  pub world : x.world ≡ position.world
  pub seats : seats_of x ≡ seats_of position

-- an order from this start comes to a state again: it goes on from a position to one of the same state
pub record ComesAgain (start : Start) : Type 0 where
  pub moves : List Move
  pub more : List Move
  pub x : Position
  pub y : Position
  pub order : IsOrderTo start moves x
  pub goes_on : IsOrderTo start (moves ++ more) y
  pub some : more ≢ []
  pub same : state_of (groups_of start.touched) x ≡ state_of (groups_of start.touched) y
