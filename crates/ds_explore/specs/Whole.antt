-- The states that an exploration went through, and what is written of the orders that end in them.
use Rattle.std.specs.Prelude.{ℕ, ◌≡◌, ◌<◌, ◌≤◌, ◌+◌, ◌++◌, ◌-◌, ◌⊎◌, ◌^◌, Bool, true, false, IsFalse, IsTrue, List, [], Some, length, slice_get, slice_index_or}
use Rattle.ds_formula.specs.Limits.{INPUT_MOST}
use Rattle.ds_script_stops.specs.StopBlocks.{BreaksBefore}
use Rattle.ds_script_stops.specs.declared.reach.Short.{Short}
use Rattle.ds_script_stops.specs.declared.reach.Short.TheVariants as shorts
use Rattle.ds_explore_state.specs.declared.states.States.{States}
use Rattle.ds_explore_state.specs.States.{groups_of}
use Rattle.ds_paths.specs.declared.graph.Edge.{Edge}
use Rattle.ds_paths.specs.Paths.{IsCount}
use Rattle.ds_explore_state.specs.declared.choices.Choice.{Choice}
use Rattle.ds_explore_state.specs.Closed.{HasNumber, Order, keys_of}
use Rattle.ds_explore_state.specs.Orders.{IsBusy}
use Rattle.ds_explore_state.specs.Drawn.{IsDrawn, IsGraph, IsPath}
use Rattle.ds_explore_state.specs.Following.{KnowsBuffers}
use Rattle.ds_explore_state.specs.declared.position.Move.{Move}
use Rattle.ds_explore_state.specs.declared.position.Position.{Position}
use Rattle.ds_explore.specs.declared.judge.Judge.{Judge}
use Rattle.ds_explore.specs.declared.exploration.Exploration.{Exploration}
use Rattle.ds_explore.specs.declared.exploration.Outcome.{Outcome}
use Rattle.ds_explore.specs.declared.exploration.Unexplored.{Unexplored}
use Rattle.ds_explore.specs.declared.exploration.Unexplored.TheVariants as unexplored
use Rattle.ds_explore.specs.declared.explore.ExploreEnd.{ExploreEnd}
use Rattle.ds_explore.specs.declared.explore.ExploreEnd.TheVariants as ends
use Rattle.ds_explore.specs.declared.options.Options.{Options}
use Rattle.ds_explore.specs.declared.outcomes.Finding.{Finding}
use Rattle.ds_explore.specs.declared.search.Start.{Start}
use Rattle.ds_explore.specs.Judging.{ComesTo}
use Rattle.ds_explore.specs.Starts.{ComesAgain, IsLedTo, IsOrderTo, IsStart, allowed_by}
use Rattle.ds_explore.specs.Explored.{AreOutcomes, exploration_text, key_text, wrong_in}

-- what an order comes to that ends at a position, with a crash there or without one, is the outcome with this number, of those
-- with these keys
pub record IsAmong (judge : Judge) (keys : List (List ℕ)) (x : Position) (crashed : Bool) (number : ℕ) : Type 0 where
  pub found : Finding
  pub comes : ComesTo judge x crashed found
  pub there : slice_get keys number ≡ Some (key_text found)

-- the graph of the states: its edges are just what may come next in an order, with evictions of the words that are followed;
-- it leads to the outcomes with these keys
abbrev pub HasGraph : Start → List (List ℕ) → States → List (Edge Choice) → Type 0
HasGraph start keys states edges = IsGraph states (groups_of start.touched) (IsAmong start.judge keys) (allowed_by start.options) start.touched.places.items start.first edges

-- every order of what may happen is a path in the graph, and wherever it ends, with its end it is one to the vertex of what it
-- comes to: of a position that is alike, or of one of which a crash leaves the same. It is so where it is known what the
-- buffers hold at first: where that is nothing, say
abbrev pub EveryOrderIsPath : Start → List (List ℕ) → States → List (Edge Choice) → Type 0
EveryOrderIsPath start keys states edges = KnowsBuffers start.first → (moves : List Move) (y : Position) → Order (allowed_by start.options) start.touched.places.items start.first moves y
    → IsPath states (groups_of start.touched) (IsAmong start.judge keys) (allowed_by start.options) start.touched.places.items start.first edges moves y

-- the vertices of outcomes follow those of as many states: the orders of each outcome are the paths to its vertex
abbrev pub AreOrders : List (Edge Choice) → ℕ → List Outcome → Type 0
AreOrders edges states outcomes = (n : ℕ) (d : Outcome) → n < length outcomes → IsCount edges (states + n) (slice_index_or outcomes n d).orders

-- all orders from this start were gone through: the states that were found are all, and the outcomes with these keys are all;
-- where no order comes to a state again, the orders of each outcome are counted
pub record GoesThrough (start : Start) (keys : List (List ℕ)) (exploration : Exploration) : Type 0 where
  pub states : States
  pub edges : List (Edge Choice)
  pub graph : HasGraph start keys states edges
  pub orders : EveryOrderIsPath start keys states edges
  pub counted : exploration.states ≡ length (keys_of states)
  pub numbers : IsFalse exploration.is_endless → AreOrders edges exploration.states exploration.outcomes.items

-- an order comes to the state with this number; and what one comes to that ends there, where no call is under way, is one of the
-- outcomes with these keys
pub record IsMet (start : Start) (keys : List (List ℕ)) (states : States) (number : ℕ) : Type 0 where
  pub position : Position
  pub led : IsLedTo start position
  pub has : HasNumber states (groups_of start.touched) position number
  pub rests : ((p : ℕ) → IsBusy position p → ⊥) → (outcome : ℕ) × IsAmong start.judge keys position false outcome

-- the state with this number was gone through: all that may come next there leads to one of the states, and what orders come
-- to that end there, with a crash or without one, is one of the outcomes with these keys
abbrev pub IsGoneThrough : Start → List (List ℕ) → States → List (Edge Choice) → ℕ → Type 0
IsGoneThrough start keys states edges number = IsDrawn states (groups_of start.touched) (IsAmong start.judge keys) (allowed_by start.options) start.touched.places.items start.first edges number

-- the state with this number is on the way: it is that of a position to which the first events of this order lead
pub record IsOnWay (start : Start) (states : States) (way : List Move) (number : ℕ) : Type 0 where
  pub before : List Move
  pub after : List Move
  pub parts : way ≡ before ++ after
  pub position : Position
  pub leads : IsOrderTo start before position
  pub has : HasNumber states (groups_of start.touched) position number

-- each state was gone through, but for those on one way
pub record AreGoneThrough (start : Start) (keys : List (List ℕ)) (states : States) : Type 0 where
  pub edges : List (Edge Choice)
  pub way : List Move
  pub each : (number : ℕ) → number < length (keys_of states) → IsGoneThrough start keys states edges number ⊎ IsOnWay start states way number

-- there were as many states as may be gone through: orders come to each of them, and of each in which they end the outcome is
-- one of those with these keys; and each was gone through, but for those on one way
pub record IsCut (start : Start) (keys : List (List ℕ)) (exploration : Exploration) : Type 0 where
  pub states : States
  pub counted : exploration.states ≡ length (keys_of states)
  pub met : (number : ℕ) → number < exploration.states → IsMet start keys states number
  pub gone : AreGoneThrough start keys states

-- ---- explorations

-- an exploration of the script: outcomes, no two the same, of orders that begin where the script ends; where it is not cut,
-- these are the outcomes of all orders; else there were as many states as may be gone through. It is endless only where an
-- order comes to a state again
pub record IsExploration (script : List ℕ) (options : Options) (exploration : Exploration) : Type 0 where
  pub start : Start
  pub begins : IsStart script options start
  pub keys : List (List ℕ)
  pub outcomes : AreOutcomes script start keys exploration.outcomes.items
  pub through : IsFalse exploration.is_cut → GoesThrough start keys exploration
  pub cut : IsTrue exploration.is_cut → options.most ≤ exploration.states
  pub found : IsTrue exploration.is_cut → IsCut start keys exploration
  pub endless : IsTrue exploration.is_endless → ComesAgain start

-- why there is no exploration, where the script does not end
abbrev pub lacks_by : Short → Unexplored
lacks_by (shorts.Fault line kind) = unexplored.Fault line kind
lacks_by shorts.Ended = unexplored.NoMemory
lacks_by shorts.NoMemory = unexplored.NoMemory

-- there is no exploration: the script has a fault, or is too long; or one that was found is, or memory lacks
abbrev pub LacksExploration : List ℕ → Unexplored → Type 0
LacksExploration script (unexplored.Fault line kind) = BreaksBefore true script (2 ^ 64 - 1) line kind
LacksExploration script unexplored.TooLong = INPUT_MOST < length script
LacksExploration script unexplored.FoundTooLong = Unit {0}
LacksExploration script unexplored.NoMemory = Unit {0}

-- ---- all that is written

-- the text of an exploration of the script, by whether it is cut, and whether something is wrong
pub record Writes (script : List ℕ) (options : Options) (cut wrong : Bool) (out : List ℕ) : Type 0 where
  pub exploration : Exploration
  pub explores : IsExploration script options exploration
  pub is_cut : exploration.is_cut ≡ cut
  pub is_wrong : wrong_in exploration ≡ wrong
  pub is : out ≡ exploration_text exploration

-- what is written for a script and these options, by how its exploration ends
abbrev pub Explores : List ℕ → Options → List ℕ → ExploreEnd → Type 0
Explores script options out ends.Ended = Writes script options false false out
Explores script options out ends.Wrong = Writes script options false true out
Explores script options out ends.TooManyStates = (wrong : Bool) × Writes script options true wrong out
Explores script options out (ends.Fault line kind) = (out ≡ []) × BreaksBefore true script (2 ^ 64 - 1) line kind
Explores script options out ends.TooLong = (out ≡ []) × (INPUT_MOST < length script)
Explores script options out ends.FoundTooLong = out ≡ []
Explores script options out ends.NoMemory = out ≡ []
Explores script options out ends.WriteFailed = Unit {0}
