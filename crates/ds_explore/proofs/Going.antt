-- What is known where all orders are said to be gone through.
use Rattle.std.proofs.Common.{ℕ, ◌≡◌, ◌<◌, ◌≤◌, ◌+◌, ◌∙◌, Bool, true, false, true≢false, List, arith, get_or, length, subst, sym}
use Rattle.std.specs.Prelude.{IsFalse, IsTrue}
use Rattle.ds_paths.specs.declared.graph.Edge.{Edge}
use Rattle.ds_paths.specs.Paths.{AreCounts, IsCount}
use Rattle.ds_explore_state.specs.declared.choices.Choice.{Choice}
use Rattle.ds_explore_state.specs.Closed.{keys_of}
use Rattle.ds_explore_state.specs.Following.{IsKept}
use Rattle.ds_explore_state.specs.States.{groups_of}
use Rattle.ds_explore_state.specs.declared.states.States.{States}
use Rattle.ds_explore_state.proofs.Ordered.{order_is_path}
use Rattle.ds_explore.specs.declared.exploration.Exploration.{Exploration}
use Rattle.ds_explore.specs.declared.exploration.Outcome.{Outcome}
use Rattle.ds_explore.specs.declared.options.Options.{Options}
use Rattle.ds_explore.specs.declared.search.Start.{Start}
use Rattle.ds_explore.specs.Explored.{AreOutcomes, end_of, exploration_text, wrong_in}
use Rattle.ds_explore.specs.Starts.{ComesAgain, IsStart, allowed_by}
use Rattle.ds_explore.specs.Whole.{AreOrders, Explores, GoesThrough, HasGraph, IsAmong, IsCut, IsExploration, Writes}

-- where there is a graph of the states, every order is a path in it
pub goes_through : (start : Start) (keys : List (List ℕ)) (found : States) (edges : List (Edge Choice)) (e : Exploration) → e.states ≡ length (keys_of found) → HasGraph start keys found edges → IsKept (groups_of start.touched) start.first start.first
    → (IsFalse e.is_endless → AreOrders edges e.states e.outcomes.items) → GoesThrough start keys e
goes_through start keys found edges e counted graph kept numbers = record {
  states = found;
  edges = edges;
  graph = graph;
  orders = λ known moves y order. order_is_path found (groups_of start.touched) (IsAmong start.judge keys) (allowed_by start.options) start.touched.places.items start.first edges graph kept known moves y order;
  counted = counted;
  numbers = numbers;
}

-- an exploration whose search was cut
pub exploration_cut : (script : List ℕ) (options : Options) (start : Start) (keys : List (List ℕ)) (e : Exploration) → IsStart script options start → AreOutcomes script start keys e.outcomes.items → e.is_cut ≡ true → start.options.most ≤ e.states → IsCut start keys e
    → (IsTrue e.is_endless → ComesAgain start) → IsExploration script options e
exploration_cut script options start keys e begins are cut most found again = record {
  start = start;
  begins = begins;
  keys = keys;
  outcomes = are;
  through = λ whole. absurd (true≢false (sym cut ∙ whole));
  cut = λ is. subst (λ (o : Options). o.most ≤ e.states) begins.asked most;
  found = λ is. found;
  endless = again;
}

-- an exploration of all orders
pub exploration_whole : (script : List ℕ) (options : Options) (start : Start) (keys : List (List ℕ)) (e : Exploration) → IsStart script options start → AreOutcomes script start keys e.outcomes.items → e.is_cut ≡ false → GoesThrough start keys e
    → (IsTrue e.is_endless → ComesAgain start) → IsExploration script options e
exploration_whole script options start keys e begins are whole through again = record {
  start = start;
  begins = begins;
  keys = keys;
  outcomes = are;
  through = λ is. through;
  cut = λ cut. absurd (true≢false (sym cut ∙ whole));
  found = λ cut. absurd (true≢false (sym cut ∙ whole));
  endless = again;
}

-- of each outcome that stands after the states the number is that of its orders
pub orders_by : (edges : List (Edge Choice)) (counts : List ℕ) (states : ℕ) (outcomes : List Outcome) → AreCounts edges counts → length counts ≡ states + length outcomes → ((n : ℕ) (d : Outcome) → n < length outcomes → get_or counts (states + n) 0 ≡ (get_or outcomes n d).orders) → AreOrders edges states outcomes
orders_by edges counts states outcomes are long same n d low =
    subst (λ (k : ℕ). IsCount edges (states + n) k) (same n d low) (are (states + n) (omega (arith, low, long)))

-- what is written of it, by how it ends
pub explores_of : (script : List ℕ) (options : Options) (e : Exploration) (cut wrong : Bool) (out : List ℕ) → IsExploration script options e → e.is_cut ≡ cut → wrong_in e ≡ wrong → out ≡ exploration_text e → Explores script options out (end_of cut wrong)
explores_of script options e true wrong out is c w text = (wrong, record { exploration = e; explores = is; is_cut = c; is_wrong = w; is = text })
explores_of script options e false true out is c w text = record { exploration = e; explores = is; is_cut = c; is_wrong = w; is = text }
explores_of script options e false false out is c w text = record { exploration = e; explores = is; is_cut = c; is_wrong = w; is = text }
