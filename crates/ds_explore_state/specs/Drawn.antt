-- The graph of the states that were found: what may come next in an order, and where that leads.
use Rattle.std.specs.Prelude.{ℕ, ◌≡◌, ◌≢◌, ◌<◌, ◌+◌, ◌++◌, ◌↔◌, Bool, true, false, List, [], ◌∷◌, All, AllPairs, Contains, IsTrue, Some, length, map, slice_get, slice_index_or}
use Rattle.ds_paths.specs.declared.graph.Edge.{Edge}
use Rattle.ds_paths.specs.Paths.{AreApart, Path}
use Rattle.ds_layout.specs.declared.place.Place.{Place}
use Rattle.ds_explore_state.specs.declared.choices.Choice.{Choice}
use Rattle.ds_explore_state.specs.declared.choices.Choice.TheVariants.{Happens, Rests, Crashes}
use Rattle.ds_explore_state.specs.declared.orders.Allowed.{Allowed}
use Rattle.ds_explore_state.specs.declared.position.Move.{Move}
use Rattle.ds_explore_state.specs.declared.position.Move.TheVariants.{Step, Stop, Evict}
use Rattle.ds_explore_state.specs.declared.position.Position.{Position}
use Rattle.ds_explore_state.specs.declared.states.States.{States}
use Rattle.ds_explore_state.specs.declared.endings.CrashOutcomes.{CrashOutcomes}
use Rattle.ds_explore_state.specs.Alike.{ArePositionsAlike}
use Rattle.ds_explore_state.specs.Closed.{HasNumber, IsCrashWritten, IsKeyWritten, IsLossWritten, IsRestWritten, LeadsTo, keys_in, keys_of}
use Rattle.ds_explore_state.specs.Following.{IsKept}
use Rattle.ds_explore_state.specs.Orders.{HasDirt, IsBusy, MayHappen}

-- an eviction is of one of these words
abbrev pub IsOf : List Place → Move → Type 0
IsOf places (Evict place) = (i : ℕ) × (slice_get places i ≡ Some place)
IsOf places move = Unit {0}

-- this may happen, of the evictions those of any words
abbrev pub CanCome : Allowed → Position → Move → Type 0
CanCome allowed x (Step p) = IsBusy x p
CanCome allowed x (Stop p) = IsTrue allowed.stops × IsBusy x p
CanCome allowed x (Evict place) = IsTrue allowed.evictions × HasDirt x.world place × ((p : ℕ) × IsBusy x p)

-- all that may happen while there are as many processes, with evictions of these words
pub record AreMoves (processes : ℕ) (places : List Place) (moves : List Move) : Type 0 where
  pub each : All (IsOf places) moves
  pub steps : (p : ℕ) → p < processes → Contains moves (Step p)
  pub stops : (p : ℕ) → p < processes → Contains moves (Stop p)
  pub evictions : (i : ℕ) (place : Place) → slice_get places i ≡ Some place → Contains moves (Evict place)

-- one of the edges has this label
abbrev pub HasLabel : List (Edge Choice) → Choice → Type 0
HasLabel edges choice = (edge : Edge Choice) × Contains edges edge × (edge.by ≡ choice)

-- edges of which this is so are added; where it may come next, one of them has this label
pub record Adds (P : Edge Choice → Type 0) (may : Type 0) (choice : Choice) (old new : List (Edge Choice)) : Type 0 where
  pub added : List (Edge Choice)
  pub is : new ≡ old ++ added
  pub each : All P added
  pub has : may → HasLabel added choice

-- of these edges just those leave the vertex
abbrev pub AreThose : List (Edge Choice) → ℕ → List (Edge Choice) → Type 0
AreThose edges number leaving = (edge : Edge Choice) → edge.from ≡ number → Contains edges edge ↔ Contains leaving edge

module _ (states : States) (groups : List (List Place)) (allowed : Allowed) (places : List Place) where
  -- this may happen at the position, and leads to the state with this number
  abbrev pub IsNext : Position → Choice → ℕ → Type 0
  IsNext x (Happens move) number = MayHappen allowed places x move × LeadsTo states groups x move number
  IsNext x choice number = ⊥

  -- the edge leaves the vertex of the position's state: this may happen there, and leads to the state that it enters
  abbrev pub IsNextEdge : Position → ℕ → Edge Choice → Type 0
  IsNextEdge x number edge = (edge.from ≡ number) × IsNext x edge.by edge.to

  -- edges that leave the vertex of the position's state, of all that may happen there
  pub record AreNext (x : Position) (number : ℕ) (edges : List (Edge Choice)) : Type 0 where
    pub each : All (IsNextEdge x number) edges
    pub moves : (move : Move) → MayHappen allowed places x move → HasLabel edges (Happens move)

-- The vertices are the states that were found, by their numbers, and after them the outcomes that are written. A predicate
-- says of a position which outcome an order comes to that ends there, with a crash or without one.
module _ (states : States) (groups : List (List Place)) (numbered : Position → Bool → ℕ → Type 0) (allowed : Allowed) (places : List Place) (first : Position) where
  -- a crash at the position comes to the outcome with this number: one does at a position of which it leaves the same
  abbrev pub IsCrashOf : Position → ℕ → Type 0
  IsCrashOf x outcome = IsCrashWritten groups (λ y crashed. numbered y crashed outcome) first x

  -- this may come next in an order at the position, and leads to this vertex
  abbrev pub IsChoice : Position → Choice → ℕ → Type 0
  IsChoice x (Happens move) vertex = MayHappen allowed places x move × LeadsTo states groups x move vertex
  IsChoice x Rests vertex = ((p : ℕ) → IsBusy x p → ⊥) × ((outcome : ℕ) × (vertex ≡ length (keys_of states) + outcome) × numbered x false outcome)
  IsChoice x Crashes vertex = IsTrue allowed.crashes × ((outcome : ℕ) × (vertex ≡ length (keys_of states) + outcome) × IsCrashOf x outcome)

  -- the edge leaves the vertex of the position's state: this may come next in an order there, and leads where it enters
  abbrev pub IsChoiceEdge : Position → ℕ → Edge Choice → Type 0
  IsChoiceEdge x number edge = (edge.from ≡ number) × IsChoice x edge.by edge.to

  -- the edges that leave the vertex of the position's state: just what may come next in an order there
  pub record AreChoices (x : Position) (number : ℕ) (edges : List (Edge Choice)) : Type 0 where
    pub each : All (IsChoiceEdge x number) edges
    pub moves : (move : Move) → MayHappen allowed places x move → HasLabel edges (Happens move)
    pub rests : ((p : ℕ) → IsBusy x p → ⊥) → HasLabel edges Rests
    pub crashes : IsTrue allowed.crashes → HasLabel edges Crashes
    pub apart : AllPairs (λ a b. a.by ≢ b.by) edges

  -- the edges that leave the vertex of this state are just what may come next in an order
  pub record IsDrawn (edges : List (Edge Choice)) (number : ℕ) : Type 0 where
    pub position : Position
    pub has : HasNumber states groups position number
    pub kept : IsKept groups first position
    pub leaving : List (Edge Choice)
    pub choices : AreChoices position number leaving
    pub those : AreThose edges number leaving

  -- the keys are those of states that crashes leave, with the outcome of each
  pub record KnowsCrashes (crashes : CrashOutcomes) : Type 0 where
    pub long : length crashes.outcomes.items ≡ length (keys_in crashes.keys)
    pub each : (n : ℕ) (key : List ℕ) → slice_get (keys_in crashes.keys) n ≡ Some key
        → IsKeyWritten states groups (λ y crashed. numbered y crashed (slice_index_or crashes.outcomes.items n 0)) first key

  -- that is so of the states that are marked; edges leave no other, and no two that leave one have one label
  pub record AreDrawn (edges : List (Edge Choice)) (marks : List Bool) : Type 0 where
    pub each : (number : ℕ) → slice_index_or marks number false ≡ true → IsDrawn edges number
    pub from : (edge : Edge Choice) → Contains edges edge → slice_index_or marks edge.from false ≡ true
    pub apart : AreApart edges

  -- the graph of all states: it begins with that of the first position
  pub record IsGraph (edges : List (Edge Choice)) : Type 0 where
    pub begins : HasNumber states groups first 0
    pub drawn : (number : ℕ) → number < length (keys_of states) → IsDrawn edges number
    pub apart : AreApart edges

  -- the order, if it ends so, is a path to the vertex of an outcome of which this is so
  pub record EndsAt (edges : List (Edge Choice)) (moves : List Move) (choice : Choice) (is : ℕ → Type 0) : Type 0 where
    pub outcome : ℕ
    pub path : Path edges (map Happens moves ++ choice ∷ []) (length (keys_of states) + outcome)
    pub comes : is outcome

  -- the order comes to the position by a path to the vertex of its state, whose edges are what may come next; and with its
  -- end it is a path to the vertex of its outcome
  pub record IsPath (edges : List (Edge Choice)) (moves : List Move) (y : Position) : Type 0 where
    pub vertex : ℕ
    pub low : vertex < length (keys_of states)
    pub path : Path edges (map Happens moves) vertex
    pub drawn : IsDrawn edges vertex
    pub alike : ArePositionsAlike drawn.position y
    pub rests : ((p : ℕ) → IsBusy y p → ⊥) → EndsAt edges moves Rests (λ outcome. IsRestWritten (λ x crashed. numbered x crashed outcome) y)
    pub crashes : IsTrue allowed.crashes → EndsAt edges moves Crashes (λ outcome. IsLossWritten (λ x crashed. numbered x crashed outcome) y)
