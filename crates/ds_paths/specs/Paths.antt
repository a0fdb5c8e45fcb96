-- Paths in a graph, and how many there are.
use Rattle.std.specs.Prelude.{ℕ, ◌≡◌, ◌≢◌, ◌<◌, ◌-◌, ◌^◌, List, [], ◌∷◌, ◌++◌, All, AllPairs, Contains, length, min, slice_index_or}
use Rattle.ds_paths.specs.declared.graph.Edge.{Edge}

-- paths are counted up to this number
abbrev pub COUNT_MOST : ℕ
COUNT_MOST = 2 ^ 128 - 1

-- a path from vertex 0 to a vertex, by the labels of its edges
pub data Path {L : Type 0} (edges : List (Edge L)) : List L → ℕ → Type 0 where
  no_edge : Path edges [] 0
  one_edge_more : (labels : List L) (edge : Edge L) → Path edges labels edge.from → Contains edges edge → Path edges (labels ++ edge.by ∷ []) edge.to

-- no two edges that leave one vertex have one label
abbrev pub AreApart : {L : Type 0} → List (Edge L) → Type 0
AreApart edges = AllPairs (λ a b. a.from ≡ b.from → a.by ≡ b.by → ⊥) edges

-- these are all paths to the vertex, each once
pub record AreAllPaths {L : Type 0} (edges : List (Edge L)) (vertex : ℕ) (paths : List (List L)) : Type 0 where
  pub each : All (λ labels. Path edges labels vertex) paths
  pub all : (labels : List L) → Path edges labels vertex → Contains paths labels
  pub once : AllPairs (λ a b. a ≢ b) paths

-- the number of paths to the vertex, at most COUNT_MOST
pub record IsCount {L : Type 0} (edges : List (Edge L)) (vertex count : ℕ) : Type 0 where
  pub paths : List (List L)
  pub all : AreAllPaths edges vertex paths
  pub is : count ≡ min (length paths) COUNT_MOST

-- of each of as many vertices, from 0, the number of paths to it
abbrev pub AreCounts : {L : Type 0} → List (Edge L) → List ℕ → Type 0
AreCounts edges counts = (vertex : ℕ) → vertex < length counts → IsCount edges vertex (slice_index_or counts vertex 0)
