-- How it is found out whether numbers are those of paths.
use Rattle.std.specs.Prelude.{ℕ, zero, suc, ◌≡◌, ◌<◌, ◌+◌, ◌==◌, List, length, min, sum_by, slice_index_or, if◌then◌else◌}
use Rattle.ds_paths.specs.declared.graph.Edge.{Edge}
use Rattle.ds_paths.specs.Paths.{COUNT_MOST}

-- the edge leads between two of the vertices that have ranks, from one of a lower rank to one of a higher rank
pub record LeadsUp {L : Type 0} (ranks : List ℕ) (edge : Edge L) : Type 0 where
  pub from : edge.from < length ranks
  pub to : edge.to < length ranks
  pub up : slice_index_or ranks edge.from 0 < slice_index_or ranks edge.to 0

-- the paths of no edge: one to vertex 0
abbrev pub start : ℕ → ℕ
start zero = 1
start (suc vertex) = 0

-- the paths that an edge brings to a vertex, where these are the numbers of paths to the vertices
abbrev pub brought : {L : Type 0} → List ℕ → ℕ → Edge L → ℕ
brought counts vertex edge = if edge.to == vertex then slice_index_or counts edge.from 0 else 0

-- the paths that these edges bring to a vertex, with that of no edge
abbrev pub sum_at : {L : Type 0} → List (Edge L) → List ℕ → ℕ → ℕ
sum_at edges counts vertex = min (start vertex + sum_by (brought counts vertex) edges) COUNT_MOST

-- of each vertex the paths that these edges bring to it, where these are the numbers of paths to the vertices
pub record AreSums {L : Type 0} (edges : List (Edge L)) (counts sums : List ℕ) : Type 0 where
  pub count : length sums ≡ length counts
  pub each : (vertex : ℕ) → vertex < length counts → slice_index_or sums vertex 0 ≡ sum_at edges counts vertex
