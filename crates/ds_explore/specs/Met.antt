-- The states that orders come to once more.
use Rattle.std.specs.Prelude.{ℕ, ◌≡◌, Bool, false, true, List, All, slice_index_or}
use Rattle.ds_explore_state.specs.declared.states.States.{States}
use Rattle.ds_explore.specs.declared.met.Stop.{Stop}
use Rattle.ds_explore.specs.declared.search.Start.{Start}
use Rattle.ds_explore_state.specs.declared.position.Move.{Move}
use Rattle.ds_explore_state.specs.declared.position.Position.{Position}
use Rattle.ds_explore.specs.Starts.{IsLedTo, IsOrderTo}
use Rattle.ds_explore.specs.Whole.{IsMet, IsOnWay}

-- orders come to the states that are marked, and what one comes to that ends there is one of the outcomes with these keys
abbrev pub AreMet : Start → List (List ℕ) → States → List Bool → Type 0
AreMet start keys states marks = (number : ℕ) → slice_index_or marks number false ≡ true → IsMet start keys states number

-- orders lead to the positions on the way
abbrev pub AreLedTo : Start → List Stop → Type 0
AreLedTo start way = All (λ stop. IsLedTo start stop.position) way

-- an order leads to the position, and the states that are marked are on its way
pub record AreOnWay (start : Start) (states : States) (marks : List Bool) (x : Position) : Type 0 where
  pub way : List Move
  pub leads : IsOrderTo start way x
  pub each : (number : ℕ) → slice_index_or marks number false ≡ true → IsOnWay start states way number
