-- The next marked cell.
use Rattle.std.proofs.Common.{ℕ, suc, ◌≡◌, ◌<◌, ◌+◌, ◌-◌, ◌∙◌, Bool, true, false, Some, ap, arith}
use Rattle.std.specs.Prelude.{if◌then◌else◌}
use Rattle.ds_state.specs.World.{PlainWorld}
use Rattle.ds_calls.specs.Marked.{state_at, is_marked, marked_from}

looks : (w : PlainWorld) (cells cell : ℕ) → cell < cells → marked_from w (cells - cell) cell ≡ (if is_marked (state_at w cell) then Some cell else marked_from w (cells - (cell + 1)) (cell + 1))
looks w cells cell low = ap (λ (n : ℕ). marked_from w n cell) (let e : cells - cell ≡ suc (cells - (cell + 1)) = omega (arith, low) in e)

-- a cell that is marked is the first marked one from itself on
pub marked_here : (w : PlainWorld) (cells cell : ℕ) → cell < cells → is_marked (state_at w cell) ≡ true → marked_from w (cells - cell) cell ≡ Some cell
marked_here w cells cell low is = looks w cells cell low ∙ ap (λ (b : Bool). if b then Some cell else marked_from w (cells - (cell + 1)) (cell + 1)) is

-- after a cell that isn't marked, the first marked one is that from the next cell on
pub marked_later : (w : PlainWorld) (cells cell : ℕ) → cell < cells → is_marked (state_at w cell) ≡ false → marked_from w (cells - cell) cell ≡ marked_from w (cells - (cell + 1)) (cell + 1)
marked_later w cells cell low is = looks w cells cell low ∙ ap (λ (b : Bool). if b then Some cell else marked_from w (cells - (cell + 1)) (cell + 1)) is
