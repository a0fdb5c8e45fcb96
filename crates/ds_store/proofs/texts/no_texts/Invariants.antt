use Rattle.std.proofs.Common.{◌≡◌, ◌<◌, ◌≤◌, [], ℕ, length, vec_capacity}
use Rattle.std.specs.Prelude.{Vec, slice_index_or}
use Rattle.std.specs.Global.{Global}
use Rattle.ds_formula.specs.Cells.{count_of}
use Rattle.ds_store.proofs.texts.no_texts.Given as goal

abbrev pub invariant-loop-cell : goal.invariant-loop-cell
invariant-loop-cell l = (length l.texts.items ≡ l._cell) × (count_of l.fn.shape ≤ vec_capacity l.texts) × ((k : ℕ) (d : Vec ℕ Global) → k < l._cell → (slice_index_or l.texts.items k d).items ≡ [])
