-- Which cells are marked.
use Rattle.std.specs.Prelude.{ℕ, zero, suc, ◌+◌, Bool, true, false, Option, Some, None, if◌then◌else◌}
use Rattle.ds_layout.specs.declared.mark.State.{State}
use Rattle.ds_layout.specs.declared.mark.State.TheVariants.{Clean, Marked, Held}
use Rattle.ds_layout.specs.Mark.{state_of}
use Rattle.ds_layout.specs.Places.{cells_of}
use Rattle.ds_state.specs.Shown.{mark_at}
use Rattle.ds_state.specs.World.{PlainWorld}

-- what the mark of the cell says: clean, marked or held
abbrev pub state_at : PlainWorld → ℕ → State
state_at w cell = state_of (mark_at w.layout w.memory cell)

-- whether a mark says that the cell is marked
abbrev pub is_marked : State → Bool
is_marked Clean = false
is_marked Marked = true
is_marked (Held process) = false

-- whether a mark says that the cell is clean
abbrev pub is_clean : State → Bool
is_clean Clean = true
is_clean Marked = false
is_clean (Held process) = false

-- the first cell that is marked, of n from this one on
abbrev pub marked_from : PlainWorld → ℕ → ℕ → Option ℕ
marked_from w zero cell = None
marked_from w (suc more) cell = if is_marked (state_at w cell) then Some cell else marked_from w more (cell + 1)

-- how many of the first cells, this many, are marked or held
abbrev pub left_below : PlainWorld → ℕ → ℕ
left_below w zero = 0
left_below w (suc cell) = if is_clean (state_at w cell) then left_below w cell else suc (left_below w cell)

-- how many cells of the sheet are marked or held
abbrev pub left_in : PlainWorld → ℕ
left_in w = left_below w (cells_of w.layout)
