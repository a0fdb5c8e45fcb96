-- Which words a choice names.
use Rattle.std.specs.Prelude.{ℕ, ◌==◌, Bool, true, false, if◌then◌else◌, List, slice_index_or}

-- whether the word of this number is chosen: its item of the choice is not 0
abbrev pub is_chosen : List ℕ → ℕ → Bool
is_chosen choice n = if slice_index_or choice n 0 == 0 then false else true
