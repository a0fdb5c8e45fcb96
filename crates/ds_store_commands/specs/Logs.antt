-- The first edits of a store.
use Rattle.std.specs.Prelude.{ℕ, ◌≡◌, ◌≤◌, ◌+◌, ◌⊎◌, List, [], ◌∷◌, length, take, if◌then◌else◌}
use Rattle.ds_script_io.specs.Fields.{is_skipped}

-- how many of the lines that follow the first one of a journal have an edit
unfoldable pub edits_in : List (List ℕ) → ℕ
edits_in [] = 0
edits_in (line ∷ lines) = (if is_skipped line then 0 else 1) + edits_in lines

-- the first of these lines, as many as this, have this number of edits; or they are all, which have no more
abbrev pub HaveFirst : ℕ → List (List ℕ) → ℕ → Type 0
HaveFirst edits lines count = (edits_in (take count lines) ≡ edits) ⊎ ((count ≡ length lines) × (edits_in lines ≤ edits))
