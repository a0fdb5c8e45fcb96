-- How many processes of a journal's sheet clients may join; the others have set texts when the store went over to it.
use Rattle.std.specs.Prelude.{ℕ, ◌+◌, ◌&&◌, nat_le, List, [], ◌∷◌, Option, Some, None, codes, is_none, unwrap_or, if◌then◌else◌}
use Rattle.ds_layout.specs.declared.layout.Layout.{Layout}
use Rattle.ds_script_io.specs.Fields.{◌>>=◌, number_field}
use Rattle.ds_store_journal.specs.Journals.{after_verb}

-- how many a line says: `# joins NUMBER`, one at least
abbrev pub joins_in : Layout → List ℕ → Option ℕ
joins_in layout line =
    number_field (layout.processes + 1) (after_verb (codes "#") line >>= after_verb (codes "joins")) >>= λ number.
    if nat_le 1 number.0 && is_none number.1 then Some number.0 else None

-- how many there are: as the second line says, or all
abbrev pub joins_of : Layout → List (List ℕ) → ℕ
joins_of layout [] = layout.processes
joins_of layout (first ∷ []) = layout.processes
joins_of layout (first ∷ second ∷ lines) = unwrap_or (joins_in layout second) layout.processes
