-- What the processes of a store have done, as their clients count it: in all its sheets, one after another.
use Rattle.std.specs.Prelude.{ℕ, ◌≡◌, ◌<◌, ◌+◌, ◌==◌, List, [], ◌∷◌, Option, Some, None, codes, is_none, if◌then◌else◌, slice_index_or}
use Rattle.ds_formula.specs.declared.cells.Cell.{Cell}
use Rattle.ds_formula.specs.declared.cells.Shape.{Shape}
use Rattle.ds_layout.specs.declared.layout.Layout.{Layout}
use Rattle.ds_script_io.specs.Fields.{◌>>=◌, number_field, cell_field, is_skipped}
use Rattle.ds_store_journal.specs.Journals.{AskedFor, after_verb, edit_in}
use Rattle.ds_store_journal.specs.declared.standing.Standing.{Standing}
use Rattle.ds_store_journal.specs.declared.standing.Mention.{Mention}

-- a process's edits are counted below 2^53, where numbers of JSON are exact
abbrev pub EDITS_LIMIT : ℕ
EDITS_LIMIT = 9007199254740992

-- how a process stands that has made no edit
abbrev pub none_made : Standing
none_made = record { edits = 0; last = None }

-- how a process stands after one edit more, of this cell
abbrev pub one_more : Cell → Standing → Standing
one_more cell s = record { edits = s.edits + 1; last = Some cell }

-- the cell of the last of that many edits: there is one where there are edits
abbrev pub last_in : Shape → ℕ → Option (List ℕ) → Option Standing
last_in shape edits rest =
    if edits == 0
    then (if is_none rest then Some none_made else None)
    else (cell_field shape rest >>= λ cell. if is_none cell.1 then Some (record { edits = edits; last = Some cell.0 }) else None)

-- how a process stood before the line, which says so: `# before PROCESS EDITS CELL`, without a cell where it had made none
abbrev pub before_in : Layout → List ℕ → Option Mention
before_in layout line =
    number_field layout.processes (after_verb (codes "#") line >>= after_verb (codes "before")) >>= λ process.
    number_field EDITS_LIMIT process.1 >>= λ edits.
    last_in layout.shape edits.0 edits.1 >>= λ standing.
    Some (record { process = process.0; standing = standing })

-- how the process stands after a line that says how one stood
abbrev pub noted : ℕ → Standing → Option Mention → Standing
noted process s None = s
noted process s (Some mention) = if mention.process == process then mention.standing else s

-- how the process stands after a line that asks one for an edit
abbrev pub counted : ℕ → Standing → Option AskedFor → Standing
counted process s None = s
counted process s (Some asked) = if asked.process == process then one_more asked.cell s else s

-- how the process stands after a line: as the line says that it stood, or with the edit that the line asks it for
abbrev pub standing_after : Layout → ℕ → Standing → List ℕ → Standing
standing_after layout process s line = if is_skipped line then noted process s (before_in layout line) else counted process s (edit_in layout line)

-- how the process stands after these lines, where it stood so before them
unfoldable pub standing_from : Layout → ℕ → Standing → List (List ℕ) → Standing
standing_from layout process s [] = s
standing_from layout process s (line ∷ lines) = standing_from layout process (standing_after layout process s line) lines

-- how the process stands after all lines of a journal
abbrev pub standing_of : Layout → ℕ → List (List ℕ) → Standing
standing_of layout process lines = standing_from layout process none_made lines

-- each process of the sheet stands so after these lines
abbrev pub AreStandings : Layout → List Standing → List (List ℕ) → Type 0
AreStandings layout standings lines = (process : ℕ) (d : Standing) → process < layout.processes → slice_index_or standings process d ≡ standing_of layout process lines
