-- The list of the edits of a journal.
use Rattle.std.specs.Prelude.{ℕ, ◌≡◌, ◌⊎◌, ◌+◌, Bool, true, false, ◌&&◌, ◌||◌, List, [], ◌∷◌, ◌++◌, Option, Some, None, is_some, if◌then◌else◌}
use Rattle.ds_formula.specs.declared.cells.Cell.{Cell}
use Rattle.ds_layout.specs.declared.layout.Layout.{Layout}
use Rattle.ds_script_io.specs.Fields.{is_skipped}
use Rattle.ds_store_journal.specs.Faults.{AreUncounted, IsUncounted}
use Rattle.ds_store_journal.specs.declared.fault.JournalFault.{JournalFault}
use Rattle.ds_store_journal.specs.declared.fault.JournalFault.TheVariants.{NoEdit}
use Rattle.ds_store_journal.specs.Journals.{AskedFor, edit_in, one_if}
use Rattle.ds_store_journal.specs.Standings.{AreStandings, before_in, standing_of}
use Rattle.ds_store_edits.specs.declared.edits.Entry.{Entry}
use Rattle.ds_store_edits.specs.declared.edits.Maker.{Maker}
use Rattle.ds_store_edits.specs.declared.edits.Passed.{Passed}

-- an edit of the list: who made it, if a client did, its cell and its text
pub record EntryValue : Type 0 where
  pub maker : Option Maker
  pub cell : Cell
  pub text : List ℕ

-- the edit that an entry is
abbrev pub entry_view : Entry → EntryValue
entry_view entry = record { maker = entry.maker; cell = entry.cell; text = entry.text.now }

-- one of these lines says how a process stood: then the lines before it give the texts that the sheet began with
unfoldable pub tell_before : Layout → List (List ℕ) → Bool
tell_before layout [] = false
tell_before layout (line ∷ lines) = (is_skipped line && is_some (before_in layout line)) || tell_before layout lines

-- who made the edit of this process that a line asks for, after these lines and before those, and its number as that process's
-- client counts it; nobody, where the line gives a text that the sheet began with
abbrev pub maker_of : Layout → List (List ℕ) → ℕ → List (List ℕ) → Option Maker
maker_of layout before process after = if tell_before layout after then None else Some (record { process = process; number = (standing_of layout process before).edits })

-- the edit that is asked for, after these lines and before those; none where none is
abbrev pub entries_asked : Layout → List (List ℕ) → Option AskedFor → List (List ℕ) → List EntryValue
entries_asked layout before None after = []
entries_asked layout before (Some asked) after = record { maker = maker_of layout before asked.process after; cell = asked.cell; text = asked.text } ∷ []

-- the edit of a line, after these lines and before those; none where it is skipped
abbrev pub entries_at : Layout → List (List ℕ) → List ℕ → List (List ℕ) → List EntryValue
entries_at layout before line after = if is_skipped line then [] else entries_asked layout before (edit_in layout line) after

-- the edits of these lines, one after another, where those lines are before them
unfoldable pub entries_of : Layout → List (List ℕ) → List (List ℕ) → List EntryValue
entries_of layout before [] = []
entries_of layout before (line ∷ lines) = entries_at layout before line lines ++ entries_of layout (before ++ line ∷ []) lines

-- an edit, where there is one
abbrev pub entries_in : Option Entry → List EntryValue
entries_in None = []
entries_in (Some entry) = entry_view entry ∷ []

-- how many of these lines say how a process stood
unfoldable pub tellings : Layout → List (List ℕ) → ℕ
tellings layout [] = 0
tellings layout (line ∷ lines) = one_if (is_skipped line && is_some (before_in layout line)) + tellings layout lines

-- a journal was gone through as far as these lines, and those are left: each process stands as the first ones say, where no more
-- edits were made than are counted
pub record HasPassed (layout : Layout) (passed : Passed) (before after : List (List ℕ)) : Type 0 where
  pub standings : passed.full ≡ false → AreStandings layout passed.standings.items before
  pub left : passed.left ≡ tellings layout after
  pub full : passed.full ≡ true → AreUncounted layout before

-- the line is neither skipped nor an edit of the sheet
abbrev pub IsNeither : Layout → List ℕ → Type 0
IsNeither layout line = (is_skipped line ≡ false) × (edit_in layout line ≡ None)

-- one of the lines is neither skipped nor an edit of the sheet
pub record HaveNeither (layout : Layout) (lines : List (List ℕ)) : Type 0 where
  pub before : List (List ℕ)
  pub line : List ℕ
  pub after : List (List ℕ)
  pub are : lines ≡ before ++ line ∷ after
  pub neither : IsNeither layout line

-- the edits of these lines are not listed, for this fault, where those lines are before them: one is neither skipped nor an edit
-- of the sheet, or more were made than are counted, or an allocation failed
abbrev pub AreUnlisted : Layout → List (List ℕ) → List (List ℕ) → JournalFault → Type 0
AreUnlisted layout before lines fault = ((fault ≡ NoEdit) × HaveNeither layout lines) ⊎ IsUncounted layout (before ++ lines) fault
