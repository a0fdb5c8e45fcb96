-- Lists of the edits that count, as clients know them.
use Rattle.std.specs.Prelude.{◌≡◌, ◌<◌, ◌≤◌, ◌++◌, ◌∷◌, [], ℕ, List, All, Option, Some, None, IfSome, drop, length, map, take}
use Rattle.ds_formula.specs.declared.cells.Cell.{Cell}
use Rattle.ds_server.specs.Replies as said
use Rattle.ds_store_journal.specs.Journals.{KeptEdit}

-- an edit of which the keeper of a store has heard, with the number by which clients know it
abbrev pub told_as : ℕ × KeptEdit → said.EditEntry
told_as heard = record { process = heard.1.process; number = heard.0; cell = heard.1.cell; text = heard.1.text }

-- no edit of the list is of the cell
abbrev pub NoneOf : Cell → List said.EditEntry → Type 0
NoneOf cell list = All (λ e. e.cell ≡ cell → ⊥) list

-- the edit is the last one of the cell in the list, and these are before it
pub record IsLastOf (cell : Cell) (list before : List said.EditEntry) (edit : said.EditEntry) : Type 0 where
  pub after : List said.EditEntry
  pub splits : list ≡ before ++ edit ∷ after
  pub of : edit.cell ≡ cell
  pub rest : NoneOf cell after

-- the last edit of the cell in the list, if one is of it
abbrev pub TellsLast : Cell → List said.EditEntry → Option said.EditEntry → Type 0
TellsLast cell list None = NoneOf cell list
TellsLast cell list (Some edit) = (before : List said.EditEntry) × IsLastOf cell list before edit

-- the text of an edit; none where there is no edit
abbrev pub text_of : Option said.EditEntry → List ℕ
text_of None = []
text_of (Some edit) = edit.text

-- the cell has this text after these edits, where it had none before them
pub record HasText (cell : Cell) (list : List said.EditEntry) (text : List ℕ) : Type 0 where
  pub last : Option said.EditEntry
  pub tells : TellsLast cell list last
  pub text_is : text ≡ text_of last

-- the last edit of the cell is a client's, and before it the cell had this text
pub record HadBefore (nobody : ℕ) (cell : Cell) (list : List said.EditEntry) (text : List ℕ) : Type 0 where
  pub before : List said.EditEntry
  pub edit : said.EditEntry
  pub last : IsLastOf cell list before edit
  pub by_client : edit.process < nobody
  pub had : HasText cell before text

-- no client's edit of the cell is its last one: the list has none of it, or the sheet began with its text
pub record HasNoEdit (nobody : ℕ) (cell : Cell) (list : List said.EditEntry) : Type 0 where
  pub last : Option said.EditEntry
  pub tells : TellsLast cell list last
  pub by_nobody : IfSome last (λ e. nobody ≤ e.process)

-- the part of the list from this place on, of at most this number of edits
abbrev pub part_of : ℕ → ℕ → List said.EditEntry → List said.EditEntry
part_of from most list = take most (drop from list)
