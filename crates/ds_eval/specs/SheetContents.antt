-- What each cell of a sheet holds.
use Rattle.std.specs.Prelude.{Option, Some, None, slice_get}
use Rattle.ds_formula.specs.declared.cells.Cell.{Cell}
use Rattle.ds_formula.specs.declared.content.Content.{Content}
use Rattle.ds_formula.specs.Cells.{index_of}
use Rattle.ds_formula.specs.Plain.{PlainContent, Empty, plain}
use Rattle.ds_eval.specs.declared.sheet.Sheet.{Sheet}

-- the plain view of a content, or an empty cell where there is none
abbrev pub plain_or_empty : Option Content → PlainContent
plain_or_empty None = Empty
plain_or_empty (Some content) = plain content

-- what a cell of the sheet holds
abbrev pub contents_of : Sheet → Cell → PlainContent
contents_of sheet c = plain_or_empty (slice_get sheet.contents.items (index_of sheet.shape c))
