-- The order in which a recalculation works.
use Rattle.std.specs.Prelude.{ℕ, ◌≡◌, ◌<◌, List, length, slice_get}
use Rattle.ds_formula.specs.declared.cells.Cell.{Cell}
use Rattle.ds_formula.specs.declared.content.Content.{Content}
use Rattle.ds_formula.specs.Cells.{IsInside, index_of}
use Rattle.ds_formula.specs.Grammar.{Reads}
use Rattle.ds_formula.specs.Plain.{PlainContent}
use Rattle.ds_eval.specs.SheetContents.{plain_or_empty}
use Rattle.ds_layout.specs.Places.{cells_of}
use Rattle.ds_state.specs.Shown.{text_at}
use Rattle.ds_state.specs.Value.{WorldValue, world_of}
use Rattle.ds_order.specs.Along.{GoesAlong}
use Rattle.ds_order.specs.Orders.{IsOrder}

-- the cell with this number holds this, by the text that it shows
abbrev pub HoldsSo : WorldValue → ℕ → PlainContent → Type 0
HoldsSo w number content = Reads w.sheet.layout.shape (text_at w.sheet.layout (world_of w).memory number) content

-- each cell holds this, by the text that it shows
abbrev pub Holds : WorldValue → (Cell → PlainContent) → Type 0
Holds w sheet = (c : Cell) → IsInside w.sheet.layout.shape c → HoldsSo w (index_of w.sheet.layout.shape c) (sheet c)

-- as many cells, by their numbers from 0, hold these, by the texts that they show
pub record AreHeld (w : WorldValue) (contents : List Content) (count : ℕ) : Type 0 where
  pub whole : length contents ≡ count
  pub each : (number : ℕ) → number < count → HoldsSo w number (plain_or_empty (slice_get contents number))

-- the order has each cell of the sheet once, after the cells that are written in the text that it shows, but where references
-- can be followed from it for ever
pub record IsPlan (w : WorldValue) (order : List ℕ) : Type 0 where
  pub once : IsOrder (cells_of w.sheet.layout) order
  pub sheet : Cell → PlainContent
  pub holds : Holds w sheet
  pub along : GoesAlong w.sheet.layout.shape sheet order
