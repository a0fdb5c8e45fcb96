-- The cells written in a content: references, and ranges spelled out, those in an unchosen branch of IF included.
use Rattle.std.specs.Prelude.{◌≡◌, ◌⊎◌, ◌<◌, List}
use Rattle.std.specs.List.{Contains, AllPairs}
use Rattle.ds_formula.specs.declared.cells.Cell.{Cell}
use Rattle.ds_formula.specs.Cells.{IsWithin}
use Rattle.ds_formula.specs.Limits.{COLUMNS_MOST, ROWS_MOST}
use Rattle.ds_formula.specs.Plain.{Formula, Literal, At, Area, Signed, Joined, Called, Formulas, Nothing, Then, PlainContent, Empty, Constant, Computed}

abbrev mutual
  -- the cell is written in the expression
  pub Mentions : Formula → Cell → Type 0
  Mentions (Literal z) c = ⊥
  Mentions (At d) c = d ≡ c
  Mentions (Area r) c = IsWithin r c
  Mentions (Signed s f) c = Mentions f c
  Mentions (Joined o f g) c = Mentions f c ⊎ Mentions g c
  Mentions (Called f fs) c = SomeMentions fs c

  -- the cell is written in one of the arguments
  pub SomeMentions : Formulas → Cell → Type 0
  SomeMentions Nothing c = ⊥
  SomeMentions (Then f fs) c = Mentions f c ⊎ SomeMentions fs c

-- the cell is written in the content
abbrev pub Refers : PlainContent → Cell → Type 0
Refers Empty c = ⊥
Refers (Constant z) c = ⊥
Refers (Computed f) c = Mentions f c

-- some sheet has the cell
pub record IsPossible (c : Cell) : Type 0 where
  pub column : c.column < COLUMNS_MOST
  pub row : c.row < ROWS_MOST

-- earlier in reading order: row by row from the left
abbrev pub IsBefore : Cell → Cell → Type 0
IsBefore c d = (c.row < d.row) ⊎ ((c.row ≡ d.row) × (c.column < d.column))

-- the cells written in the expression were added to the old ones, all in reading order
pub record IsListed (f : Formula) (old new : List Cell) : Type 0 where
  pub ascending : AllPairs IsBefore new
  pub possible : ((c : Cell) → Contains old c → IsPossible c) → (c : Cell) → Contains new c → IsPossible c
  pub only : (c : Cell) → Contains new c → Contains old c ⊎ Mentions f c
  pub kept : (c : Cell) → Contains old c → Contains new c
  pub all : (c : Cell) → Mentions f c → Contains new c

-- the cells written in the content that some sheet has, in reading order, none twice
pub record AreRefs (content : PlainContent) (cells : List Cell) : Type 0 where
  pub ascending : AllPairs IsBefore cells
  pub possible : (c : Cell) → Contains cells c → IsPossible c
  pub only : (c : Cell) → Contains cells c → Refers content c
  pub all : (c : Cell) → Refers content c → IsPossible c → Contains cells c
