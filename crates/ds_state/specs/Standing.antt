-- What a clean mark says: the cell's words are what its content gives, or somebody owes.
use Rattle.std.specs.Prelude.{ℕ, ◌≡◌, ◌<◌, ◌≤◌, ◌⊎◌, Contains}
use Rattle.ds_words.specs.Memory.{Memory}
use Rattle.ds_formula.specs.Cells.{IsInside, index_of}
use Rattle.ds_formula.specs.declared.cells.Cell.{Cell}
use Rattle.ds_formula.specs.Plain.{PlainContent, Empty}
use Rattle.ds_formula.specs.Refs.{Refers}
use Rattle.ds_formula.specs.Grammar.{Reads}
use Rattle.ds_eval.specs.declared.inputs.Entry as entries
use Rattle.ds_eval.specs.Local.{local}
use Rattle.ds_layout.specs.declared.place.Place.{Place}
use Rattle.ds_layout.specs.declared.place.Place.TheVariants as place
use Rattle.ds_layout.specs.declared.layout.Layout.{Layout}
use Rattle.ds_layout.specs.Places.{cells_of}
pub use Rattle.ds_state.specs.EntryWords.{shown, shown_of, shown_entry, kind_for, number_for, stored_for, value_for, word_for}
use Rattle.ds_state.specs.World.{PlainEdit, PlainWorld, of_cell, IsHeadBy}
use Rattle.ds_state.specs.Owing.{entry, CellOwes, IsExcused}
use Rattle.ds_layout.specs.Mark.{IsClean, IsEven}

-- one side of the words of the cells
pub record Side : Type 0 where
  pub value : ℕ → ℕ
  pub kind : ℕ → ℕ
  pub head : ℕ → ℕ

-- the cached side of the cells' values, kinds and heads
abbrev pub cached_side : Memory Place → Side
cached_side m = record { value = λ c. m.cached (place.Value c); kind = λ c. m.cached (place.Kind c); head = λ c. m.cached (place.Head c) }

-- the persisted side of the cells' values, kinds and heads
abbrev pub persisted_side : Memory Place → Side
persisted_side m = record { value = λ c. m.persisted (place.Value c); kind = λ c. m.persisted (place.Kind c); head = λ c. m.persisted (place.Head c) }

-- the entry that the side's words show of the cell with this number
abbrev pub entry_on : Layout → Side → ℕ → entries.Entry
entry_on layout side c = shown_entry (cells_of layout) (side.value c) (side.kind c)

-- the content of the edit that gave the cell this head
pub record HasText (w : PlainWorld) (cell head : ℕ) (content : PlainContent) : Type 0 where
  pub by : PlainEdit
  pub gave : IsHeadBy (of_cell cell w.counted) head by
  pub reads : Reads w.layout.shape by.text content

-- the content that this head gives the cell: none where the head is 0, else that of its edit's text
abbrev pub HasContent : PlainWorld → ℕ → ℕ → PlainContent → Type 0
HasContent w cell head content = ((head ≡ 0) × (content ≡ Empty)) ⊎ HasText w cell head content

-- the entries given by the function are those that the side shows of the content's references, but for references that
-- owe the cell c a mark above x
abbrev pub Inputs : PlainWorld → Side → PlainContent → ℕ → ℕ → (Cell → entries.Entry) → Type 0
Inputs w side content c x u = (d : Cell) → Refers content d → IsInside w.layout.shape d
    → (u d ≡ entry_on w.layout side (index_of w.layout.shape d)) ⊎ CellOwes w (index_of w.layout.shape d) c x

-- on this side the words of c are what its content gives of its references' words, but for those that owe c a mark
-- above x
pub record Reasons (w : PlainWorld) (side : Side) (c x : ℕ) : Type 0 where
  pub content : PlainContent
  pub has : HasContent w c (side.head c) content
  pub inputs : Cell → entries.Entry
  pub on_value : side.value c ≡ value_for (local w.layout.shape content inputs)
  pub on_kind : side.kind c ≡ word_for (local w.layout.shape content inputs)
  pub near : Inputs w side content c x inputs

-- on this side c stands: it is excused, or its words are what its content gives of its references' words
abbrev pub Stands : PlainWorld → Side → ℕ → ℕ → Type 0
Stands w side c x = IsExcused w c x ⊎ Reasons w side c x

-- a mark of c that is on its way, and no older than the persisted one
pub record IsBuffered (w : PlainWorld) (c x : ℕ) : Type 0 where
  pub by : ℕ
  pub process : by < w.layout.processes
  pub there : Contains (w.memory.buffer by) (entry (place.Mark c) x)
  pub no_older : w.memory.persisted (place.Mark c) ≤ x

-- a mark of c that is persisted, or on its way and no older than the persisted one
abbrev pub IsDurable : PlainWorld → ℕ → ℕ → Type 0
IsDurable w c x = (x ≡ w.memory.persisted (place.Mark c)) ⊎ IsBuffered w c x

-- a mark of c that is not dirty and is cached, persisted or on its way: above it what is owed stays owed
abbrev pub Matters : PlainWorld → ℕ → ℕ → Type 0
Matters w c x = IsEven x × ((x ≡ w.memory.cached (place.Mark c)) ⊎ IsDurable w c x)

-- each clean mark stands, on its side
pub record AllStand (w : PlainWorld) : Type 0 where
  pub on_cached : (c : ℕ) → IsClean (w.memory.cached (place.Mark c)) → Stands w (cached_side w.memory) c (w.memory.cached (place.Mark c))
  pub on_persisted : (c x : ℕ) → IsClean x → IsDurable w c x → Stands w (persisted_side w.memory) c x
