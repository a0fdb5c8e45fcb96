-- The edits of a run, and what is true at each moment of it: before, between and after its events.
use Rattle.std.specs.Prelude.{ℕ, ◌≡◌, ◌<◌, Bool, List, [], ◌∷◌, map, All, Option, None, option_map}
use Rattle.ds_layout.specs.Places.{cells_of}
use Rattle.ds_state.specs.World.{PlainEdit, PlainIssue, of_cell}
use Rattle.ds_state.specs.Shown.{text_at, last_text, values_shown, IsQuiet}
use Rattle.ds_state.specs.KnownShow.{AreScratch}
use Rattle.ds_state.specs.Value.{WorldValue, world_of}

-- ---- the ledger

-- an edit and the place of its begin among the events: where a number is given out again, it names another edit
pub record Placed : Type 0 where
  pub place : ℕ
  pub edit : PlainEdit

-- an edit that is open, the list of linearized edits when it was issued, and whether it is in doubt
pub record Open : Type 0 where
  pub it : Placed
  pub before : List Placed
  pub doubt : Bool

-- an edit that was closed under its number, and whether it is linearized
pub record Closed : Type 0 where
  pub it : Placed
  pub counts : Bool

-- the linearized edits in their order; of each process the open edit, and the last one that was closed under its number
pub record Ledger : Type 0 where
  pub counted : List Placed
  pub opens : ℕ → Option Open
  pub told : ℕ → Option Closed

-- the ledger of a new sheet: no edit is linearized, none is open, none was closed
abbrev pub empty_ledger : Ledger
empty_ledger = record { counted = []; opens = λ p. None; told = λ p. None }

-- the linearized edits of a ledger in their order, without the places of their begins
abbrev pub edits_in : Ledger → List PlainEdit
edits_in l = map (λ (e : Placed). e.edit) l.counted

-- ---- a moment

-- a moment of a run: a world and its ledger
pub record Moment : Type 0 where
  pub world : WorldValue
  pub ledger : Ledger

-- two edits are apart: not of one process and number
abbrev pub AreApart : Placed → Placed → Type 0
AreApart e f = f.edit.process ≡ e.edit.process → f.edit.number ≡ e.edit.number → ⊥

-- no two edits of a list are of one process and number
abbrev pub NoneTwice : List Placed → Type 0
NoneTwice [] = Unit {0}
NoneTwice (e ∷ es) = All (AreApart e) es × NoneTwice es

-- the ledger is the world's; no edit stands twice in the list; each cell's words have the text of its last edit; and
-- where no edit is open and no cell dirty or held, each cell's words show the value from scratch
pub record MomentFits (m : Moment) : Type 0 where
  pub counted : edits_in m.ledger ≡ m.world.counted
  pub opens : (p : ℕ) → option_map (λ (o : Open). o.it.edit) (m.ledger.opens p) ≡ option_map (λ (i : PlainIssue). i.edit) ((world_of m.world).open_edits p)
  pub once : NoneTwice m.ledger.counted
  pub texts : (c : ℕ) → c < cells_of m.world.sheet.layout → text_at m.world.sheet.layout (world_of m.world).memory c ≡ last_text (of_cell c (edits_in m.ledger))
  pub values : IsQuiet (world_of m.world) → AreScratch m.world.sheet.layout.shape (edits_in m.ledger) (values_shown (world_of m.world))
