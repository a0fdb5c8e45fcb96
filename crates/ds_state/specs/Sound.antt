-- When a world is sound: what its words, its edits and its calls have to do with one another.
use Rattle.std.specs.Prelude.{ℕ, ◌≡◌, ◌<◌, ◌≤◌, length, List, [], ◌∷◌, All}
use Rattle.ds_layout.specs.declared.place.TheConstants.{RECORDS}
use Rattle.ds_layout.specs.declared.place.Place.{Place}
use Rattle.ds_layout.specs.Places.{cells_of}
use Rattle.ds_state.specs.Text.{IsText}
use Rattle.ds_state.specs.World.{PlainEdit, PlainWorld}
use Rattle.ds_state.specs.WordsFit.{WordFits}
use Rattle.ds_state.specs.CallsFit.{CallFits}
use Rattle.ds_state.specs.Standing.{AllStand}
use Rattle.ds_layout.specs.declared.place.Edition.TheVariants.{First}
use Rattle.ds_state.specs.Editions.{Shows, most_in}
use Rattle.ds_state.specs.LayoutsFit.{LayoutFits}
use Rattle.ds_state.specs.Headers.{IsSaid, HasCell}

-- an edit of the sheet: of one of its processes, with a record, and of one of its cells; where a side says the first
-- layout, its text has its place there
pub record IsOfSheet (w : PlainWorld) (e : PlainEdit) : Type 0 where
  pub process : e.process < w.layout.processes
  pub number : e.number < RECORDS
  pub cell : e.cell < cells_of w.layout
  pub text : IsText e.text
  pub short : Shows w.memory First → length e.text ≤ most_in First

-- the numbers of one process grow along the list, so that no edit stands twice
abbrev pub Increasing : List PlainEdit → Type 0
Increasing [] = Unit {0}
Increasing (e ∷ es) = All (λ f. f.process ≡ e.process → e.number < f.number) es × Increasing es

-- each word fits, each process's call fits, the header of each record whose number is announced says one cell, and the
-- list of edits is one of the sheet, in order
pub record IsSound (w : PlainWorld) : Type 0 where
  pub words : (r : Place) → WordFits w r (w.memory.cached r) (w.memory.persisted r)
  pub calls : (p : ℕ) → p < w.layout.processes → CallFits w p (w.situation p)
  pub stand : AllStand w
  pub layouts : (p : ℕ) → p < w.layout.processes → LayoutFits w p (w.situation p)
  pub headers : (p number : ℕ) → IsSaid w.memory p number → HasCell w p number
  pub of_sheet : All (λ e. IsOfSheet w e) w.counted
  pub increasing : Increasing w.counted
