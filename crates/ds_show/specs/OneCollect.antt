-- What a show would answer that looks at announcements and marks once.
use Rattle.std.specs.Prelude.{◌≡◌, ◌≢◌, ◌++◌, List, [], ◌∷◌}
use Rattle.ds_formula.specs.Cells.{IsInside, index_of}
use Rattle.ds_formula.specs.declared.cells.Cell.{Cell}
use Rattle.ds_eval.specs.Scratch.{at}
use Rattle.ds_eval.specs.declared.value.Value.{Value}
use Rattle.ds_state.specs.KnownShow.{AreScratch, IsStill, moment_of}
use Rattle.ds_state.specs.Shown.{IsQuiet, values_shown}
use Rattle.ds_state.specs.Sound.{IsSound}
use Rattle.ds_state.specs.World.{PlainEdit, PlainWorld}

-- two quiescent worlds of a sheet: in the later one just this edit is linearized beside those that were in the earlier
-- one
pub record AreAnEditApart (first last : PlainWorld) (e : PlainEdit) : Type 0 where
  pub first_sound : IsSound first
  pub last_sound : IsSound last
  pub first_quiet : IsQuiet first
  pub last_quiet : IsQuiet last
  pub layout : last.layout ≡ first.layout
  pub counted : last.counted ≡ first.counted ++ e ∷ []

-- what a world shows of a cell
abbrev pub shown_of : PlainWorld → Cell → Value
shown_of w c = at (values_shown w) (index_of w.layout.shape c)

-- the values have the one cell as the first world shows it, and the other one as the last world does; the two worlds
-- show different values of both
pub record AreMixed (first last : PlainWorld) (values : List Value) : Type 0 where
  pub early : Cell
  pub early_inside : IsInside first.layout.shape early
  pub early_is : at values (index_of first.layout.shape early) ≡ shown_of first early
  pub early_changed : shown_of first early ≢ shown_of last early
  pub late : Cell
  pub late_inside : IsInside first.layout.shape late
  pub late_is : at values (index_of first.layout.shape late) ≡ shown_of last late
  pub late_changed : shown_of first late ≢ shown_of last late

-- the edits that were linearized at some time from the one list to the other
pub record StandBetween (earlier es later : List PlainEdit) : Type 0 where
  pub since : List PlainEdit
  pub grown : es ≡ earlier ++ since
  pub until : List PlainEdit
  pub grows : later ≡ es ++ until

-- in both worlds nothing is pending and each cell is clean, so that one look finds nothing; and yet the values are
-- those from scratch of no edits that were linearized at any time between
pub record AreOfNoMoment (first last : PlainWorld) (values : List Value) : Type 0 where
  pub first_still : IsStill first.layout (moment_of first)
  pub last_still : IsStill last.layout (moment_of last)
  pub none : (es : List PlainEdit) → StandBetween first.counted es last.counted → AreScratch first.layout.shape es values → ⊥
