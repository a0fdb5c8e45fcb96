-- Boards of sheets, and what their seats know.
use Rattle.std.specs.Prelude.{ℕ, List, replicate, slice_set}
use Rattle.atomic_table.specs.declared.shared.Seat.{Seat}
use Rattle.ds_layout.specs.declared.layout.Layout.{Layout}
use Rattle.ds_layout.specs.declared.place.Place.TheVariants.{Version}
use Rattle.ds_layout.specs.Places.{number_of, words_of}
use Rattle.ds_state.specs.declared.situation.Situation.{Situation}
use Rattle.ds_state.specs.declared.situation.Situation.TheVariants.{Stopped}
use Rattle.pm_base.specs.declared.history.Deed.{Deed}
use Rattle.pm_base.specs.declared.history.Entry.{Entry}
use Rattle.pm_board.specs.Table.{cached_at, persisted_at}
use Rattle.pm_board.specs.Views.{first_in}
use Rattle.pm_board.specs.declared.board.Seated.{Seated}
use Rattle.pm_board.specs.declared.board.View.{View}
use Rattle.ds_structure.specs.Sheet.{apart_of}
use Rattle.ds_structure.specs.declared.response.Response.{Response}

-- what a seat of a sheet knows
abbrev pub SheetView : Type 0
SheetView = View Situation Response

-- a process of it
abbrev pub SheetSeated : Type 0
SheetSeated = Seated Situation Response

-- an entry of a sheet's history
abbrev pub SheetEntry : Type 0
SheetEntry = Entry Situation Response

-- what a process of a sheet did
abbrev pub SheetDeed : Type 0
SheetDeed = Deed Situation Response

-- a seat at the table of a sheet
abbrev pub SheetPlace : Type 0
SheetPlace = Seat ℕ SheetView

-- the process of a seat that runs one
abbrev pub sole : SheetPlace → SheetSeated
sole s = first_in Stopped s.me.0.entries

-- the words of the table of a new sheet: both sides of the version's word say the second layout, all others are 0
abbrev pub new_words : Layout → List ℕ
new_words layout = slice_set (slice_set (replicate (cached_at (apart_of layout) (words_of layout)) 0) (cached_at (apart_of layout) (number_of layout Version)) 1) (persisted_at (apart_of layout) (number_of layout Version)) 1
