-- Values, marks, words and sheets as rows of numbers.
use Rattle.std.specs.Prelude.{pos, ◌==◌, Option, Some, None, if◌then◌else◌}
use Rattle.ds_eval.specs.declared.value.Value.{Value}
use Rattle.ds_eval.specs.declared.value.Value.TheVariants as value
use Rattle.ds_layout.specs.declared.layout.Layout.{Layout}
use Rattle.ds_layout.specs.declared.mark.Mark.{Mark}
use Rattle.ds_layout.specs.declared.mark.State.{State}
use Rattle.ds_layout.specs.declared.mark.State.TheVariants as state
use Rattle.ds_layout.specs.Mark.{state_of}
use Rattle.ds_layout.specs.declared.place.Edition.TheVariants.{First, Second}
use Rattle.ds_layout.specs.declared.place.Place.{Place}
use Rattle.ds_layout.specs.declared.place.Place.TheVariants as place
use Rattle.ds_words.specs.declared.words.Word.{Word}
use Rattle.ds_c.specs.Flags.{flag}
use Rattle.ds_c.specs.declared.rows.ValueRow.{ValueRow}
use Rattle.ds_c.specs.declared.rows.MarkRow.{MarkRow}
use Rattle.ds_c.specs.declared.rows.SizeRow.{SizeRow}
use Rattle.ds_c.specs.declared.rows.WordRow.{WordRow}
use Rattle.ds_c.specs.declared.rows.PlaceRow.{PlaceRow}

-- the row of a value
abbrev pub value_row : Value → ValueRow
value_row value.Blank = record { kind = 0; number = pos 0 }
value_row (value.Number n) = record { kind = 1; number = n }
value_row value.DivZero = record { kind = 2; number = pos 0 }
value_row value.Num = record { kind = 3; number = pos 0 }
value_row value.Circular = record { kind = 4; number = pos 0 }

-- the row of a mark in this state
abbrev pub row_in : Mark → State → MarkRow
row_in m state.Clean = record { state = 0; dirty = flag m.dirty; holder = 0; generation = m.generation }
row_in m state.Marked = record { state = 1; dirty = flag m.dirty; holder = 0; generation = m.generation }
row_in m (state.Held p) = record { state = 2; dirty = flag m.dirty; holder = p; generation = m.generation }

-- the row of a mark
abbrev pub mark_row : Mark → MarkRow
mark_row m = row_in m (state_of m)

-- the row of a sheet's layout
abbrev pub size_row : Layout → SizeRow
size_row layout = record { columns = layout.shape.columns; rows = layout.shape.rows; processes = layout.processes }

-- the row of a word
abbrev pub word_row : Word → WordRow
word_row word = record { cached = word.cached; persisted = word.persisted }

-- the place that a row names whose kind is one of those from 5 on
abbrev pub later_named : PlaceRow → Option Place
later_named r =
    if r.kind == 5 then Some (place.Index r.owner r.part)
    else if r.kind == 6 then Some (place.Announce r.owner)
    else if r.kind == 7 then Some (place.Header r.owner r.number)
    else if r.kind == 8 then Some (place.Text First r.owner r.number r.part)
    else if r.kind == 9 then Some (place.Done r.owner r.part)
    else if r.kind == 10 then Some (place.Text Second r.owner r.number r.part)
    else None

-- the place that a row names, if its kind is one
abbrev pub place_named : PlaceRow → Option Place
place_named r =
    if r.kind == 0 then Some place.Version
    else if r.kind == 1 then Some (place.Head r.owner)
    else if r.kind == 2 then Some (place.Mark r.owner)
    else if r.kind == 3 then Some (place.Value r.owner)
    else if r.kind == 4 then Some (place.Kind r.owner)
    else later_named r
