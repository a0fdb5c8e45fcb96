-- Marking the cells that refer to one: the access of each stage, and which cell is marked next.
use Rattle.std.specs.Prelude.{ℕ, ◌+◌, ◌==◌, if◌then◌else◌, List, slice_index_or, Option, Some, None, zero, suc}
use Rattle.ds_words.specs.declared.access.Access.{Access}
use Rattle.ds_words.specs.declared.access.Access.TheVariants as acts
use Rattle.ds_layout.specs.Bits.{bit_in, part_with}
use Rattle.ds_layout.specs.declared.mark.TheConstants.{DIRTY}
use Rattle.ds_layout.specs.declared.place.Place.{Place}
use Rattle.ds_layout.specs.declared.place.Place.TheVariants as place
use Rattle.ds_state.specs.declared.spread.Spread.{Spread}
use Rattle.ds_state.specs.declared.spread.Spread.TheVariants.{LoadRow, OrTold, FlushTold, BackTold}

-- the access of a stage of telling the cells that refer to this one
abbrev pub spread_access : ℕ → Spread → Access Place
spread_access cell (LoadRow part) = acts.Load (place.Index cell part)
spread_access cell (OrTold d) = acts.Or (place.Mark d) DIRTY
spread_access cell (FlushTold d) = acts.Flush (place.Mark d)
spread_access cell (BackTold d) = acts.Back

-- the first cell from this one on whose bit stands in the row, among n
abbrev pub told_from : List ℕ → ℕ → ℕ → Option ℕ
told_from row zero d = None
told_from row (suc more) d = if bit_in (slice_index_or row (part_with d) 0) d == 1 then Some d else told_from row more (d + 1)
