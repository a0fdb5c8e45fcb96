-- The seats of a sheet that a store keeps.
use Rattle.std.specs.Prelude.{◌≡◌, ◌<◌, ℕ, List, All, map, nat_lt}
use Rattle.std.specs.List.{filter}
use Rattle.ds_layout.specs.declared.layout.Layout.{Layout}
use Rattle.ds_shared.specs.declared.sheet.SharedSheet.{SharedSheet}
use Rattle.ds_shared_seats.specs.declared.seat.Seat.{Seat}
use Rattle.ds_store.specs.Stores.{LeadsTo}
use Rattle.ds_store_journal.specs.Journals.{KeptEdit}
use Rattle.ds_store_sums.specs.Taken.{IsAt}
use Rattle.ds_store_sums.specs.declared.sums.LineSums.{LineSums}
use Rattle.ds_net_floor.specs.Listings.{IsListOf}
use Rattle.ds_net_floor.specs.declared.edit_list.EditList.{EditList}
use Rattle.ds_net_desks.specs.Numberings.{AreNumberings}
use Rattle.ds_net_desks.specs.declared.numbered_seat.NumberedSeat.{NumberedSeat}

-- each seat is of a process that may be joined, of the server's sheet of this epoch, and has the numberings of each process
-- by these lines, which keep these edits
abbrev pub AreNumberedBy : Layout → ℕ → List (List ℕ) → List KeptEdit → ℕ → List NumberedSeat → Type 0
AreNumberedBy layout joins lines edits epoch seats =
    All (λ n. AreNumberings layout lines edits n.numberings.items × (n.epoch ≡ epoch) × (n.seat.pass.process < joins)) seats

-- the seats of the processes below this number, in their order
abbrev pub seats_below : ℕ → List Seat → List Seat
seats_below joins seats = filter (λ s. nat_lt s.pass.process joins) seats

-- the seats that are numbered
abbrev pub seats_in : List NumberedSeat → List Seat
seats_in numbered = map (λ n. n.seat) numbered

-- the sheet is that to which the lines lead of which the store has the sums; these are its seats of all processes that may be
-- joined, numbered by the lines, and this is the list of the lines
pub record AreSeatsOf (layout : Layout) (joins : ℕ) (counts : List ℕ) (sums : LineSums) (lines : List (List ℕ)) (epoch : ℕ) (s : SharedSheet) (seats : List NumberedSeat) (list : EditList) : Type 0 where
  pub made : List Seat
  pub leads : LeadsTo layout counts s made lines
  pub summed : IsAt sums lines
  pub joined : seats_in seats ≡ seats_below joins made
  pub numbered : AreNumberedBy layout joins lines leads.edits epoch seats
  pub list_is : IsListOf layout joins lines list
