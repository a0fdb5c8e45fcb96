-- A numbered seat: the seat of a process, and the numbers by which clients know the edits of each process.
use Rattle.std.specs.Prelude.{◌≡◌, ◌⊎◌, ◌<◌}
use Rattle.ds_server.specs.Replies as said
use Rattle.ds_net_desks.specs.Counting.{seen_by}
use Rattle.ds_net_desks.specs.declared.numbered_seat.NumberedSeat.{NumberedSeat}

-- what a client is answered by the seat, where the sheet says this
abbrev pub seen_at : NumberedSeat → said.Said → said.Said
seen_at numbered what = seen_by numbered.numberings.items numbered.seat.pass.process what

-- the seat is as it was, or is that of the same process in a sheet to which the server has gone over since
pub record CatchesUp (old new : NumberedSeat) : Type 0 where
  pub process : new.seat.pass.process ≡ old.seat.pass.process
  pub newer : (new ≡ old) ⊎ (old.epoch < new.epoch)

-- all but the seat is as it was
pub record ChangesSeatAlone (old new : NumberedSeat) : Type 0 where
  pub numberings : new.numberings ≡ old.numberings
  pub epoch : new.epoch ≡ old.epoch
