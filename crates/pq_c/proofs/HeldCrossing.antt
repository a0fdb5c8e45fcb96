-- That what a holder holds may cross threads: variant by variant, since no search finds it.
use denote.Param.Send.{IsSend}
use denote.Param.SendFields.{variants_send}
use Rattle.pq_seats.proofs.Crossing.{queue_send, seat_send, closed_send}
use Rattle.pq_c.specs.contracts.held.Held as Held

-- what a holder holds may go to another thread
pub held_send : IsSend Held.the_row
held_send = variants_send Held.enum ((queue_send, tt), ((seat_send, tt), ((closed_send, tt), (tt, tt))))
