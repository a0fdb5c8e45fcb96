-- That pools of seats, and a sheet as it is served, may be shared by threads.
use Rattle.std.proofs.Crossing.{crosses}
use denote.Param.Send.{IsSend, IsSync, sendable}
use denote.Param.SendFields.{declared_send, declared_sync}
use denote.Struct.Record.{declared}
use denote.RattleType.{RattleType}
use denote.Ref.{NamedLft}
use Rattle.std.specs.contracts.alloc.Global as Global
use Rattle.std.specs.contracts.impls.GlobalAllocator.TheImpl.{ghosts}
use Rattle.atomic_table.proofs.shared.Shared.TheSendSync.{the_sync as shared_sync}
use Rattle.atomic_table.proofs.send_lease.SendLease.TheSendSync.{the_sync as lease_sync}
use Rattle.crossbeam_queue.specs.contracts.array_queue.plain.ArrayQueue as ArrayQueue
use Rattle.ds_shared_seats.proofs.Crossing.{seat_send}
use Rattle.ds_net_floor.proofs.Crossing.{keeping_sync}
use Rattle.ds_order.specs.contracts.known.KnownReferences as KnownReferences
use Rattle.ds_net_desks.specs.contracts.numbering.Numbering as Numbering
use Rattle.ds_net_desks.specs.contracts.numbered_seat.NumberedSeat as NumberedSeat
use Rattle.ds_net_desks.specs.contracts.seat_pool.SeatPool as SeatPool
use Rattle.ds_net_desks.specs.contracts.stored_floor.StoredFloor as StoredFloor

-- what is known of references may be shared by threads
pub references_sync : IsSync KnownReferences.the_row
references_sync = search (sendable, crosses) depth 60 fits 100000

numbering_send : IsSend Numbering.the_row
numbering_send = search (sendable, crosses) depth 40

-- a numbered seat may go to another thread
pub numbered_send : IsSend NumberedSeat.the_row
numbered_send = declared_send (declared NumberedSeat.struct _) (seat_send, (search (sendable, crosses, numbering_send) depth 40, (search (sendable, crosses) depth 20, tt)))

queue_sync : IsSync (ArrayQueue.the_row NumberedSeat.the_row Global.the_row ghosts)
queue_sync = search (sendable, crosses, shared_sync, lease_sync, numbered_send) depth 60 fits 100000

-- a pool of seats may be shared by threads
pub pool_sync : IsSync SeatPool.the_row
pool_sync = search (sendable, crosses, queue_sync) depth 60 fits 100000

module _ (κ : NamedLft) (A : RattleType) (analyst_sync : IsSync A) where
  -- a sheet, as it is served, may be shared by threads where its analyst may be
  pub floor_sync : IsSync (StoredFloor.the_row κ A)
  floor_sync = declared_sync (declared (StoredFloor.struct κ A) _) (search sendable depth 20, (search (sendable, pool_sync) depth 40, (search sendable depth 20, (search sendable depth 20, (search (sendable, references_sync) depth 40, (search (sendable, keeping_sync) depth 40, (search (sendable, analyst_sync) depth 20, tt)))))))
