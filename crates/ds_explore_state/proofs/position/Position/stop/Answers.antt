use Rattle.std.proofs.Common.{rules, refl}
use Rattle.ds_explore_state.specs.Orders.{seat_stopped}
use Rattle.ds_explore_state.proofs.Happening.{seat_put}
use Rattle.ds_explore_state.proofs.position.Position.stop.Goals as goal

pub returns-in_ok-seat : goal.returns-in_ok-seat
returns-in_ok-seat c = record {
  reply = c.take-reply.result;
  writes = refl;
  fits = c.take-reply.ensures.fits;
  seats = seat_put c.args.self.now.seats.items _ c.args.process c.in_ok-seat.seat c.index.result.now (seat_stopped c.args.process c.take-reply.result c.take-reply.new.world) (search rules) c.index.ensures c.in_ok-seat.ensures refl;
}
