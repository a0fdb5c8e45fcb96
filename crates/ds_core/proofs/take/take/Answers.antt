use Rattle.std.proofs.Common.{arith}
use Rattle.ds_core.proofs.Counts.{adds, falls_by}
use Rattle.ds_core.proofs.take.take.Goals as goal

pub returns : goal.returns
returns c =
    let a = adds c.args.world.now c.happen-reply.new.world c.args.event.now c.happen-reply.result c.happen-reply.ensures in
    let settled = a.settled in
    record {
      fits = record { takes = c.happen-reply.ensures; good = c.is_always_good-2.ensures };
      reply = a.reply_is;
      done = a.done;
      settled = omega (arith, settled);
      reports = a.reports;
      fewer = falls_by c.args.world.now c.happen-reply.new.world c.args.event.now c.happen-reply.result c.is_always_good.ensures.sound c.happen-reply.ensures;
    }
