use Rattle.std.proofs.Common.{[], inr, refl, sym, subst}
use Rattle.ds_core.specs.declared.event.Event.TheVariants as events
use Rattle.ds_core.specs.declared.reply.Reply.{Reply}
use Rattle.ds_script.specs.declared.order.Command.{Command}
use Rattle.ds_script.specs.Doing.{Once}
use Rattle.ds_script.specs.Orders.{command_view}
use Rattle.ds_trace.specs.Rows.{Happens, IsFull}
use Rattle.ds_trace.specs.Trails.{Hinders, ObeysBy}
use Rattle.ds_trace.proofs.Trails.{breaks_here, once, on_err, on_ok, looks}
use Rattle.ds_trace.proofs.play.carry_out.Goals as goal

pub returns-in-Stop-clause-obeys : goal.returns-in-Stop-clause-obeys
returns-in-Stop-clause-obeys c =
    on_ok c.stop.result ((reply : Reply) × Happens c.args.places.now c.args.world.now (events.Stop c.in-Stop.process) reply c.stop.new.world c.args.rows.now.items c.stop.new.rows.items)
    (ObeysBy c.args.places.now c.args.world.now (command_view c.args.command) c.stop.new.world c.args.rows.now.items c.stop.new.rows.items)
    (λ h. subst (λ (d : Command). ObeysBy c.args.places.now c.args.world.now (command_view d) c.stop.new.world c.args.rows.now.items c.stop.new.rows.items) (sym c.in-Stop.is)
    ([], refl, once c.args.places.now c.in-Stop.process (events.Stop c.in-Stop.process) h.0 c.args.world.now c.stop.new.world c.args.rows.now.items c.stop.new.rows.items h.1)) c.stop.ensures.happens

pub returns-in-Crash-clause-obeys : goal.returns-in-Crash-clause-obeys
returns-in-Crash-clause-obeys c =
    on_ok c.crash.result ((reply : Reply) × Happens c.args.places.now c.args.world.now events.Crash reply c.crash.new.world c.args.rows.now.items c.crash.new.rows.items)
    (ObeysBy c.args.places.now c.args.world.now (command_view c.args.command) c.crash.new.world c.args.rows.now.items c.crash.new.rows.items)
    (λ h. subst (λ (d : Command). ObeysBy c.args.places.now c.args.world.now (command_view d) c.crash.new.world c.args.rows.now.items c.crash.new.rows.items) (sym c.in-Crash.is)
    ([], refl, once c.args.places.now 0 events.Crash h.0 c.args.world.now c.crash.new.world c.args.rows.now.items c.crash.new.rows.items h.1)) c.crash.ensures.happens

pub returns-in-Evict-clause-obeys : goal.returns-in-Evict-clause-obeys
returns-in-Evict-clause-obeys c =
    on_ok c.evict.result ((reply : Reply) × Happens c.args.places.now c.args.world.now (events.Evict c.in-Evict.place) reply c.evict.new.world c.args.rows.now.items c.evict.new.rows.items)
    (ObeysBy c.args.places.now c.args.world.now (command_view c.args.command) c.evict.new.world c.args.rows.now.items c.evict.new.rows.items)
    (λ h. subst (λ (d : Command). ObeysBy c.args.places.now c.args.world.now (command_view d) c.evict.new.world c.args.rows.now.items c.evict.new.rows.items) (sym c.in-Evict.is)
    ([], refl, once c.args.places.now 0 (events.Evict c.in-Evict.place) h.0 c.args.world.now c.evict.new.world c.args.rows.now.items c.evict.new.rows.items h.1)) c.evict.ensures.happens

pub returns-in-Peek-clause-obeys : goal.returns-in-Peek-clause-obeys
returns-in-Peek-clause-obeys c = looks c.args.places.now c.args.world.now c.args.command c.args.rows.now.items c.in-Peek.is

pub returns-in-Stop-clause-hinders : goal.returns-in-Stop-clause-hinders
returns-in-Stop-clause-hinders c =
    on_err c.stop.result (IsFull c.args.rows.now.items) (Hinders c.args.world.now (command_view c.args.command) c.args.rows.now.items)
    (λ why full. subst (λ (d : Command). Hinders c.args.world.now (command_view d) c.args.rows.now.items why) (sym c.in-Stop.is)
    (inr ([], refl, breaks_here c.args.places.now (Once c.in-Stop.process (events.Stop c.in-Stop.process)) c.args.world.now c.args.rows.now.items (events.Stop c.in-Stop.process) why refl full))) c.stop.ensures.full

pub returns-in-Crash-clause-hinders : goal.returns-in-Crash-clause-hinders
returns-in-Crash-clause-hinders c =
    on_err c.crash.result (IsFull c.args.rows.now.items) (Hinders c.args.world.now (command_view c.args.command) c.args.rows.now.items)
    (λ why full. subst (λ (d : Command). Hinders c.args.world.now (command_view d) c.args.rows.now.items why) (sym c.in-Crash.is)
    (inr ([], refl, breaks_here c.args.places.now (Once 0 events.Crash) c.args.world.now c.args.rows.now.items events.Crash why refl full))) c.crash.ensures.full

pub returns-in-Evict-clause-hinders : goal.returns-in-Evict-clause-hinders
returns-in-Evict-clause-hinders c =
    on_err c.evict.result (IsFull c.args.rows.now.items) (Hinders c.args.world.now (command_view c.args.command) c.args.rows.now.items)
    (λ why full. subst (λ (d : Command). Hinders c.args.world.now (command_view d) c.args.rows.now.items why) (sym c.in-Evict.is)
    (inr ([], refl, breaks_here c.args.places.now (Once 0 (events.Evict c.in-Evict.place)) c.args.world.now c.args.rows.now.items (events.Evict c.in-Evict.place) why refl full))) c.evict.ensures.full
