use Rattle.std.proofs.Common.{add-one}
use Rattle.ds_core.specs.declared.event.Event.TheVariants.{BeginRecover}
use Rattle.ds_script.specs.Orders.{Whole}
use Rattle.ds_script_stops.specs.StopBlocks.{recoveries}
use Rattle.ds_script_stops.proofs.Telling.{tells_none, tells_more}
use Rattle.ds_script_stops.proofs.block.recover.Goals as goal

pub loop-process-init : goal.loop-process-init
loop-process-init c = tells_none c.args.world.now c.args.text.now.items

pub loop-process-preserved : goal.loop-process-preserved
loop-process-preserved c =
    rw add-one (tells_more c.args.world.now c.loop-process.world c.tell.new.world (recoveries c.loop-process.process) (Whole c.loop-process.process (BeginRecover c.loop-process.process))
    c.args.text.now.items c.loop-process.text.items c.in_ok-tell.ensures.0 c.tell.new.text.items c.loop-process.invariant c.in_ok-tell.ensures.1.2 c.in_ok-tell.ensures.2)
