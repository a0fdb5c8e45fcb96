use Rattle.std.proofs.Common.{ℕ, ◌≡◌, ◌++◌, List, [], ◌∷◌}
use Rattle.ds_core.specs.declared.event.Event.TheVariants.{BeginShow}
use Rattle.ds_script.specs.Orders.{Whole, Settle}
use Rattle.ds_script.specs.Doing.{IsOrderOf, plan}
use Rattle.ds_script.specs.Plays.{Played}
use Rattle.ds_script_stops.specs.StopBlocks.{recoveries, deeds_behind}
use Rattle.ds_script_stops.specs.Reaching.{Tells}
use Rattle.ds_script_stops.proofs.Telling.{tells_more, tells_behind, on_ok}
use Rattle.ds_script_stops.proofs.block.tell_behind.Goals as goal

pub returns : goal.returns
returns c =
    on_ok c.tell-2.result ((answer : List ℕ) × ((order : List ℕ) × IsOrderOf c.tell.new.world (Whole 0 (BeginShow 0)) order × Played (plan c.tell.new.world order (Whole 0 (BeginShow 0))) c.tell.new.world answer c.tell-2.new.world) × (c.tell-2.new.text.items ≡ c.tell.new.text.items ++ answer))
    (Tells c.args.world.now (deeds_behind c.args.world.now.sheet.layout.processes) c.args.text.now.items c.tell-2.new.text.items c.tell-2.new.world)
    (λ h. tells_behind c.args.world.now c.tell-2.new.world c.args.world.now.sheet.layout.processes c.args.text.now.items c.tell-2.new.text.items
    (tells_more c.args.world.now c.tell.new.world c.tell-2.new.world (recoveries c.args.world.now.sheet.layout.processes ++ Settle 0 ∷ []) (Whole 0 (BeginShow 0))
    c.args.text.now.items c.tell.new.text.items h.0 c.tell-2.new.text.items
    (tells_more c.args.world.now c.recover.new.world c.tell.new.world (recoveries c.args.world.now.sheet.layout.processes) (Settle 0)
    c.args.text.now.items c.recover.new.text.items c.in_ok-tell.ensures.0 c.tell.new.text.items c.in_ok-recover.ensures c.in_ok-tell.ensures.1.2 c.in_ok-tell.ensures.2)
    h.1.2 h.2)) c.tell-2.ensures
