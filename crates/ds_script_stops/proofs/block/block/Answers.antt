use Rattle.std.proofs.Common.{List, ℕ, subst}
use Rattle.ds_script_stops.specs.StopBlocks.{deeds_behind}
use Rattle.ds_script_stops.specs.Reaching.{Tells}
use Rattle.ds_script_stops.proofs.Telling.{tells_block}
use Rattle.ds_script_stops.proofs.block.block.Goals as goal

pub returns : goal.returns
returns c =
    tells_block c.args.stop c.args.world.now c.crash.new.world c.tell_behind.new.world c.tell_behind.new.text.items c.crash.ensures
    (subst (λ (before : List ℕ). Tells c.crash.new.world (deeds_behind c.crash.new.world.sheet.layout.processes) before c.tell_behind.new.text.items c.tell_behind.new.world)
    c.in_ok-text.ensures c.in_ok-tell_behind.ensures)
