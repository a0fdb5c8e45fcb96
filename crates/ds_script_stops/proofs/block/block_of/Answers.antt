use Rattle.std.proofs.Common.{subst}
use Rattle.ds_state.specs.Value.{WorldValue}
use Rattle.ds_script_stops.specs.Reaching.{TellsBlock}
use Rattle.ds_script_stops.proofs.Telling.{if_ok}
use Rattle.ds_script_stops.proofs.block.block_of.Goals as goal

pub returns : goal.returns
returns c =
    if_ok c.block.result (λ text. TellsBlock c.args.stop c.in_ok-copy.copy text.items c.block.new.world) (λ text. (x : WorldValue) × TellsBlock c.args.stop c.args.world.now text.items x)
    (λ text h. (c.block.new.world, subst (λ (v : WorldValue). TellsBlock c.args.stop v text.items c.block.new.world) c.in_ok-copy.ensures h)) c.block.ensures
