use Rattle.std.proofs.Common.{inl, refl}
use Rattle.ds_state.specs.Value.{WorldValue}
use Rattle.ds_script_stops.specs.Reaching.{TellsBlock, IsTold}
use Rattle.ds_script_stops.proofs.Telling.{if_ok}
use Rattle.ds_script_stops.proofs.stops.told.Goals as goal

pub returns-then-contains : goal.returns-then-contains
returns-then-contains c =
    if_ok c.block_of.result (λ text. (new : WorldValue) × TellsBlock c.args.stop c.args.world.now text.items new) (λ text. IsTold c.args.range c.args.stop c.args.world.now text.items)
    (λ text h. inl (c.if-contains.ensures.0 refl, h.0, h.1)) c.block_of.ensures
