use Rattle.std.proofs.Common.{◌∙◌}
use Rattle.ds_stop_groups.proofs.Lines.{block_is}
use Rattle.ds_stop_groups.proofs.groups.block_of.Goals as goal

pub returns-in-Some-clause-block : goal.returns-in-Some-clause-block
returns-in-Some-clause-block c =
    block_is c.args.text.now c.deref.result.now c.deref-in-Some.result.now c.in-Some.rest.now c.block_up_to.result.answers.now c.block_up_to.result.after.now c.args.stop c.place_of.result
    (c.deref.ensures.value ∙ c.in_ok-line.ensures) (c.deref-in-Some.ensures.value ∙ c.in_ok-next.ensures) c.in-Some.ensures.some c.block_up_to.ensures.whole c.block_up_to.ensures.place c.place_of.ensures.first c.place_of.ensures.is
