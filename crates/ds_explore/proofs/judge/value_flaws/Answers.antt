use Rattle.ds_explore.specs.Judging.{texts_of}
use Rattle.ds_explore.proofs.Valued.{values_ok}
use Rattle.ds_explore.proofs.judge.value_flaws.Goals as goal

pub returns : goal.returns
returns c =
    values_ok c.add_value_flaws.result c.args.world.now c.shape_of.result (texts_of c.args.texts.now) c.in_ok-expected.expected.items c.deref.result.now c.values.result.now c.args.flaws.now.items c.add_value_flaws.new.flaws.items c.shape_of.ensures
    c.in_ok-expected.ensures c.deref.ensures.value c.values.ensures c.add_value_flaws.ensures
