use Rattle.ds_explore_state.proofs.Parts.{key_at}
use Rattle.ds_explore_state.proofs.describe.Numbers.key.Goals as goal

pub loop-i-preserved : goal.loop-i-preserved
loop-i-preserved c = record {
  key = key_at c.loop-i.self c.number.new.self c.loop-i.key.items c.push.new.self.items c.in_ok-number.field-0 c.args.parts.now c.loop-i.i c.index-parts-i.result c.loop-i-test.true c.index-parts-i.is
      c.in_ok-number.ensures.keeps c.loop-i.invariant.key c.in_ok-number.ensures.there c.in_ok-push.ensures.items;
  keeps = λ k part h. c.in_ok-number.ensures.keeps k part (c.loop-i.invariant.keeps k part h);
}
