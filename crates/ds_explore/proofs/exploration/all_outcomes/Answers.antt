use Rattle.std.proofs.Common.{refl}
use Rattle.ds_explore.proofs.Telling.{fresh_as, outcomes_first, outcomes_more}
use Rattle.ds_explore.proofs.exploration.all_outcomes.Goals as goal

pub loop-i-init : goal.loop-i-init
loop-i-init c =
    outcomes_first c.args.script.now c.args.start.now c.in_ok-first.first.key c.in_ok-keys.keys.items c.in_ok-first.first.outcome c.in_ok-outcomes.outcomes.items c.in_ok-keys.ensures.items c.in_ok-outcomes.ensures.items c.in_ok-first.ensures

pub loop-i-preserved : goal.loop-i-preserved
loop-i-preserved c =
    outcomes_more c.args.script.now c.args.start.now c.loop-i.keys.items c.loop-i.outcomes.items c.in_ok-made.made.key c.in_ok-made.made.outcome c.push.new.self.items c.push-in-loop-i.new.self.items c.loop-i.invariant c.in_ok-made.ensures
    (fresh_as c.loop-i.keys.items c.deref.result.now c.in_ok-made.made.key.items c.deref-in-loop-i.result.now c.deref.ensures.value c.deref-in-loop-i.ensures.value (c.if-not-is_new.ensures refl)) c.in_ok-push.ensures.items
    c.in_ok-push-2.ensures.items
