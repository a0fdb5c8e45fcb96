use Rattle.std.proofs.Common.{rules, ◌≡◌, Some}
use Rattle.ds_state.specs.Value.{world_of}
use Rattle.ds_core.specs.Takes.{Fits}
use Rattle.ds_core.specs.declared.event.Event.TheVariants.{Step}
use Rattle.ds_crew.specs.Kept.{stepped}
use Rattle.ds_crew.specs.LockedCalls.{call_in, step_reply}
use Rattle.ds_crew.proofs.Settles.{settled_by, stepped_by, fits_as, steps_in, done_by, counted_by, reported_by}
use Rattle.ds_crew.proofs.steps.step.Goals as goal

pub returns-then-not-is_in-clause-happened : goal.returns-then-not-is_in-clause-happened
returns-then-not-is_in-clause-happened g c = stepped_by c.args.call c.args.process c.args.world.now c.args.world.now _ c.is_always_good.ensures (search rules)

pub returns-then-not-is_in-clause-made : goal.returns-then-not-is_in-clause-made
returns-then-not-is_in-clause-made g c = stepped (stepped_by c.args.call c.args.process c.args.world.now c.args.world.now _ c.is_always_good.ensures (search rules))

pub returns : goal.returns
returns g c =
    let kind = g.E.CallEnd.kind in
    let p = c.args.process in
    let old = c.args.world.now in
    let new = c.step-turn.new.world in
    let reply = step_reply kind c.step-turn.result in
    let good = c.is_always_good.ensures in
    let in_it : call_in ((world_of old).situation p) ≡ Some c.args.call = search rules in
    let fits : Fits old (Step p) reply new = fits_as kind c.args.call p old new c.step-turn.result c.requires in_it c.is_always_good-2.ensures c.step-turn.ensures in
    let steps = steps_in kind c.args.call p old new reply in_it fits in
    let happened = stepped_by c.args.call p old new reply good steps in
    record {
      steps = steps;
      happened = happened;
      made = stepped happened;
      settles = λ is. settled_by p old new reply good fits is;
      done = done_by p old new reply fits;
      settled = counted_by p old new reply fits;
      report = λ is. reported_by p old new reply good fits is;
    }
