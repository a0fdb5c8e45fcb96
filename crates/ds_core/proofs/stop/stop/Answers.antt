use Rattle.std.proofs.Common.{◌≢◌, ◌<◌, length, get_or, refl, ◌∙◌, arith}
use Rattle.std.proofs.lemmas.List.{get_or_default}
use Rattle.ds_state.specs.Value.{first_rest, WorldValue}
use Rattle.ds_state.specs.declared.situation.Situation.TheVariants as situation
use Rattle.ds_core.proofs.Stopped.{stop_there, stops_in, stop_reserved}
use Rattle.ds_core.proofs.stop.stop.Goals as goal

pub invariant_of-world : goal.invariant_of-world
invariant_of-world c =
    let v : WorldValue = record { sheet = c.world.inside.words; situations = c.world.inside.situations.items; counted = c.world.inside.counted.items; open_edits = c.world.inside.open_edits.items; done = c.world.inside.done; settled = c.world.inside.settled; reports = c.world.inside.reports } in
    let there : c.args.process < length v.situations = omega arith in
    let runs : get_or v.situations c.args.process (situation.Idle first_rest) ≢ situation.Stopped = λ is. c.in_default.not-Stopped (c.index.ensures ∙ get_or_default v.situations c.args.process c.index.result.now (situation.Idle first_rest) there ∙ is) in
    rw c.put.ensures.items (stop_reserved v c.stop.new.self c.args.process _ c.world.invariant c.stop.ensures.layout c.stop.ensures.stops there runs)

pub returns : goal.returns
returns c =
    let v : WorldValue = record { sheet = c.world.inside.words; situations = c.world.inside.situations.items; counted = c.world.inside.counted.items; open_edits = c.world.inside.open_edits.items; done = c.world.inside.done; settled = c.world.inside.settled; reports = c.world.inside.reports } in
    let there : c.args.process < length v.situations = omega arith in
    let runs : get_or v.situations c.args.process (situation.Idle first_rest) ≢ situation.Stopped = λ is. c.in_default.not-Stopped (c.index.ensures ∙ get_or_default v.situations c.args.process c.index.result.now (situation.Idle first_rest) there ∙ is) in
    rw (← c.world.view_is, c.put.ensures.items) (record {
      there = stop_there v c.stop.new.self c.args.process _ c.world.invariant c.stop.ensures.layout c.stop.ensures.stops there runs;
      stops = stops_in v c.stop.new.self c.args.process _ c.world.invariant c.stop.ensures.layout c.stop.ensures.stops there runs;
      done = refl;
      reports = record { settled = refl; reports = refl };
    })
