use Rattle.std.proofs.Common.{refl, arith}
use Rattle.ds_state.specs.Value.{WorldValue}
use Rattle.ds_core.proofs.Stopped.{heads_there, crashes_to, crash_reserved}
use Rattle.ds_core.proofs.stop.crash.Goals as goal

pub lose-requires : goal.lose-requires
lose-requires c =
    let v : WorldValue = record { sheet = c.world.inside.words; situations = c.world.inside.situations.items; counted = c.world.inside.counted.items; open_edits = c.world.inside.open_edits.items; done = c.world.inside.done; settled = c.world.inside.settled; reports = c.world.inside.reports } in
    heads_there v c.world.invariant.good

pub invariant_of-world : goal.invariant_of-world
invariant_of-world c =
    let v : WorldValue = record { sheet = c.world.inside.words; situations = c.world.inside.situations.items; counted = c.world.inside.counted.items; open_edits = c.world.inside.open_edits.items; done = c.world.inside.done; settled = c.world.inside.settled; reports = c.world.inside.reports } in
    rw (c.lose.ensures.items, c.lose.ensures.capacity) (crash_reserved v c.crash.new.self c.stop_all.new.situations.items _ c.world.invariant c.crash.ensures.layout c.crash.ensures.crashes (omega arith) (λ p lt. c.stop_all.ensures.stopped p (omega arith)))

pub returns : goal.returns
returns c =
    let v : WorldValue = record { sheet = c.world.inside.words; situations = c.world.inside.situations.items; counted = c.world.inside.counted.items; open_edits = c.world.inside.open_edits.items; done = c.world.inside.done; settled = c.world.inside.settled; reports = c.world.inside.reports } in
    rw (← c.world.view_is, c.lose.ensures.items) (record {
      crashes = crashes_to v c.crash.new.self c.stop_all.new.situations.items _ c.world.invariant c.crash.ensures.layout c.crash.ensures.crashes (omega arith) (λ p lt. c.stop_all.ensures.stopped p (omega arith));
      done = refl;
      reports = record { settled = refl; reports = refl };
    })
