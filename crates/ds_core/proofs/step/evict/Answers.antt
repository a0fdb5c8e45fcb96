use Rattle.ds_state.specs.Value.{WorldValue}
use Rattle.ds_core.proofs.Evicted.{evict_kept}
use Rattle.ds_core.proofs.step.evict.Goals as goal

pub invariant_of-world : goal.invariant_of-world
invariant_of-world c =
    let v : WorldValue = record { sheet = c.world.inside.words; situations = c.world.inside.situations.items; counted = c.world.inside.counted.items; open_edits = c.world.inside.open_edits.items; done = c.world.inside.done; settled = c.world.inside.settled; reports = c.world.inside.reports } in
    (evict_kept v c.evict.new.self c.args.place _ c.world.invariant c.evict.ensures.layout c.evict.ensures.evicts).0
