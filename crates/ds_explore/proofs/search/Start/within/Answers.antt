use Rattle.ds_explore_state.specs.Buffers.{HasEmptyBuffers}
use Rattle.ds_explore.proofs.Leading.{known_ok}
use Rattle.ds_explore.proofs.search.Start.within.Goals as goal

pub returns-clause-known : goal.returns-clause-known
returns-clause-known c = known_ok c.of.result c.in_ok-first.first (HasEmptyBuffers c.args.world) c.of.ensures.first c.in_ok-first.ensures.known
