use Rattle.ds_script_io.proofs.Known.{Appends-Keeps}
use Rattle.ds_explore.proofs.explore.explore.Goals as goal

pub returns-in-Ok-clause-writes : goal.returns-in-Ok-clause-writes
returns-in-Ok-clause-writes g c = λ ne.
    let w = c.explore_all-end.ensures.writes ne in (w.0, Appends-Keeps _ _ _ w.0 w.1 c.flush.ensures.bytes, w.2)
