use Rattle.ds_script_io.proofs.Known.{Appends-Keeps}
use Rattle.ds_trace_picture.proofs.script.draw_within.Goals as goal

pub returns-in-Ok-clause-writes : goal.returns-in-Ok-clause-writes
returns-in-Ok-clause-writes g c = λ ne.
    let w = c.write_picture-end.ensures.writes ne in (w.0, Appends-Keeps _ _ _ w.0 w.1 c.flush.ensures.bytes, w.2)
