use Rattle.std.proofs.Common.{[]}
use Rattle.ds_script_io.proofs.Known.{Appends-none}
use Rattle.ds_trace_picture.proofs.Drawn.{undrawn}
use Rattle.ds_trace_picture.proofs.script.write_picture.Goals as goal

pub returns-in-Err-clause-writes : goal.returns-in-Err-clause-writes
returns-in-Err-clause-writes g c = λ ne. ([], Appends-none _, undrawn c.args.limit c.args.script.now c.in-Err.end c.in-Err.ensures.undrawn)
