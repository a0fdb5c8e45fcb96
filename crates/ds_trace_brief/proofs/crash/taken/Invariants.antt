use Rattle.std.proofs.Common.{◌≡◌, string_bytes}
use Rattle.ds_trace_brief.specs.Crashing.{taken_below}
use Rattle.ds_trace_brief.proofs.crash.taken.Given as goal

abbrev pub invariant-loop-number : goal.invariant-loop-number
invariant-loop-number l = string_bytes l.sentence ≡ taken_below l.trace l.event l.number
