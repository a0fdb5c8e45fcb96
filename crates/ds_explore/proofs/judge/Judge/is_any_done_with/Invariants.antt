use Rattle.std.proofs.Common.{◌≡◌}
use Rattle.ds_explore.specs.Judging.{any_below, is_done_with}
use Rattle.ds_explore.proofs.judge.Judge.is_any_done_with.Given as goal

abbrev pub invariant-loop-process : goal.invariant-loop-process
invariant-loop-process l = l.any ≡ any_below (is_done_with l.self l.ending l.cell l.text) l.process
