use Rattle.std.proofs.Common.{◌≡◌}
use Rattle.ds_explore.specs.Judging.{flaws_below, process_flaw}
use Rattle.ds_explore.proofs.judge.Judge.process_flaws.Given as goal

abbrev pub invariant-loop-process : goal.invariant-loop-process
invariant-loop-process l = l.flaws.items ≡ flaws_below (process_flaw l.self l.ending) l.process
