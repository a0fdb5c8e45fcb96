use Rattle.std.proofs.Common.{◌≡◌, ◌++◌}
use Rattle.ds_explore.specs.Judging.{flaws_below, text_flaw}
use Rattle.ds_explore.proofs.judge.Judge.text_flaws.Given as goal

abbrev pub invariant-loop-cell : goal.invariant-loop-cell
invariant-loop-cell l = l.flaws.items ≡ l.fn.flaws.items ++ flaws_below (text_flaw l.self l.ending l.texts) l.cell
