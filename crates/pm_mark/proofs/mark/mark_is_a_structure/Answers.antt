use Rattle.std.proofs.Common.{arith}
use Rattle.pm_base.proofs.ByKind.{kind_begins, kind_steps}
use Rattle.pm_mark.specs.Marks.{mark, raises}
use Rattle.pm_mark.proofs.mark.mark_is_a_structure.Goals as goal

pub returns : goal.returns
returns c = record {
  opens = grind arith;
  begins = kind_begins mark c.args.processes raises c.raises_begin.ensures;
  steps = kind_steps mark c.args.processes raises c.raises_step.ensures;
  evicts = grind arith;
  stops = grind arith;
  crashes = grind arith;
}
