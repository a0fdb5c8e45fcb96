use Rattle.std.proofs.Common.{map, take}
use Rattle.ds_formula.specs.Plain.{formula, listed}
use Rattle.ds_formula.specs.Marks.{AreRowsOf, MarksBy, some_mentions}
use Rattle.ds_formula.proofs.content.Tree.+mark.Given as goal

abbrev pub invariant-loop-argument : goal.invariant-loop-argument
invariant-loop-argument l = record {
  marks : MarksBy (some_mentions (listed (map formula (take l.argument-index l.argument-items)))) l.initial.marks l.marks;
  rows : AreRowsOf l.marks l.rows;
}
