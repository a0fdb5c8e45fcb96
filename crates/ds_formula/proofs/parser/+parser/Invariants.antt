use Rattle.std.proofs.Common.{◌+◌, ◌-◌, ◌*◌, length, map}
use Rattle.ds_formula.specs.Plain.{formula}
use Rattle.ds_formula.specs.Functions.{scope_of}
use Rattle.ds_formula.proofs.Parses.{ClimbSoFar}
use Rattle.ds_formula.proofs.Calls.{ArgumentsSoFar}
use Rattle.ds_formula.proofs.parser.+parser.Given as goal

abbrev pub decreases-level : goal.decreases-level
decreases-level l = 16 * length l.text.now + (7 - l.at)

abbrev pub decreases-operand : goal.decreases-operand
decreases-operand l = 16 * length l.text.now + 2

abbrev pub decreases-call : goal.decreases-call
decreases-call l = 16 * length l.text.now + 1

abbrev pub decreases-arguments : goal.decreases-arguments
decreases-arguments l = 16 * length l.text.now + 8

abbrev pub invariant-level-loop-operator : goal.invariant-level-loop-operator
invariant-level-loop-operator l = ClimbSoFar (scope_of l.shape) l.at l.text (formula l.left.tree) l.left.ranges l.rest

abbrev pub decreases-level-loop-operator : goal.decreases-level-loop-operator
decreases-level-loop-operator l = length l.rest

abbrev pub invariant-arguments-loop-after : goal.invariant-arguments-loop-after
invariant-arguments-loop-after l = ArgumentsSoFar (scope_of l.shape) l.function l.text (map formula l.trees.items) l.ranges l.rest

abbrev pub decreases-arguments-loop-after : goal.decreases-arguments-loop-after
decreases-arguments-loop-after l = length l.rest
