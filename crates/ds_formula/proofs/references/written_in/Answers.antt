use Rattle.ds_formula.specs.Plain.{formula}
use Rattle.ds_formula.proofs.Lists.{refs_listed}
use Rattle.ds_formula.proofs.references.written_in.Goals as goal

pub returns-then-branch : goal.returns-then-branch
returns-then-branch c = refs_listed (formula c.args.tree.now) c.list.new.cells.items (rw c.new-cells.ensures.items at (c.in_ok-list.ensures c.if-branch.true))
