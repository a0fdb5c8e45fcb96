use Rattle.std.proofs.Common.{refl, arith}
use Rattle.ds_formula.proofs.Marks.{refs_answer, no_rows}
use Rattle.ds_formula.proofs.references.marked_in.Goals as goal

pub returns : goal.returns
returns c = refs_answer c.args.tree.now c.marked.result _ _ refl c.mark.ensures.marks c.marked.ensures

pub mark-requires : goal.mark-requires
mark-requires c = no_rows _ _ refl (omega arith)
