use Rattle.std.proofs.Common.{◌≡◌, suc, max, map}
use Rattle.ds_eval.specs.Inputs.{heights_in}
use Rattle.ds_eval.specs.Local.{above}
use Rattle.ds_eval.specs.Rows.{row_from}
use Rattle.ds_eval.proofs.gather.height_with_row.Given as goal

abbrev pub invariant-loop-k : goal.invariant-loop-k
invariant-loop-k l = suc l.greatest ≡ max 1 (above (map (heights_in l.inputs.items) (row_from l.first l.k)))
