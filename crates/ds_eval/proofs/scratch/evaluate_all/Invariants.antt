use Rattle.ds_eval.specs.SheetContents.{contents_of}
use Rattle.ds_eval.proofs.Rounds.{IsRound}
use Rattle.ds_eval.proofs.scratch.evaluate_all.Given as goal

abbrev pub invariant-loop-k : goal.invariant-loop-k
invariant-loop-k l = IsRound l.sheet.shape (contents_of l.sheet) l.initial.table.items l.table.items l.k l.changed
