use Rattle.std.proofs.Common.{◌≡◌}
use Rattle.ds_eval.specs.Rounds.{IsTable}
use Rattle.ds_eval.proofs.guess.guessed.Given as goal

abbrev pub invariant-loop-place : goal.invariant-loop-place
invariant-loop-place l = record {
  shape : l.opened.shape ≡ l.fn.sheet.shape;
  table : IsTable l.fn.sheet.shape l.table.items;
}
