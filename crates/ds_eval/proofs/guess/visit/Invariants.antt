use Rattle.std.proofs.Common.{◌≡◌}
use Rattle.ds_eval.specs.Rounds.{IsTable}
use Rattle.ds_eval.proofs.guess.visit.Given as goal

abbrev pub invariant-loop : goal.invariant-loop
invariant-loop l = record {
  shape : l.opened.shape ≡ l.sheet.shape;
  table : IsTable l.sheet.shape l.table.items;
}
