use Rattle.std.proofs.Common.{◌≤◌}
use Rattle.ds_eval.proofs.Rounds.{IsBegun}
use Rattle.ds_eval.proofs.guess.blank_table.Given as goal

abbrev pub invariant-loop-k : goal.invariant-loop-k
invariant-loop-k l = record {
  begun : IsBegun l.shape l.k l.table.items;
  room : l.count ≤ l.table.room;
}
