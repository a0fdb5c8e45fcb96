use Rattle.ds_eval.specs.SheetContents.{contents_of}
use Rattle.ds_eval.specs.Rounds.{IsTable, AreSettled}
use Rattle.ds_eval.proofs.scratch.settle.Given as goal

abbrev pub invariant-loop : goal.invariant-loop
invariant-loop l = record {
  table : IsTable l.sheet.shape l.table.items;
  settled : AreSettled l.sheet.shape (contents_of l.sheet) l.counter l.table.items;
}
