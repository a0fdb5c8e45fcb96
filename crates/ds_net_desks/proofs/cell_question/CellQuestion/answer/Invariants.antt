use Rattle.std.proofs.Common.{◌≡◌}
use Rattle.ds_net_desks.specs.CellQuestions.{HasTried}
use Rattle.ds_net_desks.proofs.cell_question.CellQuestion.answer.Given as goal

abbrev pub invariant-loop : goal.invariant-loop
invariant-loop g l = record {
  tried : HasTried l.fn.numbered l.fn.notebook.seen.items l.numbered l.notebook.seen.items;
  notes : (l.notebook.heard ≡ l.fn.notebook.heard) × (l.notebook.keyed ≡ l.fn.notebook.keyed);
  process : l.numbered.seat.pass.process ≡ l.fn.numbered.seat.pass.process;
}
