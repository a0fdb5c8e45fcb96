use Rattle.std.proofs.Common.{◌∙◌, sym, ap, ◌-◌, ℕ, arith}
use Rattle.ds_state.specs.Value.{world_of}
use Rattle.ds_calls.specs.Marked.{marked_from}
use Rattle.ds_calls.proofs.Marks.{marked_here, marked_later}
use Rattle.ds_calls.proofs.marked.next_marked.Goals as goal

pub loop-cell-preserved : goal.loop-cell-preserved
loop-cell-preserved c =
    let above = c.loop-cell.invariant.above in
    let low = c.loop-cell-test.true in
    record {
      above = omega (arith, above);
      below = omega (arith, low);
      same = c.loop-cell.invariant.same ∙ marked_later (world_of c.args.world.now) c.cells-count.result c.loop-cell.cell low (sym c.is_marked.ensures ∙ c.if-is_marked.false);
    }

pub returns-then-is_marked-clause-value : goal.returns-then-is_marked-clause-value
returns-then-is_marked-clause-value c =
    sym (ap (λ (n : ℕ). marked_from (world_of c.args.world.now) (n - c.args.from) c.args.from) (sym c.cells-count.ensures.value)
    ∙ c.loop-cell.invariant.same ∙ marked_here (world_of c.args.world.now) c.cells-count.result c.loop-cell.cell c.loop-cell-test.true (sym c.is_marked.ensures ∙ c.if-is_marked.true))
