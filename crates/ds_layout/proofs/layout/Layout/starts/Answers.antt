use Rattle.std.proofs.Common.{ap, ◌∙◌}
use Rattle.ds_layout.specs.Places.{cells_of, starts_for, starts_of}
use Rattle.ds_layout.proofs.layout.Layout.starts.Goals as goal

pub returns-clause-value : goal.returns-clause-value
unfolding starts_of
returns-clause-value c =
    let p = c.args.self.now.processes in
    ap (λ n. starts_for n c.row_parts-row_parts.result p) c.cells-cells.ensures.value ∙ ap (λ k. starts_for (cells_of c.args.self.now) k p) c.row_parts-row_parts.ensures.value
