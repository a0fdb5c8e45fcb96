use Rattle.std.proofs.Common.{List, subst, slice_index_or}
use Rattle.std.specs.Prelude.{Contains}
use Rattle.std.proofs.lemmas.List.Elements.{Contains-get_or}
use Rattle.ds_formula.specs.declared.cells.Cell.{Cell}
use Rattle.ds_edit.proofs.begin.numbers.Goals as goal

pub index-requires : goal.index-requires
index-requires c =
    let cell : Cell = slice_index_or c.deref-cell-items.result.now c.loop-cell.cell-index (record { column = 0; row = 0 }) in
    c.requires cell (c.in_ok-cells.ensures.only cell (subst (λ (xs : List Cell). Contains xs cell) c.deref-cell-items.ensures.value
    (Contains-get_or c.deref-cell-items.result.now c.loop-cell.cell-index (record { column = 0; row = 0 }) c.loop-cell-test.true)))
