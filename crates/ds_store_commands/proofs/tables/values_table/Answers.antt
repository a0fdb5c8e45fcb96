use Rattle.std.proofs.Common.{ℕ, ◌≡◌, ◌∙◌, ◌++◌, List, [], Some, ap, subst, sym}
use Rattle.ds_formula.specs.Limits.{INPUT_MOST}
use Rattle.ds_script_io.specs.Streams.{reader_of, writer_of, has_ended, read_failed}
use Rattle.ds_grid.specs.declared.ending.GridEnd.{GridEnd}
use Rattle.ds_grid.specs.Grids.{Concludes, Shows}
use Rattle.ds_store_commands.specs.Tables.{plain_form}
use Rattle.ds_store_commands.proofs.Values.{shows_of}
use Rattle.ds_store_commands.proofs.tables.values_table.Goals as goal

pub returns-in-Ended : goal.returns-in-Ended
returns-in-Ended c =
    let ran = c.report_grid.ensures.outcome (λ e. cc) in
    let given : c.args.table.now ≡ ran.0 ++ (reader_of c.report_grid.new.reader).now = cc in
    let empty : (writer_of c.new-writer.result).items ≡ [] = cc in
    let all : c.into_inner.result.items ≡ (writer_of c.new-writer.result).items ++ ran.1 = cc in
    let written : c.into_inner.result.items ≡ ran.1 = all ∙ ap (λ (xs : List ℕ). xs ++ ran.1) empty in
    let ended = subst (λ (end : GridEnd). Concludes plain_form INPUT_MOST (Some (reader_of c.report_grid.new.reader).now) (has_ended c.report_grid.new.reader) (read_failed c.report_grid.new.reader) ran.0 ran.1 end) c.in-Ended.is ran.4 in
    subst (λ (out : List ℕ). Shows plain_form c.args.table.now out) (sym written)
    (shows_of plain_form INPUT_MOST c.args.table.now (Some (reader_of c.report_grid.new.reader).now) (has_ended c.report_grid.new.reader) (read_failed c.report_grid.new.reader) ran.0 ran.1 given ended)
