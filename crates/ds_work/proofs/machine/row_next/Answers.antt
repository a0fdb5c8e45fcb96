use Rattle.std.proofs.Common.{◌≡◌, ◌∙◌, ◌++◌, ◌∷◌, [], ap, sym}
use Rattle.ds_state.specs.declared.work.WorkStage.{WorkStage}
use Rattle.ds_state.specs.declared.work.WorkStage.TheVariants.{Telling}
use Rattle.ds_state.specs.declared.spread.Spread.TheVariants.{LoadRow}
use Rattle.ds_work.specs.Noted.{row_after, stage_at}
use Rattle.ds_work.proofs.machine.row_next.Goals as goal

pub returns-in-Telling-LoadRow : goal.returns-in-Telling-LoadRow
returns-in-Telling-LoadRow c = λ e word is same.
    let at : c.args.stage ≡ Telling (LoadRow c.in-Telling-LoadRow.part) = c.in-Telling-LoadRow.is ∙ ap (λ s. Telling s) (rw c.in-Telling-LoadRow.is at c.in-Telling-LoadRow.field-0-is) in
    let row : c.args.row.now ≡ e.row ++ word ∷ [] = is ∙ ap (λ (s : WorkStage). row_after e.row s word) at in
    c.row_from.ensures (record e { row = e.row ++ word ∷ [] }) (sym row) same ∙ ap (λ (s : WorkStage). stage_at e s word) (sym at)
