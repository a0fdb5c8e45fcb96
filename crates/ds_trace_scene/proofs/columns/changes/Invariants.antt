use Rattle.std.proofs.Common.{◌≡◌, take}
use Rattle.std.specs.Prelude.{All}
use Rattle.ds_trace_scene.specs.Columns.{first_in, word_in}
use Rattle.ds_trace_scene.proofs.columns.changes.Given as goal

abbrev pub invariant-loop-row : goal.invariant-loop-row
invariant-loop-row l = All (λ row. word_in l.number row ≡ first_in l.trace l.number) (take l.row-index l.trace.rows.items)
