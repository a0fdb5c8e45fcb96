use Rattle.std.proofs.Common.{◌<◌, ◌∙◌, ap, arith, length}
use Rattle.std.specs.Prelude.{slice_set}
use Rattle.std.proofs.lemmas.List.Edits.{map_over_more}
use Rattle.ds_trace_scene.specs.Buffers.{lost}
use Rattle.ds_trace_scene.specs.declared.columns.Passage.{Passage}
use Rattle.ds_trace_scene.proofs.buffers.lose.Goals as goal

pub loop-number-preserved : goal.loop-number-preserved
loop-number-preserved c =
    let entries = c.args.entries.now.items in
    let len = c.len-number-end.ensures in
    let test = c.loop-number-test.true in
    let low : c.loop-number.number < length entries = omega (arith, len, test) in
    ap (λ (entry : Passage). slice_set c.loop-number.entries.items c.loop-number.number entry) c.lost.ensures
    ∙ map_over_more (lost c.args.by c.args.line) entries c.loop-number.entries.items c.loop-number.number c.index-entry.result.now low c.loop-number.invariant c.index-entry.ensures
