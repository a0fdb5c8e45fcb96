use Rattle.std.proofs.Common.{List, refl, subst}
use Rattle.std.specs.Prelude.{All}
use Rattle.std.proofs.lemmas.List.{take_all}
use Rattle.std.proofs.lemmas.List.Elements.{All-more}
use Rattle.ds_trace.specs.declared.row.TraceRow.{TraceRow}
use Rattle.ds_trace.specs.Traces.{NamesWithin}
use Rattle.ds_trace.proofs.trace.are_within.Goals as goal

pub loop-row-preserved : goal.loop-row-preserved
loop-row-preserved c =
    All-more (λ (row : TraceRow). NamesWithin c.args.places.now row.what) c.args.rows.now c.loop-row.row-index c.row-item.result c.loop-row-test.true c.loop-row.invariant
    (subst (λ (row : TraceRow). NamesWithin c.args.places.now row.what) c.row-item.is (c.if-not-is_within.ensures refl))

pub returns : goal.returns
returns c = λ yes.
    subst (λ (rows : List TraceRow). All (λ (row : TraceRow). NamesWithin c.args.places.now row.what) rows) (take_all c.loop-row.row-index c.args.rows.now c.loop-row-test.false) c.loop-row.invariant
