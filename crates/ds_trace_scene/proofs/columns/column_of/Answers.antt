use Rattle.std.proofs.Common.{sym}
use Rattle.ds_trace_scene.specs.declared.columns.Side.TheVariants.{Cached, Persisted}
use Rattle.ds_trace_scene.specs.Columns.{first_in}
use Rattle.ds_trace_scene.proofs.Spans.{firsts}
use Rattle.ds_trace_scene.proofs.columns.column_of.Goals as goal

pub returns : goal.returns
returns c = record {
  place = sym c.place_of.ensures;
  cached = firsts _ _ c.args.number Cached c.first_in-first.result (first_in c.args.trace.now c.args.number) c.in_ok-spans.field-0.items c.deref.ensures.value c.first_in-first.ensures c.in_ok-spans.ensures;
  persisted = firsts _ _ c.args.number Persisted c.first_in-first.result (first_in c.args.trace.now c.args.number) c.in_ok-spans-2.field-0.items c.deref-2.ensures.value c.first_in-first.ensures c.in_ok-spans-2.ensures;
}
