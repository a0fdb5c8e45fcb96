use Rattle.std.proofs.Common.{List, subst}
use Rattle.ds_layout.specs.declared.place.Place.{Place}
use Rattle.ds_trace.specs.Traces.{IsRecord}
use Rattle.ds_trace.proofs.record.record.Goals as goal

pub returns-clause-trace : goal.returns-clause-trace
returns-clause-trace c = record {
  world = c.record_lines.new.world;
  record_is = subst (λ (ps : List Place). IsRecord c.args.whole c.args.script.now ps c.in_ok-start.start.items c.record_lines.new.world c.record_lines.new.rows.items) c.deref.ensures.value c.in_ok-start.ensures.record;
  layout = c.layout_of-layout.ensures;
}
