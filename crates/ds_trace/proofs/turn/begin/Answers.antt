use Rattle.std.proofs.Common.{◌∙◌, ap}
use Rattle.ds_trace.specs.declared.row.Begin.{Begin}
use Rattle.ds_trace.specs.declared.row.Happening.TheVariants.{Begins}
use Rattle.ds_script.specs.Orders.{beginning}
use Rattle.ds_trace.proofs.Sides.{told, begin_what, begin_text}
use Rattle.ds_trace.proofs.turn.begin.Goals as goal

pub returns-clause-happens : goal.returns-clause-happens
returns-clause-happens c = record {
  fits = c.begins-reply.ensures;
  row = told c.args.places.now c.args.world.now c.begins-reply.new.world (beginning c.args.process c.args.call) c.begins-reply.result (Begins c.args.process c.begin_of.result) c.text_of-text.result.now c.args.rows.now.items c.note.new.rows.items
      (ap (λ (b : Begin). Begins c.args.process b) c.begin_of.ensures ∙ begin_what c.args.world.now c.args.process c.args.call) (c.text_of-text.ensures ∙ begin_text c.args.process c.args.call) c.in_ok-note.ensures.row;
}
