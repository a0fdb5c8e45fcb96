use Rattle.std.proofs.Common.{◌∙◌, ap, sym, option_copied, option_map}
use Rattle.serde_json.specs.View.{view}
use Rattle.ds_formula.specs.declared.cells.Shape.{Shape}
use Rattle.ds_server.specs.LineAnswers.{response_view}
use Rattle.ds_http.specs.Edits.{edit_in, edits, no_edit}
use Rattle.ds_http.proofs.edits.edit_by_value.Goals as goal

pub returns-in-Some : goal.returns-in-Some
returns-in-Some g c = edits c.in-Some.wanted.cell c.in-Some.wanted.text.now (option_map (λ k. k.now) c.in-Some.wanted.key) (response_view c.edit.result) c.edit.new.desk
    (sym (c.in-Some.ensures.edit ∙ ap (λ (s : Shape). edit_in s (option_copied c.args.head) (view c.args.value.now)) c.shape-shape.ensures)) c.edit.ensures

pub returns-in-None : goal.returns-in-None
returns-in-None g c = no_edit (sym (c.in-None.ensures.edit ∙ ap (λ (s : Shape). edit_in s (option_copied c.args.head) (view c.args.value.now)) c.shape-shape.ensures))
