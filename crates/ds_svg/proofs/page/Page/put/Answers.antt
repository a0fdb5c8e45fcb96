use Rattle.std.proofs.Common.{ℕ, ◌∙◌, List, ap}
use Rattle.std.specs.Prelude.{is_ok}
use Rattle.ds_svg.specs.Markup.{empty_text}
use Rattle.ds_svg.proofs.Fronts.{written}
use Rattle.ds_svg.proofs.page.Page.put.Goals as goal

pub invariant_of-self : goal.invariant_of-self
invariant_of-self c = record {
  front = written c.self.inside.elements.items (is_ok c.append.result) c.self.inside.text.items c.deref.result.now c.append.new.text.items c.args.tag c.args.attributes.now c.self.invariant.front
      (c.deref.ensures.value ∙ c.in_ok-piece.ensures ∙ ap (λ (l : List ℕ). empty_text l c.args.attributes.now) c.name.ensures) c.append.ensures.items;
  within = c.append.ensures.within;
}
