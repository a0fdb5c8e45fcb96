use Rattle.std.proofs.Common.{ℕ, ◌∙◌, List, ◌++◌, ap}
use Rattle.std.specs.Prelude.{is_ok}
use Rattle.ds_svg.specs.Markup.{escaped}
use Rattle.ds_svg.proofs.Fronts.{said}
use Rattle.ds_svg.proofs.page.Page.say.Goals as goal

pub invariant_of-self : goal.invariant_of-self
invariant_of-self c = record {
  front = said c.self.inside.elements.items (is_ok c.append.result) c.self.inside.text.items c.deref.result.now c.append.new.text.items c.args.text.now c.self.invariant.front
      (c.deref.ensures.value ∙ c.in_ok-put_escaped.ensures ∙ ap (λ (l : List ℕ). l ++ escaped c.args.text.now) c.new-piece.ensures.items) c.append.ensures.items;
  within = c.append.ensures.within;
}
