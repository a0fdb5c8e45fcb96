use Rattle.std.proofs.Common.{ℕ, ◌∙◌, List, ap}
use Rattle.ds_svg.specs.Markup.{open_text}
use Rattle.ds_svg.proofs.Fronts.{opened}
use Rattle.ds_svg.proofs.page.Page.begin.Goals as goal

pub invariant_of-self-in-Ok : goal.invariant_of-self-in-Ok
invariant_of-self-in-Ok c = record {
  front = opened c.self.inside.elements.items c.push.new.self.items c.self.inside.text.items c.deref.result.now c.append.new.text.items c.args.tag c.args.attributes.now c.self.invariant.front
      (c.deref.ensures.value ∙ c.in_ok-piece.ensures ∙ ap (λ (l : List ℕ). open_text l c.args.attributes.now) c.name.ensures) c.in-Ok.ensures.items c.in_ok-push.ensures.items;
  within = c.append.ensures.within;
}
