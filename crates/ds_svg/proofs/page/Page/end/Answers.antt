use Rattle.std.proofs.Common.{◌≡◌, ◌∙◌, ap, length, arith}
use Rattle.ds_svg.specs.Markup.{close_text}
use Rattle.ds_svg.specs.Pages.{PageValue}
use Rattle.ds_svg.proofs.Fronts.{closed, without_last}
use Rattle.ds_svg.proofs.page.Page.end.Goals as goal

pub invariant_of-self-2 : goal.invariant_of-self-2
invariant_of-self-2 c =
    let count : c.len.result ≡ length c.self.inside.elements.items = omega (arith, c.len.ensures, c.self.inside.elements.ok.0) in
    record {
      front = closed c.self.inside.elements.items c.truncate.new.self.items c.self.inside.text.items c.deref.result.now c.append.new.text.items c.in-Some.tag c.self.invariant.front
          (c.deref.ensures.value ∙ c.in_ok-piece.ensures ∙ ap close_text c.name.ensures) c.in_ok-append.ensures.items
          (without_last c.self.inside.elements.items c.in-Some.ensures.some.0 c.truncate.new.self.items c.in-Some.tag c.len.result
          (ap (λ (v : PageValue). v.elements) c.self.view_is ∙ c.in-Some.ensures.some.1) count c.truncate.ensures.items);
      within = c.append.ensures.within;
    }
