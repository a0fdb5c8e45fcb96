use Rattle.std.proofs.Common.{◌≡◌, sym, ap, subst, ◌∙◌, All}
use Rattle.std.specs.Arc.{arc_value}
use Rattle.std.specs.List.{range_with_len}
use Rattle.ds_shared.specs.Answers.{IsOf}
use Rattle.ds_shared.specs.Known.{past_in}
use Rattle.ds_shared_seats.specs.Sheets.{IsClosed, IsClosedWith}
use Rattle.ds_shared_seats.proofs.Looking.{order_looked, own_looked}
use Rattle.ds_shared_seats.proofs.sheet.OpenSheet.close.Goals as goal

pub invariant_of-self : goal.invariant_of-self
invariant_of-self c =
    let s = c.args.self in
    record {
      fits = s.fits;
      of = s.of;
      own = own_looked (arc_value s.sheet) _ _ c.look.ensures.looked s.own;
      order = order_looked _ _ c.look.ensures.looked ∙ s.order;
    }

pub invariant_of-self-2 : goal.invariant_of-self-2
invariant_of-self-2 c =
    let s = c.args.self in
    record {
      fits = s.fits;
      of = s.of;
      own = own_looked (arc_value s.sheet) _ _ c.look.ensures.looked s.own;
      order = order_looked _ _ c.look.ensures.looked ∙ s.order;
    }

pub returns-in-Ok-try_unwrap-clause-ok : goal.returns-in-Ok-try_unwrap-clause-ok
returns-in-Ok-try_unwrap-clause-ok c =
    let s = c.args.self in
    let is : c.in-Ok-try_unwrap.sheet ≡ arc_value s.sheet = c.in-Ok-try_unwrap.ensures.ok in
    let passes = c.gathered-passes.result.items in
    let h = c.close.ensures in
    subst (λ r. IsClosed s r) (sym c.of.ensures) (record {
      passes = passes;
      each = c.gathered-passes.ensures.order ∙ (order_looked _ _ c.look.ensures.looked ∙ (s.order ∙ ap (λ l. range_with_len 0 l.processes) s.fits));
      of = subst (λ x. All (λ p. IsOf x p) passes) is c.gathered-passes.ensures.fit;
      closed = subst (λ x. IsClosedWith x (past_in s.past.place) passes c.close.result) is (record { layout = h.layout.0; handed = h.handed; before = h.before; stand = h.stand });
    })

pub of-requires : goal.of-requires
of-requires c = c.close.ensures.rests
