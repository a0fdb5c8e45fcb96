use Rattle.std.proofs.Common.{◌≡◌, ◌∷◌, [], sym, ap, subst, ◌∙◌, arith, All}
use Rattle.std.specs.Arc.{arc_value}
use Rattle.std.specs.List.{range_with_len}
use Rattle.rtrb.specs.Ring.{received, known_items}
use Rattle.ds_shared.specs.Answers.{IsFresh, IsOf, IsPastOf}
use Rattle.ds_shared.specs.declared.pass.Pass.{Pass}
use Rattle.ds_shared.specs.declared.sheet.SharedSheet.{SharedSheet}
use Rattle.ds_shared_seats.specs.Homes.{IsHomeOf}
use Rattle.ds_shared_seats.specs.declared.ring.Home.{Home}
use Rattle.ds_shared_seats.proofs.Moving.{as_many_passes, only, spread}
use Rattle.ds_shared_seats.proofs.sheet.OpenSheet.of.Goals as goal

pub housed-requires-clause-order : goal.housed-requires-clause-order
housed-requires-clause-order c =
    let many = as_many_passes c.args.passes.items c.args.layout.processes c.requires.passes.0 in
    c.requires.passes.0 ∙ ap (range_with_len 0) (sym many)

pub housed-requires-clause-rings : goal.housed-requires-clause-rings
housed-requires-clause-rings c = c.requires.room.0 ∙ sym (as_many_passes c.args.passes.items c.args.layout.processes c.requires.passes.0)

pub housed-requires-clause-room : goal.housed-requires-clause-room
housed-requires-clause-room c =
    let many = as_many_passes c.args.passes.items c.args.layout.processes c.requires.passes.0 in
    let room = c.requires.room.2 in
    (c.requires.room.1, omega (arith, many, room))

pub invariant_of-result : goal.invariant_of-result
invariant_of-result c =
    let is = c.in-Ok.ensures.ok in
    record {
      fits = c.requires.layout ∙ ap (λ (s : SharedSheet). s.board.layout) (sym is);
      of = subst (λ s. IsPastOf s c.args.past) (sym is) c.requires.past;
      own = spread (IsHomeOf (arc_value c.in-Ok.sheet)) (λ (h : Home). received h.end) (λ p. IsOf (arc_value c.in-Ok.sheet) p) (λ h p e here. subst (All (λ q. IsOf (arc_value c.in-Ok.sheet) q)) (sym e) (only (λ q. IsOf (arc_value c.in-Ok.sheet) q) p here)) _ c.args.passes.items c.housed.ensures.received
          (subst (λ s. All (λ p. IsOf s p) c.args.passes.items) (sym is) c.requires.passes.1);
      order = c.housed.ensures.order ∙ c.requires.passes.0;
    }

pub returns-in-Ok-clause-fresh : goal.returns-in-Ok-clause-fresh
returns-in-Ok-clause-fresh c = λ stopped all.
    spread (λ (h : Home). (p : Pass) × (known_items h.end ≡ p ∷ []) × IsFresh stopped p) (λ (h : Home). known_items h.end) (λ p. IsFresh stopped p) (λ h p e here. (p, e, here)) _ c.args.passes.items c.housed.ensures.known all
