use Rattle.std.proofs.Common.{◌≡◌, ◌∷◌, [], sym, ap, subst, ◌∙◌, arith, All}
use Rattle.std.specs.Arc.{arc_value}
use Rattle.std.specs.List.{range_with_len}
use Rattle.rtrb.specs.Ring.{received, known_items}
use Rattle.pq_seats.specs.Known.{IsFresh, IsOf}
use Rattle.pq_seats.specs.declared.pass.Pass.{Pass}
use Rattle.pq_seats.specs.Homes.{IsHomeOf}
use Rattle.pq_seats.specs.declared.ring.Home.{Home}
use Rattle.pq_seats.proofs.Moving.{as_many_passes, only, spread}
use Rattle.pq_seats.proofs.queue.OpenQueue.of.Goals as goal

pub housed-requires-clause-order : goal.housed-requires-clause-order
housed-requires-clause-order c =
    let many = as_many_passes c.args.passes.items c.args.board.key c.requires.order in
    c.requires.order ∙ ap (range_with_len 0) (sym many)

pub housed-requires-clause-rings : goal.housed-requires-clause-rings
housed-requires-clause-rings c = c.requires.room.0 ∙ sym (as_many_passes c.args.passes.items c.args.board.key c.requires.order)

pub housed-requires-clause-room : goal.housed-requires-clause-room
housed-requires-clause-room c =
    let many = as_many_passes c.args.passes.items c.args.board.key c.requires.order in
    let room = c.requires.room.2 in
    (c.requires.room.1, omega (arith, many, room))

pub invariant_of-result : goal.invariant_of-result
invariant_of-result c =
    let is = c.in-Ok.ensures.ok in
    let n = c.args.board.key in
    let Here = λ (p : Pass). IsOf (arc_value c.in-Ok.board).table.shared.table_id n p in
    record {
      fits = (ap (λ b. b.key) (sym is), c.requires.key);
      of = subst (λ b. c.args.past.place.table_id ≡ b.table.shared.table_id) (sym is) c.requires.past;
      own = spread (IsHomeOf (arc_value c.in-Ok.board).table.shared.table_id n) (λ (h : Home). received h.end) Here (λ h p e here. subst (All Here) (sym e) (only Here p here)) _ c.args.passes.items c.housed.ensures.received
          (subst (λ b. All (λ p. IsOf b.table.shared.table_id n p) c.args.passes.items) (sym is) c.requires.passes);
      order = c.housed.ensures.order ∙ c.requires.order;
    }

pub returns-in-Ok-clause-fresh : goal.returns-in-Ok-clause-fresh
returns-in-Ok-clause-fresh c = λ stopped all.
    spread (λ (h : Home). (p : Pass) × (known_items h.end ≡ p ∷ []) × IsFresh stopped p) (λ (h : Home). known_items h.end) (λ p. IsFresh stopped p) (λ h p e here. (p, e, here)) _ c.args.passes.items c.housed.ensures.known all
