use Rattle.std.proofs.Common.{refl, sym, subst, ◌∙◌}
use Rattle.pm_board.specs.Views.{Sits}
use Rattle.pq.specs.declared.calls.Doing.TheVariants.{Idle}
use Rattle.pq_seats.specs.Places.{IsKnown}
use Rattle.pq_seats.proofs.Knowing.{dequeues, moves_off, moves_on, sits_of}
use Rattle.pq_seats.proofs.calls.dequeue.Goals as goal

pub dequeue-how-requires-clause-sits : goal.dequeue-how-requires-clause-sits
dequeue-how-requires-clause-sits c =
    let p = c.args.pass.now in
    let ok = c.in_ok-operation.ensures.ok in
    subst (λ o. Sits p.place.me o.process (Idle o.last)) (sym ok.0) (sits_of p.place p.process p.announced (subst (λ b. IsKnown p.place p.process p.announced b) ok.1 p.known))

pub returns-then-has_gone_on-clause-ok : goal.returns-then-has_gone_on-clause-ok
returns-then-has_gone_on-clause-ok c =
    let ok = c.in_ok-operation.ensures.ok in
    let is = sym c.has_gone_on.ensures ∙ c.if-has_gone_on.true in
    dequeues c.args.board.now.key c.args.steps c.args.pass.now _ c.in_ok-operation.operation _ c.dequeue-how.new.fuse c.dequeue-how.result ok.0 refl c.dequeue-how.ensures.ends (moves_on c.dequeue-how.result c.args.pass.now _ is refl ok.1 refl)

pub returns-clause-ok : goal.returns-clause-ok
returns-clause-ok c =
    let ok = c.in_ok-operation.ensures.ok in
    let is = sym c.has_gone_on.ensures ∙ c.if-has_gone_on.false in
    dequeues c.args.board.now.key c.args.steps c.args.pass.now _ c.in_ok-operation.operation _ c.dequeue-how.new.fuse c.dequeue-how.result ok.0 refl c.dequeue-how.ensures.ends (moves_off c.dequeue-how.result c.args.pass.now _ is refl refl)
