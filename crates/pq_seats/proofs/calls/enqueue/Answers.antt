use Rattle.std.proofs.Common.{refl, sym, subst, ◌∙◌}
use Rattle.pm_board.specs.Views.{Sits}
use Rattle.pq.specs.declared.calls.Doing.TheVariants.{Idle}
use Rattle.pq_seats.specs.Places.{IsKnown}
use Rattle.pq_seats.proofs.Knowing.{enqueues, moves_off, moves_on, sits_of}
use Rattle.pq_seats.proofs.calls.enqueue.Goals as goal

pub enqueue-how-requires-clause-sits : goal.enqueue-how-requires-clause-sits
enqueue-how-requires-clause-sits c =
    let p = c.args.pass.now in
    let ok = c.in_ok-operation.ensures.ok in
    subst (λ o. Sits p.place.me o.process (Idle o.last)) (sym ok.0) (sits_of p.place p.process p.announced (subst (λ b. IsKnown p.place p.process p.announced b) ok.1 p.known))

pub returns-then-has_gone_on-clause-ok : goal.returns-then-has_gone_on-clause-ok
returns-then-has_gone_on-clause-ok c =
    let ok = c.in_ok-operation.ensures.ok in
    let is = sym c.has_gone_on.ensures ∙ c.if-has_gone_on.true in
    enqueues c.args.board.now.key c.args.value c.args.steps c.args.pass.now _ c.in_ok-operation.operation _ c.enqueue-how.new.fuse c.enqueue-how.result ok.0 refl c.enqueue-how.ensures.ends (moves_on c.enqueue-how.result c.args.pass.now _ is refl ok.1 refl)

pub returns-clause-ok : goal.returns-clause-ok
returns-clause-ok c =
    let ok = c.in_ok-operation.ensures.ok in
    let is = sym c.has_gone_on.ensures ∙ c.if-has_gone_on.false in
    enqueues c.args.board.now.key c.args.value c.args.steps c.args.pass.now _ c.in_ok-operation.operation _ c.enqueue-how.new.fuse c.enqueue-how.result ok.0 refl c.enqueue-how.ensures.ends (moves_off c.enqueue-how.result c.args.pass.now _ is refl refl)
