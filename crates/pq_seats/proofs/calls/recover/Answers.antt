use Rattle.std.proofs.Common.{refl, sym, ◌∙◌}
use Rattle.pq_seats.proofs.Knowing.{recovers, recovery_stops, where_false, where_true}
use Rattle.pq_seats.proofs.calls.recover.Goals as goal

pub returns-then-has_found-clause-made : goal.returns-then-has_found-clause-made
returns-then-has_found-clause-made c =
    let is = sym c.has_found.ensures ∙ c.if-has_found.true in
    recovers c.args.board.now.key c.args.steps c.args.pass.now _ _ c.recover.new.fuse c.in-Some.recovery refl refl c.in-Some.ensures.ends (where_true _ _ _ is (refl, c.number_after-pass.ensures))

pub returns-clause-made : goal.returns-clause-made
returns-clause-made c =
    let is = sym c.has_found.ensures ∙ c.if-has_found.false in
    recovers c.args.board.now.key c.args.steps c.args.pass.now _ _ c.recover.new.fuse c.in-Some.recovery refl refl c.in-Some.ensures.ends (where_false _ _ _ is refl)

pub returns-in_default-clause-made : goal.returns-in_default-clause-made
returns-in_default-clause-made c = recovery_stops c.args.board.now.key c.args.steps c.args.pass.now _ _ c.recover.new.fuse refl refl c.in_default.ensures.ends refl
