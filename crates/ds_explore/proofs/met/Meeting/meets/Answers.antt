use Rattle.std.proofs.Common.{ℕ, Option, false, subst}
use Rattle.std.specs.Prelude.{IfSome}
use Rattle.ds_explore.specs.Judging.{texts_of}
use Rattle.ds_explore.specs.Whole.{IsAmong}
use Rattle.ds_explore.proofs.Meeting.{met_by}
use Rattle.ds_explore.proofs.met.Meeting.meets.Goals as goal

pub returns-then-is_under_way : goal.returns-then-is_under_way
returns-then-is_under_way c = λ met led.
    met_by c.args.self.now.start.now (texts_of c.args.self.now.keys.now) c.args.self.now.states.now c.args.position.now c.in-Some.found c.args.number c.in_ok-found.field-0 c.in_ok-found.ensures c.in-Some.is c.if-found-number.false led
    (λ idle. absurd (let busy = c.is_under_way.ensures.one c.if-is_under_way.true in idle busy.0 busy.1))

pub returns : goal.returns
returns c = λ met led.
    met_by c.args.self.now.start.now (texts_of c.args.self.now.keys.now) c.args.self.now.states.now c.args.position.now c.in-Some.found c.args.number c.in_ok-found.field-0 c.in_ok-found.ensures c.in-Some.is c.if-found-number.false led
    (λ idle. (c.in-Some-2._outcome, subst (λ (o : Option ℕ). IfSome o (IsAmong c.args.self.now.start.now.judge (texts_of c.args.self.now.keys.now) c.args.position.now false)) c.in-Some-2.is c.in_ok-_outcome.ensures))
