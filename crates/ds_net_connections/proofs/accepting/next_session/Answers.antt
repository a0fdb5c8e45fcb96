use Rattle.std.proofs.Common.{ℕ, subst}
use Rattle.ds_net_connections.specs.Accepting.{IsStep, MayGoOn}
use Rattle.ds_net_connections.proofs.accepting.next_session.Goals as goal

pub returns-in-Some-received-clause-step : goal.returns-in-Some-received-clause-step
returns-in-Some-received-clause-step g c =
    let goes : MayGoOn c.args.most c.loop.counts.sessions = subst (MayGoOn c.args.most) c.sessions.ensures c.in-Connected.ensures in
    subst (λ (n : ℕ). IsStep c.args.most n c.received.new.counts.sessions c.in-Some-received.step) c.loop.invariant.1 (c.in-Some-received.ensures.step c.args.most goes)
