use Rattle.std.proofs.Common.{◌≡◌}
use Rattle.ds_net_connections.proofs.accepting.next_session.Given as goal

abbrev pub invariant-loop : goal.invariant-loop
invariant-loop g l = (l.counts.pending ≡ 0) × (l.counts.sessions ≡ l.fn.counts.sessions)
