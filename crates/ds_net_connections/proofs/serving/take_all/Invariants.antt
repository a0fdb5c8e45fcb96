use Rattle.std.proofs.Common.{◌≡◌}
use Rattle.ds_net_connections.proofs.serving.take_all.Given as goal

abbrev pub invariant-loop-session : goal.invariant-loop-session
invariant-loop-session g l = l.counts.pending ≡ 0
