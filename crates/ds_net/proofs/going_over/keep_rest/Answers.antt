use Rattle.std.proofs.Common.{[]}
use Rattle.ds_net.proofs.Over.{holds_no_more}
use Rattle.ds_net.proofs.going_over.keep_rest.Goals as goal

pub returns-then-is_empty-clause-kept : goal.returns-then-is_empty-clause-kept
returns-then-is_empty-clause-kept g c = ([], λ clean held holds. holds_no_more held _ holds)

pub returns-clause-kept : goal.returns-clause-kept
returns-clause-kept g c = (c.in_ok-committed.ensures.kept.0, λ clean held holds. (c.in_ok-committed.ensures.kept.3 clean held holds).0)
