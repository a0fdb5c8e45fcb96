use Rattle.ds_explore_state.proofs.Alike.{happens_alike, may_alike}
use Rattle.ds_explore_state.proofs.laws.positions_go_on_alike.Goals as goal

pub returns-clause-may : goal.returns-clause-may
returns-clause-may c = may_alike

pub returns-clause-alike : goal.returns-clause-alike
returns-clause-alike c = happens_alike
