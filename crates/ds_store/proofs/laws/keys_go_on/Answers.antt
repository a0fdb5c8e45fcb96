use Rattle.ds_store.proofs.Keying.{all_carried, carried_on, no_others, once_again}
use Rattle.ds_store.proofs.laws.keys_go_on.Goals as goal

pub returns-clause-carried : goal.returns-clause-carried
returns-clause-carried c = carried_on

pub returns-clause-others : goal.returns-clause-others
returns-clause-others c = no_others

pub returns-clause-all : goal.returns-clause-all
returns-clause-all c = all_carried

pub returns-clause-once : goal.returns-clause-once
returns-clause-once c = once_again
