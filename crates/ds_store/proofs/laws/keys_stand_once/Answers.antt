use Rattle.ds_store.proofs.Keying.{found_said, line_found, one_line_alone}
use Rattle.ds_store.proofs.laws.keys_stand_once.Goals as goal

pub returns-clause-once : goal.returns-clause-once
returns-clause-once c = one_line_alone

pub returns-clause-said : goal.returns-clause-said
returns-clause-said c = line_found

pub returns-clause-says : goal.returns-clause-says
returns-clause-says c = found_said
