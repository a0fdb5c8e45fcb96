use Rattle.ds_calls.proofs.Runs.{both_lead}
use Rattle.ds_c.proofs.laws.runs_go_on.Goals as goal

pub returns : goal.returns
returns c = λ old mid new first next h k. both_lead first next old mid new h k
