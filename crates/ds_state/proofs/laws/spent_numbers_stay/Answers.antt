use Rattle.ds_state.proofs.Spent.{spent_stays, spent_evicted, spent_crashed}
use Rattle.ds_state.proofs.laws.spent_numbers_stay.Goals as goal

pub returns : goal.returns
returns c = record { kept = spent_stays; evicted = spent_evicted; crashed = spent_crashed }
