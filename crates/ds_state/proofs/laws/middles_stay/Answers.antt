use Rattle.ds_state.proofs.Middles.{middle_goes, middles_kept, middles_stopped, middles_evicted, middles_new, middles_at_rest, middles_crashed}
use Rattle.ds_state.proofs.laws.middles_stay.Goals as goal

pub returns : goal.returns
returns c = record { one = middle_goes; others = middles_kept; stopped = middles_stopped; evicted = middles_evicted; none = middles_new; rest = middles_at_rest; crashed = middles_crashed }
