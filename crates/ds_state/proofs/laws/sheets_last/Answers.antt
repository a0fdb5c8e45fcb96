use Rattle.ds_state.proofs.Middles.{lasts_kept, lasts_evicted, lasts_same, lasts_on, lasts_counts}
use Rattle.ds_state.proofs.laws.sheets_last.Goals as goal

pub returns : goal.returns
returns c = record { kept = lasts_kept; evicted = lasts_evicted; same = lasts_same; on = lasts_on; counts = lasts_counts }
