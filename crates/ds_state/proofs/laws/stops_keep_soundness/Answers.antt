use Rattle.ds_state.proofs.Stopping.{stop_keeps}
use Rattle.ds_state.proofs.laws.stops_keep_soundness.Goals as goal

pub returns : goal.returns
returns c = λ p old new sound real stop. stop_keeps p old new sound real stop
