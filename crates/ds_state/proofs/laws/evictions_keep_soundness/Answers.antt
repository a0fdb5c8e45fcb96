use Rattle.ds_state.proofs.Accesses.{evict_sound}
use Rattle.ds_state.proofs.Buffers.{buffered}
use Rattle.ds_state.proofs.laws.evictions_keep_soundness.Goals as goal

pub returns : goal.returns
returns c = λ place old new sound v. evict_sound place old new sound (buffered old sound) v
