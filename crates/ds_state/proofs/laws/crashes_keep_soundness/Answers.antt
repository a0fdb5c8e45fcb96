use Rattle.ds_state.proofs.CrashSound.{crash_sound}
use Rattle.ds_state.proofs.laws.crashes_keep_soundness.Goals as goal

pub returns : goal.returns
returns c = λ old new sound crash. crash_sound old new sound crash
