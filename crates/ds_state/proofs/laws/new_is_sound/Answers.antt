use Rattle.ds_state.proofs.New.{new_sound}
use Rattle.ds_state.proofs.laws.new_is_sound.Goals as goal

pub returns : goal.returns
returns c = new_sound
