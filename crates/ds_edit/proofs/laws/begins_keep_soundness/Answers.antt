use Rattle.ds_edit.proofs.Answering.{begin_sound}
use Rattle.ds_edit.proofs.laws.begins_keep_soundness.Goals as goal

pub returns : goal.returns
returns c = λ e old new sound is sheet refs b. begin_sound e old new sound is sheet refs b
