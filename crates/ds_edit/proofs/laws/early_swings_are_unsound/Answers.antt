use Rattle.ds_edit.proofs.Early.{early_swing}
use Rattle.ds_edit.proofs.laws.early_swings_are_unsound.Goals as goal

pub returns : goal.returns
returns c = λ e head by old new stands swings sound. early_swing e head by old new stands swings sound
