use Rattle.ds_core.proofs.BitFirst.{finds_neither}
use Rattle.ds_core.proofs.laws.bits_read_before_heads_decide_nothing.Goals as goal

pub returns : goal.returns
returns c = finds_neither
