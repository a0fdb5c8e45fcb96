use Rattle.ds_state.proofs.Telling.{told_is}
use Rattle.ds_state.proofs.spread.told_from.Goals as goal

pub returns : goal.returns
returns c = told_is c.args.row.now c.args.cells c.args.from c.first_bit.result c.first_bit.ensures.first c.first_bit.ensures.none
