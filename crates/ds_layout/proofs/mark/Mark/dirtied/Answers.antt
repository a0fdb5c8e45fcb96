use Rattle.ds_layout.proofs.Packed.{mark_word-dirtied}
use Rattle.ds_layout.proofs.mark.Mark.dirtied.Goals as goal

pub returns-clause-word : goal.returns-clause-word
returns-clause-word c = mark_word-dirtied c.args.self
