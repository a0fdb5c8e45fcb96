use Rattle.ds_net_floor.specs.Entries.{entries}
use Rattle.ds_net_values.specs.ListValues.{AreTexts}
use Rattle.ds_net_values.proofs.Texts.{items_of}
use Rattle.ds_net_values.proofs.values.texts_in.Given as goal

abbrev pub invariant-loop-number : goal.invariant-loop-number
invariant-loop-number l = AreTexts l.shape (entries l.list) l.number (items_of l.texts.items)
