use Rattle.std.proofs.Common.{take}
use Rattle.ds_text_values.specs.TextValues.{AreContents}
use Rattle.ds_text_values.proofs.Held.{texts_in}
use Rattle.ds_text_values.proofs.values.contents.Given as goal

abbrev pub invariant-loop-number : goal.invariant-loop-number
invariant-loop-number l = AreContents l.shape (texts_in (take l.number l.texts)) l.held.items
