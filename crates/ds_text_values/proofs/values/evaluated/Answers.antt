use Rattle.ds_text_values.proofs.Held.{evaluated_ok, texts_in}
use Rattle.ds_text_values.proofs.values.evaluated.Goals as goal

pub returns : goal.returns
returns c =
    evaluated_ok c.scratch.result c.args.shape (texts_in c.args.texts.now) c.in_ok-contents.contents.items c.new-sheet.result c.in_ok-contents.ensures c.new-sheet.ensures.0 c.new-sheet.ensures.1 c.scratch.ensures
