use Rattle.std.proofs.Common.{map}
use Rattle.ds_formula.specs.Plain.{plain}
use Rattle.ds_work.specs.Reading.{unseen}
use Rattle.ds_work.proofs.Gathered.{is_content, all_inside}
use Rattle.ds_work.proofs.reading.take_content.Goals as goal

pub set_content-requires-clause-inside : goal.set_content-requires-clause-inside
set_content-requires-clause-inside c = all_inside c.args.shape _ (plain c.args.content) c.args.cells.now c.requires.reads c.requires.cells

pub returns : goal.returns
returns c = record { content = plain c.args.content; inputs = map unseen c.args.cells.now; is = is_content c.args.shape _ (plain c.args.content) c.args.cells.now c.requires.reads c.requires.cells; after = c.set_content.ensures }
