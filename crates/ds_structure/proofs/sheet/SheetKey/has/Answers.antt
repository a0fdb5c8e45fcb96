use Rattle.ds_structure.proofs.Words.{says_place}
use Rattle.ds_structure.proofs.sheet.SheetKey.has.Goals as goal

pub returns : goal.returns
returns c = says_place c.args.self.now.layout c.args.place c.contains.result c.contains.ensures
