use Rattle.std.proofs.Common.{◌∙◌, subst}
use Rattle.ds_layout.specs.Places.{IsAscending}
use Rattle.ds_structure.proofs.Classes.{class_is}
use Rattle.ds_structure.proofs.sheet.SheetStructured.class.Goals as goal

pub returns : goal.returns
returns c =
    let key = c.args.key.now in
    c.class_at.ensures ∙ class_is key.layout key.bounds key.bound (subst IsAscending key.begin.is key.begin.ascending) c.args.word
