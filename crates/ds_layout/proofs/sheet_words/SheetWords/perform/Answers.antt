use Rattle.ds_layout.proofs.Sheet.{can_perform_in, performs_in}
use Rattle.ds_layout.proofs.sheet_words.SheetWords.perform.Goals as goal

pub perform-requires : goal.perform-requires
perform-requires c =
    can_perform_in c.self.inside.layout c.self.inside.words c.args.self.now c.self.view_is c.self.invariant.0 c.args.process c.args.access c.numbered-access.result c.numbered-access.ensures c.requires

pub returns-clause-performs : goal.returns-clause-performs
returns-clause-performs c =
    performs_in c.self.inside.layout c.self.inside.words c.perform.new.self c.args.self.now c.self.view_is c.self.invariant.0 c.args.process c.args.access c.numbered-access.result c.perform.result
    c.numbered-access.ensures c.requires c.perform.ensures.performs
