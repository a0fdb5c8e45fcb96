use Rattle.std.proofs.Common.{◌∙◌, ap}
use Rattle.std.proofs.lemmas.List.{get_or_read}
use Rattle.ds_store_journal.specs.declared.standing.Standing.{Standing}
use Rattle.ds_store_edits.proofs.Makers.{nobody, somebody}
use Rattle.ds_store_edits.proofs.edits.Passed.maker_of.Goals as goal

pub returns-then-self-gt0-clause-maker : goal.returns-then-self-gt0-clause-maker
returns-then-self-gt0-clause-maker c layout before after line low skipped has = nobody layout before line after c.args.process c.args.self.now.left skipped has.left c.if-self-gt0.true

pub returns-clause-maker : goal.returns-clause-maker
returns-clause-maker c layout before after line low skipped has =
    let xs = c.args.self.now.standings.items in
    let s = c.index.result.now in
    let number = ap (λ (t : Standing). t.edits) (get_or_read xs c.args.process s c.requires c.index.ensures s ∙ has.standings c.if-self.false c.args.process s low) in
    somebody layout before line after c.args.process c.args.self.now.left s.edits skipped has.left c.if-self-gt0.false number
