use Rattle.std.proofs.Common.{sym}
use Rattle.std.proofs.lemmas.List.{append-nil}
use Rattle.ds_explore.specs.Judging.{text_flaw}
use Rattle.ds_explore.proofs.Judged.{below_after}
use Rattle.ds_explore.proofs.judge.Judge.text_flaws.Goals as goal

pub loop-cell-init : goal.loop-cell-init
loop-cell-init c = sym (append-nil c.args.flaws.now.items)

pub loop-cell-preserved : goal.loop-cell-preserved
loop-cell-preserved c =
    below_after (text_flaw c.args.self.now c.args.ending.now c.args.texts.now) c.args.flaws.now.items c.loop-cell.cell c.loop-cell.flaws.items c.add.new.flaws.items c.text_flaw.result c.loop-cell.invariant c.text_flaw.ensures c.in_ok-add.ensures
