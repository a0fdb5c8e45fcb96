use Rattle.ds_explore.specs.Judging.{process_flaw}
use Rattle.ds_explore.proofs.Judged.{below_more}
use Rattle.ds_explore.proofs.judge.Judge.process_flaws.Goals as goal

pub loop-process-preserved : goal.loop-process-preserved
loop-process-preserved c =
    below_more (process_flaw c.args.self.now c.args.ending.now) c.loop-process.process c.loop-process.flaws.items c.add.new.flaws.items c.process_flaw.result c.loop-process.invariant c.process_flaw.ensures c.in_ok-add.ensures
