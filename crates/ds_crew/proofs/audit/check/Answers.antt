use Rattle.std.proofs.Common.{rules}
use Rattle.ds_crew.proofs.Rights.{right_more}
use Rattle.ds_crew.proofs.audit.check.Goals as goal

pub loop-place-preserved : goal.loop-place-preserved
loop-place-preserved c =
    let r = c.index-receipts-place.result in
    right_more c.args.shape c.args.counted.now c.args.receipts.now c.loop-place.place r (search rules) (search rules) c.loop-place.invariant (search rules) (search rules)
