use Rattle.std.proofs.Common.{◌∙◌, ap, not}
use Rattle.ds_store_commands.proofs.Lists.{begun_more, begun_still}
use Rattle.ds_store_commands.proofs.log.begun.Goals as goal
use Rattle.ds_store_commands.proofs.log.begun.Goals.{then-is_none, else-is_none}

pub loop-entry-preserved : goal.loop-entry-preserved
loop-entry-preserved c = elim c.if-is_none.branch [
  | then-is_none w ↦ begun_more c.args.entries.now c.loop-entry.entry-index _ c.loop-entry.count c.if-is_none.count c.loop-entry-test.true c.well_formed.0.0 (c.is_none.ensures ∙ ap not w.if-is_none.true)
      (w.count-is ∙ w.saturating_add-count.ensures) c.loop-entry.invariant
  | else-is_none w ↦ begun_still c.args.entries.now c.loop-entry.entry-index _ c.if-is_none.count c.loop-entry-test.true (c.is_none.ensures ∙ ap not w.if-is_none.false) (w.count-is ∙ c.loop-entry.invariant)
]
