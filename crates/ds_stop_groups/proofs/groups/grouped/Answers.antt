use Rattle.std.proofs.Common.{refl}
use Rattle.ds_stop_groups.proofs.Blocks.{none_grouped}
use Rattle.ds_stop_groups.proofs.groups.grouped.Goals as goal

pub returns-then-is_over-clause-groups : goal.returns-then-is_over-clause-groups
returns-then-is_over-clause-groups c = none_grouped c.args.start c.args.text.now c.new.result.items (c.if-is_over.ensures.0 refl) c.new.ensures.items
