use Rattle.std.proofs.Common.{length}
use Rattle.ds_stop_groups.proofs.Blocks.{Stands}
use Rattle.ds_stop_groups.proofs.groups.lines_of.Given as goal

abbrev pub invariant-blocks-2 : goal.invariant-blocks-2
invariant-blocks-2 l = Stands l.start l.text l.lines.items l.rest l.group.first l.group.more l.group.answers.now

abbrev pub decreases-blocks-2 : goal.decreases-blocks-2
decreases-blocks-2 l = length l.rest
