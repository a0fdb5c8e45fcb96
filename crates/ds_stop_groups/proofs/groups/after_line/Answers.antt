use Rattle.std.proofs.Common.{refl}
use Rattle.ds_stop_groups.proofs.Lines.{not_begun}
use Rattle.ds_stop_groups.proofs.groups.after_line.Goals as goal

pub returns-else-are_same-clause-none : goal.returns-else-are_same-clause-none
returns-else-are_same-clause-none c = λ e. not_begun c.args.text.now c.args.line.now c.split_at.result.0.now c.split_at.ensures.front (c.if-are_same.ensures.another refl)
