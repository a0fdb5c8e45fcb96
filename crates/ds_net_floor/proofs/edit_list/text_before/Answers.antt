use Rattle.std.proofs.Common.{map}
use Rattle.ds_server.specs.Replies.{entry_view}
use Rattle.ds_net_floor.proofs.Lists.{no_edit}
use Rattle.ds_net_floor.proofs.edit_list.text_before.Goals as goal

pub returns-then-edit-nobody-clause-none : goal.returns-then-edit-nobody-clause-none
returns-then-edit-nobody-clause-none c =
    λ _. no_edit c.args.nobody c.args.cell (map entry_view c.args.edits.now) (map entry_view c.in-Some.before.now) (entry_view c.in-Some.edit.now) c.in-Some.ensures.some c.if-edit-nobody.true
