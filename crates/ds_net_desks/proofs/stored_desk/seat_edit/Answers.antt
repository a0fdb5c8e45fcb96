use Rattle.ds_server.specs.Replies.{set_view}
use Rattle.ds_net_desks.specs.StoredDesks.{StoredSet}
use Rattle.ds_net_desks.proofs.Reading.{used_after}
use Rattle.ds_net_desks.proofs.stored_desk.seat_edit.Goals as goal

pub returns-clause-uses : goal.returns-clause-uses
returns-clause-uses g c =
    used_after (StoredSet c.args.notebook.now.heard.items c.args.cell c.args.text.now c.edited_as-end.new.notebook.heard.items (set_view c.edited_as-end.result)) c.args.numbered.now c.catch_up.new.numbered c.edited_as-end.new.numbered (set_view c.edited_as-end.result) c.catch_up.ensures c.edited_as-end.ensures.uses
