use Rattle.std.proofs.Common.{◌∙◌, ap}
use Rattle.ds_server.specs.Replies.{set_view}
use Rattle.ds_store_keys.specs.Tables.{found}
use Rattle.ds_net_desks.specs.StoredDesks.{notes_in}
use Rattle.ds_net_desks.proofs.Keys.{known_same, known_other, not_known}
use Rattle.ds_net_desks.proofs.keyed.seat_edit_once.Goals as goal

pub returns-in-Same-clause-once : goal.returns-in-Same-clause-once
returns-in-Same-clause-once g c = record {
  list = c.show.result.now;
  seen = c.show.ensures.seen;
  does = known_same c.args.cell c.args.text.now c.args.key.now (found c.show.result.now.keys c.args.key.now) c.in-Same.number c.args.numbered.now (notes_in c.args.notebook.now) (notes_in c.show.new.notebook) c.in-Same.ensures
      (ap (λ l. l.items) c.show.ensures.notes.0) (ap (λ l. l.items) c.show.ensures.notes.1);
}

pub returns-in-Other-clause-once : goal.returns-in-Other-clause-once
returns-in-Other-clause-once g c = record {
  list = c.show.result.now;
  seen = c.show.ensures.seen;
  does = known_other c.args.cell c.args.text.now c.args.key.now (found c.show.result.now.keys c.args.key.now) c.args.numbered.now (notes_in c.args.notebook.now) (notes_in c.show.new.notebook) c.in-Other.ensures
      (ap (λ l. l.items) c.show.ensures.notes.0) (ap (λ l. l.items) c.show.ensures.notes.1);
}

pub returns-clause-once : goal.returns-clause-once
returns-clause-once g c = record {
  list = c.show.result.now;
  seen = ap (λ l. l.items) c.edited_once-end.ensures.seen ∙ c.show.ensures.seen;
  does = not_known c.args.cell c.args.text.now c.args.key.now (found c.show.result.now.keys c.args.key.now) c.args.numbered.now c.edited_once-end.new.numbered
      (notes_in c.args.notebook.now) (notes_in c.show.new.notebook) (notes_in c.edited_once-end.new.notebook) (set_view c.edited_once-end.result)
      c.in-New.ensures (ap (λ l. l.items) c.show.ensures.notes.0) (ap (λ l. l.items) c.show.ensures.notes.1) c.edited_once-end.ensures.edits;
}
