use Rattle.std.proofs.Common.{◌∙◌, ap, inl, inr, refl, subst}
use Rattle.ds_server.specs.Replies.{set_view}
use Rattle.ds_net_desks.specs.DeskSeats.{Uses}
use Rattle.ds_net_desks.specs.StoredDesks.{StoredSet}
use Rattle.ds_net_desks.proofs.Reading.{used_after}
use Rattle.ds_net_desks.proofs.stored_desk.seat_undo.Goals as goal

pub returns-in-Err-clause-undone : goal.returns-in-Err-clause-undone
returns-in-Err-clause-undone g c = record {
  list = c.show.result.now;
  seen = c.show.ensures.seen;
  keyed = ap (λ l. l.items) c.show.ensures.notes.1;
  does = inr (c.in-Err.why, c.in-Err.ensures, refl, refl, ap (λ l. l.items) c.show.ensures.notes.0);
}

pub returns-clause-undone : goal.returns-clause-undone
returns-clause-undone g c =
    let old = c.args.numbered.now in
    let new = c.edited_as-end.new.numbered in
    let what = set_view c.edited_as-end.result in
    let mid = c.show.new.notebook.heard.items in
    let after = c.edited_as-end.new.notebook.heard.items in
    record {
      list = c.show.result.now;
      seen = ap (λ l. l.items) c.edited_as-end.ensures.notes.0 ∙ c.show.ensures.seen;
      keyed = ap (λ l. l.items) c.edited_as-end.ensures.notes.1 ∙ ap (λ l. l.items) c.show.ensures.notes.1;
      does = inl (
        c.in-Ok.text.items,
        c.in-Ok.ensures,
        subst (λ h. Uses (StoredSet h c.args.cell c.in-Ok.text.items after what) old what new) (ap (λ l. l.items) c.show.ensures.notes.0)
            (subst (λ t. Uses (StoredSet mid c.args.cell t after what) old what new) c.as_slice.ensures.value
            (used_after (StoredSet mid c.args.cell c.as_slice.result.now after what) old c.catch_up.new.numbered new what c.catch_up.ensures c.edited_as-end.ensures.uses)),
      );
    }
