use Rattle.std.proofs.Common.{◌≡◌, refl, subst, sym}
use Rattle.ds_server.specs.Replies.{set_view}
use Rattle.ds_net_desks.specs.Counting.{seen_by}
use Rattle.ds_net_desks.specs.StoredDesks.{StoredSet}
use Rattle.ds_net_desks.proofs.Reading.{stays}
use Rattle.ds_net_desks.proofs.Sharing.{stored_process}
use Rattle.ds_net_desks.proofs.stored_desk.edited_seen.Goals as goal

pub returns-clause-uses : goal.returns-clause-uses
returns-clause-uses c =
    let now = c.args.numbered.now in
    let before = c.args.notebook.now.heard.items in
    let after = c.edited_alone-end.new.notebook.heard.items in
    let plain = set_view c.edited_alone-end.result in
    let what = seen_by now.numberings.items now.seat.pass.process plain in
    let new = c.edited_alone-end.new.seat in
    let set = subst (λ ns. StoredSet before c.args.cell c.args.text.items after (seen_by ns now.seat.pass.process plain) now.seat plain new) c.deref.ensures.value c.edited_alone-end.ensures.set in
    let same = stored_process before after now.seat new c.args.cell c.args.text.items what plain set in
    let seen : set_view c.set_seen.result ≡ what = subst (λ p. set_view c.set_seen.result ≡ seen_by now.numberings.items p plain) same c.set_seen.ensures in
    record {
      now = now;
      plain = plain;
      catches_up = stays now;
      uses = subst (λ w. StoredSet before c.args.cell c.args.text.items after w now.seat plain new) (sym seen) set;
      seen = seen;
      rest = record { numberings = refl; epoch = refl };
    }
