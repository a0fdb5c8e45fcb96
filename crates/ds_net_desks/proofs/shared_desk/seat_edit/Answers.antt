use Rattle.std.proofs.Common.{◌≡◌, refl, subst}
use Rattle.ds_server.specs.Replies.{set_view}
use Rattle.ds_net_desks.specs.Counting.{seen_by}
use Rattle.ds_net_desks.proofs.Sharing.{set_process}
use Rattle.ds_net_desks.proofs.shared_desk.seat_edit.Goals as goal

pub returns-clause-uses : goal.returns-clause-uses
returns-clause-uses g c =
    let now = c.catch_up.new.numbered in
    let plain = set_view c.edited-end.result in
    let same = set_process now.seat c.edited-end.new.seat c.args.cell c.args.text.now plain c.edited-end.ensures in
    record {
      now = now;
      plain = plain;
      catches_up = c.catch_up.ensures;
      uses = c.edited-end.ensures;
      seen = subst (λ p. set_view c.set_seen.result ≡ seen_by now.numberings.items p plain) same c.set_seen.ensures;
      rest = record { numberings = refl; epoch = refl };
    }
