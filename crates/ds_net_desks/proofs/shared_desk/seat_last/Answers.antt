use Rattle.std.proofs.Common.{◌≡◌, ◌∙◌, ap, refl, subst, sym}
use Rattle.ds_server.specs.Replies.{Tells, last_view}
use Rattle.ds_net_desks.specs.Counting.{seen_by}
use Rattle.ds_net_desks.proofs.shared_desk.seat_last.Goals as goal

pub returns-in-Ok-clause-uses : goal.returns-in-Ok-clause-uses
returns-in-Ok-clause-uses g c =
    let now = c.catch_up.new.numbered in
    let plain = last_view c.recovered.result in
    let same = c.recovered.ensures.recovers.goes.process in
    let told : plain ≡ Tells c.in-Ok.last = ap last_view c.in-Ok.is in
    record {
      now = now;
      plain = plain;
      catches_up = c.catch_up.ensures;
      uses = c.recovered.ensures;
      seen = subst (λ p. Tells c.last_seen.result ≡ seen_by now.numberings.items p plain) same
          (ap Tells c.last_seen.ensures ∙ sym (ap (seen_by now.numberings.items c.recovered.new.seat.pass.process) told));
      rest = record { numberings = refl; epoch = refl };
    }

pub returns-in-Err-clause-uses : goal.returns-in-Err-clause-uses
returns-in-Err-clause-uses g c =
    let now = c.catch_up.new.numbered in
    let plain = last_view c.recovered.result in
    let told = ap last_view c.in-Err.is in
    record {
      now = now;
      plain = plain;
      catches_up = c.catch_up.ensures;
      uses = c.recovered.ensures;
      seen = sym (ap (seen_by now.numberings.items now.seat.pass.process) told);
      rest = record { numberings = refl; epoch = refl };
    }
