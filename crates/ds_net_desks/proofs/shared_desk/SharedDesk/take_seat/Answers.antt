use Rattle.std.proofs.Common.{◌≡◌, ◌∙◌, ap, refl, subst, sym}
use Rattle.ds_server.specs.Replies.{Tells, last_view}
use Rattle.ds_net_desks.specs.Counting.{seen_by}
use Rattle.ds_net_desks.specs.SharedDesks.{HasRecovered}
use Rattle.ds_net_desks.proofs.Sharing.{recovered_tells}
use Rattle.ds_net_desks.proofs.shared_desk.SharedDesk.take_seat.Goals as goal

pub returns-in-Ok-clause-taken : goal.returns-in-Ok-clause-taken
returns-in-Ok-clause-taken g c =
    let now = c.args.numbered in
    let plain = last_view c.recovered.result in
    let told : plain ≡ Tells c.in-Ok.last = ap last_view c.in-Ok.is in
    record {
      now = now;
      plain = plain;
      process_is = refl;
      recovers = c.recovered.ensures;
      seen = subst (λ p. Tells c.last_seen-seen.result ≡ seen_by now.numberings.items p plain) c.recovered.ensures.recovers.goes.process
          (ap Tells c.last_seen-seen.ensures ∙ sym (ap (seen_by now.numberings.items c.recovered.new.seat.pass.process) told));
      rest = record { numberings = refl; epoch = refl };
    }

pub returns-in-Err-clause-taken : goal.returns-in-Err-clause-taken
returns-in-Err-clause-taken g c = absurd (recovered_tells c.args.numbered.seat c.recovered.new.seat c.in-Err.why (subst (λ w. HasRecovered c.args.numbered.seat w c.recovered.new.seat) (ap last_view c.in-Err.is) c.recovered.ensures))
