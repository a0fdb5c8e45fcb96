use Rattle.std.proofs.Common.{◌≡◌, ◌∙◌, ap, inl, inr, refl, subst, sym}
use Rattle.ds_shared_seats.specs.Calls.{Reports}
use Rattle.ds_net_desks.specs.SharedDesks.{STEPS_MOST, report_said, sheet_of}
use Rattle.ds_net_desks.proofs.Sharing.{refused_is, same_sheet}
use Rattle.ds_net_desks.proofs.shared_desk.reported.Goals as goal

pub returns-in_err-shared_settle : goal.returns-in_err-shared_settle
returns-in_err-shared_settle g c = record {
  worked = c.shared_settle.new.seat;
  works = c.shared_settle.ensures.works;
  reports = inr (refl, refused_is (sheet_of c.args.seat.now) c.args.seat.now c.shared_settle.new.seat c.from_residual.result _ c.from_residual.ensures.1 c.in_err-shared_settle.ensures.err);
}

pub returns : goal.returns
returns g c =
    let seat = c.args.seat.now in
    let worked = c.shared_settle.new.seat in
    let made = c.show-how.ensures.made in
    let of : sheet_of worked ≡ sheet_of seat = same_sheet (sheet_of seat) seat worked refl c.shared_settle.ensures.works in
    let pass : c.show-how.new.self.pass ≡ c.reported_as.new.seat.pass = sym c.reported_as.ensures.seat.1 in
    record {
      worked = worked;
      works = c.shared_settle.ensures.works;
      reports = inl (
        c.show-how.result,
        made.0,
        subst (λ p. Reports (sheet_of seat) STEPS_MOST worked.pass p c.show-how.result made.0) pass
            (subst (λ s. Reports s STEPS_MOST worked.pass c.show-how.new.self.pass c.show-how.result made.0) of made.1),
        c.reported_as.ensures.said ∙ ap (λ v. report_said c.show-how.result v.items) made.2,
      );
    }
