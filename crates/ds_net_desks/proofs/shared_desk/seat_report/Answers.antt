use Rattle.std.proofs.Common.{refl, ◌∙◌}
use Rattle.ds_server.specs.Replies.{report_view}
use Rattle.ds_net_desks.proofs.Sharing.{report_seen, reported_process}
use Rattle.ds_net_desks.proofs.shared_desk.seat_report.Goals as goal

pub returns-clause-uses : goal.returns-clause-uses
returns-clause-uses g c =
    let now = c.catch_up.new.numbered in
    let plain = report_view c.reported.result in
    record {
      now = now;
      plain = plain;
      catches_up = c.catch_up.ensures;
      uses = c.reported.ensures;
      seen = report_seen now.numberings.items now.seat.pass.process c.reported.result;
      rest = record { numberings = refl; epoch = refl };
    }

pub returns-clause-process : goal.returns-clause-process
returns-clause-process g c = reported_process c.catch_up.new.numbered.seat c.reported.new.seat (report_view c.reported.result) c.reported.ensures ∙ c.catch_up.ensures.process
