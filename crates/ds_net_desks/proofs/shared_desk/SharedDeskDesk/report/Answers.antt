use Rattle.std.proofs.Common.{◌≡◌, ◌∙◌, subst}
use Rattle.ds_net_desks.specs.DeskSeats.{IsSeatedAt}
use Rattle.ds_net_desks.proofs.shared_desk.SharedDeskDesk.report.Goals as goal

pub returns-clause-sits : goal.returns-clause-sits
returns-clause-sits g c =
    let sits : c.in-Some.numbered.seat.pass.process ≡ c.args._process = subst (λ o. IsSeatedAt o c.args._process) c.in-Some.is c.requires in
    c.seat_report-end.ensures.process ∙ sits
