use Rattle.std.proofs.Common.{subst, sym}
use Rattle.ds_server.specs.Replies.{report_view}
use Rattle.ds_net_desks.specs.DeskSeats.{HasViewed}
use Rattle.ds_net_desks.proofs.shared_desk.SharedDesk.viewed.Goals as goal

pub returns-clause-viewed : goal.returns-clause-viewed
returns-clause-viewed g c =
    subst (λ o. HasViewed o (report_view c.seat_report-end.result) o) (sym c.in_default.is) (c.in-Ok.numbered, c.seat_report-end.new.numbered, c.seat_report-end.ensures.uses)
