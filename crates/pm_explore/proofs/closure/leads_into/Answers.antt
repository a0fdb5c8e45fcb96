use Rattle.pm_explore.specs.Tables.{IsFound}
use Rattle.pm_explore.proofs.Closing.{shown_by, some_found}
use Rattle.pm_explore.proofs.closure.leads_into.Goals as goal

pub returns-in_ok-codes-in-To : goal.returns-in_ok-codes-in-To
returns-in_ok-codes-in-To g c = λ yes old new says shows passes.
    let xs = c.args.table.now.positions.items in
    let k = some_found (IsFound xs c.in-To.next) c.find.result c.find.ensures (rw c.is_some.ensures at yes) in
    shown_by g.P.Explored.structure c.args.setting.now xs c.in-To.next k.0 new k.1 ((rw c.in-To.is at c.in_ok-next.ensures) old new says shows passes)

pub returns-in-Stays : goal.returns-in-Stays
returns-in-Stays g c = λ yes old new says shows passes. record { position = c.args.x.now; inside = c.requires; shows = (rw c.in-Stays.is at c.in_ok-next.ensures) old new says shows passes }
