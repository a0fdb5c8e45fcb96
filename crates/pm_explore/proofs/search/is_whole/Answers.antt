use Rattle.pm_explore.specs.Tables.{IsFound}
use Rattle.pm_explore.proofs.Closing.{shown_by, some_found}
use Rattle.pm_explore.proofs.search.is_whole.Goals as goal

pub returns : goal.returns
returns g c = λ yes.
    let xs = c.args.table.now.positions.items in
    let k = some_found (IsFound xs c.args.start.now) c.find.result c.find.ensures (rw c.is_some.ensures at yes) in record {
      start = λ point is. shown_by g.P.Explored.structure c.args.setting.now xs c.args.start.now k.0 point k.1 (c.requires point is);
      closed = c.in_ok-closed.ensures c.if-not-closed.false;
    }
