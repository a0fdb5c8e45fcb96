use Rattle.sqlite.specs.Held.{state}
use Rattle.ds_store_table.proofs.Adding.{adds_inside}
use Rattle.ds_store_table.proofs.table.add.Goals as goal

pub returns-clause-holds : goal.returns-clause-holds
returns-clause-holds g c clean lines has =
    adds_inside (state g.S.Store c.args.tx.now.conn.now) (state g.S.Store c.execute.new.self.conn.now) c.args.line.now c.execute.result lines has (rw c.params-to_sql.ensures at (c.execute.ensures.runs clean has.inside))
