use Rattle.sqlite.specs.Held.{state}
use Rattle.ds_store_table.proofs.Removing.{removes_inside}
use Rattle.ds_store_table.proofs.table.remove.Goals as goal

pub returns-clause-bare : goal.returns-clause-bare
returns-clause-bare g c clean lines has =
    removes_inside (state g.S.Store c.args.tx.now.conn.now) (state g.S.Store c.execute.new.self.conn.now) c.execute.result lines has (c.execute.ensures.runs clean has.inside)
