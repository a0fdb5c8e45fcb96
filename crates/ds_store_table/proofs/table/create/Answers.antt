use Rattle.sqlite.specs.Held.{state}
use Rattle.ds_store_table.proofs.Making.{makes_inside}
use Rattle.ds_store_table.proofs.table.create.Goals as goal

pub returns-clause-holds : goal.returns-clause-holds
returns-clause-holds g c clean within bare = makes_inside (state g.S.Store c.args.tx.now.conn.now) (state g.S.Store c.execute.new.self.conn.now) c.execute.result bare (c.execute.ensures.runs clean within)
