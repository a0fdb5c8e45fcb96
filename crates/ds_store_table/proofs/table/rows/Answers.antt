use Rattle.std.proofs.lemmas.Result.{IfOk-weaker}
use Rattle.sqlite.specs.Held.{state}
use Rattle.ds_store_table.proofs.Reading.{lists, reads_only}
use Rattle.ds_store_table.proofs.table.rows.Goals as goal

pub returns-clause-shows : goal.returns-clause-shows
returns-clause-shows g c clean all has =
    IfOk-weaker c.query_all.result _ _ (λ rows h. lists (state g.S.Store c.args.conn.now) (state g.S.Store c.query_all.new.self) rows.items all has h) (c.query_all.ensures.ok clean)

pub returns-clause-survives : goal.returns-clause-survives
returns-clause-survives g c all has = reads_only (state g.S.Store c.args.conn.now) (state g.S.Store c.query_all.new.self) all has c.query_all.ensures.survives
