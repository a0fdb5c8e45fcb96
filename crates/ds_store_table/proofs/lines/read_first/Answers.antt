use Rattle.std.proofs.Common.{subst, sym}
use Rattle.std.proofs.lemmas.Result.{IfOk-weaker}
use Rattle.sqlite.specs.Held.{state}
use Rattle.ds_store_table.specs.Tables.{Holds, numbered}
use Rattle.ds_store_table.proofs.Counting.{all_of_them}
use Rattle.ds_store_table.proofs.Reading.{none_missing}
use Rattle.ds_store_table.proofs.lines.read_first.Goals as goal

pub returns-clause-first : goal.returns-clause-first
returns-clause-first g c clean lines has =
    let some = none_missing lines (state g.S.Store c.args.conn.now).now has in
    let read = c.in_ok-rows.ensures.shows clean (numbered 1 lines) some in
    IfOk-weaker c.first_of.result _ _ (λ first before. (all_of_them lines first before, subst (Holds lines) (sym read.1.0.now_is) has))
    (c.first_of.ensures.before (numbered 1 lines) some.rise (rw c.deref.ensures.value read.0))
