use Rattle.std.proofs.Common.{rules, ◌<◌}
use Rattle.ds_store_journal.specs.Standings.{standing_from}
use Rattle.ds_store_journal.proofs.standings.none_made.Goals as goal

pub returns-clause-standings : goal.returns-clause-standings
unfolding standing_from
returns-clause-standings c p d low =
    let under : p < c.loop-process._process = search rules in
    c.loop-process.invariant.2 p d under
