use Rattle.std.proofs.Common.{[], subst, sym}
use Rattle.ds_script_io.proofs.Known.{Appends-none}
use Rattle.ds_explore.specs.declared.explore.ExploreEnd.{ExploreEnd}
use Rattle.ds_explore.specs.Whole.{Explores}
use Rattle.ds_explore.proofs.Telling.{explores_none}
use Rattle.ds_explore.proofs.explore.explore_all.Goals as goal

pub returns-in-Err-clause-writes : goal.returns-in-Err-clause-writes
returns-in-Err-clause-writes g c = λ ne.
    ([], Appends-none _, subst (λ (end : ExploreEnd). Explores c.args.script.now c.args.options [] end) (sym c.end.ensures) (explores_none c.args.script.now c.args.options c.in-Err.why c.in-Err.ensures.lacks))

pub returns-in-Ok-clause-writes : goal.returns-in-Ok-clause-writes
returns-in-Ok-clause-writes g c = λ ne. c.write_found.ensures.writes c.args.script.now c.args.options c.in-Ok.ensures.explored ne
