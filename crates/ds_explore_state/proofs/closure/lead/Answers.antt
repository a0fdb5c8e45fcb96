use Rattle.std.proofs.Common.{rules}
use Rattle.ds_explore_state.specs.States.{groups_of}
use Rattle.ds_explore_state.proofs.Following.{follows_on}
use Rattle.ds_explore_state.proofs.closure.lead.Goals as goal

pub returns-clause-follows : goal.returns-clause-follows
returns-clause-follows c = λ yes first f.
    follows_on (groups_of c.args.touched.now) first c.args.position.now c.apply.new.self c.args.next c.in_ok-written.written (c.can_happen.ensures (search rules)) (c.has_written.ensures yes) c.in_ok-written.ensures f
