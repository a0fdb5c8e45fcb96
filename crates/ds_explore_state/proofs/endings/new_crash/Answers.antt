use Rattle.std.proofs.Common.{Option, ℕ, subst, true}
use Rattle.std.specs.Prelude.{IfSome}
use Rattle.ds_explore_state.specs.States.{groups_of}
use Rattle.ds_explore_state.proofs.WrittenEnds.{crashes_more}
use Rattle.ds_explore_state.proofs.endings.new_crash.Goals as goal

pub returns-clause-knows : goal.returns-clause-knows
returns-clause-knows g c =
    crashes_more c.args.found.states.now (groups_of c.args.found.touched.now) (g.E.Endings.numbered c.args.endings.now) c.args.found.allowed c.args.found.touched.now.places.items c.args.found.first.now c.args.crashes.now
    (record { keys = c.add.new.self; outcomes = c.push.new.self }) c.args.key.items c.in-Some.outcome c.args.position.now c.requires.knows c.in_ok-add.ensures c.in_ok-push.ensures.items c.requires.kept c.requires.key
    (subst (λ (o : Option ℕ). IfSome o (g.E.Endings.numbered c.args.endings.now c.args.position.now true)) c.in-Some.is c.in_ok-outcome.ensures)
