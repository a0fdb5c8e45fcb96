use Rattle.std.proofs.Common.{ℕ, List, Option, get_or, subst, sym}
use Rattle.std.specs.Global.{Vec}
use Rattle.std.specs.Prelude.{IfSome}
use Rattle.ds_explore_state.specs.States.{IsKey, crashed_state_of, groups_of}
use Rattle.ds_explore_state.proofs.WrittenEnds.{crash_found, crash_here, outcome_found}
use Rattle.ds_explore_state.proofs.endings.crash_outcome.Goals as goal

pub returns-in-Some-find-clause-numbered : goal.returns-in-Some-find-clause-numbered
returns-in-Some-find-clause-numbered g c =
    let is_key : IsKey c.args.found.states.now.numbers c.in-Some.key.items (crashed_state_of (groups_of c.args.found.touched.now) c.args.position.now) =
    subst (λ (o : Option (Vec ℕ)). IfSome o (λ key. IsKey c.args.found.states.now.numbers key.items (crashed_state_of (groups_of c.args.found.touched.now) c.args.position.now))) c.in-Some.is c.in_ok-key.ensures in
    outcome_found c.args.found.states.now (groups_of c.args.found.touched.now) (g.E.Endings.numbered c.args.endings.now) c.args.found.allowed c.args.found.touched.now.places.items c.args.found.first.now c.outcome_at.result
    (get_or c.args.crashes.now.outcomes.items c.in-Some-find.at 0) c.args.position.now c.outcome_at.ensures
    (crash_found c.args.found.states.now (groups_of c.args.found.touched.now) (g.E.Endings.numbered c.args.endings.now) c.args.found.allowed c.args.found.touched.now.places.items c.args.found.first.now c.args.crashes.now c.in-Some-find.at
    c.deref.result.now c.args.position.now c.requires.knows c.in-Some-find.ensures
    (subst (λ (k : List ℕ). IsKey c.args.found.states.now.numbers k (crashed_state_of (groups_of c.args.found.touched.now) c.args.position.now)) (sym c.deref.ensures.value) is_key))

pub returns-in-None-clause-numbered : goal.returns-in-None-clause-numbered
returns-in-None-clause-numbered g c =
    crash_here c.args.found.states.now (groups_of c.args.found.touched.now) (g.E.Endings.numbered c.args.endings.now) c.args.found.allowed c.args.found.touched.now.places.items c.args.found.first.now c.new_crash.result c.args.position.now c.requires.kept
    c.new_crash.ensures.numbered
