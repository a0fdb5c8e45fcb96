use Rattle.std.proofs.Common.{ℕ, Option, refl, subst}
use Rattle.std.specs.Prelude.{IfSome, IsTrue}
use Rattle.ds_explore_state.specs.States.{groups_of}
use Rattle.ds_explore_state.specs.Drawn.{IsChoiceEdge, IsCrashOf}
use Rattle.ds_explore_state.specs.declared.choices.Choice.TheVariants.{Crashes}
use Rattle.ds_explore_state.proofs.Drawing.{one_added}
use Rattle.ds_explore_state.proofs.endings.add_crash.Goals as goal

pub returns-clause-adds : goal.returns-clause-adds
returns-clause-adds g c = λ yes.
    one_added (IsChoiceEdge c.args.found.states.now (groups_of c.args.found.touched.now) (g.E.Endings.numbered c.args.endings.now) c.args.found.allowed c.args.found.touched.now.places.items c.args.found.first.now c.args.position.now c.args.number)
    (IsTrue c.args.found.allowed.crashes) Crashes c.args.edges.now.items c.push.new.self.items (record { from = c.args.number; by = Crashes; to = c.in-Some-vertex_of.to }) c.in_ok-push.ensures.items (
      refl,
      (
        c.if-not-found.false,
        (
          c.in-Some.outcome,
          c.in-Some-vertex_of.ensures,
          subst (λ (o : Option ℕ). IfSome o (IsCrashOf c.args.found.states.now (groups_of c.args.found.touched.now) (g.E.Endings.numbered c.args.endings.now) c.args.found.allowed c.args.found.touched.now.places.items c.args.found.first.now c.args.position.now))
              c.in-Some.is c.in_ok-outcome.ensures.numbered,
        ),
      ),
    ) refl
