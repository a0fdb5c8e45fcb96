use Rattle.std.proofs.Common.{List, ◌∙◌, Option, ℕ, refl, subst, sym, true≢false}
use Rattle.std.specs.Global.{Vec}
use Rattle.std.specs.Prelude.{IfSome}
use Rattle.ds_paths.specs.declared.graph.Edge.{Edge}
use Rattle.ds_explore_state.specs.declared.choices.Choice.{Choice}
use Rattle.ds_explore_state.specs.States.{groups_of}
use Rattle.ds_explore_state.specs.Following.{IsKept}
use Rattle.ds_explore.specs.declared.exploration.Outcome.{Outcome}
use Rattle.ds_explore.specs.Judging.{texts_of}
use Rattle.ds_explore.specs.Whole.{AreOrders, HasGraph}
use Rattle.ds_explore.proofs.Going.{goes_through}
use Rattle.ds_explore.proofs.exploration.gone_through.Goals.{else-not-is_endless-via-then-not-is_endless+else-not-counted, else-not-is_endless-via-else-not-is_endless}
use Rattle.ds_explore.proofs.exploration.gone_through.Goals as goal

pub returns-clause-through : goal.returns-clause-through
returns-clause-through c = (
  refl,
  goes_through c.args.start.now (texts_of c.args.keys.now) c.args.found.now.search.found c.in-Some.edges.items _ c.states-states.ensures
      (subst (λ (o : Option (Vec (Edge Choice))). IfSome o (λ edges. HasGraph c.args.start.now (texts_of c.args.keys.now) c.args.found.now.search.found edges.items)) c.in-Some.is c.in_ok-edges.ensures.graph)
      (subst (λ (o : Option (Vec (Edge Choice))). IfSome o (λ edges. IsKept (groups_of c.args.start.now.touched) c.args.start.now.first c.args.start.now.first)) c.in-Some.is c.in_ok-edges.ensures.kept)
      (λ no. elim c.else-not-is_endless.branch [
        | else-not-is_endless-via-then-not-is_endless+else-not-counted w ↦
            subst (λ (l : List (Edge Choice)). AreOrders l c.states-states.result c.args.outcomes.items) c.deref.ensures.value
            (subst (λ (l : List Outcome). AreOrders c.deref.result.now c.states-states.result l) c.deref-2.ensures.value (c.in_ok-counted.ensures w.if-not-counted.false))
        | else-not-is_endless-via-else-not-is_endless w ↦ absurd (true≢false (sym w.if-not-is_endless.false ∙ no))
      ]),
)
