use Rattle.std.proofs.Common.{subst}
use Rattle.std.specs.Prelude.{IfOk, IfSome}
use Rattle.ds_explore_state.specs.Drawn.{IsGraph}
use Rattle.ds_explore_state.specs.States.{groups_of}
use Rattle.ds_explore_state.specs.declared.orders.Allowed.{Allowed}
use Rattle.ds_explore.specs.Judging.{texts_of}
use Rattle.ds_explore.specs.Whole.{IsAmong}
use Rattle.ds_explore.proofs.search.Search.graph.Goals as goal

pub returns-clause-graph : goal.returns-clause-graph
returns-clause-graph c =
    subst (λ (a : Allowed). IfOk c.draw_graph.result (λ some. IfSome some (λ edges. IsGraph c.args.self.now.found (groups_of c.args.start.now.touched) (λ x crashed number. IsAmong c.args.start.now.judge (texts_of c.args.keys.now) x crashed number) a c.args.start.now.touched.places.items c.args.start.now.first edges.items)))
    c.allowed.ensures c.draw_graph.ensures.graph
