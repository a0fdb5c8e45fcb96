use Rattle.std.proofs.Common.{subst, sym}
use Rattle.std.proofs.lemmas.List.{take_all}
use Rattle.std.proofs.lemmas.List.Elements.{All-more, All-same}
use Rattle.std.specs.Prelude.{take}
use Rattle.ds_paths.specs.Sums.{LeadsUp}
use Rattle.ds_paths.proofs.count.leads_up.Goals as goal

pub loop-edge-preserved : goal.loop-edge-preserved
loop-edge-preserved g c =
    All-more (LeadsUp c.args.ranks.now) c.args.edges.now c.loop-edge.edge-index c.edge-item.result c.loop-edge-test.true c.loop-edge.invariant
    (subst (LeadsUp c.args.ranks.now) c.edge-item.is (record { from = c.if-from-ranks.false; to = c.if-to-ranks.false; up = c.if-ranks-from.false }))

pub returns : goal.returns
returns g c = λ yes. All-same (LeadsUp c.args.ranks.now) c.args.edges.now (take c.loop-edge.edge-index c.args.edges.now) (sym (take_all c.loop-edge.edge-index c.args.edges.now c.loop-edge-test.false)) c.loop-edge.invariant
