use Rattle.std.proofs.Common.{arith, ◌≡◌, ◌∙◌, ◌<◌, ◌+◌, ℕ, ap, get_or, length, min, subst, sym}
use Rattle.std.proofs.lemmas.List.{get_or_default}
use Rattle.ds_paths.specs.declared.graph.Edge.{Edge}
use Rattle.ds_paths.specs.Paths.{COUNT_MOST}
use Rattle.ds_paths.proofs.Counting.{sums_more}
use Rattle.ds_paths.proofs.count.sums.Goals as goal

pub loop-edge-preserved : goal.loop-edge-preserved
loop-edge-preserved g c =
    let a : Edge g.row.L.Denot = c.edge-item.result in
    let enters : a.to < length c.args.counts.now = subst (λ (e : Edge g.row.L.Denot). e.to < length c.args.counts.now) (sym c.edge-item.is) (c.requires c.loop-edge.edge-index a c.loop-edge-test.true).1 in
    let long = c.loop-edge.invariant.count in
    let is : c.index.result.now ≡ get_or c.loop-edge.sums.items a.to 0 = c.index.ensures ∙ get_or_default c.loop-edge.sums.items a.to c.index.result.now 0 (omega (arith, enters, long)) in
    let sum : c.saturating_add.result ≡ min (get_or c.loop-edge.sums.items a.to 0 + get_or c.args.counts.now a.from 0) COUNT_MOST =
    c.saturating_add.ensures ∙ ap (λ (n : ℕ). min (n + get_or c.args.counts.now a.from 0) COUNT_MOST) is in
    sums_more c.args.edges.now c.args.counts.now c.loop-edge.sums.items c.loop-edge.edge-index a c.saturating_add.result c.loop-edge-test.true c.edge-item.is enters sum c.loop-edge.invariant
