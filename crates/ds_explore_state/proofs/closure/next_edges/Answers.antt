use Rattle.std.proofs.Common.{arith, rules}
use Rattle.std.proofs.lemmas.List.{get_or_default}
use Rattle.ds_explore_state.specs.States.{groups_of}
use Rattle.ds_explore_state.specs.Drawn.{IsNextEdge}
use Rattle.ds_explore_state.proofs.Drawing.{all_next, next_more}
use Rattle.ds_explore_state.proofs.closure.next_edges.Goals as goal

pub loop-at-preserved : goal.loop-at-preserved
loop-at-preserved c =
    let low = c.loop-at-test.true in
    let h = next_more (IsNextEdge c.args.found.states.now (groups_of c.args.found.touched.now) c.args.found.allowed c.args.found.touched.now.places.items c.args.position.now c.args.number) c.args.found.allowed c.args.position.now c.args.moves.now
    c.loop-at.at _ c.loop-at.edges.items c.add_next.new.edges.items (get_or_default c.args.moves.now c.loop-at.at _ _ low) low (c.in_ok-led.ensures c.if-not-led.false) c.loop-at.invariant.each c.loop-at.invariant.moves in
    record { each = h.0; moves = h.1 }

pub returns : goal.returns
returns c =
    let few = c.if-len.false in
    let a = c.len.ensures in
    let b = c.len-2.ensures in
    all_next c.args.found.states.now (groups_of c.args.found.touched.now) c.args.found.allowed c.args.found.touched.now.places.items _ c.args.moves.now c.args.position.now c.args.number c.loop-at.edges.items c.requires (omega (arith, few, a, b))
    c.loop-at.invariant.each (λ i d low. c.loop-at.invariant.moves i d (let end = c.loop-at-test.false in omega (arith, low, end)))
