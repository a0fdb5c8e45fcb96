use Rattle.std.proofs.Common.{arith}
use Rattle.std.proofs.lemmas.List.{get_or_default}
use Rattle.std.proofs.lemmas.Option.{slice_get_within}
use Rattle.ds_explore_state.specs.declared.position.Move.TheVariants.{Evict}
use Rattle.ds_explore_state.proofs.Drawing.{evictions_more, moves_of_push, moves_push_left, stands_at}
use Rattle.ds_explore_state.proofs.choices.add_evictions.Goals as goal

pub loop-number-preserved : goal.loop-number-preserved
loop-number-preserved c =
    let e = c.in_ok-push.ensures.items in
    let low = c.loop-number-test.true in
    record {
      each = λ all. moves_of_push c.args.places.now c.loop-number.moves.items c.push.new.self.items _ e (c.loop-number.number, stands_at c.args.places.now c.loop-number.number _ low) (c.loop-number.invariant.each all);
      kept = λ move h. moves_push_left c.loop-number.moves.items c.push.new.self.items _ move e (c.loop-number.invariant.kept move h);
      evictions = evictions_more c.args.places.now c.loop-number.number _ c.loop-number.moves.items c.push.new.self.items low (get_or_default c.args.places.now c.loop-number.number _ _ low) e c.loop-number.invariant.evictions;
    }

pub returns-clause-evictions : goal.returns-clause-evictions
returns-clause-evictions c = λ i place there. c.loop-number.invariant.evictions i place (let low = slice_get_within c.args.places.now i place there in let end = c.loop-number-test.false in omega (arith, low, end)) there
