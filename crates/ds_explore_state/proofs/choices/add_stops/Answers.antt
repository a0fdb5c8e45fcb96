use Rattle.ds_explore_state.specs.declared.position.Move.TheVariants.{Stop}
use Rattle.ds_explore_state.proofs.Drawing.{moves_of_push, moves_push_left, stops_more}
use Rattle.ds_explore_state.proofs.choices.add_stops.Goals as goal

pub loop-process-preserved : goal.loop-process-preserved
loop-process-preserved c =
    let e = c.in_ok-push.ensures.items in
    record {
      each = λ places all. moves_of_push places c.loop-process.moves.items c.push.new.self.items (Stop c.loop-process.process) e tt (c.loop-process.invariant.each places all);
      kept = λ move h. moves_push_left c.loop-process.moves.items c.push.new.self.items (Stop c.loop-process.process) move e (c.loop-process.invariant.kept move h);
      stops = stops_more c.loop-process.process c.loop-process.moves.items c.push.new.self.items e c.loop-process.invariant.stops;
    }
