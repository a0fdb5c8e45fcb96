use Rattle.ds_explore_state.specs.declared.position.Move.TheVariants.{Step}
use Rattle.ds_explore_state.proofs.Drawing.{moves_of_push, steps_more}
use Rattle.ds_explore_state.proofs.choices.steps.Goals as goal

pub loop-process-preserved : goal.loop-process-preserved
loop-process-preserved c =
    let e = c.in_ok-push.ensures.items in
    record {
      each = λ places. moves_of_push places c.loop-process.moves.items c.push.new.self.items (Step c.loop-process.process) e tt (c.loop-process.invariant.each places);
      steps = steps_more c.loop-process.process c.loop-process.moves.items c.push.new.self.items e c.loop-process.invariant.steps;
    }
