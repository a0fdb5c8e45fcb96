use Rattle.std.proofs.Common.{List, ap, length, map, refl, take, ◌+◌}
use Rattle.std.specs.Prelude.{Option}
use Rattle.ds_state.specs.declared.answer.Answer.{Answer}
use Rattle.ds_explore_state.specs.States.{seat_of}
use Rattle.ds_explore.proofs.Judged.{answers_none, answers_more, longer, seats_more}
use Rattle.ds_explore.proofs.ends.what_was_said.Goals as goal

pub loop-process-init : goal.loop-process-init
loop-process-init c = record {
  are = answers_none c.args.world.now (map seat_of (take 0 c.args.seats.now)) c.new-answers.result.items c.new-texts.result.items refl c.new-answers.ensures.items c.new-texts.ensures.items;
  count = ap (λ (l : List (Option Answer)). length l) c.new-answers.ensures.items;
}

pub loop-process-preserved : goal.loop-process-preserved
loop-process-preserved c = record {
  are = answers_more c.args.world.now (map seat_of (take c.loop-process.process c.args.seats.now)) c.loop-process.answers.items c.loop-process.texts.items c.loop-process.process (seat_of c.index-seats-process.result) c.in_ok-answer.answer c.in_ok-answer.text
      (map seat_of (take (c.loop-process.process + 1) c.args.seats.now)) c.push.new.self.items c.push-in-loop-process.new.self.items c.loop-process.invariant.are c.loop-process.invariant.count c.in_ok-answer.ensures.0 c.in_ok-answer.ensures.1
      (seats_more c.args.seats.now c.loop-process.process c.index-seats-process.result c.loop-process-test.true c.index-seats-process.is) c.in_ok-push.ensures.items c.in_ok-push-2.ensures.items;
  count = longer c.loop-process.answers.items c.push.new.self.items c.in_ok-answer.answer c.loop-process.process c.loop-process.invariant.count c.in_ok-push.ensures.items;
}
