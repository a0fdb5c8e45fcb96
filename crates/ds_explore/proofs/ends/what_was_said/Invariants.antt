use Rattle.std.proofs.Common.{◌≡◌, length, map, take}
use Rattle.ds_explore_state.specs.States.{seat_of}
use Rattle.ds_explore.specs.Judging.{AreAnswers, texts_of}
use Rattle.ds_explore.proofs.ends.what_was_said.Given as goal

abbrev pub invariant-loop-process : goal.invariant-loop-process
invariant-loop-process l = record {
  are : AreAnswers l.world (map seat_of (take l.process l.seats)) l.answers.items (texts_of l.texts.items);
  count : length l.answers.items ≡ l.process;
}
