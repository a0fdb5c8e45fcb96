use Rattle.std.proofs.Common.{List}
use Rattle.ds_state.specs.Value.{world_of}
use Rattle.ds_state.specs.declared.answer.Answer.{Answer}
use Rattle.ds_core.specs.Own.{steps_left}
use Rattle.ds_core.specs.declared.event.Event.{Event}
use Rattle.ds_core.specs.declared.reply.Reply.{Reply}
use Rattle.ds_core.specs.Kinds.{AnswersTo}
use Rattle.ds_calls.specs.Whole.{IsCallingAs, Goes}
use Rattle.ds_calls.proofs.finish.finish.Given as goal

abbrev pub invariant-steps : goal.invariant-steps
invariant-steps g l = record {
  events : List Event;
  replies : List Reply;
  goes : Goes l.process l.fn.world events replies l.world;
  calling : IsCallingAs g.E.CallEnd.kind.is l.world l.process;
  same : (answer : Answer) → AnswersTo ((world_of l.world).situation l.process) answer → AnswersTo ((world_of l.fn.world).situation l.process) answer;
}

abbrev pub decreases-steps : goal.decreases-steps
decreases-steps g l = steps_left l.process l.world
