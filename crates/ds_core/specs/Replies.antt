-- The reply to a step of a call.
use Rattle.ds_state.specs.declared.answer.Answer.{Answer}
use Rattle.ds_state.specs.declared.turn.Turn.{Turn}
use Rattle.ds_state.specs.declared.turn.Turn.TheVariants.{GoesOn, Answers}
use Rattle.ds_core.specs.declared.reply.Reply.{Reply}
use Rattle.ds_core.specs.declared.reply.Reply.TheVariants.{Stepped, Answered}

-- the reply to a step that did this to its call, whose ends are answered so
abbrev pub reply_of : {E : Type 0} → (E → Answer) → Turn E → Reply
reply_of answer GoesOn = Stepped
reply_of answer (Answers end) = Answered (answer end)
