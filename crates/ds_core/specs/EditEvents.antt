-- A step of an edit, from world to world.
use Rattle.std.specs.Prelude.{ℕ, ◌≡◌, Option}
use Rattle.ds_state.specs.Value.{WorldValue}
use Rattle.ds_state.specs.declared.stage.Outcome.{Outcome}
use Rattle.ds_state.specs.declared.answer.EditEnd.{EditEnd}
use Rattle.ds_state.specs.declared.answer.Answer.TheVariants.{Edit}
use Rattle.ds_state.specs.declared.turn.Turn.{Turn}
use Rattle.ds_edit.specs.EditTakes as edits
use Rattle.ds_core.specs.Replies.{reply_of}
use Rattle.ds_core.specs.declared.reply.Reply.{Reply}

-- the reply to a step of an edit: Stepped, or its answer
abbrev pub edit_reply : Turn EditEnd → Reply
edit_reply what = reply_of Edit what

-- the reply to a step of the edit with this number, by how the edit ended with it, if it did
abbrev pub reply_with : ℕ → ℕ → Option Outcome → Reply
reply_with processes number outcome = edit_reply (edits.turn_with processes number outcome)

-- the process makes one step of its edit, with the reply of that step
pub record EditStepsBy (old : WorldValue) (p : ℕ) (reply : Reply) (new : WorldValue) : Type 0 where
  pub what : Turn EditEnd
  pub steps : edits.StepsBy old p what new
  pub is : reply ≡ edit_reply what
