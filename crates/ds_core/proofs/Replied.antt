-- The reply to a step of an edit.
use Rattle.std.proofs.Common.{ℕ, ◌≡◌, ap, ◌∙◌}
use Rattle.ds_state.specs.Value.{WorldValue}
use Rattle.ds_state.specs.EditEndings.{outcome_at}
use Rattle.ds_core.specs.EditEvents.{EditStepsBy, edit_reply, reply_with}
use Rattle.ds_core.specs.declared.reply.Reply.{Reply}

-- it is that of the edit's stage
pub replied : (old new : WorldValue) (p : ℕ) (reply : Reply) (h : EditStepsBy old p reply new)
    → reply ≡ reply_with old.sheet.layout.processes h.steps.edit.number (outcome_at h.steps.edit.stage)
replied old new p reply h = h.is ∙ ap edit_reply h.steps.is
