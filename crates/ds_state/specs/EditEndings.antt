-- How an edit ends.
use Rattle.std.specs.Prelude.{ℕ, Option, Some, None}
use Rattle.ds_layout.specs.declared.head.Head.{Head}
use Rattle.ds_layout.specs.Head.{head_of}
use Rattle.ds_state.specs.declared.stage.Outcome.{Outcome}
use Rattle.ds_state.specs.declared.stage.Outcome.TheVariants as outcome
use Rattle.ds_state.specs.declared.stage.Stage.{Stage}
use Rattle.ds_state.specs.declared.stage.Stage.TheVariants as stage
use Rattle.ds_state.specs.declared.answer.Other.{Other}
use Rattle.ds_state.specs.declared.answer.EditEnd.{EditEnd}
use Rattle.ds_state.specs.declared.answer.EditEnd.TheVariants.{Done, Overtaken}

-- the edit of a head; a word that is no head is read as edit 0 of process 0, and no edit of a sound sheet has met one
abbrev pub other_of : Option Head → Other
other_of None = record { process = 0; number = 0 }
other_of (Some head) = record { process = head.process; number = head.number }

-- the end of the edit with this number, which ended so
abbrev pub end_of : ℕ → ℕ → Outcome → EditEnd
end_of processes number outcome.Done = Done number
end_of processes number (outcome.Overtaken noted seen) = Overtaken number (other_of (head_of processes seen))

-- how the edit ended, where its last step is due
abbrev pub outcome_at : Stage → Option Outcome
outcome_at (stage.Answer how) = Some how
outcome_at _ = None
