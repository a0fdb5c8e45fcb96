-- What a recovery would come to that marks nothing for an edit that is not done.
use Rattle.std.specs.Prelude.{ℕ, ◌≡◌, ◌≢◌, Some}
use Rattle.ds_formula.specs.declared.cells.Cell.{Cell}
use Rattle.ds_formula.specs.Plain.{PlainContent}
use Rattle.ds_eval.specs.declared.inputs.Entry.{Entry}
use Rattle.ds_eval.specs.Local.{local}
use Rattle.ds_layout.specs.Mark.{IsClean}
use Rattle.ds_layout.specs.declared.place.Place.TheVariants.{Mark, Value, Head}
use Rattle.ds_state.specs.Standing.{HasContent, value_for}
use Rattle.ds_state.specs.World.{PlainIssue, PlainWorld}
use Rattle.ds_state.specs.declared.situation.Rest.{Rest}
use Rattle.ds_state.specs.declared.situation.Situation.TheVariants.{Idle}

-- the cell is clean, and shows a value that its content does not give, whatever its references show; and no process but
-- this one has an open edit of it
pub record ReliesOn (w : PlainWorld) (p c : ℕ) : Type 0 where
  pub clean : IsClean (w.memory.cached (Mark c))
  pub other : (content : PlainContent) (inputs : Cell → Entry) → HasContent w c (w.memory.cached (Head c)) content
      → w.memory.cached (Value c) ≢ value_for (local w.layout.shape content inputs)
  pub alone : (q : ℕ) (issue : PlainIssue) → q ≢ p → w.open_edits q ≡ Some issue → issue.edit.cell ≢ c

-- the process has answered its recovery; mark, value and head of the cell are as they were, no edit was linearized, and
-- no other process's edit was begun or answered
pub record AnswersUnmarked (p c : ℕ) (old new : PlainWorld) : Type 0 where
  pub layout : new.layout ≡ old.layout
  pub mark : new.memory.cached (Mark c) ≡ old.memory.cached (Mark c)
  pub value : new.memory.cached (Value c) ≡ old.memory.cached (Value c)
  pub head : new.memory.cached (Head c) ≡ old.memory.cached (Head c)
  pub counted : new.counted ≡ old.counted
  pub next : Rest
  pub answered : new.situation p ≡ Idle next
  pub others : (q : ℕ) → q ≢ p → new.open_edits q ≡ old.open_edits q
