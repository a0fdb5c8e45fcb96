-- What the answer of an edit says of the list of the linearized ones.
use Rattle.std.specs.Prelude.{ℕ, ◌≡◌, Some, Contains, drop}
use Rattle.ds_layout.specs.declared.head.Head.{Head}
use Rattle.ds_layout.specs.Head.{head_of}
use Rattle.ds_state.specs.World.{PlainEdit, PlainWorld}
use Rattle.ds_state.specs.declared.stage.Outcome.{Outcome}
use Rattle.ds_state.specs.declared.stage.Outcome.TheVariants.{Done, Overtaken}

-- the word is the head of another edit of the cell, which was linearized after the first n
pub record Overtakes (w : PlainWorld) (e : PlainEdit) (since word : ℕ) : Type 0 where
  pub by : PlainEdit
  pub counted : Contains (drop since w.counted) by
  pub cell : by.cell ≡ e.cell
  pub head : Head
  pub reads : head_of w.layout.processes word ≡ Some head
  pub process : head.process ≡ by.process
  pub number : head.number ≡ by.number

-- Done: it is linearized; Overtaken: it is not, and the head that it met is of an edit that was linearized since its
-- issue
abbrev pub IsTrueOf : PlainWorld → PlainEdit → ℕ → Outcome → Type 0
IsTrueOf w e since Done = Contains w.counted e
IsTrueOf w e since (Overtaken noted seen) = (Contains w.counted e → ⊥) × Overtakes w e since seen

-- the outcome is true of the open edit, by what was linearized when it was issued
pub record IsTrueAnswer (w : PlainWorld) (e : PlainEdit) (how : Outcome) : Type 0 where
  pub since : ℕ
  pub issued : w.open_edits e.process ≡ Some (record { edit = e; since = since })
  pub holds : IsTrueOf w e since how
