-- A whole work on a board: from its begin to its answer, with the reading of its content and the taking of its entry.
use Rattle.std.specs.Prelude.{ℕ, ◌≡◌, ◌≤◌, List, [], ◌∷◌, ◌++◌}
use Rattle.atomic_table.specs.Table.{Me}
use Rattle.ds_eval.specs.Inputs.{entry_in}
use Rattle.ds_eval.specs.Local.{local}
use Rattle.ds_layout.specs.declared.layout.Layout.{Layout}
use Rattle.ds_state.specs.Works.{PlainWorkCall, IsWork}
use Rattle.ds_state.specs.declared.situation.Situation.{Situation}
use Rattle.ds_state.specs.declared.situation.Situation.TheVariants.{Idle, Working}
use Rattle.ds_state.specs.declared.work.WorkEnd.{WorkEnd}
use Rattle.ds_state.specs.declared.work.WorkStage.{WorkStage}
use Rattle.ds_state.specs.declared.work.WorkStage.TheVariants.{Answer, LoadMark, Read, Wait}
use Rattle.ds_work.specs.Reading.{IsReading}
use Rattle.ds_work.specs.WorkSteps.{next_at, offered}
use Rattle.pm_base.specs.declared.history.Deed.{Deed}
use Rattle.pm_base.specs.declared.history.Deed.TheVariants as deed
use Rattle.pm_board.specs.declared.board.View.{View}
use Rattle.pm_board.specs.Machines.{Grows}
use Rattle.pm_board.specs.Views.{Sits, deeds_at}
use Rattle.ds_structure.specs.Calls.{WorkGoes, second_rest, works}
use Rattle.ds_structure.specs.declared.response.Response.{Response}
use Rattle.ds_structure.specs.declared.response.Response.TheVariants.{Worked}

-- what a work comes to without touching a word: it has read its content, or lacks memory for that; or it has taken the entry
-- that its content gives on its inputs
pub data Turns (layout : Layout) (e : PlainWorkCall) : PlainWorkCall → Type 0 where
  reads : (f : PlainWorkCall) → IsWork e → e.stage ≡ Read → IsReading layout.shape e f → Turns layout e f
  takes : (f : PlainWorkCall) → IsWork e → e.stage ≡ Wait → f ≡ offered e (local layout.shape e.content (entry_in e.inputs)) → Turns layout e f

-- the work came here from another by its own steps, each with the word that it found, and by such turns
pub data WorkCame (layout : Layout) (first : PlainWorkCall) : PlainWorkCall → Type 0 where
  still : WorkCame layout first first
  steps : (e : PlainWorkCall) (word : ℕ) → WorkCame layout first e → WorkGoes e.stage → WorkCame layout first (next_at e e.stage word)
  turns : (e f : PlainWorkCall) → WorkCame layout first e → Turns layout e f → WorkCame layout first f

-- a stage at which a work does not begin
abbrev pub IsOnward : WorkStage → Type 0
IsOnward LoadMark = ⊥
IsOnward _ = Unit {0}

-- a process whose work went on by turns did this: no call begins there, and nothing is answered
pub data Onward : List (Deed Situation Response) → Type 0 where
  nowhere : Onward []
  on : (e : PlainWorkCall) (ds : List (Deed Situation Response)) → IsOnward e.stage → Onward ds → Onward (deed.Began (Working e) ∷ ds)

-- the process began the work, which then went on so, and took n steps
pub record Works (first : PlainWorkCall) (old new : Me ℕ (View Situation Response)) (before : List (Deed Situation Response)) (n : ℕ) : Type 0 where
  pub turns : List (Deed Situation Response)
  pub onward : Onward turns
  pub done : (deeds_at new).done ≡ before ++ (turns ++ (deed.Began (Working first) ∷ (deeds_at old).done))
  pub grows : Grows first.process (deeds_at old) (deeds_at new) n

-- the work has ended so, after n steps, which are no more than it had left: the process is idle, was answered that, and did
-- nothing else
pub record EndsWork (first : PlainWorkCall) (old new : Me ℕ (View Situation Response)) (call : PlainWorkCall) (end : WorkEnd) (n : ℕ) : Type 0 where
  pub ends : call.stage ≡ Answer end
  pub sits : Sits new first.process (Idle (second_rest first.next))
  pub did : Works first old new (deed.Response (Worked (record call { stage = Answer end }) end) ∷ []) n
  pub few : n ≤ works.rank first

-- the work was broken off after n steps, which are no more than it had left: before its first step, and the seat is as it
-- was; or later: the process is in it, and was answered nothing
pub data StopsWork (layout : Layout) (first : PlainWorkCall) (old : Me ℕ (View Situation Response)) : Me ℕ (View Situation Response) → ℕ → Type 0 where
  unbegun : StopsWork layout first old old 0
  inside : (new : Me ℕ (View Situation Response)) (call : PlainWorkCall) (n : ℕ) → WorkCame layout first call → Sits new first.process (Working call) → Works first old new [] n → n ≤ works.rank first → StopsWork layout first old new n
