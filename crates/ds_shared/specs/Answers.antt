-- What a call on the shared sheet answers.
use Rattle.std.specs.Prelude.{ℕ, ◌≡◌, ◌⊎◌, ◌<◌, ◌≤◌, ◌+◌, ◌++◌, Bool, true, false, List, [], ◌∷◌, map, reverse, Option, Some, None, Vec}
use Rattle.std.specs.Global.{Global}
use Rattle.std.specs.Mem.Slots.{slots_items}
use Rattle.ds_eval.specs.declared.value.Value.{Value}
use Rattle.ds_show.specs.ShowSteps.{answered}
use Rattle.ds_state.specs.declared.refusal.Refusal.{Refusal}
use Rattle.ds_state.specs.declared.situation.Situation.{Situation}
use Rattle.ds_state.specs.declared.situation.Situation.TheVariants.{Idle, Stopped}
use Rattle.ds_state.specs.Works.{PlainShowCall, PlainWorkCall}
use Rattle.ds_state.specs.declared.show.ShowEnd.{ShowEnd}
use Rattle.ds_state.specs.declared.show.ShowEnd.TheVariants.{Settled, Unsettled}
use Rattle.ds_state.specs.declared.recovery.RecoveryEnd.{RecoveryEnd}
use Rattle.ds_state.specs.declared.recovery.RecoveryEnd.TheVariants as recoveries
use Rattle.pm_base.specs.Runs.{deeds_by}
use Rattle.pm_board.specs.Fuses.{Asked}
use Rattle.pm_board.specs.Rule.{IsRested}
use Rattle.pm_board.specs.Views.{Sits, past_of}
use Rattle.ds_shared_runs.specs.declared.history.CallEvent.{CallEvent}
use Rattle.ds_structure.specs.Calls.{second_rest}
use Rattle.ds_structure.specs.Sheet.{sheet}
use Rattle.ds_structure_runs.specs.Runs.{call_events_by}
use Rattle.ds_structure_shared.specs.Boards.{SheetEntry, SheetPlace, SheetSeated, sole}
use Rattle.ds_shared.specs.Rules.{Rules}
use Rattle.ds_layout.specs.declared.layout.Layout.{Layout}
use Rattle.ds_shared.specs.Known.{outcomes, seen_by, steps_of}
use Rattle.ds_shared.specs.declared.ended.Ended.{Ended}
use Rattle.ds_shared.specs.declared.ended.Ended.TheVariants as ends
use Rattle.ds_shared.specs.declared.pass.Pass.{Pass}
use Rattle.ds_shared.specs.declared.pass.Note.{Note}
use Rattle.ds_shared.specs.declared.pass.Past.{Past}
use Rattle.ds_shared.specs.declared.sheet.ClosedSheet.{ClosedSheet}
use Rattle.ds_shared.specs.declared.sheet.SharedSheet.{SharedSheet}

-- the pass is one of the sheet
pub record IsOf (s : SharedSheet) (p : Pass) : Type 0 where
  pub table : p.place.table_id ≡ s.board.words.table.shared.table_id
  pub process : p.process < s.board.layout.processes

-- the words with which the sheet was made, or opened again
abbrev pub opened_with : SharedSheet → List ℕ
opened_with s = s.board.words.table.shared.key.words.value.items

-- a run leads to the words of the closed sheet, at rest, and what is remembered stands in it
abbrev pub Rests : ClosedSheet → Type 0
Rests c = IsRested sheet c.words.key (slots_items c.words.table.words) (past_of c.words.before)

-- the note is of the sheet
abbrev pub IsNoteOf : SharedSheet → Note → Type 0
IsNoteOf s note = note.place.table_id ≡ s.board.words.table.shared.table_id

-- the pass has looked at the sheet, and done nothing else: what it has seen since has nothing of its process
pub record HasLooked (old new : Pass) : Type 0 where
  pub late : List SheetEntry
  pub seen : seen_by new.place ≡ late ++ seen_by old.place
  pub own : deeds_by old.process late ≡ []
  pub process : new.process ≡ old.process
  pub number : new.number ≡ old.number
  pub stopped : new.stopped ≡ old.stopped
  pub call_events : outcomes new.place ≡ outcomes old.place
  pub steps : steps_of new.place ≡ steps_of old.place

-- the past is that of the sheet
abbrev pub IsPastOf : SharedSheet → Past → Type 0
IsPastOf s past = past.place.table_id ≡ s.board.words.table.shared.table_id

-- the pass has begun no call: stopped or not, with number 0, answered nothing, before its first step
pub record IsFresh (stopped : Bool) (p : Pass) : Type 0 where
  pub stopped_is : p.stopped ≡ stopped
  pub number : p.number ≡ 0
  pub call_events : outcomes p.place ≡ []
  pub steps : steps_of p.place ≡ 0

-- the processes of passes, each with what it does and what it was answered, the last pass first
abbrev pub seated_by : List Pass → List SheetSeated
seated_by passes = map (λ p. sole p.place) (reverse passes)

-- the call was answered, and this is so of its end
abbrev pub IfAnswered : {E : Type 0} → Ended E → (E → Type 0) → Type 0
IfAnswered (ends.Answered end) P = P end
IfAnswered (ends.Refused r) P = Unit {0}
IfAnswered ends.Stopped P = Unit {0}

-- the call was refused, and this is so of the cause
abbrev pub IfRefused : {E : Type 0} → Ended E → (Refusal → Type 0) → Type 0
IfRefused (ends.Answered end) P = Unit {0}
IfRefused (ends.Refused r) P = P r
IfRefused ends.Stopped P = Unit {0}

-- the call was stopped by its fuse, and this is so
abbrev pub IfStopped : {E : Type 0} → Ended E → Type 0 → Type 0
IfStopped (ends.Answered end) P = Unit {0}
IfStopped (ends.Refused r) P = Unit {0}
IfStopped ends.Stopped P = P

-- the call has begun or may have: it was not refused, and this is so
abbrev pub IfBegun : {E : Type 0} → Ended E → Type 0 → Type 0
IfBegun (ends.Answered end) P = P
IfBegun (ends.Refused r) P = Unit {0}
IfBegun ends.Stopped P = P

-- the pass took at most n steps
abbrev pub HasFewSteps : Pass → Pass → ℕ → Type 0
HasFewSteps old new most = steps_of new.place ≤ steps_of old.place + most

-- the number of a process's next edit after a recovery that ended so
abbrev pub number_after : RecoveryEnd → ℕ
number_after recoveries.Nothing = 0
number_after (recoveries.Last resolved) = resolved.number + 1

-- a show that ended so shows these values: those that it loaded where it is settled, and else none
abbrev pub ShowsValues : PlainShowCall → ShowEnd → Option (Vec Value Global) → Type 0
ShowsValues e Settled (Some values) = values.items ≡ answered e
ShowsValues e Settled None = ⊥
ShowsValues e (Unsettled place word) values = values ≡ None

-- the calls that a process of a sheet began in a history, and their answers, the last thing first
abbrev pub calls_of : Layout → ℕ → List SheetEntry → List CallEvent
calls_of layout p es = call_events_by layout.shape (deeds_by p es)

-- the pass's call began so, and was answered so: both stand in the part of the sheet's history that the pass has seen
-- since, after all that it had seen before, and no other call of its process does
pub record Tells (layout : Layout) (old new : Pass) (begin answer : CallEvent) : Type 0 where
  pub late : List SheetEntry
  pub seen : seen_by new.place ≡ late ++ seen_by old.place
  pub own : calls_of layout old.process late ≡ answer ∷ begin ∷ []
  pub did : outcomes new.place ≡ deeds_by old.process late ++ outcomes old.place

-- how often the fuse said no: once in a call that it stopped
abbrev pub noes : {E : Type 0} → Ended E → ℕ
noes (ends.Answered end) = 0
noes (ends.Refused r) = 0
noes ends.Stopped = 1

-- the fuse was asked before each step, and said yes each time; where the call was stopped it then said no
pub record IsAskedEachStep {F E : Type 0} (said : F → F → ℕ → ℕ → Type 0) (old new : F) (before after : Pass) (how : Ended E) : Type 0 where
  pub taken : ℕ
  pub steps : steps_of after.place ≡ steps_of before.place + taken
  pub asked : Asked said old new taken (noes how)

-- where a call that was broken off has left the seat of its process: as it was, before the first step; or in the call, where
-- that has come
pub data IsBroken {C : Type 0} (r : Rules C) (layout : Layout) (first : C) (old new : SheetPlace) : Type 0 where
  unbegun : new.me ≡ old.me → IsBroken r layout first old new
  within : (call : C) → r.came layout first call → Sits new.me (r.process first) (r.doing call) → IsBroken r layout first old new

-- the pass's call, which begins so, was broken off: the pass is stopped. Before the first step nothing has happened; else
-- the begin stands in the part of the history that the pass has seen since, no other call of its process does, and its
-- process is in this call still
pub record BreaksOff {C : Type 0} (r : Rules C) (layout : Layout) (first : C) (old new : Pass) : Type 0 where
  pub stopped : new.stopped ≡ true
  pub late : List SheetEntry
  pub seen : seen_by new.place ≡ late ++ seen_by old.place
  pub own : (calls_of layout old.process late ≡ []) ⊎ (calls_of layout old.process late ≡ r.begins layout first ∷ [])
  pub did : outcomes new.place ≡ deeds_by old.process late ++ outcomes old.place
  pub view : IsBroken r layout first old.place new.place

-- the work is the pass's, of this cell
pub record IsWorkOf (e : PlainWorkCall) (p : Pass) (cell : ℕ) : Type 0 where
  pub process : e.process ≡ p.process
  pub next : e.next ≡ p.number
  pub cell_is : e.cell ≡ cell

-- what the process of a pass does between calls: where it is not stopped, it knows the second layout
abbrev pub doing : Bool → ℕ → Situation
doing true number = Stopped
doing false number = Idle (second_rest number)
