-- What a call of a seat does, in the words of the shared sheet.
use Rattle.std.specs.Prelude.{ℕ, ◌≡◌, ◌+◌, ◌*◌, ◌/◌, ◌≤◌, false, List, length, Option, Some, None, Vec}
use Rattle.std.specs.Global.{Global}
use Rattle.ds_formula.specs.declared.cells.Cell.{Cell}
use Rattle.ds_formula.specs.Cells.{index_of}
use Rattle.ds_eval.specs.declared.value.Value.{Value}
use Rattle.ds_layout.specs.Places.{cells_of}
use Rattle.ds_state.specs.Edits.{PlainEditCall}
use Rattle.ds_state.specs.Works.{PlainRecoverCall, PlainShowCall, PlainWorkCall}
use Rattle.ds_state.specs.World.{PlainEdit, edit_of}
use Rattle.ds_state.specs.EditEndings.{end_of}
use Rattle.ds_state.specs.declared.answer.EditEnd.{EditEnd}
use Rattle.ds_state.specs.declared.show.ShowEnd.{ShowEnd}
use Rattle.ds_state.specs.declared.stage.Outcome.{Outcome}
use Rattle.ds_state.specs.declared.work.WorkEnd.{WorkEnd}
use Rattle.ds_edit.specs.Begun as edits
use Rattle.ds_work.specs.WorkTakes as works
use Rattle.ds_show.specs.ShowSteps as reports
use Rattle.ds_recover.specs.RecoverySteps as recoveries
use Rattle.ds_state.specs.declared.recovery.RecoveryEnd.{RecoveryEnd}
use Rattle.ds_core.specs.declared.event.Event.TheVariants.{BeginEdit, BeginWork, BeginShow, BeginRecover}
use Rattle.ds_core.specs.declared.reply.Reply.TheVariants.{Begun, Entered}
use Rattle.ds_shared_runs.specs.declared.history.CallEvent.TheVariants.{Began, Edited, Worked, Recovered, Reported}
use Rattle.pm_base.specs.Structures.{In}
use Rattle.ds_structure.specs.Calls.{second_rest}
use Rattle.ds_structure_shared.specs.Boards.{SheetDeed}
use Rattle.ds_shared.specs.Rules.{IsFirst, edit_rules, recover_rules, show_rules, work_rules}
use Rattle.ds_shared.specs.Known.{outcomes, steps_of}
use Rattle.ds_shared.specs.Answers.{HasFewSteps, IfAnswered, IfBegun, IfRefused, IfStopped, BreaksOff, IsWorkOf, ShowsValues, Tells, doing, number_after}
use Rattle.ds_shared.specs.declared.ended.Ended.{Ended}
use Rattle.ds_shared.specs.declared.pass.Pass.{Pass}
use Rattle.ds_shared.specs.declared.sheet.SharedSheet.{SharedSheet}

-- the call took no more steps than its fuse has, and where it was stopped just that number; the pass is that of its
-- process, and remembers all that it did
pub record Goes {E : Type 0} (fuse : ℕ) (old new : Pass) (how : Ended E) : Type 0 where
  pub taken : ℕ
  pub steps : steps_of new.place ≡ steps_of old.place + taken
  pub few : taken ≤ fuse
  pub all : IfStopped how (taken ≡ fuse)
  pub process : new.process ≡ old.process
  pub kept : (t : SheetDeed) → In (outcomes old.place) t → In (outcomes new.place) t

-- the next edit of the pass: of this cell, to this text
abbrev pub edit_asked : SharedSheet → Pass → Cell → List ℕ → PlainEdit
edit_asked s p cell text = record { process = p.process; number = p.number; cell = index_of s.board.layout.shape cell; text = text }

-- the pass edits the cell: answered, stopped by its fuse, or refused and as it was
pub record Edits (s : SharedSheet) (cell : Cell) (text : List ℕ) (fuse : ℕ) (old new : Pass) (how : Ended EditEnd) : Type 0 where
  pub goes : Goes fuse old new how
  pub answered : IfAnswered how (λ end. (e : PlainEditCall) × (how : Outcome) × (edit_of e ≡ edit_asked s old cell text) × (end ≡ end_of s.board.layout.processes e.number how) × Tells s.board.layout old new (Began (BeginEdit (record { process = old.process; cell = cell; text = text })) (Begun old.number)) (Edited e how))
  pub runs : IfAnswered how (λ end. (new.stopped ≡ false) × (new.number ≡ old.number + 1))
  pub stopped : IfStopped how ((e : PlainEditCall) × IsFirst s.board.layout e × (edit_of e ≡ edit_asked s old cell text) × BreaksOff edit_rules s.board.layout e old new)
  pub refused : IfRefused how (λ r. edits.RefusesIn s.board.layout.shape text (doing old.stopped old.number) r)
  pub unchanged : IfRefused how (λ r. new ≡ old)
  pub short : IfBegun how ((refs : List ℕ) × edits.RefersTo s.board.layout.shape text refs × HasFewSteps old new (112 + 3 * length refs))

-- the pass works on the cell: answered, stopped by its fuse, or refused and as it was
pub record Works (s : SharedSheet) (cell : Cell) (fuse : ℕ) (old new : Pass) (how : Ended WorkEnd) : Type 0 where
  pub goes : Goes fuse old new how
  pub answered : IfAnswered how (λ end. (e : PlainWorkCall) × IsWorkOf e old (index_of s.board.layout.shape cell) × Tells s.board.layout old new (Began (BeginWork old.process cell) Entered) (Worked e end))
  pub runs : IfAnswered how (λ end. (new.stopped ≡ false) × (new.number ≡ old.number))
  pub stopped : IfStopped how ((e : PlainWorkCall) × works.IsAskedFor s.board.layout old.process (second_rest old.number) (index_of s.board.layout.shape cell) e × BreaksOff work_rules s.board.layout e old new)
  pub refused : IfRefused how (λ r. works.RefusesIn (doing old.stopped old.number) r)
  pub unchanged : IfRefused how (λ r. new ≡ old)
  pub short : HasFewSteps old new (5 * cells_of s.board.layout + (cells_of s.board.layout + 63) / 64 + 51)

-- the process of the pass recovers: answered, or stopped by its fuse
pub record Recovers (s : SharedSheet) (fuse : ℕ) (old new : Pass) (how : Ended RecoveryEnd) : Type 0 where
  pub goes : Goes fuse old new how
  pub answered : IfAnswered how (λ end. (e : PlainRecoverCall) × (e.process ≡ old.process) × Tells s.board.layout old new (Began (BeginRecover old.process) Entered) (Recovered e end))
  pub runs : IfAnswered how (λ end. (new.stopped ≡ false) × (new.number ≡ number_after end))
  pub stopped : IfStopped how ((e : PlainRecoverCall) × (e ≡ recoveries.fresh old.process (cells_of s.board.layout) s.board.layout.processes) × BreaksOff recover_rules s.board.layout e old new)
  pub refused : IfRefused how (λ r. ⊥)
  pub short : HasFewSteps old new (cells_of s.board.layout * (3 * cells_of s.board.layout + 30) + 23)

-- the pass reports, with the values where it is settled: answered, stopped by its fuse, or refused and as it was
pub record Reports (s : SharedSheet) (fuse : ℕ) (old new : Pass) (how : Ended ShowEnd) (values : Option (Vec Value Global)) : Type 0 where
  pub goes : Goes fuse old new how
  pub answered : IfAnswered how (λ end. (e : PlainShowCall) × (e.process ≡ old.process) × Tells s.board.layout old new (Began (BeginShow old.process) Entered) (Reported e end) × ShowsValues e end values)
  pub runs : IfAnswered how (λ end. (new.stopped ≡ false) × (new.number ≡ old.number))
  pub stopped : IfStopped how ((values ≡ None) × ((e : PlainShowCall) × (e ≡ reports.fresh old.process (second_rest old.number) (cells_of s.board.layout) s.board.layout.processes) × BreaksOff show_rules s.board.layout e old new))
  pub refused : IfRefused how (λ r. works.RefusesIn (doing old.stopped old.number) r)
  pub unchanged : IfRefused how (λ r. (new ≡ old) × (values ≡ None))
  pub short : HasFewSteps old new (2 * s.board.layout.processes + 4 * cells_of s.board.layout + 1)

-- the values that a seat keeps: those of the show that has just settled, or else those that it kept
abbrev pub last_of : Vec Value Global → Option (Vec Value Global) → Vec Value Global
last_of kept (Some values) = values
last_of kept None = kept
