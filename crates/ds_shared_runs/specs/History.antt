-- What has happened to a shared sheet: a run of the core's events from world to world, with what each process was
-- answered.
use Rattle.std.specs.Prelude.{ℕ, ◌≡◌, ◌<◌, ◌≤◌, ◌==◌, None, if◌then◌else◌, List, [], ◌∷◌, ◌++◌}
use Rattle.ds_formula.specs.Cells.{IsInside, index_of}
use Rattle.ds_state.specs.Edits.{PlainEditCall}
use Rattle.ds_words.specs.declared.access.BufferEntry.{BufferEntry}
use Rattle.ds_layout.specs.SheetMemory.{memory_at}
use Rattle.ds_state.specs.Works.{PlainWorkCall, IsWork, PlainRecoverCall, PlainShowCall}
use Rattle.ds_state.specs.Sound.{IsSound}
use Rattle.ds_state.specs.Value.{first_rest}
use Rattle.ds_state.specs.World.{PlainWorld}
use Rattle.ds_state.specs.Crashes.{StopsIn, CrashesTo}
use Rattle.ds_state.specs.Events.{Evicts}
use Rattle.ds_state.specs.declared.stage.Stage.{Stage}
use Rattle.ds_state.specs.declared.stage.Stage.TheVariants as edit_stage
use Rattle.ds_state.specs.declared.work.WorkStage.{WorkStage}
use Rattle.ds_state.specs.declared.work.WorkStage.TheVariants as work_stage
use Rattle.ds_state.specs.declared.work.WorkEnd.{WorkEnd}
use Rattle.ds_state.specs.declared.show.ShowStage.{ShowStage}
use Rattle.ds_state.specs.declared.show.ShowStage.TheVariants as show_stage
use Rattle.ds_state.specs.declared.recovery.RecoverStage.{RecoverStage}
use Rattle.ds_state.specs.declared.recovery.RecoverStage.TheVariants as recover_stage
use Rattle.ds_state.specs.declared.situation.Situation.{Situation}
use Rattle.ds_state.specs.declared.situation.Situation.TheVariants.{Idle, Editing, Working, Recovering, Showing}
use Rattle.ds_state.specs.declared.turn.Turn.{Turn}
use Rattle.ds_edit.specs.EditTakes as edits
use Rattle.ds_edit.specs.Begun as edit_begun
use Rattle.ds_work.specs.WorkTakes as works
use Rattle.ds_show.specs.ShowSteps as reports
use Rattle.ds_show.specs.ShowBegun as show_begun
use Rattle.ds_recover.specs.RecoverySteps as recoveries
use Rattle.ds_recover.specs.RecoverBegun as recover_begun
use Rattle.ds_core.specs.EditEvents.{edit_reply}
use Rattle.ds_core.specs.WorkEvents.{work_reply}
use Rattle.ds_core.specs.ShowEvents.{show_reply}
use Rattle.ds_core.specs.RecoveryEvents.{recovery_reply}
use Rattle.ds_core.specs.declared.event.Event.{Event}
use Rattle.ds_core.specs.declared.event.Event.TheVariants.{BeginEdit, BeginWork, BeginShow, BeginRecover, Step, Offer, Evict, Stop, Crash}
use Rattle.ds_core.specs.declared.reply.Reply.{Reply}
use Rattle.ds_core.specs.declared.reply.Reply.TheVariants.{Begun, Entered, Stepped, Evicted, Stopped, Crashed}
use Rattle.pm_board.specs.Table.{two_sided}
use Rattle.ds_shared_runs.specs.declared.history.CallEvent.{CallEvent}
use Rattle.ds_shared_runs.specs.declared.history.CallEvent.TheVariants.{Began, Edited, Worked, Recovered, Reported}

-- ---- what an event does to a plain world: as in the core, without what a shared sheet does not count

-- the process makes one step of its edit, with the reply of that step
pub record EditMoves (old : PlainWorld) (p : ℕ) (reply : Reply) (new : PlainWorld) : Type 0 where
  pub edit : PlainEditCall
  pub mine : edit.process ≡ p
  pub at : old.situation p ≡ Editing edit
  pub word : ℕ
  pub steps : edits.Steps edit word old new
  pub is : reply ≡ edit_reply (edits.turn_at old.layout.processes edit.number edit.stage)

-- one turn of its work
pub record WorkMoves (old : PlainWorld) (p : ℕ) (reply : Reply) (new : PlainWorld) : Type 0 where
  pub what : Turn WorkEnd
  pub work : PlainWorkCall
  pub mine : work.process ≡ p
  pub at : old.situation p ≡ Working work
  pub good : IsWork work
  pub turn : works.TakesTurn work old new what
  pub is : reply ≡ work_reply what

-- one step of its show
pub record ShowMoves (old : PlainWorld) (p : ℕ) (reply : Reply) (new : PlainWorld) : Type 0 where
  pub report : PlainShowCall
  pub mine : report.process ≡ p
  pub at : old.situation p ≡ Showing report
  pub word : ℕ
  pub steps : reports.Steps report word old new
  pub is : reply ≡ show_reply (reports.effect_at report.stage)

-- one step of its recovery
pub record RecoveryMoves (old : PlainWorld) (p : ℕ) (reply : Reply) (new : PlainWorld) : Type 0 where
  pub recovery : PlainRecoverCall
  pub mine : recovery.process ≡ p
  pub at : old.situation p ≡ Recovering recovery
  pub word : ℕ
  pub steps : recoveries.Steps recovery word old new
  pub is : reply ≡ recovery_reply (recoveries.effect_at recovery recovery.stage)

-- the process makes one step of the call that it is in
pub data StepMoves (old : PlainWorld) (p : ℕ) (reply : Reply) (new : PlainWorld) : Type 0 where
  edit : EditMoves old p reply new → StepMoves old p reply new
  work : WorkMoves old p reply new → StepMoves old p reply new
  report : ShowMoves old p reply new → StepMoves old p reply new
  recovery : RecoveryMoves old p reply new → StepMoves old p reply new

-- the event leads, with its reply, from the one world to the other
abbrev pub Moves : PlainWorld → Event → Reply → PlainWorld → Type 0
Moves old (BeginEdit r) (Begun number) new = (r.process < old.layout.processes) × IsInside old.layout.shape r.cell × edit_begun.IsBegun old r.process (index_of old.layout.shape r.cell) r.text number new
Moves old (BeginWork p cell) Entered new = (p < old.layout.processes) × IsInside old.layout.shape cell × works.IsBegun old p (index_of old.layout.shape cell) new
Moves old (BeginShow p) Entered new = (p < old.layout.processes) × show_begun.IsBegun old p new
Moves old (BeginRecover p) Entered new = (p < old.layout.processes) × recover_begun.IsBegun old p new
Moves old (Step p) reply new = (p < old.layout.processes) × StepMoves old p reply new
Moves old (Offer value) Stepped new = works.WaitsFor old value.task × works.IsOffered old value.task.process value.entry new
Moves old (Evict place) Evicted new = Evicts place old new
Moves old (Stop p) Stopped new = (p < old.layout.processes) × StopsIn p old new
Moves old Crash Crashed new = CrashesTo old new
Moves old event reply new = ⊥

-- ---- a run

-- an event with its reply, and the world that it came upon
pub record Happened : Type 0 where
  pub before : PlainWorld
  pub event : Event
  pub reply : Reply

-- a run from the first world to the last, the last event first
abbrev pub Run : PlainWorld → List Happened → PlainWorld → Type 0
Run first [] last = last ≡ first
Run first (h ∷ hs) last = Moves h.before h.event h.reply last × Run first hs h.before

-- the world's words are those of a table, and of no process that its sheet has not is anything said
pub record IsTidy (w : PlainWorld) : Type 0 where
  pub words : List ℕ
  pub buffer : ℕ → List (BufferEntry ℕ)
  pub memory : w.memory ≡ memory_at w.layout (two_sided 0 words buffer)
  pub buffers : (q : ℕ) → w.layout.processes ≤ q → buffer q ≡ []
  pub situations : (q : ℕ) → w.layout.processes ≤ q → w.situation q ≡ Idle first_rest
  pub open_edits : (q : ℕ) → w.layout.processes ≤ q → w.open_edits q ≡ None

-- a sound and tidy world
pub record IsStanding (w : PlainWorld) : Type 0 where
  pub sound : IsSound w
  pub tidy : IsTidy w

-- each event came upon such a world
abbrev pub Stood : List Happened → Type 0
Stood [] = Unit {0}
Stood (h ∷ hs) = IsStanding h.before × Stood hs

-- ---- what a process is answered by a run

-- by the step of an edit at this stage: the edit, with its answer, where that is the stage
abbrev pub edit_answered : PlainEditCall → Stage → List CallEvent
edit_answered e (edit_stage.Answer how) = Edited (record e { stage = edit_stage.Answer how }) how ∷ []
edit_answered e _ = []

-- by the step of a work: the work, with its answer
abbrev pub work_answered : PlainWorkCall → WorkStage → List CallEvent
work_answered e (work_stage.Answer end) = Worked (record e { stage = work_stage.Answer end }) end ∷ []
work_answered e _ = []

-- by the step of a recovery
abbrev pub recovery_answered : PlainRecoverCall → RecoverStage → List CallEvent
recovery_answered e (recover_stage.Answer how) = Recovered (record e { stage = recover_stage.Answer how }) (recoveries.end_of e how) ∷ []
recovery_answered e _ = []

-- by the step of a show
abbrev pub show_answered : PlainShowCall → ShowStage → List CallEvent
show_answered e (show_stage.Answer end) = Reported (record e { stage = show_stage.Answer end }) end ∷ []
show_answered e _ = []

-- by a step in this situation
abbrev pub answered_at : Situation → List CallEvent
answered_at (Editing e) = edit_answered e e.stage
answered_at (Working e) = work_answered e e.stage
answered_at (Recovering e) = recovery_answered e e.stage
answered_at (Showing e) = show_answered e e.stage
answered_at _ = []

-- the call that the event began in this world, or answered
abbrev pub answered_of : PlainWorld → Event → Reply → List CallEvent
answered_of w (Step q) reply = answered_at (w.situation q)
answered_of w (BeginEdit r) reply = Began (BeginEdit r) reply ∷ []
answered_of w (BeginWork q cell) reply = Began (BeginWork q cell) reply ∷ []
answered_of w (BeginShow q) reply = Began (BeginShow q) reply ∷ []
answered_of w (BeginRecover q) reply = Began (BeginRecover q) reply ∷ []
answered_of w _ reply = []

-- what stands beside an event, where the event is the process's
abbrev pub answered_to : ℕ → Event → List CallEvent → List CallEvent
answered_to p (Step q) ts = if q == p then ts else []
answered_to p (BeginEdit r) ts = if r.process == p then ts else []
answered_to p (BeginWork q cell) ts = if q == p then ts else []
answered_to p (BeginShow q) ts = if q == p then ts else []
answered_to p (BeginRecover q) ts = if q == p then ts else []
answered_to p _ ts = []

-- by this event, if it is one of its own
abbrev pub answered_from : ℕ → PlainWorld → Event → Reply → List CallEvent
answered_from p w event reply = answered_to p event (answered_of w event reply)

-- what the process was answered, the last thing first: each call that it began, and each answer
abbrev pub answered_by : ℕ → List Happened → List CallEvent
answered_by p [] = []
answered_by p (h ∷ hs) = answered_from p h.before h.event h.reply ++ answered_by p hs
