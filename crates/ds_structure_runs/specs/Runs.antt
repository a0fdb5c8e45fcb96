-- A run of a sheet as a structure, as a run of the core.
use Rattle.std.specs.Prelude.{ℕ, ◌≡◌, ◌≤◌, nat_lt, if◌then◌else◌, List, [], ◌∷◌, ◌++◌}
use Rattle.ds_core.specs.declared.event.Event.TheVariants.{BeginEdit, BeginWork, BeginShow, BeginRecover}
use Rattle.ds_core.specs.declared.reply.Reply.TheVariants.{Begun, Entered}
use Rattle.ds_shared_runs.specs.declared.history.CallEvent.{CallEvent}
use Rattle.ds_shared_runs.specs.declared.history.CallEvent.TheVariants as call
use Rattle.ds_shared_runs.specs.History.{Run, Stood, IsStanding, answered_by}
use Rattle.ds_shared_runs.specs.History as core
use Rattle.pm_base.specs.Structures.{In}
use Rattle.ds_formula.specs.Cells.{cell_at}
use Rattle.ds_formula.specs.declared.cells.Shape.{Shape}
use Rattle.ds_shared_runs.specs.Answered.{WasRight}
use Rattle.ds_shared_runs.specs.Runs.{IsRun, begun_in}
use Rattle.ds_state.specs.Fresh.{IsNew}
use Rattle.ds_state.specs.Value.{first_rest}
use Rattle.ds_state.specs.Works.{PlainWorkCall}
use Rattle.ds_state.specs.World.{PlainWorld}
use Rattle.ds_state.specs.declared.reports.TheConstants.{SETTLED_MOST}
use Rattle.ds_state.specs.declared.situation.Situation.{Situation}
use Rattle.ds_state.specs.declared.situation.Situation.TheVariants.{Idle, Editing, Working, Recovering, Showing}
use Rattle.ds_state.specs.declared.work.WorkStage.{WorkStage}
use Rattle.ds_state.specs.declared.work.WorkStage.TheVariants.{LoadMark}
use Rattle.pm_base.specs.Runs as layer
use Rattle.pm_base.specs.Runs.{deeds_by, deeds_of, history_of}
use Rattle.pm_base.specs.declared.history.Deed.{Deed}
use Rattle.pm_base.specs.declared.history.Deed.TheVariants as deed
use Rattle.pm_base.specs.declared.history.Entry.{Entry}
use Rattle.ds_structure.specs.Sheet.{SheetWorld, plain, sheet}
use Rattle.ds_structure.specs.declared.response.Response.{Response}
use Rattle.ds_structure.specs.declared.response.Response.TheVariants.{Edited, Worked, Shown, Recovered}
use Rattle.ds_structure.specs.declared.sheet.SheetKey.{SheetKey}

-- the world with the first situation in place of what processes do that the sheet has not
abbrev pub clipped : ℕ → PlainWorld → PlainWorld
clipped processes w = record w { situation = λ q. if nat_lt q processes then w.situation q else Idle first_rest }

-- a world of the structure, as the core's
abbrev pub core_world : SheetKey → SheetWorld → PlainWorld
core_world key w = clipped key.layout.processes (plain key w)

-- the begin of a work: at its first stage; at others it goes on
abbrev pub work_began : Shape → PlainWorkCall → WorkStage → List CallEvent
work_began shape e LoadMark = call.Began (BeginWork e.process (cell_at shape e.cell)) Entered ∷ []
work_began shape e stage = []

-- the begin of a call, as the core's event and its reply
abbrev pub began : Shape → Situation → List CallEvent
began shape (Editing e) = call.Began (BeginEdit (record { process = e.process; cell = cell_at shape e.cell; text = e.text })) (Begun e.number) ∷ []
began shape (Working e) = work_began shape e e.stage
began shape (Showing e) = call.Began (BeginShow e.process) Entered ∷ []
began shape (Recovering e) = call.Began (BeginRecover e.process) Entered ∷ []
began shape now = []

-- an answer, as the core's
abbrev pub answered : Response → CallEvent
answered (Edited e how) = call.Edited e how
answered (Worked e end) = call.Worked e end
answered (Shown e end) = call.Reported e end
answered (Recovered e end) = call.Recovered e end

-- what a process did, as the core's
abbrev pub call_events_of : Shape → Deed Situation Response → List CallEvent
call_events_of shape (deed.Began now) = began shape now
call_events_of shape (deed.Response t) = answered t ∷ []

-- what it did in a history, the last thing first
abbrev pub call_events_by : Shape → List (Deed Situation Response) → List CallEvent
call_events_by shape [] = []
call_events_by shape (d ∷ ds) = call_events_of shape d ++ call_events_by shape ds

-- what a process began and was answered by an entry of a history
abbrev pub calls_at : Shape → ℕ → Entry Situation Response → List CallEvent
calls_at shape p e = call_events_by shape (deeds_of p e.event e.responses)

-- what happened goes with the history, entry by entry: in a stretch of its own, each process begins and is answered what it
-- has in the entry, and nothing else
abbrev pub Follows : Shape → List (Entry Situation Response) → List core.Happened → Type 0
Follows shape [] happened = happened ≡ []
Follows shape (e ∷ es) happened = (stretch : List core.Happened) × (before : List core.Happened) × (happened ≡ stretch ++ before) × ((p : ℕ) → answered_by p stretch ≡ calls_at shape p e) × Follows shape es before

-- a moment of the core's run, up to which it goes with this history
pub record IsMoment (key : SheetKey) (happened : List core.Happened) (history : List (Entry Situation Response)) : Type 0 where
  pub later : List core.Happened
  pub earlier : List core.Happened
  pub parts : happened ≡ later ++ earlier
  pub follows : Follows key.layout.shape history earlier

-- a run of the core leads from the first world, which is new, to the last; what each process began and was answered in the
-- one run it began and was answered in the other, which goes with it entry by entry, at each moment of it
pub record IsTheCores (key : SheetKey) (first last : SheetWorld) (hs : List (layer.Happened sheet key)) : Type 0 where
  pub happened : List core.Happened
  pub new : IsNew (core_world key first)
  pub run : Run (core_world key first) happened (core_world key last)
  pub stood : Stood happened
  pub standing : IsStanding (core_world key last)
  pub did : (p : ℕ) → answered_by p happened ≡ call_events_by key.layout.shape (deeds_by p (history_of sheet key hs))
  pub moments : (since until : List (layer.Happened sheet key)) → hs ≡ since ++ until → IsMoment key happened (history_of sheet key until)

-- each run of a new sheet as a structure is a run of the core
abbrev pub RunsAreTheCores : SheetKey → Type 0
RunsAreTheCores key = (first last : SheetWorld) (hs : List (layer.Happened sheet key)) → layer.IsNew sheet key first → layer.Run sheet key first hs last → IsTheCores key first last hs

-- such a run of the core, with the headline, and each answer is right in it
pub record HasTheHeadline (key : SheetKey) (first last : SheetWorld) (hs : List (layer.Happened sheet key)) (c : IsTheCores key first last hs) : Type 0 where
  pub run : IsRun (core_world key first) c.happened (core_world key last)
  pub right : (p : ℕ) (t : CallEvent) → In (call_events_by key.layout.shape (deeds_by p (history_of sheet key hs))) t → WasRight (core_world key first) c.happened (core_world key last) run p t

-- each run of a new sheet as a structure is a run of the core that has the headline, as long as its shows can be counted
abbrev pub RunsHaveTheHeadline : SheetKey → Type 0
RunsHaveTheHeadline key = (first last : SheetWorld) (hs : List (layer.Happened sheet key)) → layer.IsNew sheet key first → layer.Run sheet key first hs last
    → (c : IsTheCores key first last hs) × (begun_in c.happened ≤ SETTLED_MOST → HasTheHeadline key first last hs c)
