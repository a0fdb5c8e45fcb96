-- The sheet as a structure: when a world of it is sound, and what of an answer is true for good.
use Rattle.std.specs.Prelude.{ℕ, ◌≡◌, ◌⊎◌, ◌<◌, ◌==◌, ◌++◌, nat_lt, if◌then◌else◌, Bool, true, false, List, [], ◌∷◌, length, Option, Some, None, Contains}
use Rattle.ds_words.specs.declared.access.Access.{Access}
use Rattle.ds_words.specs.declared.access.Access.TheVariants.{Load, SwapIf}
use Rattle.ds_words.specs.declared.access.Class.TheVariants.{Owned}
use Rattle.ds_words.specs.Memory.{Memory}
use Rattle.ds_eval.specs.declared.value.Value.{Value}
use Rattle.ds_formula.specs.declared.cells.Shape.{Shape}
use Rattle.ds_layout.specs.declared.layout.Layout.{Layout}
use Rattle.ds_layout.specs.declared.place.Place.TheVariants as place
use Rattle.ds_layout.specs.Places.{words_of, class_of, number_of, place_of}
use Rattle.ds_layout.specs.SheetMemory.{memory_at, access_at}
use Rattle.ds_state.specs.Crashes.{survivors}
use Rattle.ds_state.specs.Edits.{PlainEditCall}
use Rattle.ds_state.specs.KnownShow.{AreScratch}
use Rattle.ds_state.specs.LayoutsFit.{IsMoving}
use Rattle.ds_state.specs.Middles.{HaveMiddles}
use Rattle.ds_state.specs.Sound.{IsSound}
use Rattle.ds_state.specs.Spent.{IsSpent}
use Rattle.ds_state.specs.Works.{PlainRecoverCall}
use Rattle.ds_state.specs.World.{PlainEdit, PlainIssue, PlainWorld, edit_of}
use Rattle.ds_state.specs.declared.recovery.RecoveryEnd.TheVariants.{Last, Nothing}
use Rattle.ds_state.specs.declared.show.ShowEnd.TheVariants.{Settled, Unsettled}
use Rattle.ds_state.specs.declared.situation.Situation.{Situation}
use Rattle.ds_state.specs.declared.situation.Situation.TheVariants.{Idle, Stopped, Editing, Recovering}
use Rattle.ds_state.specs.declared.stage.Outcome.{Outcome}
use Rattle.ds_state.specs.declared.stage.Outcome.TheVariants.{Done, Overtaken}
use Rattle.ds_edit.specs.EditTakes as edit_takes
use Rattle.ds_edit.specs.EditSteps as edit_steps
use Rattle.ds_show.specs.ShowSteps.{answered}
use Rattle.ds_recover.specs.RecoverySteps as recovery_steps
use Rattle.pm_base.specs.Structures.{In, World, Structure, BeginsOf, StepsOf, put}
use Rattle.pm_base.specs.declared.history.Event.{Event}
use Rattle.pm_base.specs.declared.history.Event.TheVariants.{Begin, Step, Evict, Stop, Crash}
use Rattle.ds_structure.specs.Calls.{second_rest, edits, works, shows, recoveries}
use Rattle.ds_structure.specs.declared.response.Response.{Response}
use Rattle.ds_structure.specs.declared.response.Response.TheVariants.{Edited, Worked, Shown, Recovered}
use Rattle.ds_structure.specs.declared.sheet.SheetKey.{SheetKey}

-- what no word of a sheet says: the linearized edits in their order, the edit of each process that is not answered, and
-- the linearized edits right before each crash, those of the last one first
pub record Ledger : Type 0 where
  pub counted : List PlainEdit
  pub open_edits : ℕ → Option PlainIssue
  pub before_crashes : List (List PlainEdit)

-- a world of the sheet as a structure
abbrev pub SheetWorld : Type 0
SheetWorld = World Situation Ledger

-- the sheet that it is: the same with its words by their places
abbrev pub plain : SheetKey → SheetWorld → PlainWorld
plain key w = record {
  layout = key.layout;
  memory = memory_at key.layout w.memory;
  situation = w.situation;
  counted = w.hidden.counted;
  open_edits = w.hidden.open_edits;
}

-- ---- what events make of the ledger

-- the number that an access answers: the cached side of the word that it loads, or swaps; else 0
abbrev pub found : Memory ℕ → Access ℕ → ℕ
found m (Load n) = m.cached n
found m (SwapIf n expected value) = m.cached n
found m _ = 0

-- where a process begins: an edit is open from then on
abbrev pub begun : Ledger → ℕ → Situation → Ledger
begun l p (Editing e) = record l { open_edits = put l.open_edits p (Some (record { edit = edit_of e; since = length l.counted })) }
begun l p now = l

-- where a step of an edit was answered so: it is linearized where its swap finds the head that it noted, and closed
-- where only its answer is left
abbrev pub edited : Ledger → PlainEditCall → ℕ → Ledger
edited l e word = record l {
  counted = l.counted ++ edit_takes.counted_at (edit_of e) e.stage word;
  open_edits = put l.open_edits e.process (edit_takes.open_edit_at (l.open_edits e.process) (edit_steps.got_at e word).stage);
}

-- where a step of a recovery was answered so: the edit in doubt is closed where only the answer is left
abbrev pub recovered : Ledger → PlainRecoverCall → ℕ → Ledger
recovered l e word = record l { open_edits = put l.open_edits e.process (recovery_steps.open_edit_at (l.open_edits e.process) (recovery_steps.got_at e word).stage) }

-- where a process takes a step of what it does
abbrev pub stepped : SheetKey → Memory ℕ → Ledger → Situation → Ledger
stepped key m l (Editing e) = edited l e (found m (access_at key.layout (edit_steps.access_at e e.stage)))
stepped key m l (Recovering e) = recovered l e (found m (access_at key.layout (recovery_steps.access_at e e.stage)))
stepped key m l now = l

-- after an event
abbrev pub ledger_after : SheetKey → SheetWorld → Event Situation → Ledger
ledger_after key w (Begin p now) = begun w.hidden p now
ledger_after key w (Step p) = stepped key w.memory w.hidden (w.situation p)
ledger_after key w (Evict n) = w.hidden
ledger_after key w (Stop p) = w.hidden
ledger_after key w Crash = record w.hidden {
  counted = survivors (memory_at key.layout w.memory) w.hidden.counted;
  before_crashes = w.hidden.counted ∷ w.hidden.before_crashes;
}

-- ---- soundness

-- both sides of the version's word say the second layout, and no process migrates the sheet
pub record IsSecond (w : PlainWorld) : Type 0 where
  pub cached : w.memory.cached place.Version ≡ 1
  pub persisted : w.memory.persisted place.Version ≡ 1
  pub settled : (q : ℕ) → q < w.layout.processes → IsMoving (w.situation q) → ⊥

-- the sheet is sound, in the second layout for good, and each show under way has a middle
pub record IsWell (w : PlainWorld) : Type 0 where
  pub sound : IsSound w
  pub second : IsSecond w
  pub middles : HaveMiddles w

-- ---- what an answer says

-- what an edit answered is true of the linearized edits
abbrev pub IsTrueOutcome : List PlainEdit → PlainEdit → Outcome → Type 0
IsTrueOutcome counted d Done = Contains counted d
IsTrueOutcome counted d (Overtaken noted seen) = Contains counted d → ⊥

-- an edit of the process, whose number is spent, ended so
pub record HasEnded (w : PlainWorld) (process : ℕ) (d : PlainEdit) (how : Outcome) : Type 0 where
  pub own : d.process ≡ process
  pub spent : IsSpent w process d.number
  pub holds : IsTrueOutcome w.counted d how

-- an edit of the process and of this number is linearized, or none is
abbrev pub CountsAs : List PlainEdit → ℕ → ℕ → Bool → Type 0
CountsAs counted process number true = (d : PlainEdit) × Contains counted d × (d.process ≡ process) × (d.number ≡ number)
CountsAs counted process number false = (d : PlainEdit) → Contains counted d → d.process ≡ process → d.number ≡ number → ⊥

-- the process's edit of this number, which is spent, was resolved so
pub record IsResolved (w : PlainWorld) (process number : ℕ) (counts : Bool) : Type 0 where
  pub spent : IsSpent w process number
  pub holds : CountsAs w.counted process number counts

-- the first edits of the list
abbrev pub IsFrontOf : List PlainEdit → List PlainEdit → Type 0
IsFrontOf all front = (more : List PlainEdit) × (all ≡ front ++ more)

-- the first of those that are linearized now, or were right before a crash
abbrev pub WasFront : List PlainEdit → List (List PlainEdit) → List PlainEdit → Type 0
WasFront counted before_crashes front = IsFrontOf counted front ⊎ ((all : List PlainEdit) × In before_crashes all × IsFrontOf all front)

-- these values are those from scratch of such edits
pub record WereScratch (shape : Shape) (counted : List PlainEdit) (before_crashes : List (List PlainEdit)) (values : List Value) : Type 0 where
  pub front : List PlainEdit
  pub was : WasFront counted before_crashes front
  pub right : AreScratch shape front values

-- an edit ended so, and stays so; a recovery resolved its process's last edit so; a settled show has the values from
-- scratch of the first edits up to a moment
abbrev pub IsTrue : PlainWorld → List (List PlainEdit) → ℕ → Response → Type 0
IsTrue w before_crashes p (Edited e how) = HasEnded w p (edit_of e) how
IsTrue w before_crashes p (Worked e end) = Unit {0}
IsTrue w before_crashes p (Recovered e Nothing) = Unit {0}
IsTrue w before_crashes p (Recovered e (Last resolved)) = IsResolved w p resolved.number resolved.counts
IsTrue w before_crashes p (Shown e Settled) = WereScratch w.layout.shape w.counted before_crashes (answered e)
IsTrue w before_crashes p (Shown e (Unsettled r word)) = Unit {0}

-- ---- the structure

-- a call of some kind begins
pub data CallBegins (key : SheetKey) (p : ℕ) (now after : Situation) : Type 0 where
  begins_edit : BeginsOf edits key p now after → CallBegins key p now after
  begins_work : BeginsOf works key p now after → CallBegins key p now after
  begins_show : BeginsOf shows key p now after → CallBegins key p now after
  begins_recovery : BeginsOf recoveries key p now after → CallBegins key p now after

-- a call of some kind takes a step
pub data CallSteps (key : SheetKey) (p : ℕ) (now : Situation) (access : Access ℕ) (answer : ℕ) (after : Situation) (says : List Response) : Type 0 where
  steps_edit : StepsOf edits key p now access answer after says → CallSteps key p now access answer after says
  steps_work : StepsOf works key p now access answer after says → CallSteps key p now access answer after says
  steps_show : StepsOf shows key p now access answer after says → CallSteps key p now access answer after says
  steps_recovery : StepsOf recoveries key p now access answer after says → CallSteps key p now access answer after says

-- how many words lie apart: all before the records of the processes. To a record its own process alone stores, but for
-- help with done bits
abbrev pub apart_of : Layout → ℕ
apart_of layout = number_of layout (place.Header 0 0)

-- a sheet: at first each process is idle and begins with its edit 0, in the second layout
abbrev pub sheet : Structure SheetKey Situation Response
sheet = record {
  Hidden = Ledger;
  words = λ key. words_of key.layout;
  apart = λ key. apart_of key.layout;
  class_in = λ key n. if nat_lt n (words_of key.layout) then class_of (place_of key.layout n) else Owned;
  first_word = λ key n. if n == number_of key.layout place.Version then 1 else 0;
  processes = λ key. key.layout.processes;
  first = Idle (second_rest 0);
  stopped = Stopped;
  begins = CallBegins;
  steps = CallSteps;
  first_hidden = λ key. record { counted = []; open_edits = λ q. None; before_crashes = [] };
  hidden_after = λ key w event memory. ledger_after key w event;
  sound = λ key w. IsWell (plain key w);
  is_right = λ key w p t. IsTrue (plain key w) w.hidden.before_crashes p t;
}
