-- A board of a sheet, and the run of the core that it has had.
use Rattle.std.specs.Prelude.{ℕ, ◌≡◌, ◌≤◌, ◌<◌, List, [], ◌∷◌, ◌++◌, length, Some}
use Rattle.ds_shared_runs.specs.History.{Happened}
use Rattle.ds_formula.specs.declared.cells.Shape.{Shape}
use Rattle.ds_shared_runs.specs.declared.history.CallEvent.{CallEvent}
use Rattle.ds_shared_runs.specs.CallEvents.{StandsAt}
use Rattle.ds_shared_runs.specs.Answered.{WasRight}
use Rattle.ds_shared_runs.specs.Fitting.{Fits}
use Rattle.ds_shared_runs.specs.Runs.{IsRun, begun_in, events_of, replies_of}
use Rattle.ds_state.specs.World.{PlainWorld}
use Rattle.ds_state.specs.declared.reports.TheConstants.{SETTLED_MOST}
use Rattle.ds_state.specs.declared.situation.Situation.{Situation}
use Rattle.pm_base.specs.Structures.{In}
use Rattle.pm_base.specs.declared.history.Entry.{Entry}
use Rattle.pm_board.specs.Rule.{HasRun, world_on}
use Rattle.pm_board.specs.declared.board.Seated.{Seated}
use Rattle.ds_structure.specs.Sheet.{sheet}
use Rattle.ds_structure.specs.declared.response.Response.{Response}
use Rattle.ds_structure.specs.declared.sheet.SheetKey.{SheetKey}
use Rattle.ds_structure_runs.specs.Runs.{core_world, call_events_by, calls_at, IsMoment, IsTheCores, HasTheHeadline}

-- each call that begins in the history, and each answer in it, stands in the run below the bound, and fits it; those of an
-- entry stand after all those of the entries before it
abbrev pub StandInOrder : (first : PlainWorld) (hs : List Happened) (last : PlainWorld) → IsRun first hs last → Shape → List (Entry Situation Response) → ℕ → Type 0
StandInOrder first hs last r shape [] bound = Unit {0}
StandInOrder first hs last r shape (e ∷ es) bound = (low : ℕ)
    × ((p : ℕ) (t : CallEvent) → In (calls_at shape p e) t → (place : ℕ) × (low ≤ place) × (place < bound) × StandsAt r.old (events_of hs) (replies_of hs) r.new r.run p t place × Fits first hs last r p t place)
    × StandInOrder first hs last r shape es low

-- the entry stands in the history, with these before it, which are more than those others are: so it stands after an entry
-- that has those before it
pub record StandsAfter (seen : List (Entry Situation Response)) (e : Entry Situation Response) (before others : List (Entry Situation Response)) : Type 0 where
  pub since : List (Entry Situation Response)
  pub parts : seen ≡ since ++ e ∷ before
  pub later : length others < length before

module _ (key : SheetKey) (words : List ℕ) (known : List (Seated Situation Response)) (h : HasRun sheet key words known) where
  -- what a board's run is to the core
  abbrev pub IsCoreRun : Type 0
  IsCoreRun = IsTheCores key h.first (world_on sheet key words h.witness) h.happened

  -- that run has the headline, and all that each process of the list began and was answered is right in it; it goes with
  -- what that process has seen up to a moment, and the calls and the answers of that stand in it in their order
  pub record IsRight (c : IsCoreRun) : Type 0 where
    pub headline : HasTheHeadline key h.first (world_on sheet key words h.witness) h.happened c
    pub right : (e : Seated Situation Response) (t : CallEvent) → In known e → In (call_events_by key.layout.shape e.deeds.done) t
        → WasRight (core_world key h.first) c.happened (core_world key (world_on sheet key words h.witness)) headline.run e.process t
    pub saw : (e : Seated Situation Response) (seen : List (Entry Situation Response)) → In known e → e.deeds.seen ≡ Some seen
        → (m : IsMoment key c.happened seen) × StandInOrder (core_world key h.first) c.happened (core_world key (world_on sheet key words h.witness)) headline.run key.layout.shape seen (length m.earlier)

-- so it is with each board of a sheet that has had a run, as long as its shows can be counted
abbrev pub BoardsHaveTheHeadline : SheetKey → Type 0
BoardsHaveTheHeadline key = (words : List ℕ) (known : List (Seated Situation Response)) → (h : HasRun sheet key words known) → (c : IsCoreRun key words known h) × (begun_in c.happened ≤ SETTLED_MOST → IsRight key words known h c)
