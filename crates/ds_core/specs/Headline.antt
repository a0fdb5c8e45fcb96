-- The headline, over every run.
use Rattle.std.specs.Prelude.{ℕ, ◌≡◌, ◌≢◌, ◌<◌, ◌≤◌, ◌+◌, ◌⊎◌, ◌↔◌, ◌++◌, List, [], ◌∷◌, length, slice_get, slice_index_or, Some, None, Contains, filter}
use Rattle.ds_formula.specs.declared.cells.Cell.{Cell}
use Rattle.ds_formula.specs.declared.cells.Shape.{Shape}
use Rattle.ds_formula.specs.Cells.{index_of}
use Rattle.ds_eval.specs.declared.value.Value.{Value}
use Rattle.ds_layout.specs.declared.place.Place.{Place}
use Rattle.ds_layout.specs.declared.place.Place.TheVariants as place
use Rattle.ds_layout.specs.Places.{cells_of}
use Rattle.ds_state.specs.World.{PlainEdit, PlainWorld, is_edit_of}
use Rattle.ds_layout.specs.declared.mark.State.{State}
use Rattle.ds_layout.specs.declared.mark.State.TheVariants.{Clean, Marked, Held}
use Rattle.ds_layout.specs.Announcement.{number_after}
use Rattle.ds_layout.specs.Mark.{IsClean, generation_of, mark_of, state_of}
use Rattle.ds_state.specs.Works.{SEEN_MOST}
use Rattle.ds_state.specs.KnownShow.{IsStill, IsPendingWord, AreScratch, moment_of}
use Rattle.ds_state.specs.Value.{WorldValue, world_of}
use Rattle.ds_core.specs.Takes.{Takes, WorldRun, world_at}
use Rattle.ds_core.specs.Moments.{Placed, Open, empty_ledger, edits_in, Moment, MomentFits}
use Rattle.ds_core.specs.Requests.{PlainRequest}
use Rattle.ds_core.specs.LedgerSteps.{WordsMove, LedgerMoves, Forgets}
use Rattle.ds_core.specs.declared.event.Event.{Event}
use Rattle.ds_core.specs.declared.event.Event.TheVariants.{BeginEdit, BeginWork, BeginShow, Step}
use Rattle.ds_state.specs.declared.recovery.RecoveryEnd.{RecoveryEnd}
use Rattle.ds_state.specs.declared.recovery.LastEdit.{LastEdit}
use Rattle.ds_state.specs.declared.answer.Answer.TheVariants.{Work, Recovery, Show}
use Rattle.ds_state.specs.declared.work.WorkEnd.{WorkEnd}
use Rattle.ds_state.specs.declared.work.WorkEnd.TheVariants.{NotDirty, Missed, Worn, Published, Again, NoMemory}
use Rattle.ds_state.specs.declared.show.ShowEnd.TheVariants.{Settled, Unsettled}
use Rattle.ds_core.specs.declared.reply.Reply.{Reply}
use Rattle.ds_core.specs.declared.reply.Reply.TheVariants.{Begun, Entered, Answered}

-- this event stands at this place among the events, and this reply at the same place among the replies
pub record Happens (events : List Event) (replies : List Reply) (k : ℕ) (event : Event) (reply : Reply) : Type 0 where
  pub event_is : slice_get events k ≡ Some event
  pub reply_is : slice_get replies k ≡ Some reply

-- the event with its reply is the begin of this edit
abbrev pub IsIssueOf : Shape → Event → Reply → PlainEdit → Type 0
IsIssueOf shape (BeginEdit r) (Begun number) edit = edit ≡ record { process = r.process; number = number; cell = index_of shape r.cell; text = r.text }
IsIssueOf shape event reply edit = ⊥

-- ---- shows

-- the process's last show before this place began at `start`: a moment of its call is after that begin and not
-- after the place
pub record IsCall (events : List Event) (replies : List Reply) (p start k : ℕ) : Type 0 where
  pub begins : Happens events replies start (BeginShow p) Entered
  pub earlier : start < k
  pub last : (j : ℕ) → start < j → j < k → Happens events replies j (BeginShow p) Entered → ⊥

-- of a settled show: at a moment of its call all is still, and its values are those from scratch of the linearized
-- edits then
pub record SettledFits (moment : ℕ → Moment) (start k : ℕ) (values : List Value) : Type 0 where
  pub at : ℕ
  pub later : start < at
  pub until : at ≤ k
  pub still : IsStill (moment at).world.sheet.layout (moment_of (world_of (moment at).world))
  pub right : AreScratch (moment at).world.sheet.layout.shape (edits_in (moment at).ledger) values

-- the place is a mark or an announcement of the sheet, and its word one that is not at rest
abbrev pub IsUnrest : PlainWorld → Place → ℕ → Type 0
IsUnrest w (place.Mark c) word = (c < cells_of w.layout) × (IsClean word → ⊥)
IsUnrest w (place.Announce q) word = (q < w.layout.processes) × IsPendingWord word
IsUnrest w r word = ⊥

-- the place is a mark or an announcement of the sheet, which a show looks at twice
abbrev pub IsWatched : PlainWorld → Place → Type 0
IsWatched w (place.Mark c) = c < cells_of w.layout
IsWatched w (place.Announce q) = q < w.layout.processes
IsWatched w r = ⊥

-- of an unsettled show: at a moment of its call the place held the word, which is not at rest, or not the one that
-- it held earlier in the call
pub record UnsettledFits (moment : ℕ → Moment) (start k : ℕ) (r : Place) (word : ℕ) : Type 0 where
  pub at : ℕ
  pub later : start < at
  pub until : at ≤ k
  pub watched : IsWatched (world_of (moment at).world) r
  pub held : (world_of (moment at).world).memory.cached r ≡ word
  pub why : IsUnrest (world_of (moment at).world) r word
      ⊎ ((earlier : ℕ) × (start < earlier) × (earlier ≤ at) × ((world_of (moment earlier).world).memory.cached r ≢ word))

-- the values of the process's last settled show, which the world keeps
abbrev pub kept_values : WorldValue → ℕ → List Value
kept_values v p = slice_index_or v.reports.values p []

-- each show that is answered settled has its values from a moment of its call, and each unsettled one its word
pub record ReportsFit (moment : ℕ → Moment) (events : List Event) (replies : List Reply) : Type 0 where
  pub settled : (k p : ℕ) → Happens events replies k (Step p) (Answered (Show Settled))
      → (start : ℕ) × IsCall events replies p start k × SettledFits moment start k (kept_values (moment (k + 1)).world p)
  pub unsettled : (k p : ℕ) (r : Place) (word : ℕ) → Happens events replies k (Step p) (Answered (Show (Unsettled r word)))
      → (start : ℕ) × IsCall events replies p start k × UnsettledFits moment start k r word

-- ---- works

-- the process's last work before this place began at `start`, on this cell: a moment of its call is after that begin
-- and not after the place
pub record IsCallOn (events : List Event) (replies : List Reply) (p : ℕ) (cell : Cell) (start k : ℕ) : Type 0 where
  pub begins : Happens events replies start (BeginWork p cell) Entered
  pub earlier : start < k
  pub last : (j : ℕ) (other : Cell) → start < j → j < k → Happens events replies j (BeginWork p other) Entered → ⊥

-- the mark of the cell at a moment, as processes see it
abbrev pub mark_then : Moment → Cell → ℕ
mark_then m cell = (world_of m.world).memory.cached (place.Mark (index_of m.world.sheet.layout.shape cell))

-- what that mark says: clean, held or marked
abbrev pub state_then : Moment → Cell → State
state_then m cell = state_of (mark_of m.world.sheet.layout.processes (mark_then m cell))

-- at a moment of the call this was so
pub record WasSo (moment : ℕ → Moment) (start k : ℕ) (So : Moment → Type 0) : Type 0 where
  pub at : ℕ
  pub later : start < at
  pub until : at ≤ k
  pub so : So (moment at)

-- at a moment of the call the cell was marked, and at a later one it had another mark: the claim came too late
pub record WasForestalled (moment : ℕ → Moment) (start k : ℕ) (cell : Cell) : Type 0 where
  pub seen : ℕ
  pub later : start < seen
  pub at : ℕ
  pub order : seen < at
  pub until : at ≤ k
  pub marked : state_then (moment seen) cell ≡ Marked
  pub other : mark_then (moment at) cell ≢ mark_then (moment seen) cell

-- at a moment of the call the process held the cell, and at the next one, of the call, too, the cell is let go, and is so
pub record WasLetGo (moment : ℕ → Moment) (p start k : ℕ) (cell : Cell) (now : State) : Type 0 where
  pub at : ℕ
  pub later : start < at
  pub until : at < k
  pub held : state_then (moment at) cell ≡ Held p
  pub so : state_then (moment (at + 1)) cell ≡ now

-- what an answer of the process's work says of a moment of its call. The cell was clean; another process held it, or
-- forestalled the claim; it was marked, with a generation that is not claimed any more. Or this process held it and let
-- it go: clean where it is published, marked where it is to be worked on again or an allocation failed
abbrev pub CauseFits : (ℕ → Moment) → ℕ → ℕ → ℕ → Cell → WorkEnd → Type 0
CauseFits moment p start k cell NotDirty = WasSo moment start k (λ m. state_then m cell ≡ Clean)
CauseFits moment p start k cell Missed = WasSo moment start k (λ m. (q : ℕ) × (q ≢ p) × (state_then m cell ≡ Held q)) ⊎ WasForestalled moment start k cell
CauseFits moment p start k cell Worn = WasSo moment start k (λ m. (state_then m cell ≡ Marked) × (SEEN_MOST < generation_of (mark_then m cell)))
CauseFits moment p start k cell (Published changed) = WasLetGo moment p start k cell Clean
CauseFits moment p start k cell Again = WasLetGo moment p start k cell Marked
CauseFits moment p start k cell NoMemory = WasLetGo moment p start k cell Marked

-- the work that is answered began on this cell, and its answer fits a moment of its call
pub record HasCause (moment : ℕ → Moment) (events : List Event) (replies : List Reply) (k p : ℕ) (end : WorkEnd) : Type 0 where
  pub cell : Cell
  pub start : ℕ
  pub work : IsCallOn events replies p cell start k
  pub fits : CauseFits moment p start k cell end

-- each work that is answered fits
abbrev pub WorksFit : (ℕ → Moment) → List Event → List Reply → Type 0
WorksFit moment events replies = (k p : ℕ) (end : WorkEnd) → Happens events replies k (Step p) (Answered (Work end)) → HasCause moment events replies k p end

-- ---- edits that are forgotten

-- a word of the process's announcement that says no edit of this number, and none of a later one, in any phase
abbrev pub SaysNone : ℕ → ℕ → Type 0
SaysNone number word = number_after word ≤ number

-- the process's edit of this number was never announced: at no moment from the run's first to the one after this place
-- does the persisted side, which a crash keeps, say its number or a later one, and at this place the cached side does
-- not
pub record WasUnannounced (moment : ℕ → Moment) (k p number : ℕ) : Type 0 where
  pub persisted : (j : ℕ) → j ≤ k + 1 → SaysNone number ((world_of (moment j).world).memory.persisted (place.Announce p))
  pub cached : SaysNone number ((world_of (moment k).world).memory.cached (place.Announce p))

-- each edit that a recovery's answer forgets was never announced
abbrev pub ForgottenFit : (ℕ → Moment) → List Event → List Reply → Type 0
ForgottenFit moment events replies = (k p : ℕ) (end : RecoveryEnd) → Happens events replies k (Step p) (Answered (Recovery end))
    → (f : Forgets (moment k).ledger p end (moment (k + 1)).ledger) → WasUnannounced moment k p f.open_edit.it.edit.number

-- ---- the run

-- the worlds are those that the processes' steps lead through, from the new world to the last one; at each moment
-- there is a ledger such that each event moves words and ledger as it may; moments, shows and works fit, and no edit
-- that is forgotten was announced
pub record RunFits (old : WorldValue) (events : List Event) (replies : List Reply) (new : WorldValue) : Type 0 where
  pub moment : ℕ → Moment
  pub first : moment 0 ≡ record { world = old; ledger = empty_ledger }
  pub last : (moment (length events)).world ≡ new
  pub answered : length replies ≡ length events
  pub layout : (k : ℕ) → k ≤ length events → (moment k).world.sheet.layout ≡ old.sheet.layout
  pub takes : (k : ℕ) (event : Event) (reply : Reply) → Happens events replies k event reply
      → Takes (moment k).world event reply (moment (k + 1)).world
  pub words : (k : ℕ) (event : Event) (reply : Reply) → Happens events replies k event reply
      → WordsMove (world_of (moment k).world).memory event reply (world_of (moment (k + 1)).world).memory
  pub ledger : (k : ℕ) (event : Event) (reply : Reply) → Happens events replies k event reply
      → LedgerMoves k old.sheet.layout.shape (moment k).ledger event reply (moment (k + 1)).ledger
  pub fits : (k : ℕ) → k ≤ length events → MomentFits (moment k)
  pub reports : ReportsFit moment events replies
  pub works : WorksFit moment events replies
  pub forgotten : ForgottenFit moment events replies

-- the first edit stands before the second one in the list
pub record Precedes (es : List Placed) (e f : Placed) : Type 0 where
  pub before : List Placed
  pub after : List Placed
  pub parts : es ≡ before ++ after
  pub first : Contains before e
  pub second : Contains after f

-- the process's open edit is closed by the event at this place
pub record IsClosed (moment : ℕ → Moment) (k p : ℕ) (e : Placed) : Type 0 where
  pub open_edit : Open
  pub was : (moment k).ledger.opens p ≡ Some open_edit
  pub is : open_edit.it ≡ e
  pub gone : (moment (k + 1)).ledger.opens p ≡ None

-- the run fits; an edit, once closed, stays in the list of linearized edits or stays out; and one that was closed
-- before another was begun stands before it, wherever both stand
pub record Headline (old : WorldValue) (events : List Event) (replies : List Reply) (new : WorldValue) : Type 0 where
  pub run : RunFits old events replies new
  pub closed : (k p : ℕ) (e : Placed) → k < length events → IsClosed run.moment k p e
      → (j : ℕ) → k < j → j ≤ length events → Contains (run.moment j).ledger.counted e ↔ Contains (run.moment k).ledger.counted e
  pub order : (k p : ℕ) (e f : Placed) → k < length events → IsClosed run.moment k p e → k < f.place
      → (j : ℕ) → j ≤ length events → Contains (run.moment j).ledger.counted e → Contains (run.moment j).ledger.counted f
      → Precedes (run.moment j).ledger.counted e f

-- a run of worlds has the headline, and the moments are those of its own worlds
pub record HasHeadline (old : WorldValue) (events : List Event) (replies : List Reply) (new : WorldValue) (run : WorldRun old events replies new) : Type 0 where
  pub is : Headline old events replies new
  pub worlds : (k : ℕ) → k ≤ length events → (is.run.moment k).world ≡ world_at old events replies new run k

-- ---- what a caller is answered

-- of the process and this number the list has just one edit, with the cell and text of the last request of the process
-- before this place whose begin was answered with this number
pub record IsAcknowledged (old : WorldValue) (events : List Event) (replies : List Reply) (k p number : ℕ) (edits : List PlainEdit) : Type 0 where
  pub request : PlainRequest
  pub start : ℕ
  pub earlier : start < k
  pub begun : Happens events replies start (BeginEdit request) (Begun number)
  pub mine : request.process ≡ p
  pub last : (j : ℕ) (other : PlainRequest) → start < j → j < k → other.process ≡ p → Happens events replies j (BeginEdit other) (Begun number) → ⊥
  pub once : filter (is_edit_of p number) edits ≡ record { process = p; number = number; cell = index_of old.sheet.layout.shape request.cell; text = request.text } ∷ []

-- the edit that a recovery reports as done stands in the list just once, as it was asked for, and the cell that is
-- reported is that of its request
pub record IsToldDone (old : WorldValue) (events : List Event) (replies : List Reply) (k p : ℕ) (told : LastEdit) (edits : List PlainEdit) : Type 0 where
  pub it : IsAcknowledged old events replies k p told.number edits
  pub cell : told.cell ≡ index_of old.sheet.layout.shape it.request.cell

-- the next edit of the process that begins after this place is given this number
abbrev pub IsGivenAgain : List Event → List Reply → ℕ → ℕ → ℕ → Type 0
IsGivenAgain events replies k p number = (j next : ℕ) (request : PlainRequest) → k < j → Happens events replies j (BeginEdit request) (Begun next) → request.process ≡ p
    → ((i n : ℕ) (other : PlainRequest) → k < i → i < j → other.process ≡ p → Happens events replies i (BeginEdit other) (Begun n) → ⊥)
    → next ≡ number

-- the edit that is forgotten at this place was begun at an earlier one and was never announced, and its number is given
-- out again
pub record IsForgotten (moment : ℕ → Moment) (events : List Event) (replies : List Reply) (k p : ℕ) (it : Placed) : Type 0 where
  pub request : PlainRequest
  pub begun : Happens events replies it.place (BeginEdit request) (Begun it.edit.number)
  pub mine : request.process ≡ p
  pub earlier : it.place < k
  pub unannounced : WasUnannounced moment k p it.edit.number
  pub again : IsGivenAgain events replies k p it.edit.number
