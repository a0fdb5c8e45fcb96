-- The steps of a show: what each stage loads, and what comes then.
use Rattle.std.specs.Prelude.{ℕ, ◌≡◌, ◌≢◌, ◌<◌, ◌+◌, ◌-◌, ◌*◌, ◌==◌, nat_lt, if◌then◌else◌, List, [], ◌∷◌, ◌++◌}
use Rattle.ds_state.specs.declared.turn.Turn.{Turn}
use Rattle.ds_state.specs.declared.show.ShowEnd.{ShowEnd}
use Rattle.ds_words.specs.Memory.{SameMemory}
use Rattle.ds_words.specs.declared.access.Access.{Access}
use Rattle.ds_words.specs.declared.access.Access.TheVariants as acts
use Rattle.ds_eval.specs.declared.value.Value.{Value}
use Rattle.ds_layout.specs.declared.place.Place.{Place}
use Rattle.ds_layout.specs.declared.place.Place.TheVariants as place
use Rattle.ds_layout.specs.Places.{cells_of}
use Rattle.ds_layout.specs.SheetMemory.{PerformsAt}
use Rattle.ds_state.specs.Works.{PlainShowCall}
use Rattle.ds_state.specs.World.{PlainWorld}
use Rattle.ds_state.specs.KnownShow.{noted, reads_clean, reads_pending, values_of}
use Rattle.ds_state.specs.declared.situation.Situation.{Situation}
use Rattle.ds_state.specs.declared.situation.Situation.TheVariants.{Idle, Showing}
use Rattle.ds_state.specs.declared.turn.Turn.TheVariants.{GoesOn, Answers}
use Rattle.ds_state.specs.declared.show.ShowEnd.TheVariants.{Settled, Unsettled}
use Rattle.ds_state.specs.declared.show.ShowStage.{ShowStage}
use Rattle.ds_state.specs.declared.show.ShowStage.TheVariants.{LoadAnnounce, LoadMark, LoadValue, LoadKind, AgainMark, AgainAnnounce, Answer}
use Rattle.ds_state.specs.declared.situation.Rest.{Rest}

-- the access of a stage of a show
abbrev pub access_at : ShowStage → Access Place
access_at (LoadAnnounce i) = acts.Load (place.Announce i)
access_at (LoadMark i) = acts.Load (place.Mark i)
access_at (LoadValue i) = acts.Load (place.Value i)
access_at (LoadKind i) = acts.Load (place.Kind i)
access_at (AgainMark i) = acts.Load (place.Mark i)
access_at (AgainAnnounce i) = acts.Load (place.Announce i)
access_at (Answer end) = acts.Nothing

-- the show at another stage
abbrev pub at : PlainShowCall → ShowStage → PlainShowCall
at e stage = record e { stage = stage }

-- the stage that loads this announcement; after the last one, the first mark
abbrev pub announce_stage : ℕ → ℕ → ShowStage
announce_stage processes i = if nat_lt i processes then LoadAnnounce i else LoadMark 0

-- the stage that loads this cell's mark; after the last one, the first value
abbrev pub mark_stage : ℕ → ℕ → ShowStage
mark_stage cells i = if nat_lt i cells then LoadMark i else LoadValue 0

-- the stage that loads this cell's value; after the last one, the first mark again
abbrev pub value_stage : ℕ → ℕ → ShowStage
value_stage cells i = if nat_lt i cells then LoadValue i else AgainMark 0

-- the stage that loads this cell's mark again; after the last one, the first announcement again
abbrev pub again_mark_stage : ℕ → ℕ → ShowStage
again_mark_stage cells i = if nat_lt i cells then AgainMark i else AgainAnnounce 0

-- the stage that loads this announcement again; after the last one, the answer Settled
abbrev pub again_announce_stage : ℕ → ℕ → ShowStage
again_announce_stage processes i = if nat_lt i processes then AgainAnnounce i else Answer Settled

-- the show goes to this announcement; after the last one, to the first mark
abbrev pub announce_from : PlainShowCall → ℕ → PlainShowCall
announce_from e i = if nat_lt i e.processes then at e (LoadAnnounce i) else at e (LoadMark 0)

-- the show goes to this cell's mark; after the last one, to the first value
abbrev pub mark_from : PlainShowCall → ℕ → PlainShowCall
mark_from e i = if nat_lt i e.cells then at e (LoadMark i) else at e (LoadValue 0)

-- the show goes to this cell's value; after the last one, to the first mark again
abbrev pub value_from : PlainShowCall → ℕ → PlainShowCall
value_from e i = if nat_lt i e.cells then at e (LoadValue i) else at e (AgainMark 0)

-- the show goes to this cell's mark again; after the last one, to the first announcement again
abbrev pub again_mark_from : PlainShowCall → ℕ → PlainShowCall
again_mark_from e i = if nat_lt i e.cells then at e (AgainMark i) else at e (AgainAnnounce 0)

-- the show goes to this announcement again; after the last one, to the answer Settled
abbrev pub again_announce_from : PlainShowCall → ℕ → PlainShowCall
again_announce_from e i = if nat_lt i e.processes then at e (AgainAnnounce i) else at e (Answer Settled)

-- the show is unsettled: it is to answer with this cell's mark and the word found there
abbrev pub off_mark : PlainShowCall → ℕ → ℕ → PlainShowCall
off_mark e c word = at e (Answer (Unsettled (place.Mark c) word))

-- the show is unsettled: it is to answer with this process's announcement and the word found there
abbrev pub off_announce : PlainShowCall → ℕ → ℕ → PlainShowCall
off_announce e q word = at e (Answer (Unsettled (place.Announce q) word))

-- the show with one more announcement noted
abbrev pub with_announcement : PlainShowCall → ℕ → PlainShowCall
with_announcement e word = record e { announcements = e.announcements ++ word ∷ [] }

-- the show with one more mark noted
abbrev pub with_mark : PlainShowCall → ℕ → PlainShowCall
with_mark e word = record e { marks = e.marks ++ word ∷ [] }

-- the show with one more value noted
abbrev pub with_value : PlainShowCall → ℕ → PlainShowCall
with_value e word = record e { values = e.values ++ word ∷ [] }

-- the show with one more kind noted
abbrev pub with_kind : PlainShowCall → ℕ → PlainShowCall
with_kind e word = record e { kinds = e.kinds ++ word ∷ [] }

-- the show after a stage whose access answered the word
abbrev pub next_at : PlainShowCall → ShowStage → ℕ → PlainShowCall
next_at e (LoadAnnounce i) word = if reads_pending word then off_announce e i word else announce_from (with_announcement e word) (i + 1)
next_at e (LoadMark i) word = if reads_clean e.processes word then mark_from (with_mark e word) (i + 1) else off_mark e i word
next_at e (LoadValue i) word = at (with_value e word) (LoadKind i)
next_at e (LoadKind i) word = value_from (with_kind e word) (i + 1)
next_at e (AgainMark i) word = if word == noted e.marks i then again_mark_from e (i + 1) else off_mark e i word
next_at e (AgainAnnounce i) word = if word == noted e.announcements i then again_announce_from e (i + 1) else off_announce e i word
next_at e (Answer end) word = e

-- the show after its own stage, whose access answered the word
abbrev pub got_at : PlainShowCall → ℕ → PlainShowCall
got_at e word = next_at e e.stage word

-- what a step at a stage does to the show: it goes on, or it answers
abbrev pub effect_at : ShowStage → Turn ShowEnd
effect_at (Answer end) = Answers end
effect_at _ = GoesOn

-- what the process knows beside its show
abbrev pub rest_of : PlainShowCall → Rest
rest_of e = record { number = e.next; edition = e.edition }

-- the situation of the process after a stage of its show: the answer ends the call
abbrev pub after : PlainShowCall → ShowStage → ℕ → Situation
after e (Answer end) word = Idle (rest_of e)
after e stage word = Showing (next_at e stage word)

-- the values of a settled show
abbrev pub answered : PlainShowCall → List Value
answered e = values_of e.cells (noted e.values) (noted e.kinds)

-- one step of the show at a stage, whose access answered the word: no edit is linearized
pub record StepsAt (e : PlainShowCall) (stage : ShowStage) (word : ℕ) (old new : PlainWorld) : Type 0 where
  pub layout : new.layout ≡ old.layout
  pub memory : PerformsAt (access_at stage) e.process old.memory new.memory word
  pub situation : new.situation e.process ≡ after e stage word
  pub others : (q : ℕ) → q ≢ e.process → new.situation q ≡ old.situation q
  pub counted : new.counted ≡ old.counted
  pub open_edits : (q : ℕ) → new.open_edits q ≡ old.open_edits q

-- one step of the show at its own stage, whose access answered the word
abbrev pub Steps : PlainShowCall → ℕ → PlainWorld → PlainWorld → Type 0
Steps e word old new = StepsAt e e.stage word old new

-- a show of the sheet, before its first step
abbrev pub fresh : ℕ → Rest → ℕ → ℕ → PlainShowCall
fresh process next cells processes = record {
  process = process;
  edition = next.edition;
  next = next.number;
  cells = cells;
  processes = processes;
  announcements = [];
  marks = [];
  values = [];
  kinds = [];
  stage = LoadAnnounce 0;
}

-- a show begins, and no word changes
pub record Begins (p : ℕ) (next : Rest) (old new : PlainWorld) : Type 0 where
  pub layout : new.layout ≡ old.layout
  pub memory : SameMemory old.memory new.memory
  pub idle : old.situation p ≡ Idle next
  pub situation : new.situation p ≡ Showing (fresh p next (cells_of old.layout) old.layout.processes)
  pub others : (q : ℕ) → q ≢ p → new.situation q ≡ old.situation q
  pub counted : new.counted ≡ old.counted
  pub open_edits : (q : ℕ) → new.open_edits q ≡ old.open_edits q

-- how many steps of a show are left at most from a stage on, the answer's among them
abbrev pub rank_in : ℕ → ℕ → ShowStage → ℕ
rank_in processes cells (LoadAnnounce i) = 1 + 2 * processes + 4 * cells - i
rank_in processes cells (LoadMark i) = 1 + processes + 4 * cells - i
rank_in processes cells (LoadValue i) = 1 + processes + 3 * cells - 2 * i
rank_in processes cells (LoadKind i) = processes + 3 * cells - 2 * i
rank_in processes cells (AgainMark i) = 1 + processes + cells - i
rank_in processes cells (AgainAnnounce i) = 1 + processes - i
rank_in processes cells (Answer end) = 1

-- how many steps of a show are left at most from its own stage on, the answer's among them
abbrev pub rank : PlainShowCall → ℕ
rank e = rank_in e.processes e.cells e.stage

-- fewer steps of the show are left after a step, but for the answer's, which is the last
abbrev pub Falls : PlainShowCall → ShowStage → PlainShowCall → Type 0
Falls e (Answer end) after = Unit {0}
Falls e stage after = rank after < rank (at e stage)
