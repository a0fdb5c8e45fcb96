-- What a show knows at each of its stages: what it noted, and the moment that it speaks of.
use Rattle.std.specs.Prelude.{ℕ, ◌≡◌, ◌≢◌, ◌<◌, ◌≤◌, ◌⊎◌, List, [], ◌++◌, length, map, Bool, true, false, Option, Some, None, slice_index_or}
use Rattle.std.specs.List.{range_with_len}
use Rattle.ds_formula.specs.Cells.{IsInside, index_of, count_of}
use Rattle.ds_formula.specs.declared.cells.Cell.{Cell}
use Rattle.ds_formula.specs.declared.cells.Shape.{Shape}
use Rattle.ds_formula.specs.Plain.{PlainContent}
use Rattle.ds_formula.specs.Grammar.{Reads}
use Rattle.ds_eval.specs.declared.value.Value.{Value}
use Rattle.ds_eval.specs.Scratch.{IsScratch}
use Rattle.ds_layout.specs.declared.announcement.Announcement.{Announcement}
use Rattle.ds_layout.specs.declared.announcement.Phase.{Phase}
use Rattle.ds_layout.specs.declared.announcement.Phase.TheVariants as phase
use Rattle.ds_layout.specs.declared.place.Place.{Place}
use Rattle.ds_layout.specs.declared.place.Place.TheVariants as place
use Rattle.ds_layout.specs.declared.layout.Layout.{Layout}
use Rattle.ds_layout.specs.declared.mark.State.{State}
use Rattle.ds_layout.specs.declared.mark.State.TheVariants.{Clean, Marked, Held}
use Rattle.ds_layout.specs.Announcement.{announcement_of}
use Rattle.ds_layout.specs.Mark.{mark_of, state_of, IsClean, IsHeldBy}
use Rattle.ds_layout.specs.Places.{cells_of}
use Rattle.ds_state.specs.Works.{PlainShowCall}
use Rattle.ds_state.specs.ShowStages.{IsShow}
use Rattle.ds_state.specs.World.{PlainEdit, PlainWorld, of_cell}
use Rattle.ds_state.specs.Shown.{last_text}
use Rattle.ds_state.specs.Standing.{shown_entry}
use Rattle.ds_state.specs.KnownWork.{IsAtRest}
use Rattle.ds_state.specs.declared.show.ShowEnd.TheVariants.{Settled, Unsettled}
use Rattle.ds_state.specs.declared.show.ShowStage.{ShowStage}
use Rattle.ds_state.specs.declared.show.ShowStage.TheVariants.{LoadAnnounce, LoadMark, LoadValue, LoadKind, AgainMark, AgainAnnounce, Answer}

-- the word that was noted of the cell or process with this number, 0 where none was
abbrev pub noted : List ℕ → ℕ → ℕ
noted words i = slice_index_or words i 0

-- whether the phase is pending
abbrev pub is_pending_phase : Phase → Bool
is_pending_phase phase.Pending = true
is_pending_phase phase.Done = false
is_pending_phase phase.NotDone = false

-- whether there is an announcement, and its phase is pending
abbrev pub pends : Option Announcement → Bool
pends None = false
pends (Some a) = is_pending_phase a.phase

-- whether a word announces an edit as pending
abbrev pub reads_pending : ℕ → Bool
reads_pending word = pends (announcement_of word)

-- the word announces an edit as pending
abbrev pub IsPendingWord : ℕ → Type 0
IsPendingWord word = reads_pending word ≡ true

-- whether the state of a mark is clean
abbrev pub is_clean : State → Bool
is_clean Clean = true
is_clean Marked = false
is_clean (Held p) = false

-- whether a mark's word is clean, as it is read in a sheet with that number of processes
abbrev pub reads_clean : ℕ → ℕ → Bool
reads_clean processes word = is_clean (state_of (mark_of processes word))

-- the words of one moment, and the edits that were linearized then
pub record Moment : Type 0 where
  pub marks : ℕ → ℕ
  pub announced : ℕ → ℕ
  pub value : ℕ → ℕ
  pub kind : ℕ → ℕ
  pub edits : List PlainEdit

-- the moment that a world is: its words as processes see them, and the linearized edits
abbrev pub moment_of : PlainWorld → Moment
moment_of w = record {
  marks = λ c. w.memory.cached (place.Mark c);
  announced = λ q. w.memory.cached (place.Announce q);
  value = λ c. w.memory.cached (place.Value c);
  kind = λ c. w.memory.cached (place.Kind c);
  edits = w.counted;
}

-- the sheet that the edits give: each cell has the content of the text of its last edit, which is empty without one
pub record IsSheet (shape : Shape) (edits : List PlainEdit) (sheet : Cell → PlainContent) : Type 0 where
  pub each : (c : Cell) → IsInside shape c → Reads shape (last_text (of_cell (index_of shape c) edits)) (sheet c)

-- what the words of that number of cells show
abbrev pub values_of : ℕ → (ℕ → ℕ) → (ℕ → ℕ) → List Value
values_of cells value kind = map (λ c. (shown_entry cells (value c) (kind c)).value) (range_with_len 0 cells)

-- these are the values of the sheet of these edits, from scratch
pub record AreScratch (shape : Shape) (edits : List PlainEdit) (values : List Value) : Type 0 where
  pub sheet : Cell → PlainContent
  pub is : IsSheet shape edits sheet
  pub scratch : IsScratch shape sheet values

-- what the moment's words show are the values from scratch of the edits that were linearized then
abbrev pub IsRight : Shape → Moment → Type 0
IsRight shape m = AreScratch shape m.edits (values_of (count_of shape) m.value m.kind)

-- at the moment every mark is clean, and no announcement is pending
pub record IsStill (layout : Layout) (m : Moment) : Type 0 where
  pub clean : (c : ℕ) → c < cells_of layout → IsClean (m.marks c)
  pub settled : (q : ℕ) → q < layout.processes → IsPendingWord (m.announced q) → ⊥

-- the moment lies between what a show noted at first and now; where it is still, its values are right
pub record HasMoment (w : PlainWorld) (qs ms vs ks : List ℕ) (m : Moment) : Type 0 where
  pub marks_to : (c : ℕ) → m.marks c ≤ w.memory.cached (place.Mark c)
  pub announced_to : (q : ℕ) → m.announced q ≤ w.memory.cached (place.Announce q)
  pub marks_from : (c : ℕ) → c < length ms → noted ms c ≤ m.marks c
  pub announced_from : (q : ℕ) → q < length qs → noted qs q ≤ m.announced q
  pub values : (c : ℕ) → c < length vs → m.marks c ≡ noted ms c → m.value c ≡ noted vs c
  pub kinds : (c : ℕ) → c < length ks → m.marks c ≡ noted ms c → m.kind c ≡ noted ks c
  pub more : List PlainEdit
  pub counted : w.counted ≡ m.edits ++ more
  pub right : IsStill w.layout m → IsRight w.layout.shape m

-- what a show noted so far: no word is older now; marks were clean, announcements not pending; values stand while
-- marks do
pub record HasNoted (w : PlainWorld) (qs ms vs ks : List ℕ) : Type 0 where
  pub announcements : (q : ℕ) → q < length qs → noted qs q ≤ w.memory.cached (place.Announce q)
  pub marks : (c : ℕ) → c < length ms → noted ms c ≤ w.memory.cached (place.Mark c)
  pub clean : (c : ℕ) → c < length ms → IsClean (noted ms c)
  pub calm : (q : ℕ) → q < length qs → IsPendingWord (noted qs q) → ⊥
  pub values : (c : ℕ) → c < length vs → w.memory.cached (place.Mark c) ≡ noted ms c → w.memory.cached (place.Value c) ≡ noted vs c
  pub kinds : (c : ℕ) → c < length ks → w.memory.cached (place.Mark c) ≡ noted ms c → w.memory.cached (place.Kind c) ≡ noted ks c
  pub fewer : (length ks ≤ length vs) × (length vs ≤ length ms)

-- n marks and announcements that a show saw again were, at the moment, the noted ones
pub record SawAgain (w : PlainWorld) (qs ms vs ks : List ℕ) (m : Moment) (again_marks again : ℕ) : Type 0 where
  pub moment : HasMoment w qs ms vs ks m
  pub mark : (c : ℕ) → c < again_marks → m.marks c ≡ noted ms c
  pub announcement : (q : ℕ) → q < again → m.announced q ≡ noted qs q

-- the word that a show saw at a cell's mark was not clean, or not the noted one
pub record IsOffMark (w : PlainWorld) (ms : List ℕ) (c word : ℕ) : Type 0 where
  pub had : word ≤ w.memory.cached (place.Mark c)
  pub off : (IsClean word → ⊥) ⊎ ((c < length ms) × (word ≢ noted ms c))

-- the word that a show saw at a process's announcement was pending, or not the noted one
pub record IsOffAnnounce (w : PlainWorld) (qs : List ℕ) (q word : ℕ) : Type 0 where
  pub had : word ≤ w.memory.cached (place.Announce q)
  pub off : IsPendingWord word ⊎ ((q < length qs) × (word ≢ noted qs q))

-- the word that a show saw at a mark or an announcement was not at rest, or not the noted one
abbrev pub IsOff : PlainWorld → List ℕ → List ℕ → Place → ℕ → Type 0
IsOff w qs ms (place.Mark c) word = IsOffMark w ms c word
IsOff w qs ms (place.Announce q) word = IsOffAnnounce w qs q word
IsOff w qs ms r word = ⊥

-- how far a show is: no moment yet; n marks and announcements seen again; the mark, or the announcement, that
-- ended it
pub data Seen : Type 0 where
  first : Seen
  middle : ℕ → ℕ → Seen
  off : Place → ℕ → Seen

-- how far a show is at this stage, in a sheet with n cells and m processes
abbrev pub seen_at : ℕ → ℕ → ShowStage → Seen
seen_at cells processes (LoadAnnounce i) = first
seen_at cells processes (LoadMark i) = first
seen_at cells processes (LoadValue i) = first
seen_at cells processes (LoadKind i) = first
seen_at cells processes (AgainMark i) = middle i 0
seen_at cells processes (AgainAnnounce i) = middle cells i
seen_at cells processes (Answer Settled) = middle cells processes
seen_at cells processes (Answer (Unsettled r word)) = off r word

-- how far a show is fits the world, with this moment where it has one
abbrev pub SeenFits : PlainWorld → List ℕ → List ℕ → List ℕ → List ℕ → Moment → Seen → Type 0
SeenFits w qs ms vs ks m first = Unit {0}
SeenFits w qs ms vs ks m (middle again_marks again) = SawAgain w qs ms vs ks m again_marks again
SeenFits w qs ms vs ks m (off r word) = IsOff w qs ms r word

-- a show of the sheet fits the world, and this is its moment
pub record ShowFitsAt (w : PlainWorld) (p : ℕ) (e : PlainShowCall) (m : Moment) : Type 0 where
  pub mine : e.process ≡ p
  pub is : IsShow e
  pub cells : cells_of w.layout ≡ e.cells
  pub processes : w.layout.processes ≡ e.processes
  pub rest : IsAtRest w e.process e.next
  pub holds_none : (r : ℕ) → IsHeldBy e.process (w.memory.cached (place.Mark r)) → ⊥
  pub buffer : w.memory.buffer e.process ≡ []
  pub noted : HasNoted w e.announcements e.marks e.values e.kinds
  pub seen : SeenFits w e.announcements e.marks e.values e.kinds m (seen_at e.cells e.processes e.stage)

-- a show of the sheet fits the world, with some moment
abbrev pub ShowFits : PlainWorld → ℕ → PlainShowCall → Type 0
ShowFits w p e = (m : Moment) × ShowFitsAt w p e m
