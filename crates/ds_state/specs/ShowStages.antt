-- What a show has noted at each of its stages, and the room that it has for all that it notes.
use Rattle.std.specs.Prelude.{ℕ, ◌≡◌, ◌<◌, ◌≤◌, ◌+◌, List, length}
use Rattle.ds_layout.specs.declared.place.Place.{Place}
use Rattle.ds_layout.specs.declared.place.Place.TheVariants.{Mark, Announce}
use Rattle.ds_state.specs.Works.{PlainShowCall}
use Rattle.ds_state.specs.declared.show.ShowEnd.TheVariants.{Settled, Unsettled}
use Rattle.ds_state.specs.declared.show.ShowStage.{ShowStage}
use Rattle.ds_state.specs.declared.show.ShowStage.TheVariants.{LoadAnnounce, LoadMark, LoadValue, LoadKind, AgainMark, AgainAnnounce, Answer}

-- how many announcements, marks, values and kinds are noted
pub record HaveNoted (qs ms vs ks : List ℕ) (q m v k : ℕ) : Type 0 where
  pub announcements : length qs ≡ q
  pub marks : length ms ≡ m
  pub values : length vs ≡ v
  pub kinds : length ks ≡ k

-- the place is one that a show looks at twice: a mark or an announcement of its sheet
abbrev pub IsSeenTwice : PlainShowCall → Place → Type 0
IsSeenTwice e (Mark c) = c < e.cells
IsSeenTwice e (Announce q) = q < e.processes
IsSeenTwice e place = ⊥

-- what a show's lists have at a stage, whose numbers are those of the sheet
abbrev pub IsStage : PlainShowCall → ShowStage → Type 0
IsStage e (LoadAnnounce i) = (i < e.processes) × HaveNoted e.announcements e.marks e.values e.kinds i 0 0 0
IsStage e (LoadMark i) = (i < e.cells) × HaveNoted e.announcements e.marks e.values e.kinds e.processes i 0 0
IsStage e (LoadValue i) = (i < e.cells) × HaveNoted e.announcements e.marks e.values e.kinds e.processes e.cells i i
IsStage e (LoadKind i) = (i < e.cells) × HaveNoted e.announcements e.marks e.values e.kinds e.processes e.cells (i + 1) i
IsStage e (AgainMark i) = (i < e.cells) × HaveNoted e.announcements e.marks e.values e.kinds e.processes e.cells e.cells e.cells
IsStage e (AgainAnnounce i) = (i < e.processes) × HaveNoted e.announcements e.marks e.values e.kinds e.processes e.cells e.cells e.cells
IsStage e (Answer Settled) = HaveNoted e.announcements e.marks e.values e.kinds e.processes e.cells e.cells e.cells
IsStage e (Answer (Unsettled place word)) = IsSeenTwice e place

-- a show of a sheet that has cells and processes, with what its stage says
pub record IsShow (e : PlainShowCall) : Type 0 where
  pub cells : 0 < e.cells
  pub processes : 0 < e.processes
  pub stage : IsStage e e.stage

-- room for an announcement of each process, and for a mark, a value and a kind of each cell
pub record HasRoom (cells processes qs ms vs ks : ℕ) : Type 0 where
  pub announcements : processes ≤ qs
  pub marks : cells ≤ ms
  pub values : cells ≤ vs
  pub kinds : cells ≤ ks

-- a show of a sheet, with room for all that it notes
pub record IsReady (e : PlainShowCall) (qs ms vs ks : ℕ) : Type 0 where
  pub is : IsShow e
  pub room : HasRoom e.cells e.processes qs ms vs ks
