-- The rule of the table: a run of the structure leads to the words, and the views are what happened in it.
use Rattle.std.specs.Prelude.{ℕ, ◌≡◌, ◌≢◌, ◌⊎◌, ◌+◌, ◌<◌, slice_index, if◌then◌else◌, Bool, false, List, [], ◌++◌, length, Some}
use mathlib.Core.Option.{some}
use lib.ListN.{get_elem?}
use Rattle.atomic_table.specs.Table.{State}
use Rattle.ds_words.specs.declared.access.BufferEntry.{BufferEntry}
use Rattle.pm_base.specs.Structures.{In, World, Structure}
use Rattle.pm_base.specs.Runs.{Happened, Run, IsNew, deeds_by, history_of, RunHolds}
use Rattle.pm_base.specs.declared.history.Deed.{Deed}
use Rattle.pm_base.specs.declared.history.Deed.TheVariants.{Response}
use Rattle.pm_base.specs.declared.history.Entry.{Entry}
use Rattle.pm_base.specs.declared.history.Event.{Event}
use Rattle.pm_base.specs.declared.history.Event.TheVariants.{Evict, Stop, Crash}
use Rattle.pm_board.specs.declared.board.Seated.{Seated}
use Rattle.pm_board.specs.declared.board.View.{View}
use Rattle.pm_board.specs.Table.{two_sided, cached_at, persisted_at}
use Rattle.pm_board.specs.Views.{}

-- how a table begins: whether every process is stopped, and with which words
pub record Start : Type 0 where
  pub stopped : Bool
  pub words : List ℕ

-- what a crash leaves of the word with this number: both its sides are the cached one where it was chosen, else the
-- persisted one
abbrev pub HasSideLeft : ℕ → Bool → List ℕ → List ℕ → ℕ → Type 0
HasSideLeft apart chosen words words' n =
    let side : ℕ = if chosen then slice_index words (cached_at apart n) else slice_index words (persisted_at apart n) in
    (slice_index words' (cached_at apart n) ≡ side) × (slice_index words' (persisted_at apart n) ≡ side)

module _ {K S T : Type 0} (s : Structure K S T) (key : K) where
  -- where a table comes from: a new structure, what happened to it before the table was made, the last event first, and
  -- the world with which the table was made
  pub record Origin : Type 0 where
    pub first : World S s.Hidden
    pub older : List (Happened s key)
    pub opened : World S s.Hidden

  -- what a world has beside its words; also where its table comes from, and what has happened since, the last event first
  pub record Witness : Type 0 where
    pub situation : ℕ → S
    pub buffer : ℕ → List (BufferEntry ℕ)
    pub hidden : s.Hidden
    pub origin : Origin
    pub happened : List (Happened s key)

  -- the world with these words
  abbrev pub world_on : List ℕ → Witness → World S s.Hidden
  world_on words b = record { memory = two_sided (s.apart key) words b.buffer; situation = b.situation; hidden = b.hidden }

  -- a run leads from a new structure to the world with which the table was made
  pub record IsOrigin (o : Origin) : Type 0 where
    pub new : IsNew s key o.first
    pub run : Run s key o.first o.older o.opened

  -- the world with which the table was made has these words
  abbrev pub OpensWith : List ℕ → Origin → Type 0
  OpensWith words o = (b : Witness) × (o.opened ≡ world_on words b)

  -- all that has happened since the structure was new, the last event first
  abbrev pub all_of : Witness → List (Happened s key)
  all_of b = b.happened ++ b.origin.older

  -- a history that was seen is a beginning of all that happened
  pub record IsBeginning (all : List (Happened s key)) (seen : List (Entry S T)) : Type 0 where
    pub since : List (Happened s key)
    pub until : List (Happened s key)
    pub parts : all ≡ since ++ until
    pub is : seen ≡ history_of s key until

  -- it is one, and since then the process has begun no call, and was answered nothing
  pub record HasSeen (all : List (Happened s key)) (process : ℕ) (seen : List (Entry S T)) : Type 0 where
    pub begins : IsBeginning all seen
    pub quiet : deeds_by process (history_of s key begins.since) ≡ []

  -- what the process did is just what it did in a stretch of all that happened
  pub record DidSo (all : List (Happened s key)) (e : Seated S T) : Type 0 where
    pub since : List (Happened s key)
    pub stretch : List (Happened s key)
    pub before : List (Happened s key)
    pub parts : all ≡ since ++ (stretch ++ before)
    pub done : e.deeds.done ≡ deeds_by e.process (history_of s key stretch)

  -- a process of a view: its situation and its buffer are these, and it has done just what it did since the table was made
  pub record Stands (b : Witness) (e : Seated S T) : Type 0 where
    pub now : b.situation e.process ≡ e.now
    pub buffer : b.buffer e.process ≡ e.buffer
    pub done : e.deeds.done ≡ deeds_by e.process (history_of s key b.happened)
    pub saw : (seen : List (Entry S T)) → e.deeds.seen ≡ Some seen → HasSeen (all_of b) e.process seen

  -- it is one of the structure's, and this seat runs it
  pub record Fits (b : Witness) (owner : ℕ → ℕ) (seat : ℕ) (e : Seated S T) : Type 0 where
    pub low : e.process < s.processes key
    pub mine : owner e.process ≡ seat
    pub stands : Stands b e

  -- what a process did at a board before, or in another seat, it did in a stretch of what happened; what it had seen is a
  -- beginning of that
  pub record IsPast (b : Witness) (e : Seated S T) : Type 0 where
    pub was : DidSo (all_of b) e
    pub saw : (seen : List (Entry S T)) → e.deeds.seen ≡ Some seen → IsBeginning (all_of b) seen

  -- so it is with each process of the list
  abbrev pub AreTrue : Witness → List (Seated S T) → Type 0
  AreTrue b past = (e : Seated S T) → In past e → IsPast b e

  -- the process is one of a view
  pub record IsSeated (views : List (View S T)) (p : ℕ) : Type 0 where
    pub seat : ℕ
    pub view : View S T
    pub at : get_elem? views seat ≡ some view
    pub entry : Seated S T
    pub inside : In view.entries entry
    pub own : entry.process ≡ p

  -- a run from a new structure leads to a world with these words, and the views are what happened in it. Each process is one of a
  -- view's, whose seat alone runs it, and what each seat knows is what happened. The run goes on from the world with which
  -- the table was made, which has the words that it was made with
  pub record Ruled {X : Type 0} (start : Start) (t : State X (View S T)) : Type 0 where
    pub witness : Witness
    pub owner : ℕ → ℕ
    pub long : length t.words ≡ cached_at (s.apart key) (s.words key)
    pub run : Run s key witness.origin.opened witness.happened (world_on t.words witness)
    pub from : IsOrigin witness.origin
    pub opens : OpensWith start.words witness.origin
    pub made : start.stopped ≡ false → witness.origin.older ≡ []
    pub all : (p : ℕ) → p < s.processes key → IsSeated t.views p
    pub knows : (j : ℕ) (v : View S T) → get_elem? t.views j ≡ some v → (e : Seated S T) → In v.entries e → Fits witness owner j e
    pub past : (j : ℕ) (v : View S T) → get_elem? t.views j ≡ some v → AreTrue witness v.past

  -- ---- one process goes on

  -- the process p is in this situation with this buffer, the others are as they were; a run leads there, in which p did
  -- this, and no other process anything
  pub record After (words words' : List ℕ) (b b' : Witness) (p : ℕ) (now : S) (x : List (BufferEntry ℕ)) (deeds : List (Deed S T)) : Type 0 where
    pub doing : b'.situation p ≡ now
    pub buffer : b'.buffer p ≡ x
    pub others : (q : ℕ) → q ≢ p → b'.situation q ≡ b.situation q
    pub other_buffers : (q : ℕ) → q ≢ p → b'.buffer q ≡ b.buffer q
    pub origin : b'.origin ≡ b.origin
    pub more : List (Happened s key)
    pub happened : b'.happened ≡ more ++ b.happened
    pub run : Run s key (world_on words b) more (world_on words' b')
    pub own : deeds_by p (history_of s key more) ≡ deeds
    pub others_quiet : (q : ℕ) → q ≢ p → deeds_by q (history_of s key more) ≡ []

  -- ---- at rest

  -- a run from a new structure leads to a world with these words in which every process has stopped
  pub record AtRest (words : List ℕ) (b : Witness) : Type 0 where
    pub run : Run s key b.origin.opened b.happened (world_on words b)
    pub from : IsOrigin b.origin
    pub stopped : (p : ℕ) → p < s.processes key → b.situation p ≡ s.stopped
    pub buffer : (p : ℕ) → p < s.processes key → b.buffer p ≡ []

  -- so it is with a world in which what these processes did stands in the run
  abbrev pub IsRested : List ℕ → List (Seated S T) → Type 0
  IsRested words past = (b : Witness) × AtRest words b × AreTrue b past

  -- the one world comes from the other by these events
  pub record GoesOnBy (Allowed : Event S → Type 0) (b b' : Witness) : Type 0 where
    pub origin : b'.origin ≡ b.origin
    pub more : List (Happened s key)
    pub happened : b'.happened ≡ more ++ b.happened
    pub allowed : (h : Happened s key) → In more h → Allowed h.entry.event

  -- a stop
  abbrev pub IsStop : Event S → Type 0
  IsStop (Stop p) = Unit {0}
  IsStop _ = ⊥

  -- an eviction or a crash
  abbrev pub IsLoss : Event S → Type 0
  IsLoss (Evict n) = Unit {0}
  IsLoss Crash = Unit {0}
  IsLoss _ = ⊥

  -- these words are those of a world to which a run leads from a new structure, in which each process that was handed in
  -- does what its seat says; stops alone lead from it to one at rest, and what is remembered is what happened
  pub record Closes (start : Start) (words : List ℕ) (entries past : List (Seated S T)) : Type 0 where
    pub last : Witness
    pub run : Run s key last.origin.opened last.happened (world_on words last)
    pub from : IsOrigin last.origin
    pub opens : OpensWith start.words last.origin
    pub made : start.stopped ≡ false → last.origin.older ≡ []
    pub stands : (e : Seated S T) → In entries e → Stands last e
    pub witness : Witness
    pub stops : GoesOnBy IsStop last witness
    pub rests : AtRest words witness
    pub responses : AreTrue witness past

  -- these words, too, are those of a world at rest, to which evictions and a crash lead
  pub record Survives (words words' : List ℕ) (b : Witness) : Type 0 where
    pub witness : Witness
    pub rests : AtRest words' witness
    pub losses : GoesOnBy IsLoss b witness
    pub responses : (e : Seated S T) → IsPast b e → IsPast witness e

  -- ---- the sentence over runs

  -- one run leads from a new structure, through all closes, crashes and openings, to a world with these words; it is sound,
  -- and all that any process was answered on the way is true in it. What each process of the list did, it did in a stretch of
  -- that run, so what it was answered is true; and what it has seen is a beginning of its history
  pub record HasRun (words : List ℕ) (known : List (Seated S T)) : Type 0 where
    pub first : World S s.Hidden
    pub new : IsNew s key first
    pub happened : List (Happened s key)
    pub witness : Witness
    pub run : Run s key first happened (world_on words witness)
    pub holds : RunHolds s key happened (world_on words witness)
    pub did : (e : Seated S T) → In known e → DidSo happened e
    pub responses : (e : Seated S T) (t : T) → In known e → In e.deeds.done (Response t) → s.is_right key (world_on words witness) e.process t
    pub saw : (e : Seated S T) (seen : List (Entry S T)) → In known e → e.deeds.seen ≡ Some seen → IsBeginning happened seen

  -- so it is between any two steps on an open board, with what any seat knows
  abbrev pub OpenBoardsHaveRuns : Type 0
  OpenBoardsHaveRuns = (start : Start) (t : State ℕ (View S T)) → Ruled {X = ℕ} start t → (j : ℕ) (v : View S T) → get_elem? t.views j ≡ some v → HasRun t.words (v.past ++ v.entries)

  -- and so it is of a board that is closed or crashed
  abbrev pub ClosedBoardsHaveRuns : Type 0
  ClosedBoardsHaveRuns = (words : List ℕ) (b : Witness) (past : List (Seated S T)) → AtRest words b → AreTrue b past → HasRun words past

-- the table's word with this number is a side of the structure's word with that one
abbrev pub IsSideOf : ℕ → ℕ → ℕ → Type 0
IsSideOf apart i n = (i ≡ cached_at apart n) ⊎ (i ≡ persisted_at apart n)

-- the table's words of a structure's first n words are on both sides what those are at first; what lies between is 0
pub record AreFirst {K S T : Type 0} (s : Structure K S T) (key : K) (n : ℕ) (words : List ℕ) : Type 0 where
  pub long : length words ≡ cached_at (s.apart key) n
  pub sides : (i r : ℕ) → r < n → IsSideOf (s.apart key) i r → slice_index words i ≡ s.first_word key r
  pub between : (i : ℕ) → ((r : ℕ) → r < n → IsSideOf (s.apart key) i r → ⊥) → slice_index words i ≡ 0
