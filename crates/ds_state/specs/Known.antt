-- What an edit knows at each of its stages.
use Rattle.std.specs.Prelude.{ℕ, ◌≡◌, ◌<◌, ◌≤◌, ◌+◌, ◌-◌, ◌⊎◌, List, [], ◌∷◌, ◌++◌, length, Option, Some, None, All, slice_index_or, suc}
use Rattle.ds_layout.specs.declared.place.Place.{Place}
use Rattle.ds_layout.specs.declared.place.Place.TheVariants as place
use Rattle.ds_layout.specs.declared.head.Head.{Head}
use Rattle.ds_layout.specs.declared.announcement.Phase.{Phase}
use Rattle.ds_layout.specs.declared.announcement.Phase.TheVariants as phase
use Rattle.ds_layout.specs.Head.{head_word}
use Rattle.ds_layout.specs.Bits.{HasBit}
use Rattle.ds_state.specs.World.{PlainEdit, PlainWorld, record_place, record_word, index_place, done_place, of_cell, of_cell_when, head_after_all, IsHeadBy, announcement, last_announcement}
use Rattle.ds_state.specs.declared.stage.Outcome.{Outcome}
use Rattle.ds_state.specs.declared.stage.Outcome.TheVariants.{Done, Overtaken}
use Rattle.ds_state.specs.declared.stage.Stage.{Stage}
use Rattle.ds_state.specs.declared.stage.Stage.TheVariants.{StoreHeader, StoreText, FlushHeader, FlushText, BackRecord, StorePending, FlushPending, BackPending, OrIndex, FlushIndex, BackIndex, LoadHead, FlushNoted, BackNoted, OrDone, FlushDone, BackDone, Swap, FlushOwn, BackOwn, OrMark, FlushMark, BackMark, StoreOutcome, FlushOutcome, BackOutcome, Answer}
use Rattle.ds_layout.specs.declared.place.Edition.{Edition}

-- whether the edit is linearized: it is not; it is, and this is its head; it is, and no crash takes it
pub data Standing : Type 0 where
  outside : Standing
  inside : ℕ → Standing
  safe : Standing

-- what the edit's process announces: how the edit before it ended, that this one is pending, or how it ended
pub data Announced : Type 0 where
  last : Announced
  pending : Announced
  ended : Outcome → Announced

-- what an edit knows of its cell's head: nothing; the head that it noted; that this head or a later one is persisted;
-- that also the done bit of the head's edit is set; that the bit is persisted; which two heads it met
pub data Noted : Type 0 where
  nothing : Noted
  head_noted : Head → Noted
  head_back : Head → Noted
  bit_set : Head → Noted
  bit_back : ℕ → Noted
  came_late : ℕ → ℕ → Noted

-- what an edit knows: n words of its record are stored, and m are persisted; on its announcement's cached
-- side stands `now`, on the persisted side that or `before`; its cell stands in the index rows of n of its
-- references, and on the cached side in that of one more
pub record Known : Type 0 where
  pub standing : Standing
  pub stored : ℕ
  pub back : ℕ
  pub before : Announced
  pub now : Announced
  pub indexed : ℕ
  pub ored : Option ℕ
  pub head : Noted

-- what an edit knows while it writes its record: n words are stored, and m are persisted
abbrev pub writing : ℕ → ℕ → Known
writing stored back = record { standing = outside; stored = stored; back = back; before = last; now = last; indexed = 0; ored = None; head = nothing }

-- what an edit with that number of parts knows while it announces itself: its record is written
abbrev pub announcing : ℕ → Known
announcing parts = record { standing = outside; stored = suc parts; back = suc parts; before = last; now = pending; indexed = 0; ored = None; head = nothing }

-- what an edit knows while it is indexed: it is announced, and its cell stands in the rows of that number of references
abbrev pub indexing : ℕ → ℕ → Option ℕ → Known
indexing parts i ored = record { standing = outside; stored = suc parts; back = suc parts; before = pending; now = pending; indexed = i; ored = ored; head = nothing }

-- what an edit knows from the load of its cell's head to the write-back of the mark: it is indexed
abbrev pub placing : ℕ → ℕ → Standing → Noted → Known
placing parts refs standing head = record { standing = standing; stored = suc parts; back = suc parts; before = pending; now = pending; indexed = refs; ored = None; head = head }

-- how an edit stands that has ended so: safe after Done, outside after Overtaken
abbrev pub standing_after : Outcome → Standing
standing_after Done = safe
standing_after (Overtaken noted seen) = outside

-- what an edit that has ended so knows of its cell's head: after Overtaken, which two heads it met
abbrev pub noted_after : Outcome → Noted
noted_after Done = nothing
noted_after (Overtaken noted seen) = came_late noted seen

-- what an edit knows from its outcome to its answer
abbrev pub ending : ℕ → ℕ → Outcome → Announced → Announced → Known
ending parts refs how before now = record { standing = standing_after how; stored = suc parts; back = suc parts; before = before; now = now; indexed = refs; ored = None; head = noted_after how }

-- what is known at a stage of an edit with n parts of its text and m references
abbrev pub known_at : ℕ → ℕ → Stage → Known
known_at parts refs StoreHeader = writing 0 0
known_at parts refs (StoreText part) = writing (suc part) 0
known_at parts refs FlushHeader = writing (suc parts) 0
known_at parts refs (FlushText part) = writing (suc parts) 0
known_at parts refs (BackRecord left) = writing (suc parts) (parts - left)
known_at parts refs StorePending = writing (suc parts) (suc parts)
known_at parts refs FlushPending = announcing parts
known_at parts refs BackPending = announcing parts
known_at parts refs (OrIndex i) = indexing parts i None
known_at parts refs (FlushIndex i) = indexing parts i (Some i)
known_at parts refs (BackIndex i) = indexing parts i (Some i)
known_at parts refs LoadHead = placing parts refs outside nothing
known_at parts refs (FlushNoted head) = placing parts refs outside (head_noted head)
known_at parts refs (BackNoted head) = placing parts refs outside (head_noted head)
known_at parts refs (OrDone head) = placing parts refs outside (head_back head)
known_at parts refs (FlushDone head) = placing parts refs outside (bit_set head)
known_at parts refs (BackDone head) = placing parts refs outside (bit_set head)
known_at parts refs (Swap head) = placing parts refs outside (bit_back head)
known_at parts refs (FlushOwn own) = placing parts refs (inside own) nothing
known_at parts refs (BackOwn own) = placing parts refs (inside own) nothing
known_at parts refs (OrMark own) = placing parts refs safe nothing
known_at parts refs (FlushMark own) = placing parts refs safe nothing
known_at parts refs (BackMark own) = placing parts refs safe nothing
known_at parts refs (StoreOutcome how) = ending parts refs how pending pending
known_at parts refs (FlushOutcome how) = ending parts refs how pending (ended how)
known_at parts refs (BackOutcome how) = ending parts refs how pending (ended how)
known_at parts refs (Answer how) = ending parts refs how (ended how) (ended how)

-- the process's linearized edits have lower numbers than this
abbrev pub AreBelow : PlainWorld → ℕ → ℕ → Type 0
AreBelow w process number = All (λ f. f.process ≡ process → f.number < number) w.counted

-- the edit is linearized, and this is its head
pub record IsIn (w : PlainWorld) (e : PlainEdit) (own : ℕ) : Type 0 where
  pub below : AreBelow w e.process (e.number + 1)
  pub head : IsHeadBy (of_cell e.cell w.counted) own e

-- an edit that no crash takes: its head or a later one is persisted
pub record IsSafe (w : PlainWorld) (e : PlainEdit) : Type 0 where
  pub own : ℕ
  pub head : IsHeadBy (of_cell e.cell w.counted) own e
  pub persisted : own ≤ w.memory.persisted (place.Head e.cell)

-- no crash takes the edit, and it is its process's last linearized one
pub record IsSafelyIn (w : PlainWorld) (e : PlainEdit) : Type 0 where
  pub below : AreBelow w e.process (e.number + 1)
  pub safe : IsSafe w e

-- whether the edit is linearized, and whether a crash can take it, is as `Standing` says
abbrev pub StandsAs : PlainWorld → PlainEdit → Standing → Type 0
StandsAs w e outside = AreBelow w e.process e.number
StandsAs w e (inside own) = IsIn w e own
StandsAs w e safe = IsSafelyIn w e

-- of the edit's record, in this layout, the first n words are stored, and the first m are persisted
pub record IsRecorded (w : PlainWorld) (edition : Edition) (e : PlainEdit) (stored back : ℕ) : Type 0 where
  pub cached : (k : ℕ) → k < stored → w.memory.cached (record_place edition e.process e.number k) ≡ record_word e k
  pub persisted : (k : ℕ) → k < back → w.memory.persisted (record_place edition e.process e.number k) ≡ record_word e k
  pub fewer : back ≤ stored

-- how an ended edit is announced
abbrev pub phase_of : Outcome → Phase
phase_of Done = phase.Done
phase_of (Overtaken noted seen) = phase.NotDone

-- the word of what the edit's process announces
abbrev pub word_of : PlainWorld → PlainEdit → Announced → ℕ
word_of w e last = last_announcement w.counted e.process e.number
word_of w e pending = announcement e.number phase.Pending
word_of w e (ended how) = announcement e.number (phase_of how)

-- the edit's process announces `now`, and on the persisted side that or `before`
pub record IsAnnounced (w : PlainWorld) (e : PlainEdit) (before now : Announced) : Type 0 where
  pub cached : w.memory.cached (place.Announce e.process) ≡ word_of w e now
  pub persisted : (w.memory.persisted (place.Announce e.process) ≡ word_of w e before) ⊎ (w.memory.persisted (place.Announce e.process) ≡ word_of w e now)

-- the word of the index row of a reference that has the edit's bit
abbrev pub row_of : PlainEdit → List ℕ → ℕ → Place
row_of e refs i = index_place (slice_index_or refs i 0) e.cell

-- the edit's cell stands in the rows of its first n references, on both sides
pub record IsIndexedTo (w : PlainWorld) (e : PlainEdit) (refs : List ℕ) (count : ℕ) : Type 0 where
  pub cached : (i : ℕ) → i < count → HasBit (w.memory.cached (row_of e refs i)) e.cell
  pub persisted : (i : ℕ) → i < count → HasBit (w.memory.persisted (row_of e refs i)) e.cell

-- where a reference is given, the edit's cell stands in its row on the cached side
abbrev pub IsOred : PlainWorld → PlainEdit → List ℕ → Option ℕ → Type 0
IsOred w e refs None = Unit {0}
IsOred w e refs (Some i) = HasBit (w.memory.cached (row_of e refs i)) e.cell

-- the edit of this process and number has its done bit persisted
abbrev pub IsDone : PlainWorld → ℕ → ℕ → Type 0
IsDone w process number = HasBit (w.memory.persisted (done_place process number)) number

-- n edits were linearized when the edit noted its cell's head, no fewer than at its issue
pub record IsWhen (w : PlainWorld) (since count : ℕ) : Type 0 where
  pub late : since ≤ count
  pub there : count ≤ length w.counted

-- the head that the edit noted was that of its cell's last edit when it looked, since its issue
pub record IsNoted (w : PlainWorld) (e : PlainEdit) (since : ℕ) (head : Head) : Type 0 where
  pub count : ℕ
  pub when : IsWhen w since count
  pub before : List PlainEdit
  pub by : PlainEdit
  pub parts : of_cell_when w e.cell count ≡ before ++ by ∷ []
  pub process : head.process ≡ by.process
  pub number : head.number ≡ by.number
  pub word : head_word head ≡ head_after_all (before ++ by ∷ [])

-- the noted head was its cell's when the edit looked; it or a later one is persisted; the edit that gave it, where
-- one did, has its done bit persisted
pub record IsHelped (w : PlainWorld) (e : PlainEdit) (since head : ℕ) : Type 0 where
  pub count : ℕ
  pub when : IsWhen w since count
  pub is : head ≡ head_after_all (of_cell_when w e.cell count)
  pub back : head ≤ w.memory.persisted (place.Head e.cell)
  pub done : (before : List PlainEdit) (by : PlainEdit) → of_cell_when w e.cell count ≡ before ++ by ∷ [] → IsDone w by.process by.number

-- the edit noted its cell's head, and then met a later one of the cell
pub record IsLate (w : PlainWorld) (e : PlainEdit) (since noted seen : ℕ) : Type 0 where
  pub count : ℕ
  pub when : IsWhen w since count
  pub is : noted ≡ head_after_all (of_cell_when w e.cell count)
  pub greater : noted < seen
  pub by : PlainEdit
  pub head : IsHeadBy (of_cell e.cell w.counted) seen by

-- this head of the edit's cell, or a later one, is persisted
abbrev pub IsBack : PlainWorld → PlainEdit → Head → Type 0
IsBack w e head = head_word head ≤ w.memory.persisted (place.Head e.cell)

-- what the edit knows of its cell's head holds, as `Noted` says
abbrev pub Knows : PlainWorld → PlainEdit → ℕ → Noted → Type 0
Knows w e since nothing = Unit {0}
Knows w e since (head_noted head) = IsNoted w e since head
Knows w e since (head_back head) = IsNoted w e since head × IsBack w e head
Knows w e since (bit_set head) = IsNoted w e since head × IsBack w e head × HasBit (w.memory.cached (done_place head.process head.number)) head.number
Knows w e since (bit_back head) = IsHelped w e since head
Knows w e since (came_late noted seen) = IsLate w e since noted seen

-- all that an edit that writes this layout knows holds, as `Known` says
pub record Knowing (w : PlainWorld) (edition : Edition) (e : PlainEdit) (refs : List ℕ) (since : ℕ) (k : Known) : Type 0 where
  pub standing : StandsAs w e k.standing
  pub recorded : IsRecorded w edition e k.stored k.back
  pub announced : IsAnnounced w e k.before k.now
  pub indexed : IsIndexedTo w e refs k.indexed
  pub ored : IsOred w e refs k.ored
  pub head : Knows w e since k.head
