-- What the steps of calls owe to the table's rule, and where a call has come.
use Rattle.std.specs.Prelude.{ℕ, ◌≡◌, ◌⊎◌, ◌+◌, ◌≤◌, suc, Bool, true, false, if◌then◌else◌, List, [], ◌∷◌, ◌++◌, map, Some}
use Rattle.atomic_table.specs.Table.{Me, Allows}
use Rattle.ds_words.specs.declared.access.BufferEntry.{BufferEntry}
use Rattle.pm_base.specs.Structures.{Structure, Calls, Serves}
use Rattle.pm_base.specs.Runs.{deeds_by}
use Rattle.pm_base.specs.declared.history.Deed.{Deed}
use Rattle.pm_base.specs.declared.history.Deed.TheVariants.{Began, Response}
use Rattle.pm_base.specs.declared.history.Entry.{Entry}
use Rattle.pm_board.specs.declared.board.Deeds.{Deeds}
use Rattle.pm_board.specs.declared.board.Seated.{Seated}
use Rattle.pm_board.specs.declared.board.View.{View}
use Rattle.pm_board.specs.Table.{word_of, change, answer, reported, oldest_of, buffer_after}
use Rattle.pm_board.specs.Views.{lone, seated, one_step_later, deeds_at, deeds_in, seen_so_far}
use Rattle.pm_board.specs.Rule.{Start, Ruled}

-- the things, as deeds
abbrev pub answered_so : {S T : Type 0} → List T → List (Deed S T)
answered_so ts = map Response ts

-- between these two the process took n steps, and what it did more is just what stands of it in the entries by which the
-- history that it has seen grew
pub record Grows {S T : Type 0} (p : ℕ) (old new : Deeds S T) (n : ℕ) : Type 0 where
  pub late : List (Entry S T)
  pub seen : new.seen ≡ Some (late ++ seen_so_far old.seen)
  pub done : new.done ≡ deeds_by p late ++ old.done
  pub steps : new.steps ≡ old.steps + n

-- the call came here from another by n steps of its own, each with the word that it found, and was answered this on the way,
-- the last thing first
pub data Ran {K S T C E : Type 0} (c : Calls K S T C E) (first : C) : C → List T → ℕ → Type 0 where
  still : Ran c first first [] 0
  steps : (call : C) (ts : List T) (n word : ℕ) → Ran c first call ts n → c.goes call → Ran c first (c.next call word) (c.says (c.next call word) ++ ts) (suc n)

module _ {K S T C E : Type 0} (s : Structure K S T) (c : Calls K S T C E) (key : K) where
  -- the call after a step that found this number
  abbrev pub stepped : C → ℕ → C
  stepped call found = c.next call (answer (c.access key call) found)

  -- the buffer after it
  abbrev pub left : C → List (BufferEntry ℕ) → ℕ → List (BufferEntry ℕ)
  left call x found = buffer_after (s.class_in key) (c.access key call) x found

  -- where a step is left, the buffer serves it
  abbrev pub IsServed : C → List (BufferEntry ℕ) → Type 0
  IsServed call x = c.fits key call → c.goes call → Serves (s.words key) (c.access key call) x

  -- what a step of the call does beside: it begins the call, where it is the first one
  abbrev pub due : Bool → C → List (Deed S T)
  due begun call = if begun then [] else Began (c.doing call) ∷ []

  -- where a step of the call that found this number lands: the process is where the call has come, and has seen all that
  -- happened until now; what it did more is what stands in the history since it last looked
  pub record Landed (begun : Bool) (me : Me ℕ (View S T)) (call : C) (x : List (BufferEntry ℕ)) (found : ℕ) (v : View S T) : Type 0 where
    pub seen : List (Entry S T)
    pub at : v ≡ lone (seated (c.process (stepped call found)) (c.doing (stepped call found)) (left call x found) (one_step_later (deeds_at me) (answered_so (c.says (stepped call found)) ++ due begun call) seen))
    pub grows : Grows (c.process call) (deeds_at me) (deeds_in v.entries) 1
    pub serves : IsServed (stepped call found) (left call x found)

  -- the step of the call is one that the rule allows
  abbrev pub MayStep : Start → ℕ → ℕ → Bool → Me ℕ (View S T) → C → List (BufferEntry ℕ) → Type 0
  MayStep start slots id begun me call x = Allows (Ruled s key {X = ℕ} start) slots id me (word_of (s.apart key) (c.access key call) (oldest_of x)) (change (c.access key call) (oldest_of x))
      (λ n m'. (m'.1 ≡ me.1) × Landed begun me call x (reported (c.access key call) (oldest_of x) n) m'.0)

  -- the process may begin the call: from what it does, or after a stop
  abbrev pub MayBegin : S → C → Type 0
  MayBegin now call = c.begins key now call ⊎ c.begins key s.stopped call

  -- the seat of a call that may begin: it runs the one process, which has looked
  pub record CanBegin (me : Me ℕ (View S T)) (call : C) : Type 0 where
    pub seat : Seated S T
    pub at : me ≡ (lone seat, [])
    pub own : seat.process ≡ c.process call
    pub seen : List (Entry S T)
    pub looked : seat.deeds.seen ≡ Some seen
    pub may : MayBegin seat.now call

  -- the seat of a call that has come here from its beginning: its process began it, was answered this on the way, and did
  -- nothing else
  pub record IsIn (first : C) (old me : Me ℕ (View S T)) (call : C) (x : List (BufferEntry ℕ)) (n : ℕ) : Type 0 where
    pub responses : List T
    pub ran : Ran c first call responses n
    pub held : Deeds S T
    pub at : me ≡ (lone (seated (c.process call) (c.doing call) x held), [])
    pub done : held.done ≡ answered_so responses ++ (Began (c.doing first) ∷ (deeds_at old).done)
    pub grows : Grows (c.process first) (deeds_at old) held n

  -- before its first step, or in it
  pub data Drives (first : C) (old : Me ℕ (View S T)) : Bool → Me ℕ (View S T) → C → List (BufferEntry ℕ) → ℕ → Type 0 where
    unbegun : CanBegin old first → c.goes first → Drives first old false old first [] 0
    under_way : (me : Me ℕ (View S T)) (call : C) (x : List (BufferEntry ℕ)) (n : ℕ) → IsIn first old me call x n → Drives first old true me call x n

  -- the call has ended so after n steps; those and what it has left are no more than it had left
  pub record Settles (first : C) (old me : Me ℕ (View S T)) (call : C) (end : E) (n : ℕ) : Type 0 where
    pub ends : c.ends call end
    pub buffer : List (BufferEntry ℕ)
    pub is : IsIn first old me call buffer n
    pub few : n + c.rank call ≤ c.rank first

  -- the call was broken off after n steps: before its first step, and the seat is as it was; or after a step, where it goes on
  pub data Breaks (first : C) (old : Me ℕ (View S T)) : Me ℕ (View S T) → C → ℕ → Type 0 where
    before_all : Breaks first old old first 0
    within : (me : Me ℕ (View S T)) (call : C) (x : List (BufferEntry ℕ)) (n : ℕ) → IsIn first old me call x n → n ≤ c.rank first → c.goes call → Breaks first old me call n
