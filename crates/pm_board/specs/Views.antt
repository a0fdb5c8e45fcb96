-- What a seat knows: for each of its processes what that does, and what it has done.
use Rattle.std.specs.Prelude.{ℕ, ◌≡◌, ◌+◌, zero, suc, Bool, true, false, List, [], ◌∷◌, ◌++◌, Option, Some, None}
use Rattle.atomic_table.specs.Table.{Me}
use Rattle.atomic_table.specs.declared.shared.Seat.{Seat}
use Rattle.ds_words.specs.declared.access.BufferEntry.{BufferEntry}
use Rattle.pm_base.specs.Structures.{Structure}
use Rattle.pm_base.specs.declared.history.Deed.{Deed}
use Rattle.pm_base.specs.declared.history.Entry.{Entry}
use Rattle.pm_board.specs.declared.board.Deeds.{Deeds}
use Rattle.pm_board.specs.declared.board.Seated.{Seated}
use Rattle.pm_board.specs.declared.board.View.{View}

-- ---- what a process has done

-- nothing, in no step; so much of the history it has seen
abbrev pub nothing_done : {S T : Type 0} → Option (List (Entry S T)) → Deeds S T
nothing_done seen = record { done = []; steps = 0; seen = seen }

-- so much more, by one step; it has then seen this
abbrev pub one_step_later : {S T : Type 0} → Deeds S T → List (Deed S T) → List (Entry S T) → Deeds S T
one_step_later d more seen = record { done = more ++ d.done; steps = d.steps + 1; seen = Some seen }

-- the history that it has seen, and nothing before it has looked
abbrev pub seen_so_far : {S T : Type 0} → Option (List (Entry S T)) → List (Entry S T)
seen_so_far None = []
seen_so_far (Some seen) = seen

-- ---- views

-- a process in this situation, with this buffer, which has done this
abbrev pub seated : {S T : Type 0} → ℕ → S → List (BufferEntry ℕ) → Deeds S T → Seated S T
seated p now buffer deeds = record { process = p; now = now; buffer = buffer; deeds = deeds }

-- the view that has this process alone
abbrev pub lone : {S T : Type 0} → Seated S T → View S T
lone e = record { entries = e ∷ []; past = [] }

-- a process before its first call
abbrev pub newcomer : {S T : Type 0} → S → Option (List (Entry S T)) → ℕ → Seated S T
newcomer now seen p = seated p now [] (nothing_done seen)

-- n processes, from this one on, before their first call
abbrev pub newcomers_from : {S T : Type 0} → S → Option (List (Entry S T)) → ℕ → ℕ → List (Seated S T)
newcomers_from now seen p zero = []
newcomers_from now seen p (suc n) = newcomer now seen p ∷ newcomers_from now seen (suc p) n

-- what each process does at first
abbrev pub first_now : {K S T : Type 0} → Structure K S T → Bool → S
first_now s true = s.stopped
first_now s false = s.first

-- what each process has seen at first: of a new structure all, which is nothing; of one that is opened again it has not
-- looked
abbrev pub first_seen : {S T : Type 0} → Bool → Option (List (Entry S T))
first_seen true = None
first_seen false = Some []

-- the view that has every process, and this past; each has seen this
abbrev pub whole_view : {K S T : Type 0} → Structure K S T → K → Bool → Option (List (Entry S T)) → List (Seated S T) → View S T
whole_view s key stopped seen past = record { entries = newcomers_from (first_now s stopped) seen 0 (s.processes key); past = past }

-- so it is when the table is made
abbrev pub first_view : {K S T : Type 0} → Structure K S T → K → Bool → List (Seated S T) → View S T
first_view s key stopped past = whole_view s key stopped (first_seen stopped) past

-- what was done at boards before, where this seat remembers it
abbrev pub past_of : {S T : Type 0} → Option (Seat ℕ (View S T)) → List (Seated S T)
past_of None = []
past_of (Some seat) = seat.me.0.past

-- the first process of a view
abbrev pub first_in : {S T : Type 0} → S → List (Seated S T) → Seated S T
first_in now [] = newcomer now None 0
first_in now (e ∷ es) = e

-- the others
abbrev pub others_in : {S T : Type 0} → List (Seated S T) → List (Seated S T)
others_in [] = []
others_in (e ∷ es) = es

-- what the first process of a view has done
abbrev pub deeds_in : {S T : Type 0} → List (Seated S T) → Deeds S T
deeds_in [] = nothing_done None
deeds_in (e ∷ es) = e.deeds

-- what the process of a seat with one process has done
abbrev pub deeds_at : {S T : Type 0} → Me ℕ (View S T) → Deeds S T
deeds_at me = deeds_in me.0.entries

-- the history that it has seen
abbrev pub seen_at : {S T : Type 0} → Me ℕ (View S T) → List (Entry S T)
seen_at me = seen_so_far (deeds_at me).seen

-- the first process, alone
abbrev pub headed : {S T : Type 0} → S → View S T → View S T
headed now v = lone (first_in now v.entries)

-- the other processes, with the past
abbrev pub tailed : {S T : Type 0} → View S T → View S T
tailed v = record { entries = others_in v.entries; past = v.past }

-- the processes of both
abbrev pub united : {S T : Type 0} → View S T → View S T → View S T
united v w = record { entries = v.entries ++ w.entries; past = v.past ++ w.past }

-- no process
abbrev pub nobody : {S T : Type 0} → View S T
nobody = record { entries = []; past = [] }

-- all that a view knows, as what has been
abbrev pub bygone : {S T : Type 0} → View S T → View S T
bygone v = record { entries = []; past = v.past ++ v.entries }

-- the view has the processes from this one on, before their first call
abbrev pub HasRest : {S T : Type 0} → S → Option (List (Entry S T)) → ℕ → ℕ → List (Seated S T) → View S T → Type 0
HasRest now seen p processes past v = (n : ℕ) × (p + n ≡ processes) × (v ≡ record { entries = newcomers_from now seen p n; past = past })

-- the seat runs the processes from this one on, each before its first call; each has looked
pub record RunsFrom {K S T : Type 0} (s : Structure K S T) (key : K) (stopped : Bool) (process : ℕ) (me : Me ℕ (View S T)) : Type 0 where
  pub seen : List (Entry S T)
  pub rest : HasRest (first_now s stopped) (Some seen) process (s.processes key) me.0.past me.0
  pub empty : me.1 ≡ []

-- the seat runs this process alone, which has looked
pub record RunsOne {S T : Type 0} (me : Me ℕ (View S T)) (process : ℕ) : Type 0 where
  pub seat : Seated S T
  pub at : me ≡ (lone seat, [])
  pub own : seat.process ≡ process
  pub seen : List (Entry S T)
  pub looked : seat.deeds.seen ≡ Some seen

-- and the process does this
pub record Sits {S T : Type 0} (me : Me ℕ (View S T)) (process : ℕ) (now : S) : Type 0 where
  pub runs : RunsOne me process
  pub does : runs.seat.now ≡ now
