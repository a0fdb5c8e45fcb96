-- Runs of a structure: what may happen to it, from a new one on, and what its processes are answered on the way.
use Rattle.std.specs.Prelude.{ℕ, ◌≡◌, ◌<◌, ◌==◌, if◌then◌else◌, List, [], ◌∷◌, ◌++◌, map}
use Rattle.ds_words.specs.declared.access.Access.{Access}
use Rattle.ds_words.specs.Memory.{Performs, EvictsAt, StopsAt, Crashes}
use Rattle.pm_base.specs.Structures.{In, World, Structure, IsFirst, first_world, after_begin, after_step, after_evict, after_stop, after_crash}
use Rattle.pm_base.specs.declared.history.Deed.{Deed}
use Rattle.pm_base.specs.declared.history.Deed.TheVariants.{Began, Response}
use Rattle.pm_base.specs.declared.history.Entry.{Entry}
use Rattle.pm_base.specs.declared.history.Event.{Event}
use Rattle.pm_base.specs.declared.history.Event.TheVariants.{Begin, Step, Evict, Stop, Crash}

-- what an event with what it answered says of what the process did
abbrev pub deeds_of : {S T : Type 0} → ℕ → Event S → List T → List (Deed S T)
deeds_of p (Begin q call) says = if q == p then Began call ∷ [] else []
deeds_of p (Step q) says = if q == p then map Response says else []
deeds_of p (Evict n) says = []
deeds_of p (Stop q) says = []
deeds_of p Crash says = []

-- what the process did in a history, the last thing first: each call that it began, and each thing that it was answered
abbrev pub deeds_by : {S T : Type 0} → ℕ → List (Entry S T) → List (Deed S T)
deeds_by p [] = []
deeds_by p (e ∷ es) = deeds_of p e.event e.responses ++ deeds_by p es

module _ {K S T : Type 0} (s : Structure K S T) (key : K) where
  -- an event, with the world that it came upon and what it answered
  pub record Happened : Type 0 where
    pub before : World S s.Hidden
    pub entry : Entry S T

  -- the process takes the step, and is answered this
  pub record Steps (old : World S s.Hidden) (p : ℕ) (says : List T) (new : World S s.Hidden) : Type 0 where
    pub low : p < s.processes key
    pub access : Access ℕ
    pub answer : ℕ
    pub now : S
    pub takes : s.steps key p (old.situation p) access answer now says
    pub performs : Performs (s.class_in key) access p old.memory new.memory answer
    pub lands : new ≡ after_step s key old p now new.memory

  -- what each event makes of a world, and what it tells
  abbrev pub Moves : World S s.Hidden → Event S → List T → World S s.Hidden → Type 0
  Moves old (Begin p call) says new = (p < s.processes key) × s.begins key p (old.situation p) call × (new ≡ after_begin s key old p call) × (says ≡ [])
  Moves old (Step p) says new = Steps old p says new
  Moves old (Evict n) says new = (n < s.words key) × EvictsAt n old.memory new.memory × (new ≡ after_evict s key old n new.memory) × (says ≡ [])
  Moves old (Stop p) says new = (p < s.processes key) × StopsAt p old.memory new.memory × (new ≡ after_stop s key old p new.memory) × (says ≡ [])
  Moves old Crash says new = Crashes old.memory new.memory × (new ≡ after_crash s key old new.memory) × (says ≡ [])

  -- a run from the first world to the last, the last event first
  abbrev pub Run : World S s.Hidden → List Happened → World S s.Hidden → Type 0
  Run first [] last = last ≡ first
  Run first (h ∷ hs) last = Moves h.before h.entry.event h.entry.responses last × Run first hs h.before

  -- the world is that of a new structure
  pub record IsNew (w : World S s.Hidden) : Type 0 where
    pub memory : IsFirst s key w.memory
    pub is : w ≡ first_world s key w.memory

  -- the events of a run with what they answered, without the worlds
  abbrev pub history_of : List Happened → List (Entry S T)
  history_of [] = []
  history_of (h ∷ hs) = h.entry ∷ history_of hs

  -- whatever happens to a new structure: each world on the way is sound, and all that a process was answered is true from
  -- then on
  pub record RunHolds (hs : List Happened) (last : World S s.Hidden) : Type 0 where
    pub sound : s.sound key last
    pub responses : (p : ℕ) (t : T) → In (deeds_by p (history_of hs)) (Response t) → s.is_right key last p t

  -- so it is with every run from a new structure
  abbrev pub RunsHold : Type 0
  RunsHold = (first last : World S s.Hidden) (hs : List Happened) → IsNew first → Run first hs last → RunHolds hs last
