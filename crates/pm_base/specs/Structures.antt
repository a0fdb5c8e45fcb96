-- A structure on persistent words, and the calls of its processes: what they say of themselves, and what they owe.
use Rattle.std.specs.Prelude.{ℕ, ◌≡◌, ◌⊎◌, ◌<◌, ◌==◌, if◌then◌else◌, List, [], ◌∷◌, length}
use Rattle.ds_words.specs.declared.access.Class.{Class}
use Rattle.ds_words.specs.declared.access.BufferEntry.{BufferEntry}
use Rattle.ds_words.specs.declared.access.Access.{Access}
use Rattle.ds_words.specs.declared.access.Access.TheVariants.{Nothing, Load, Store, Or, SwapIf, Flush, Back}
use Rattle.ds_words.specs.declared.words.TheConstants.{BUFFER_ENTRIES}
use Rattle.ds_words.specs.Memory.{Memory, Performs, EvictsAt, StopsAt, Crashes}
use Rattle.pm_base.specs.declared.history.Event.{Event}
use Rattle.pm_base.specs.declared.history.Event.TheVariants.{Begin, Step, Evict, Stop, Crash}

-- the function with another value at one place
abbrev pub put : {X : Type 0} → (ℕ → X) → ℕ → X → ℕ → X
put f p x q = if q == p then x else f q

-- x stands in the list
abbrev pub In : {X : Type 0} → List X → X → Type 0
In [] x = ⊥
In (y ∷ ys) x = (y ≡ x) ⊎ In ys x

-- a memory, what each process does, and what no word says
pub record World (S H : Type 0) : Type 0 where
  pub memory : Memory ℕ
  pub situation : ℕ → S
  pub hidden : H

-- a structure, by its layout K, by what a process does, S, and by what it is answered, T.
-- Of words: how many there are, how many of the first ones share no line of a cache, the class of each, and what each is
-- at first, on both sides.
-- Of processes: how many there are, what each does at first, and what each does after a stop or a crash.
-- Of calls: whether a process that does the one thing may begin the other; and whether it may make this access, and,
-- answered with this number, go on to the other thing and be answered this.
-- Of what no word says, the hidden part: what it is at first, and what an event that leads to this memory makes of it.
-- Of worlds: which are sound, and when what a process was answered is true
pub record Structure (K S T : Type 0) : Type 1 where
  pub Hidden : Type 0
  pub words : K → ℕ
  pub apart : K → ℕ
  pub class_in : K → ℕ → Class
  pub first_word : K → ℕ → ℕ
  pub processes : K → ℕ
  pub first : S
  pub stopped : S
  pub begins : K → ℕ → S → S → Type 0
  pub steps : K → ℕ → S → Access ℕ → ℕ → S → List T → Type 0
  pub first_hidden : K → Hidden
  pub hidden_after : K → World S Hidden → Event S → Memory ℕ → Hidden
  pub sound : K → World S Hidden → Type 0
  pub is_right : K → World S Hidden → ℕ → T → Type 0

-- calls of one kind, C, which end in E: the process of a call; whether the process may begin it where it does this; what
-- the process does in the call, and after it where the call is over; what it is answered at its last step; the access of the
-- next step; the call after a step that was answered so; whether a step is left, or the call has ended so; that it is
-- one of the structure's; and how many steps are left at most
pub record Calls (K S T C E : Type 0) : Type 1 where
  pub process : C → ℕ
  pub begins : K → S → C → Type 0
  pub doing : C → S
  pub says : C → List T
  pub access : K → C → Access ℕ
  pub next : C → ℕ → C
  pub goes : C → Type 0
  pub ends : C → E → Type 0
  pub fits : K → C → Type 0
  pub rank : C → ℕ

-- a call of this kind may begin
pub record BeginsOf {K S T C E : Type 0} (c : Calls K S T C E) (key : K) (p : ℕ) (now after : S) : Type 0 where
  pub call : C
  pub fits : c.fits key call
  pub goes : c.goes call
  pub own : c.process call ≡ p
  pub may : c.begins key now call
  pub lands : after ≡ c.doing call

-- a call of this kind takes a step
pub record StepsOf {K S T C E : Type 0} (c : Calls K S T C E) (key : K) (p : ℕ) (now : S) (access : Access ℕ) (answer : ℕ) (after : S) (says : List T) : Type 0 where
  pub call : C
  pub fits : c.fits key call
  pub goes : c.goes call
  pub own : c.process call ≡ p
  pub at : now ≡ c.doing call
  pub asks : access ≡ c.access key call
  pub lands : after ≡ c.doing (c.next call answer)
  pub tells : says ≡ c.says (c.next call answer)

-- the oldest entry is one for a word that is there
abbrev pub HasFirst : ℕ → List (BufferEntry ℕ) → Type 0
HasFirst words [] = ⊥
HasFirst words (x ∷ rest) = x.place < words

-- the access is of a word that is there, and the buffer has the room or the entry for it
abbrev pub Serves : ℕ → Access ℕ → List (BufferEntry ℕ) → Type 0
Serves words Nothing buffer = Unit {0}
Serves words (Load n) buffer = n < words
Serves words (Store n value) buffer = n < words
Serves words (Or n bits) buffer = n < words
Serves words (SwapIf n expected value) buffer = n < words
Serves words (Flush n) buffer = (n < words) × (length buffer < BUFFER_ENTRIES)
Serves words Back buffer = HasFirst words buffer

module _ {K S T : Type 0} (s : Structure K S T) (key : K) where
  -- a world of the structure
  abbrev pub Plain : Type 0
  Plain = World S s.Hidden

  -- each word is what it is at first on both sides, and each buffer is empty
  pub record IsFirst (memory : Memory ℕ) : Type 0 where
    pub cached : (r : ℕ) → r < s.words key → memory.cached r ≡ s.first_word key r
    pub persisted : (r : ℕ) → r < s.words key → memory.persisted r ≡ s.first_word key r
    pub buffer : (q : ℕ) → memory.buffer q ≡ []

  -- the world of a new structure with this memory
  abbrev pub first_world : Memory ℕ → Plain
  first_world memory = record { memory = memory; situation = λ q. s.first; hidden = s.first_hidden key }

  -- the world to which an event leads, with this memory and these situations
  abbrev pub world_after : Plain → Event S → Memory ℕ → (ℕ → S) → Plain
  world_after w event memory situation = record { memory = memory; situation = situation; hidden = s.hidden_after key w event memory }

  -- ... where a process begins a call
  abbrev pub after_begin : Plain → ℕ → S → Plain
  after_begin w p now = world_after w (Begin p now) w.memory (put w.situation p now)

  -- ... where it takes a step
  abbrev pub after_step : Plain → ℕ → S → Memory ℕ → Plain
  after_step w p now memory = world_after w (Step p) memory (put w.situation p now)

  -- ... where a word is evicted
  abbrev pub after_evict : Plain → ℕ → Memory ℕ → Plain
  after_evict w n memory = world_after w (Evict n) memory w.situation

  -- ... where a process stops
  abbrev pub after_stop : Plain → ℕ → Memory ℕ → Plain
  after_stop w p memory = world_after w (Stop p) memory (put w.situation p s.stopped)

  -- ... where all crashes
  abbrev pub after_crash : Plain → Memory ℕ → Plain
  after_crash w memory = world_after w Crash memory (λ q. s.stopped)

  -- what was answered in the one world is true in the other
  abbrev pub Keeps : Plain → Plain → Type 0
  Keeps w w' = (q : ℕ) (t : T) → s.is_right key w q t → s.is_right key w' q t

  -- the other world is sound, and what was answered is true there
  pub record Goes (w w' : Plain) : Type 0 where
    pub sound : s.sound key w'
    pub keeps : Keeps w w'

  -- so is what the process is answered by the step
  pub record GoesTelling (w w' : Plain) (p : ℕ) (says : List T) : Type 0 where
    pub sound : s.sound key w'
    pub keeps : Keeps w w'
    pub tells : (t : T) → In says t → s.is_right key w' p t

  -- what a structure owes: a new one is sound; each event leads from a sound world to a sound world, what was answered stays
  -- true, and what is answered is true
  pub record IsStructure : Type 0 where
    pub opens : (memory : Memory ℕ) → IsFirst memory → s.sound key (first_world memory)
    pub begins : (w : Plain) (p : ℕ) (now : S) → s.sound key w → p < s.processes key → s.begins key p (w.situation p) now → Goes w (after_begin w p now)
    pub steps : (w : Plain) (p : ℕ) (access : Access ℕ) (answer : ℕ) (now : S) (says : List T) (memory : Memory ℕ) → s.sound key w → p < s.processes key
        → s.steps key p (w.situation p) access answer now says → Performs (s.class_in key) access p w.memory memory answer → GoesTelling w (after_step w p now memory) p says
    pub evicts : (w : Plain) (n : ℕ) (memory : Memory ℕ) → s.sound key w → n < s.words key → EvictsAt n w.memory memory → Goes w (after_evict w n memory)
    pub stops : (w : Plain) (p : ℕ) (memory : Memory ℕ) → s.sound key w → p < s.processes key → StopsAt p w.memory memory → Goes w (after_stop w p memory)
    pub crashes : (w : Plain) (memory : Memory ℕ) → s.sound key w → Crashes w.memory memory → Goes w (after_crash w memory)

  module _ {C E : Type 0} (c : Calls K S T C E) where
    -- what calls of a kind owe: a call that may begin is one that the structure lets begin, and nothing is under way then;
    -- in a sound world each step finds its word, and room or an entry in the buffer; each step is one of the structure's;
    -- the process stays; and a call that has ended takes no step
    pub record AreCalls : Type 0 where
      pub begins : (w : Plain) (call : C) → s.sound key w → c.process call < s.processes key → c.fits key call → c.goes call → c.begins key (w.situation (c.process call)) call
          → s.begins key (c.process call) (w.situation (c.process call)) (c.doing call) × (w.memory.buffer (c.process call) ≡ [])
      pub serves : (w : Plain) (call : C) → s.sound key w → c.process call < s.processes key → w.situation (c.process call) ≡ c.doing call → c.fits key call → c.goes call → Serves (s.words key) (c.access key call) (w.memory.buffer (c.process call))
      pub steps : (call : C) (answer : ℕ) → c.fits key call → c.goes call → s.steps key (c.process call) (c.doing call) (c.access key call) answer (c.doing (c.next call answer)) (c.says (c.next call answer))
      pub process : (call : C) (answer : ℕ) → c.process (c.next call answer) ≡ c.process call
      pub apart : (call : C) (end : E) → c.goes call → c.ends call end → ⊥

    -- in a sound world, a call of this kind may begin; so much of a structure's `begins` is by kind
    abbrev pub KindBegins : Type 0
    KindBegins = (w : Plain) (call : C) → s.sound key w → c.process call < s.processes key → c.fits key call → c.goes call → c.begins key (w.situation (c.process call)) call → Goes w (after_begin w (c.process call) (c.doing call))

    -- a step of a call of this kind leads to a sound world, and what it tells is true; so much of a structure's `steps` is
    -- by kind
    abbrev pub KindSteps : Type 0
    KindSteps = (w : Plain) (call : C) (memory : Memory ℕ) (answer : ℕ) → s.sound key w → c.process call < s.processes key → w.situation (c.process call) ≡ c.doing call → c.fits key call → c.goes call
        → Performs (s.class_in key) (c.access key call) (c.process call) w.memory memory answer → GoesTelling w (after_step w (c.process call) (c.doing (c.next call answer)) memory) (c.process call) (c.says (c.next call answer))

-- the call came here from another by its own steps, each with the word that it found
pub data Came {K S T C E : Type 0} (c : Calls K S T C E) (first : C) : C → Type 0 where
  still : Came c first first
  steps : (call : C) (word : ℕ) → Came c first call → c.goes call → Came c first (c.next call word)
