-- A mark as a structure.
use Rattle.std.specs.Prelude.{ℕ, ◌≡◌, ◌<◌, ◌≤◌, ◌==◌, nat_lt, if◌then◌else◌, Bool, true, false, List, [], ◌∷◌}
use Rattle.ds_words.specs.declared.access.Class.TheVariants.{Stamped}
use Rattle.ds_words.specs.declared.access.BufferEntry.{BufferEntry}
use Rattle.ds_words.specs.declared.access.Access.{Access}
use Rattle.ds_words.specs.declared.access.Access.TheVariants.{Nothing, Load, SwapIf, Flush, Back}
use Rattle.pm_base.specs.Structures.{Structure, Calls, BeginsOf, StepsOf}
use Rattle.pm_mark.specs.declared.mark.Raise.{Raise}
use Rattle.pm_mark.specs.declared.mark.Stage.{Stage}
use Rattle.pm_mark.specs.declared.mark.Stage.TheVariants as stage
use Rattle.pm_mark.specs.declared.mark.Doing.{Doing}
use Rattle.pm_mark.specs.declared.mark.Doing.TheVariants.{Idle, Raising}

-- the stage after a step that was answered so
abbrev pub raise_stage : ℕ → Stage → ℕ → Stage
raise_stage value stage.Load word = if nat_lt word value then stage.Swap word else stage.Flush
raise_stage value (stage.Swap seen) word = if word == seen then stage.Flush else stage.Lost
raise_stage value stage.Flush word = stage.Back
raise_stage value stage.Back word = stage.Done
raise_stage value stage.Done word = stage.Done
raise_stage value stage.Lost word = stage.Lost

-- the raise after such a step
abbrev pub raise_next : Raise → ℕ → Raise
raise_next c word = record c { stage = raise_stage c.value c.stage word }

-- the access of each stage
abbrev pub raise_access_at : ℕ → Stage → Access ℕ
raise_access_at value stage.Load = Load 0
raise_access_at value (stage.Swap seen) = SwapIf 0 seen value
raise_access_at value stage.Flush = Flush 0
raise_access_at value stage.Back = Back
raise_access_at value stage.Done = Nothing
raise_access_at value stage.Lost = Nothing

-- an entry of a write-back buffer for the mark, with this value
abbrev pub entry : ℕ → BufferEntry ℕ
entry value = record { place = 0; class = Stamped; value = value }

-- what a raise knows of the word and of its buffer
abbrev pub KnowsAt : ℕ → ℕ → List (BufferEntry ℕ) → Stage → Type 0
KnowsAt value up buffer stage.Load = buffer ≡ []
KnowsAt value up buffer (stage.Swap seen) = (buffer ≡ []) × (seen < value) × (seen ≤ up)
KnowsAt value up buffer stage.Flush = (buffer ≡ []) × (value ≤ up)
KnowsAt value up buffer stage.Back = (x : ℕ) × (buffer ≡ entry x ∷ []) × (value ≤ x) × (x ≤ up)
KnowsAt value up buffer stage.Done = ⊥
KnowsAt value up buffer stage.Lost = ⊥

-- what a process knows of the word and of its buffer
abbrev pub Knows : ℕ → List (BufferEntry ℕ) → Doing → Type 0
Knows up buffer Idle = buffer ≡ []
Knows up buffer (Raising c) = KnowsAt c.value up buffer c.stage

-- what the process does in a raise, and after it
abbrev pub raise_doing : Raise → Stage → Doing
raise_doing c stage.Done = Idle
raise_doing c stage.Lost = Idle
raise_doing c s = Raising (record c { stage = s })

-- what it is answered at its last step: the value, where the mark is up for good
abbrev pub raise_says : ℕ → Stage → List ℕ
raise_says value stage.Done = value ∷ []
raise_says value _ = []

-- a step is left
abbrev pub RaiseGoes : Stage → Type 0
RaiseGoes stage.Done = ⊥
RaiseGoes stage.Lost = ⊥
RaiseGoes _ = Unit {0}

-- the raise has ended so: the mark is up, or another process was faster
abbrev pub RaiseEnds : Stage → Bool → Type 0
RaiseEnds stage.Done up = up ≡ true
RaiseEnds stage.Lost up = up ≡ false
RaiseEnds _ up = ⊥

-- how many steps are left at most
abbrev pub raise_rank : Stage → ℕ
raise_rank stage.Load = 4
raise_rank (stage.Swap seen) = 3
raise_rank stage.Flush = 2
raise_rank stage.Back = 1
raise_rank stage.Done = 0
raise_rank stage.Lost = 0

-- an idle process may begin a raise at its first stage
abbrev pub MayRaise : Doing → Raise → Type 0
MayRaise Idle c = c.stage ≡ stage.Load
MayRaise _ c = ⊥

-- the raises of a mark, as calls
abbrev pub raises : Calls ℕ Doing ℕ Raise Bool
raises = record {
  process = λ c. c.process;
  begins = λ n now c. MayRaise now c;
  doing = λ c. raise_doing c c.stage;
  says = λ c. raise_says c.value c.stage;
  access = λ n c. raise_access_at c.value c.stage;
  next = raise_next;
  goes = λ c. RaiseGoes c.stage;
  ends = λ c e. RaiseEnds c.stage e;
  fits = λ n c. Unit {0};
  rank = λ c. raise_rank c.stage;
}

-- one word, which its persisted side does not pass; a process is answered a value that the mark has reached for good
abbrev pub mark : Structure ℕ Doing ℕ
mark = record {
  Hidden = Unit {0};
  words = λ n. 1;
  class_in = λ n r. Stamped;
  apart = λ n. 1;
  first_word = λ n r. 0;
  processes = λ n. n;
  first = Idle;
  stopped = Idle;
  begins = λ n p now after. BeginsOf raises n p now after;
  steps = λ n p now access answer after says. StepsOf raises n p now access answer after says;
  first_hidden = λ n. tt;
  hidden_after = λ n w event memory. tt;
  sound = λ n w. (w.memory.persisted 0 ≤ w.memory.cached 0) × ((p : ℕ) → Knows (w.memory.cached 0) (w.memory.buffer p) (w.situation p));
  is_right = λ n w p v. v ≤ w.memory.persisted 0;
}
