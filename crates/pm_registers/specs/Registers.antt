-- Registers as a structure: when a world of them is sound, and what was answered is true.
use Rattle.std.specs.Prelude.{ℕ, ◌≡◌, ◌≢◌, ◌⊎◌, ◌+◌, ◌*◌, ◌<◌, ◌≤◌, ◌==◌, nat_le, if◌then◌else◌, true, false, List, [], ◌∷◌}
use Rattle.ds_words.specs.declared.access.Class.TheVariants.{Stamped}
use Rattle.ds_words.specs.declared.access.BufferEntry.{BufferEntry}
use Rattle.ds_words.specs.Memory.{Memory}
use Rattle.pm_base.specs.Structures.{In, World, Structure, Calls, BeginsOf, StepsOf, put}
use Rattle.pm_base.specs.declared.history.Event.{Event}
use Rattle.pm_base.specs.declared.history.Event.TheVariants.{Step, Crash}
use Rattle.pm_registers.specs.Calls.{write_access, write_next, recover_access, recover_next, recalled}
use Rattle.pm_registers.specs.declared.calls.WriteCall.{WriteCall}
use Rattle.pm_registers.specs.declared.calls.WriteStage.{WriteStage}
use Rattle.pm_registers.specs.declared.calls.WriteStage.TheVariants as write
use Rattle.pm_registers.specs.declared.calls.RecoverCall.{RecoverCall}
use Rattle.pm_registers.specs.declared.calls.RecoverStage.{RecoverStage}
use Rattle.pm_registers.specs.declared.calls.RecoverStage.TheVariants as recover
use Rattle.pm_registers.specs.declared.calls.Doing.{Doing}
use Rattle.pm_registers.specs.declared.calls.Doing.TheVariants.{Idle, Writing, Recovering, Stopped}
use Rattle.pm_registers.specs.declared.calls.Response.{Response}
use Rattle.pm_registers.specs.declared.calls.Response.TheVariants.{Wrote, Recalled}

-- what a register has: both sides of its two words, the buffer of its process, and the values that it had which no
-- crash took back
pub record Own : Type 0 where
  pub announced : ℕ
  pub announced_kept : ℕ
  pub head : ℕ
  pub head_kept : ℕ
  pub buffer : List (BufferEntry ℕ)
  pub had : List ℕ

-- what the register of process p has in this memory, with these values
abbrev pub own_of : Memory ℕ → (ℕ → List ℕ) → ℕ → Own
own_of memory had p = record {
  announced = memory.cached (2 * p);
  announced_kept = memory.persisted (2 * p);
  head = memory.cached (2 * p + 1);
  head_kept = memory.persisted (2 * p + 1);
  buffer = memory.buffer p;
  had = had p;
}

-- an entry for a word that has this value
abbrev pub entry : ℕ → ℕ → BufferEntry ℕ
entry place value = record { place = place; class = Stamped; value = value }

-- what a write knows at its stage
abbrev pub KnowsWrite : ℕ → ℕ → Own → WriteStage → Type 0
KnowsWrite p value o write.StoreAnnounce = (o.buffer ≡ []) × (o.announced ≡ o.announced_kept) × (o.announced < value)
KnowsWrite p value o write.FlushAnnounce = (o.buffer ≡ []) × (o.announced ≡ value) × (o.head < value)
KnowsWrite p value o write.BackAnnounce = (o.buffer ≡ entry (2 * p) value ∷ []) × (o.announced ≡ value) × (o.head < value)
KnowsWrite p value o write.LoadHead = (o.buffer ≡ []) × (o.announced ≡ value) × (o.head < value) × (o.announced_kept ≡ value)
KnowsWrite p value o (write.Swap seen) = (o.buffer ≡ []) × (o.announced ≡ value) × (o.head < value) × (o.announced_kept ≡ value) × (seen ≡ o.head)
KnowsWrite p value o write.FlushHead = (o.buffer ≡ []) × (o.announced ≡ value) × (o.head ≡ value) × (o.announced_kept ≡ value)
KnowsWrite p value o write.BackHead = (o.buffer ≡ entry (2 * p + 1) value ∷ []) × (o.announced ≡ value) × (o.head ≡ value) × (o.announced_kept ≡ value)
KnowsWrite p value o write.Done = ⊥

-- what a recovery knows at its stage
abbrev pub KnowsRecovery : ℕ → Own → RecoverStage → Type 0
KnowsRecovery p o recover.LoadAnnounce = o.buffer ≡ []
KnowsRecovery p o (recover.FlushAnnounce last) = (o.buffer ≡ []) × (o.announced ≡ last)
KnowsRecovery p o (recover.BackAnnounce last) = (o.buffer ≡ entry (2 * p) last ∷ []) × (o.announced ≡ last)
KnowsRecovery p o (recover.LoadHead last) = (o.buffer ≡ []) × (o.announced ≡ last) × (o.announced_kept ≡ last)
KnowsRecovery p o (recover.FlushHead last head) = (o.buffer ≡ []) × (o.announced ≡ last) × (o.announced_kept ≡ last) × (o.head ≡ head)
KnowsRecovery p o (recover.BackHead last head) = (o.buffer ≡ entry (2 * p + 1) head ∷ []) × (o.announced ≡ last) × (o.announced_kept ≡ last) × (o.head ≡ head)
KnowsRecovery p o (recover.Done last head) = ⊥

-- what a process knows
abbrev pub Knows : ℕ → Own → Doing → Type 0
Knows p o (Idle last) = (o.buffer ≡ []) × (o.announced ≡ last) × (o.announced_kept ≡ last)
Knows p o (Writing c) = (c.process ≡ p) × KnowsWrite p c.value o c.stage
Knows p o (Recovering c) = (c.process ≡ p) × KnowsRecovery p o c.stage
Knows p o Stopped = o.buffer ≡ []

-- the register is as it should be: persisted sides are below the cached ones, the head below the announcement that
-- is kept, and the values that it had are those up to its head
pub record IsWell (p : ℕ) (o : Own) (now : Doing) : Type 0 where
  pub announced : o.announced_kept ≤ o.announced
  pub head : o.head_kept ≤ o.head
  pub follows : o.head ≤ o.announced_kept
  pub has : In o.had o.head
  pub has_kept : In o.had o.head_kept
  pub most : (v : ℕ) → In o.had v → v ≤ o.head
  pub knows : Knows p o now

-- the values up to this one
abbrev pub up_to : ℕ → List ℕ → List ℕ
up_to most [] = []
up_to most (v ∷ vs) = if nat_le v most then v ∷ up_to most vs else up_to most vs

-- the process does not write the value
abbrev pub LeavesOut : ℕ → Doing → Type 0
LeavesOut v (Writing c) = c.value ≢ v
LeavesOut v _ = Unit {0}

-- an answer is true, for good: the value is one that the register had, and its head is persisted up to there; or it is none, and will not be one
abbrev pub IsTrueResponse : Own → Doing → Response → Type 0
IsTrueResponse o now (Wrote v) = In o.had v × (v ≤ o.head_kept)
IsTrueResponse o now (Recalled v true) = In o.had v × (v ≤ o.head_kept)
IsTrueResponse o now (Recalled v false) = (In o.had v → ⊥) × (v ≤ o.announced_kept) × LeavesOut v now

-- what a process does in a write, and after it; and what it is answered at its last step
abbrev pub write_doing : WriteCall → WriteStage → Doing
write_doing c write.Done = Idle c.value
write_doing c stage = Writing (record c { stage = stage })

-- what the process is answered at the last step of a write
abbrev pub write_says : WriteCall → WriteStage → List Response
write_says c write.Done = Wrote c.value ∷ []
write_says c _ = []

-- a step of the write is left
abbrev pub WriteGoes : WriteStage → Type 0
WriteGoes write.Done = ⊥
WriteGoes _ = Unit {0}

-- how many steps of it are left
abbrev pub write_rank : WriteStage → ℕ
write_rank write.StoreAnnounce = 7
write_rank write.FlushAnnounce = 6
write_rank write.BackAnnounce = 5
write_rank write.LoadHead = 4
write_rank (write.Swap seen) = 3
write_rank write.FlushHead = 2
write_rank write.BackHead = 1
write_rank write.Done = 0

-- a write may begin with a value that is above all that the process announced
abbrev pub MayWrite : Doing → WriteCall → Type 0
MayWrite (Idle last) c = (last < c.value) × (c.stage ≡ write.StoreAnnounce)
MayWrite _ c = ⊥

-- the writes of registers, as calls
abbrev pub writes : Calls ℕ Doing Response WriteCall ℕ
writes = record {
  process = λ c. c.process;
  begins = λ n now c. MayWrite now c;
  doing = λ c. write_doing c c.stage;
  says = λ c. write_says c c.stage;
  access = λ n c. write_access c;
  next = write_next;
  goes = λ c. WriteGoes c.stage;
  ends = λ c e. (c.stage ≡ write.Done) × (e ≡ c.value);
  fits = λ n c. (c.process < n) × (n < 4294967296);
  rank = λ c. write_rank c.stage;
}

-- what a process does in a recovery, and after it
abbrev pub recover_doing : RecoverCall → RecoverStage → Doing
recover_doing c (recover.Done last head) = Idle last
recover_doing c stage = Recovering (record c { stage = stage })

-- what it is answered at the last step
abbrev pub recover_says : RecoverStage → List Response
recover_says (recover.Done last head) = recalled last head ∷ []
recover_says _ = []

-- a step of the recovery is left
abbrev pub RecoverGoes : RecoverStage → Type 0
RecoverGoes (recover.Done last head) = ⊥
RecoverGoes _ = Unit {0}

-- how many steps of it are left
abbrev pub recover_rank : RecoverStage → ℕ
recover_rank recover.LoadAnnounce = 6
recover_rank (recover.FlushAnnounce last) = 5
recover_rank (recover.BackAnnounce last) = 4
recover_rank (recover.LoadHead last) = 3
recover_rank (recover.FlushHead last head) = 2
recover_rank (recover.BackHead last head) = 1
recover_rank (recover.Done last head) = 0

-- a process that has stopped may begin a recovery
abbrev pub MayRecover : Doing → RecoverCall → Type 0
MayRecover Stopped c = c.stage ≡ recover.LoadAnnounce
MayRecover _ c = ⊥

-- the recoveries of registers, as calls
abbrev pub recoveries : Calls ℕ Doing Response RecoverCall Response
recoveries = record {
  process = λ c. c.process;
  begins = λ n now c. MayRecover now c;
  doing = λ c. recover_doing c c.stage;
  says = λ c. recover_says c.stage;
  access = λ n c. recover_access c;
  next = recover_next;
  goes = λ c. RecoverGoes c.stage;
  ends = λ c e. (last : ℕ) × (head : ℕ) × (c.stage ≡ recover.Done last head) × (e ≡ recalled last head);
  fits = λ n c. (c.process < n) × (n < 4294967296);
  rank = λ c. recover_rank c.stage;
}

-- the values that the register had, after a step of a write that found its head so: a swap that hits gives it a value
abbrev pub had_after : ℕ → WriteStage → ℕ → List ℕ → List ℕ
had_after value (write.Swap seen) head had = if head == seen then value ∷ had else had
had_after value _ head had = had

-- so they are after a step of a process that does this
abbrev pub had_in : Doing → ℕ → List ℕ → List ℕ
had_in (Writing c) head had = had_after c.value c.stage head had
had_in _ head had = had

-- so they are after an event: a crash takes back those that no persisted head has reached
abbrev pub had_then : World Doing (ℕ → List ℕ) → Event Doing → ℕ → List ℕ
had_then w (Step p) = put w.hidden p (had_in (w.situation p) (w.memory.cached (2 * p + 1)) (w.hidden p))
had_then w Crash = λ p. up_to (w.memory.persisted (2 * p + 1)) (w.hidden p)
had_then w _ = w.hidden

-- the structure of n registers: a process has one. Hidden are the values that each had which no crash took back, the
-- last one first
abbrev pub registers : Structure ℕ Doing Response
registers = record {
  Hidden = ℕ → List ℕ;
  words = λ n. 2 * n;
  class_in = λ n r. Stamped;
  apart = λ n. 2 * n;
  first_word = λ n r. 0;
  processes = λ n. n;
  first = Idle 0;
  stopped = Stopped;
  begins = λ n p now after. BeginsOf writes n p now after ⊎ BeginsOf recoveries n p now after;
  steps = λ n p now access answer after says. StepsOf writes n p now access answer after says ⊎ StepsOf recoveries n p now access answer after says;
  first_hidden = λ n p. 0 ∷ [];
  hidden_after = λ n w event memory. had_then w event;
  sound = λ n w. (p : ℕ) → p < n → IsWell p (own_of w.memory w.hidden p) (w.situation p);
  is_right = λ n w p t. (p < n) × IsTrueResponse (own_of w.memory w.hidden p) (w.situation p) t;
}
