-- What a run of registers says of what was answered on it.
use Rattle.std.specs.Prelude.{ℕ, ◌≡◌, ◌≢◌, ◌↔◌, ◌<◌, ◌≤◌, Bool, IsTrue, List, [], ◌∷◌, ◌++◌}
use Rattle.pm_base.specs.Structures.{In, World}
use Rattle.pm_base.specs.Runs.{Happened, Run, IsNew, deeds_by, history_of}
use Rattle.pm_base.specs.declared.history.Deed.TheVariants as deed
use Rattle.pm_base.specs.declared.history.Event.{Event}
use Rattle.pm_base.specs.declared.history.Event.TheVariants.{Begin, Step, Evict, Stop, Crash}
use Rattle.pm_registers.specs.Registers.{registers, had_then}
use Rattle.pm_registers.specs.declared.calls.RecoverCall.{RecoverCall}
use Rattle.pm_registers.specs.declared.calls.WriteCall.{WriteCall}
use Rattle.pm_registers.specs.declared.calls.WriteStage.TheVariants as write
use Rattle.pm_registers.specs.declared.calls.Doing.{Doing}
use Rattle.pm_registers.specs.declared.calls.Doing.TheVariants.{Idle, Writing, Recovering}
use Rattle.pm_registers.specs.declared.calls.Response.{Response}
use Rattle.pm_registers.specs.declared.calls.Response.TheVariants.{Wrote, Recalled}

-- what was answered is true: a value that was written is one that the register has had, and so is one that a recovery
-- recalled, exactly where it said so
abbrev pub IsTrueOf : World Doing (ℕ → List ℕ) → ℕ → Response → Type 0
IsTrueOf w p (Wrote v) = In (w.hidden p) v
IsTrueOf w p (Recalled v had) = IsTrue had ↔ In (w.hidden p) v

-- whatever happens to n new registers, what a process was answered is true from then on
abbrev pub RunsTellTheTruth : ℕ → Type 0
RunsTellTheTruth n = (first last : World Doing (ℕ → List ℕ)) (hs : List (Happened registers n)) (p : ℕ) (t : Response) → IsNew registers n first → Run registers n first hs last
    → In (deeds_by p (history_of registers n hs)) (deed.Response t) → IsTrueOf last p t

-- ---- linearization points

-- a write before its first step
abbrev pub first_write : ℕ → ℕ → WriteCall
first_write process value = record { process = process; value = value; stage = write.StoreAnnounce }

-- the event neither ends a call of the process nor begins another
abbrev pub LeavesOpen : ℕ → Event Doing → Type 0
LeavesOpen p (Begin q call) = q ≢ p
LeavesOpen p (Step q) = Unit {0}
LeavesOpen p (Evict r) = Unit {0}
LeavesOpen p (Stop q) = q ≢ p
LeavesOpen p Crash = ⊥

-- so it is with each of these
abbrev pub AllLeaveOpen : (n : ℕ) → ℕ → List (Happened registers n) → Type 0
AllLeaveOpen n p [] = Unit {0}
AllLeaveOpen n p (h ∷ hs) = LeavesOpen p h.entry.event × AllLeaveOpen n p hs

-- a write of this value by the process has begun, and is under way
pub record IsOpen (n : ℕ) (hs : List (Happened registers n)) (p v : ℕ) : Type 0 where
  pub since : List (Happened registers n)
  pub begin : Happened registers n
  pub before : List (Happened registers n)
  pub parts : hs ≡ since ++ (begin ∷ before)
  pub begins : begin.entry.event ≡ Begin p (Writing (first_write p v))
  pub open_since : AllLeaveOpen n p since

-- it has taken effect, by one step of its own, its linearization point: that put the value to those that the register has
-- had
pub record TookEffect (n : ℕ) (hs : List (Happened registers n)) (p v : ℕ) : Type 0 where
  pub since : List (Happened registers n)
  pub point : Happened registers n
  pub before : List (Happened registers n)
  pub parts : hs ≡ since ++ (point ∷ before)
  pub steps : point.entry.event ≡ Step p
  pub effect : had_then point.before (Step p) p ≡ v ∷ point.before.hidden p
  pub open_since : AllLeaveOpen n p since
  pub was_open : IsOpen n before p v

-- each write that is answered took effect between its begin and its answer
abbrev pub WritesLinearize : ℕ → Type 0
WritesLinearize n = (first last : World Doing (ℕ → List ℕ)) (h : Happened registers n) (hs : List (Happened registers n)) (p v : ℕ) → IsNew registers n first → Run registers n first (h ∷ hs) last
    → h.entry.event ≡ Step p → In h.entry.responses (Wrote v) → TookEffect n hs p v

-- a recovery that ends recalls the value that its process announced last, and the register has had no later one
abbrev pub RecoveriesRecallTheLast : ℕ → Type 0
RecoveriesRecallTheLast n = (first last : World Doing (ℕ → List ℕ)) (h : Happened registers n) (hs : List (Happened registers n)) (p v : ℕ) (c : RecoverCall) → p < n → IsNew registers n first → Run registers n first (h ∷ hs) last
    → h.entry.event ≡ Step p → h.before.situation p ≡ Recovering c → last.situation p ≡ Idle v
    → ((had : Bool) × (h.entry.responses ≡ Recalled v had ∷ [])) × ((x : ℕ) → In (last.hidden p) x → x ≤ v)
