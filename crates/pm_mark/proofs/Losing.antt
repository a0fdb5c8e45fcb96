-- A raise that ends with no answer has lost to another one.
use Rattle.std.proofs.Common.{ℕ, ◌≡◌, ◌≢◌, ◌<◌, ◌≤◌, ◌∙◌, List, [], ◌∷◌, Bool, true, false, if◌then◌else◌, refl, sym, ap, subst, inl, inr, arith, eq-eqb, ne_eqb}
use Rattle.std.specs.Prelude.{nat_lt}
use mathlib.Core.Logic.{dite}
use native.Mathlib.Decide.{ℕ_discrete}
use Rattle.ds_words.specs.Memory.{Memory, Performs}
use Rattle.ds_words.specs.declared.access.BufferEntry.{BufferEntry}
use Rattle.pm_base.specs.Structures.{World, IsStructure}
use Rattle.pm_base.specs.Runs.{Happened, Moves}
use Rattle.pm_base.specs.declared.history.Event.{Event}
use Rattle.pm_base.specs.declared.history.Event.TheVariants.{Step}
use Rattle.pm_base.proofs.Puts.{put_here}
use Rattle.pm_base.proofs.Running.{runs}
use Rattle.pm_mark.specs.Marks.{mark, KnowsAt, Knows, RaiseGoes, raise_access_at, raise_doing, raise_next, raise_says, raise_stage}
use Rattle.pm_mark.specs.Rises.{RaisesLoseToOthers}
use Rattle.pm_mark.specs.declared.mark.Raise.{Raise}
use Rattle.pm_mark.specs.declared.mark.Stage.{Stage}
use Rattle.pm_mark.specs.declared.mark.Stage.TheVariants as stage
use Rattle.pm_mark.specs.declared.mark.Doing.{Doing}
use Rattle.pm_mark.specs.declared.mark.Doing.TheVariants.{Idle, Raising}
use Rattle.pm_mark.proofs.Rising.{raising}

-- the stage from which this one comes is the swap that missed
abbrev Lost : ℕ → ℕ → Stage → Type 0
Lost up word s = (seen : ℕ) × (s ≡ stage.Swap seen) × (seen < up)

flushes : (b : Bool) (c : Raise) (seen : ℕ) → raise_doing c (if b then stage.Swap seen else stage.Flush) ≡ Idle → ⊥
flushes true c seen is = cc
flushes false c seen is = cc

ends : (n p word : ℕ) (c : Raise) (old new : Memory ℕ) (buffer : List (BufferEntry ℕ)) (s : Stage) → RaiseGoes s → KnowsAt c.value (old.cached 0) buffer s → Performs (mark.class_in n) (raise_access_at c.value s) p old new word
    → (d : Raise) → raise_doing d (raise_stage c.value s word) ≡ Idle → raise_says c.value (raise_stage c.value s word) ≡ [] → Lost (old.cached 0) word s
ends n p word c old new buffer stage.Load go k perf d does says = absurd (flushes (nat_lt word c.value) d word does)
ends n p word c old new buffer (stage.Swap seen) go k perf d does says = dite (ℕ_discrete word seen)
    (λ same. absurd (again same does))
    (λ other. let a = perf.0 in let b = k.2 in (seen, refl, omega (arith, a, b, other)))
  where
    again : word ≡ seen → raise_doing d (raise_stage c.value (stage.Swap seen) word) ≡ Idle → ⊥
    again same is = let at : raise_doing d stage.Flush ≡ Idle = subst (λ (b : Bool). raise_doing d (if b then stage.Flush else stage.Lost) ≡ Idle) (eq-eqb word seen same) is in cc
ends n p word c old new buffer stage.Flush go k perf d does says = absurd (cc)
ends n p word c old new buffer stage.Back go k perf d does says = absurd (cc)
ends n p word c old new buffer stage.Done go k perf d does says = absurd go
ends n p word c old new buffer stage.Lost go k perf d does says = absurd go

pub loses : (n : ℕ) → IsStructure mark n → RaisesLoseToOthers n
loses n structure first last h hs p c new run is was now quiet =
    let m = subst (λ (e : Event Doing). Moves mark n h.before e h.entry.responses last) is run.0 in
    let sound = (runs mark n structure first h.before hs new run.1).sound in
    let d : Raise = m.takes.call in
    let at : h.before.situation p ≡ Raising d = m.takes.at ∙ raising d d.stage m.takes.goes in
    let same : c ≡ d = let both : Raising c ≡ Raising d = sym was ∙ at in cc in
    let knows : Knows (h.before.memory.cached 0) (h.before.memory.buffer p) (Raising d) = subst (Knows (h.before.memory.cached 0) (h.before.memory.buffer p)) at (sound.1 p) in
    let performs = subst (λ a. Performs (mark.class_in n) a p h.before.memory last.memory m.answer) m.takes.asks (subst (λ (w : World Doing (Unit {0})). Performs (mark.class_in n) m.access p h.before.memory w.memory m.answer) (sym m.lands) m.performs) in
    let does : m.now ≡ Idle = sym (put_here h.before.situation p m.now p refl) ∙ (sym (ap (λ (w : World Doing (Unit {0})). w.situation p) m.lands) ∙ now) in
    let lost = ends n p m.answer d h.before.memory last.memory (h.before.memory.buffer p) d.stage m.takes.goes knows performs (raise_next d m.answer) (sym m.takes.lands ∙ does) (sym m.takes.tells ∙ quiet) in
    (lost.0, ap (λ (z : Raise). z.stage) same ∙ lost.1, lost.2)
