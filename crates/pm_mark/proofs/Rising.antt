-- No event but a crash lowers the mark.
use Rattle.std.proofs.Common.{ℕ, ◌≡◌, ◌≤◌, ◌∙◌, List, refl, sym, subst, inl, inr, arith}
use Rattle.ds_words.specs.declared.access.BufferEntry.{BufferEntry}
use Rattle.ds_words.specs.Memory.{Memory, Performs}
use Rattle.pm_base.specs.Structures.{World, IsStructure}
use Rattle.pm_base.specs.Runs.{Moves}
use Rattle.pm_base.specs.declared.history.Event.{Event}
use Rattle.pm_base.specs.declared.history.Event.TheVariants.{Begin, Step, Evict, Stop, Crash}
use Rattle.pm_base.proofs.Running.{runs}
use Rattle.pm_mark.specs.Marks.{mark, KnowsAt, Knows, RaiseGoes, raise_access_at, raise_doing}
use Rattle.pm_mark.specs.Rises.{IsNoCrash, MarksRise}
use Rattle.pm_mark.specs.declared.mark.Raise.{Raise}
use Rattle.pm_mark.specs.declared.mark.Stage.{Stage}
use Rattle.pm_mark.specs.declared.mark.Stage.TheVariants as stage
use Rattle.pm_mark.specs.declared.mark.Doing.{Doing}
use Rattle.pm_mark.specs.declared.mark.Doing.TheVariants.{Raising}

same_is_least : (a b : ℕ) → b ≡ a → a ≤ b
same_is_least a b e = omega arith

-- a step of a raise
step_rises : (n p value answer : ℕ) (old new : Memory ℕ) (buffer : List (BufferEntry ℕ)) (s : Stage) → RaiseGoes s → KnowsAt value (old.cached 0) buffer s → Performs (mark.class_in n) (raise_access_at value s) p old new answer → old.cached 0 ≤ new.cached 0
step_rises n p value answer old new buffer stage.Load go k perf = same_is_least _ _ (perf.1.cached 0)
step_rises n p value answer old new buffer (stage.Swap seen) go k perf = elim perf.1 [
  | inl hit ↦ (let a = perf.0 in let b = hit.0 in let c = hit.1.there in let d = k.1 in omega (arith, a, b, c, d))
  | inr miss ↦ same_is_least _ _ (miss.1.cached 0)
]
step_rises n p value answer old new buffer stage.Flush go k perf = same_is_least _ _ (perf.1.cached 0)
step_rises n p value answer old new buffer stage.Back go k perf = same_is_least _ _ (perf.1.2.cached 0)
step_rises n p value answer old new buffer stage.Done go k perf = absurd go
step_rises n p value answer old new buffer stage.Lost go k perf = absurd go

pub raising : (c : Raise) (s : Stage) → RaiseGoes s → raise_doing c s ≡ Raising (record c { stage = s })
raising c stage.Load go = refl
raising c (stage.Swap seen) go = refl
raising c stage.Flush go = refl
raising c stage.Back go = refl
raising c stage.Done go = absurd go
raising c stage.Lost go = absurd go

one : (n : ℕ) (w : World Doing (Unit {0})) (event : Event Doing) (says : List ℕ) (w' : World Doing (Unit {0})) → mark.sound n w → Moves mark n w event says w' → IsNoCrash event → w.memory.cached 0 ≤ w'.memory.cached 0
one n w (Begin q call) says w' sound m calm = subst (λ (z : World Doing (Unit {0})). w.memory.cached 0 ≤ z.memory.cached 0) (sym m.2) (same_is_least _ _ refl)
one n w (Step q) says w' sound m calm =
    let c : Raise = m.takes.call in
    let at : w.situation q ≡ Raising c = m.takes.at ∙ raising c c.stage m.takes.goes in
    let knows : Knows (w.memory.cached 0) (w.memory.buffer q) (Raising c) = subst (Knows (w.memory.cached 0) (w.memory.buffer q)) at (sound.1 q) in
    step_rises n q c.value m.answer w.memory w'.memory (w.memory.buffer q) c.stage m.takes.goes knows (subst (λ a. Performs (mark.class_in n) a q w.memory w'.memory m.answer) m.takes.asks m.performs)
one n w (Evict r) says w' sound m calm = same_is_least _ _ (m.1.cached 0)
one n w (Stop q) says w' sound m calm = same_is_least _ _ (m.1.cached 0)
one n w Crash says w' sound m calm = absurd calm

pub rise : (n : ℕ) → IsStructure mark n → MarksRise n
rise n structure first last h hs new run calm = one n h.before h.entry.event h.entry.responses last (runs mark n structure first h.before hs new run.1).sound run.0 calm
