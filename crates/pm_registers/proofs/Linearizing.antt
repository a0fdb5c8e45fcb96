-- Each write that is answered took effect between its begin and its answer.
use Rattle.std.proofs.Common.{ℕ, ◌≡◌, ◌⊎◌, ◌*◌, ◌+◌, ◌<◌, List, [], ◌∷◌, refl, sym, ap, subst, ◌∙◌, inl, inr, eq-eqb}
use mathlib.Core.Logic.{dite}
use native.Mathlib.Decide.{ℕ_discrete}
use Rattle.pm_base.specs.Structures.{In, World, BeginsOf}
use Rattle.pm_base.specs.Runs.{Happened, Moves, Run, IsNew}
use Rattle.pm_base.specs.declared.history.Event.{Event}
use Rattle.pm_base.specs.declared.history.Event.TheVariants.{Begin, Step, Evict, Stop, Crash}
use Rattle.pm_base.proofs.Puts.{put_here, put_else}
use Rattle.pm_base.proofs.Running.{runs}
use Rattle.pm_registers.specs.Calls.{write_stage, write_next, recover_stage, recover_next}
use Rattle.pm_registers.specs.Registers.{Knows, KnowsWrite, own_of, registers, writes, recoveries, write_doing, write_says, recover_doing, recover_says, WriteGoes, MayWrite, had_in}
use Rattle.pm_registers.specs.Runs.{first_write, LeavesOpen, IsOpen, TookEffect, WritesLinearize}
use Rattle.pm_registers.specs.declared.calls.WriteCall.{WriteCall}
use Rattle.pm_registers.specs.declared.calls.WriteStage.{WriteStage}
use Rattle.pm_registers.specs.declared.calls.WriteStage.TheVariants as write
use Rattle.pm_registers.specs.declared.calls.RecoverCall.{RecoverCall}
use Rattle.pm_registers.specs.declared.calls.RecoverStage.{RecoverStage}
use Rattle.pm_registers.specs.declared.calls.RecoverStage.TheVariants as recover
use Rattle.pm_registers.specs.declared.calls.Doing.{Doing}
use Rattle.pm_registers.specs.declared.calls.Doing.TheVariants.{Idle, Writing, Recovering, Stopped}
use Rattle.pm_registers.specs.declared.calls.Response.{Response}
use Rattle.pm_registers.specs.declared.calls.Response.TheVariants.{Wrote}
use Rattle.pm_registers.proofs.Sound.{registers_hold}
use Rattle.pm_registers.proofs.Writes.{doing_writing}

module _ (n p : ℕ) where
  -- a write is open before its swap, and has taken effect after it
  abbrev PhaseAt : List (Happened registers n) → ℕ → WriteStage → Type 0
  PhaseAt hs v write.StoreAnnounce = IsOpen n hs p v
  PhaseAt hs v write.FlushAnnounce = IsOpen n hs p v
  PhaseAt hs v write.BackAnnounce = IsOpen n hs p v
  PhaseAt hs v write.LoadHead = IsOpen n hs p v
  PhaseAt hs v (write.Swap seen) = IsOpen n hs p v
  PhaseAt hs v write.FlushHead = TookEffect n hs p v
  PhaseAt hs v write.BackHead = TookEffect n hs p v
  PhaseAt hs v write.Done = Unit {0}

  abbrev Phase : List (Happened registers n) → Doing → Type 0
  Phase hs (Writing c) = PhaseAt hs c.value c.stage
  Phase hs (Idle last) = Unit {0}
  Phase hs (Recovering c) = Unit {0}
  Phase hs Stopped = Unit {0}

  module _ (hs : List (Happened registers n)) (h : Happened registers n) where
    open_on : (v : ℕ) → LeavesOpen p h.entry.event → IsOpen n hs p v → IsOpen n (h ∷ hs) p v
    open_on v leaves k = record { since = h ∷ k.since; begin = k.begin; before = k.before; parts = ap (λ (l : List (Happened registers n)). h ∷ l) k.parts; begins = k.begins; open_since = (leaves, k.open_since) }

    effect_on : (v : ℕ) → LeavesOpen p h.entry.event → TookEffect n hs p v → TookEffect n (h ∷ hs) p v
    effect_on v leaves k = record { since = h ∷ k.since; point = k.point; before = k.before; parts = ap (λ (l : List (Happened registers n)). h ∷ l) k.parts; steps = k.steps; effect = k.effect; open_since = (leaves, k.open_since); was_open = k.was_open }

    phase_at : (v : ℕ) (s : WriteStage) → LeavesOpen p h.entry.event → PhaseAt hs v s → PhaseAt (h ∷ hs) v s
    phase_at v write.StoreAnnounce leaves k = open_on v leaves k
    phase_at v write.FlushAnnounce leaves k = open_on v leaves k
    phase_at v write.BackAnnounce leaves k = open_on v leaves k
    phase_at v write.LoadHead leaves k = open_on v leaves k
    phase_at v (write.Swap seen) leaves k = open_on v leaves k
    phase_at v write.FlushHead leaves k = effect_on v leaves k
    phase_at v write.BackHead leaves k = effect_on v leaves k
    phase_at v write.Done leaves k = tt

    phase_on : (now : Doing) → LeavesOpen p h.entry.event → Phase hs now → Phase (h ∷ hs) now
    phase_on (Writing c) leaves k = phase_at c.value c.stage leaves k
    phase_on (Idle last) leaves k = tt
    phase_on (Recovering c) leaves k = tt
    phase_on Stopped leaves k = tt

    begins_first : (now : Doing) (c : WriteCall) → MayWrite now c → c.stage ≡ write.StoreAnnounce
    begins_first (Idle last) c may = may.1
    begins_first (Writing d) c may = absurd may
    begins_first (Recovering d) c may = absurd may
    begins_first Stopped c may = absurd may

    recovers : (c : RecoverCall) (s : RecoverStage) → Phase (h ∷ hs) (recover_doing c s)
    recovers c recover.LoadAnnounce = tt
    recovers c (recover.FlushAnnounce last) = tt
    recovers c (recover.BackAnnounce last) = tt
    recovers c (recover.LoadHead last) = tt
    recovers c (recover.FlushHead last head) = tt
    recovers c (recover.BackHead last head) = tt
    recovers c (recover.Done last head) = tt

    begun : (q : ℕ) (now call : Doing) → h.entry.event ≡ Begin q call → q ≡ p → BeginsOf writes n q now call ⊎ BeginsOf recoveries n q now call → Phase (h ∷ hs) call
    begun q now call is same by = elim by [
      | inl k ↦ (
          let c : WriteCall = k.call in
          let call_is : call ≡ Writing (first_write p c.value) = k.lands ∙ (ap (write_doing c) (begins_first now c k.may) ∙ ap (λ (z : ℕ). Writing (first_write z c.value)) (k.own ∙ same)) in
          let event : h.entry.event ≡ Begin p (Writing (first_write p c.value)) = is ∙ (λ i. Begin (same i) (call_is i)) in
          subst (Phase (h ∷ hs)) (sym call_is) (record { since = []; begin = h; before = hs; parts = refl; begins = event; open_since = tt }))
      | inr k ↦ subst (Phase (h ∷ hs)) (sym k.lands) (recovers k.call k.call.stage)
    ]

    -- a step of a write
    stepped : (c : WriteCall) (s : WriteStage) (answer : ℕ) → c.stage ≡ s → h.entry.event ≡ Step p → h.before.situation p ≡ Writing c → KnowsWrite p c.value (own_of h.before.memory h.before.hidden p) s → PhaseAt hs c.value s → Phase (h ∷ hs) (write_doing (write_next c answer) (write_stage s answer))
    stepped c write.StoreAnnounce answer at is now knows k = open_on c.value (subst (LeavesOpen p) (sym is) tt) k
    stepped c write.FlushAnnounce answer at is now knows k = open_on c.value (subst (LeavesOpen p) (sym is) tt) k
    stepped c write.BackAnnounce answer at is now knows k = open_on c.value (subst (LeavesOpen p) (sym is) tt) k
    stepped c write.LoadHead answer at is now knows k = open_on c.value (subst (LeavesOpen p) (sym is) tt) k
    stepped c (write.Swap seen) answer at is now knows k =
        let w : World Doing (ℕ → List ℕ) = h.before in
        let head : ℕ = w.memory.cached (2 * p + 1) in
        let hit : had_in (Writing c) head (w.hidden p) ≡ c.value ∷ w.hidden p = rw (at, eq-eqb head seen (sym knows.4)) refl in
        record {
          since = [];
          point = h;
          before = hs;
          parts = refl;
          steps = is;
          effect = put_here w.hidden p _ p refl ∙ (ap (λ (z : Doing). had_in z head (w.hidden p)) now ∙ hit);
          open_since = tt;
          was_open = k;
        }
    stepped c write.FlushHead answer at is now knows k = effect_on c.value (subst (LeavesOpen p) (sym is) tt) k
    stepped c write.BackHead answer at is now knows k = tt
    stepped c write.Done answer at is now knows k = tt

    one : (event : Event Doing) (says : List Response) (last : World Doing (ℕ → List ℕ)) → h.entry.event ≡ event → registers.sound n h.before → Moves registers n h.before event says last → Phase hs (h.before.situation p) → Phase (h ∷ hs) (last.situation p)
    one (Begin q call) says last is sound m k = subst (λ (w : World Doing (ℕ → List ℕ)). Phase (h ∷ hs) (w.situation p)) (sym m.2) (dite (ℕ_discrete q p)
        (λ same. subst (Phase (h ∷ hs)) (sym (put_here h.before.situation q call p (sym same))) (begun q (h.before.situation q) call is same m.1))
        (λ other. subst (Phase (h ∷ hs)) (sym (put_else h.before.situation q call p (λ e. other (sym e)))) (phase_on (h.before.situation p) (subst (LeavesOpen p) (sym is) other) k)))
    one (Step q) says last is sound m k = subst (λ (w : World Doing (ℕ → List ℕ)). Phase (h ∷ hs) (w.situation p)) (sym m.lands) (dite (ℕ_discrete q p)
        (λ same. subst (Phase (h ∷ hs)) (sym (put_here h.before.situation q m.now p (sym same))) (elim m.takes [
          | inl d ↦ (
              let c : WriteCall = d.call in
              let now : h.before.situation p ≡ Writing c = ap h.before.situation (sym same) ∙ (d.at ∙ doing_writing c c.stage d.goes) in
              let low : p < n = subst (λ (z : ℕ). z < n) same m.low in
              let knows : Knows p (own_of h.before.memory h.before.hidden p) (Writing c) = subst (Knows p (own_of h.before.memory h.before.hidden p)) now (sound p low).knows in
              subst (Phase (h ∷ hs)) (sym d.lands) (stepped c c.stage m.answer refl (is ∙ ap Step same) now knows.1 (subst (Phase hs) now k)))
          | inr d ↦ subst (Phase (h ∷ hs)) (sym d.lands) (recovers (recover_next d.call m.answer) (recover_stage d.call.stage m.answer))
        ]))
        (λ other. subst (Phase (h ∷ hs)) (sym (put_else h.before.situation q m.now p (λ e. other (sym e)))) (phase_on (h.before.situation p) (subst (LeavesOpen p) (sym is) tt) k)))
    one (Evict r) says last is sound m k = subst (λ (w : World Doing (ℕ → List ℕ)). Phase (h ∷ hs) (w.situation p)) (sym m.2) (phase_on (h.before.situation p) (subst (LeavesOpen p) (sym is) tt) k)
    one (Stop q) says last is sound m k = subst (λ (w : World Doing (ℕ → List ℕ)). Phase (h ∷ hs) (w.situation p)) (sym m.2) (dite (ℕ_discrete q p)
        (λ same. subst (Phase (h ∷ hs)) (sym (put_here h.before.situation q Stopped p (sym same))) tt)
        (λ other. subst (Phase (h ∷ hs)) (sym (put_else h.before.situation q Stopped p (λ e. other (sym e)))) (phase_on (h.before.situation p) (subst (LeavesOpen p) (sym is) other) k)))
    one Crash says last is sound m k = subst (λ (w : World Doing (ℕ → List ℕ)). Phase (h ∷ hs) (w.situation p)) (sym m.1) tt

  phase : (first last : World Doing (ℕ → List ℕ)) (hs : List (Happened registers n)) → IsNew registers n first → Run registers n first hs last → Phase hs (last.situation p)
  phase first last [] new run = subst (λ (w : World Doing (ℕ → List ℕ)). Phase [] (w.situation p)) (sym (run ∙ new.is)) tt
  phase first last (h ∷ hs) new run = one hs h h.entry.event h.entry.responses last refl (runs registers n (registers_hold n) first h.before hs new run.1).sound run.0 (phase first h.before hs new run.1)

  -- a write tells at its last step alone
  answered_last : (hs : List (Happened registers n)) (c : WriteCall) (s : WriteStage) (answer v : ℕ) → In (write_says (write_next c answer) (write_stage s answer)) (Wrote v) → WriteGoes s → PhaseAt hs c.value s → TookEffect n hs p v
  answered_last hs c write.StoreAnnounce answer v inside go k = absurd inside
  answered_last hs c write.FlushAnnounce answer v inside go k = absurd inside
  answered_last hs c write.BackAnnounce answer v inside go k = absurd inside
  answered_last hs c write.LoadHead answer v inside go k = absurd inside
  answered_last hs c (write.Swap seen) answer v inside go k = absurd inside
  answered_last hs c write.FlushHead answer v inside go k = absurd inside
  answered_last hs c write.BackHead answer v (inl is) go k = subst (TookEffect n hs p) (cc) k
  answered_last hs c write.BackHead answer v (inr none) go k = absurd none
  answered_last hs c write.Done answer v inside go k = absurd go

  -- a recovery tells of no write
  answered_never : (s : RecoverStage) (answer v : ℕ) → In (recover_says (recover_stage s answer)) (Wrote v) → ⊥
  answered_never recover.LoadAnnounce answer v inside = inside
  answered_never (recover.FlushAnnounce last) answer v inside = inside
  answered_never (recover.BackAnnounce last) answer v inside = inside
  answered_never (recover.LoadHead last) answer v inside = inside
  answered_never (recover.FlushHead last head) answer v inside = inside
  answered_never (recover.BackHead last head) answer v (inl is) = cc
  answered_never (recover.BackHead last head) answer v (inr none) = none
  answered_never (recover.Done last head) answer v (inl is) = cc
  answered_never (recover.Done last head) answer v (inr none) = none

pub linearize : (n : ℕ) → WritesLinearize n
linearize n first last h hs p v new run is inside =
    let m = subst (λ (e : Event Doing). Moves registers n h.before e h.entry.responses last) is run.0 in
    elim m.takes [
      | inl d ↦ (
          let now : h.before.situation p ≡ Writing d.call = d.at ∙ doing_writing d.call d.call.stage d.goes in
          answered_last n p hs d.call d.call.stage m.answer v (subst (λ (l : List Response). In l (Wrote v)) d.tells inside) d.goes (subst (Phase n p hs) now (phase n p first h.before hs new run.1)))
      | inr d ↦ absurd (answered_never n p d.call.stage m.answer v (subst (λ (l : List Response). In l (Wrote v)) d.tells inside))
    ]
