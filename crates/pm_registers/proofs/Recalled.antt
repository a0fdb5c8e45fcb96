-- A recovery recalls the value that its process announced last.
use Rattle.std.proofs.Common.{ℕ, ◌≡◌, ◌∙◌, ◌≤◌, Bool, List, [], ◌∷◌, refl, sym, ap, subst, inl, inr, le_trans}
use Rattle.pm_base.specs.Structures.{World}
use Rattle.pm_base.specs.Runs.{Moves}
use Rattle.pm_base.specs.declared.history.Event.{Event}
use Rattle.pm_base.proofs.Puts.{put_here}
use Rattle.pm_base.proofs.Running.{runs}
use Rattle.pm_registers.specs.Calls.{recover_next, recalled}
use Rattle.pm_registers.specs.Registers.{registers, own_of, Knows, write_doing, recover_doing, recover_says}
use Rattle.pm_registers.specs.Runs.{RecoveriesRecallTheLast}
use Rattle.pm_registers.specs.declared.calls.WriteCall.{WriteCall}
use Rattle.pm_registers.specs.declared.calls.WriteStage.{WriteStage}
use Rattle.pm_registers.specs.declared.calls.WriteStage.TheVariants as write
use Rattle.pm_registers.specs.declared.calls.RecoverCall.{RecoverCall}
use Rattle.pm_registers.specs.declared.calls.RecoverStage.{RecoverStage}
use Rattle.pm_registers.specs.declared.calls.RecoverStage.TheVariants as recover
use Rattle.pm_registers.specs.declared.calls.Doing.{Doing}
use Rattle.pm_registers.specs.declared.calls.Doing.TheVariants.{Idle, Recovering}
use Rattle.pm_registers.specs.declared.calls.Response.TheVariants.{Recalled}
use Rattle.pm_registers.proofs.Sound.{registers_hold}

-- no write is a recovery
write_none : (c : WriteCall) (s : WriteStage) (r : RecoverCall) → Recovering r ≡ write_doing c s → ⊥
write_none c write.StoreAnnounce r is = cc
write_none c write.FlushAnnounce r is = cc
write_none c write.BackAnnounce r is = cc
write_none c write.LoadHead r is = cc
write_none c (write.Swap seen) r is = cc
write_none c write.FlushHead r is = cc
write_none c write.BackHead r is = cc
write_none c write.Done r is = cc

-- how a recovery ends
ends : (c : RecoverCall) (s : RecoverStage) (v : ℕ) → recover_doing c s ≡ Idle v → (had : Bool) × (recover_says s ≡ Recalled v had ∷ [])
ends c recover.LoadAnnounce v is = absurd (cc)
ends c (recover.FlushAnnounce last) v is = absurd (cc)
ends c (recover.BackAnnounce last) v is = absurd (cc)
ends c (recover.LoadHead last) v is = absurd (cc)
ends c (recover.FlushHead last head) v is = absurd (cc)
ends c (recover.BackHead last head) v is = absurd (cc)
ends c (recover.Done last head) v is = let same : last ≡ v = cc in (_, ap (λ (z : ℕ). recalled z head ∷ []) same)

pub recalls_the_last : (n : ℕ) → RecoveriesRecallTheLast n
recalls_the_last n first last h hs p v c low new run is was now =
    let m = subst (λ (e : Event Doing). Moves registers n h.before e h.entry.responses last) is run.0 in
    let well = (runs registers n (registers_hold n) first last (h ∷ hs) new run).sound p low in
    let knows : Knows p (own_of last.memory last.hidden p) (Idle v) = subst (Knows p (own_of last.memory last.hidden p)) now well.knows in
    let does : m.now ≡ Idle v = sym (put_here h.before.situation p m.now p refl) ∙ (sym (ap (λ (w : World Doing (ℕ → List ℕ)). w.situation p) m.lands) ∙ now) in (
      elim m.takes [
        | inl d ↦ absurd (write_none d.call d.call.stage c (sym was ∙ d.at))
        | inr d ↦ (
            let d2 = recover_next d.call m.answer in
            let e = ends d2 d2.stage v (sym d.lands ∙ does) in
            (e.0, d.tells ∙ e.1))
      ],
      (λ x has. subst (λ (z : ℕ). x ≤ z) knows.2 (le_trans (well.most x has) well.follows)),
    )
