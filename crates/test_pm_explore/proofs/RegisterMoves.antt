-- The steps of the registers.
use Rattle.std.proofs.Common.{ℕ, ◌≡◌, ◌<◌, List, refl, sym, ◌∙◌, subst, arith, ⊎_elim}
use Rattle.std.specs.Prelude.{Option, Some, None, MatchOption}
use Rattle.ds_words.specs.declared.access.Access.{Access}
use Rattle.pm_base.specs.Structures.{BeginsOf, StepsOf}
use Rattle.pm_explore.specs.Explored.{Rests, AsksFor}
use Rattle.pm_registers.specs.Registers.{registers, writes, recoveries, WriteGoes, RecoverGoes, write_doing, recover_doing, MayWrite, MayRecover}
use Rattle.pm_registers.specs.declared.calls.Doing.{Doing}
use Rattle.pm_registers.specs.declared.calls.Doing.TheVariants.{Idle, Writing, Recovering, Stopped}
use Rattle.pm_registers.specs.declared.calls.Response.{Response}
use Rattle.pm_registers.specs.declared.calls.WriteCall.{WriteCall}
use Rattle.pm_registers.specs.declared.calls.WriteStage.{WriteStage}
use Rattle.pm_registers.specs.declared.calls.WriteStage.TheVariants as write
use Rattle.pm_registers.specs.declared.calls.RecoverCall.{RecoverCall}
use Rattle.pm_registers.specs.declared.calls.RecoverStage.{RecoverStage}
use Rattle.pm_registers.specs.declared.calls.RecoverStage.TheVariants as recover
use Rattle.test_pm_explore.specs.RegisterSteps.{RegisterStepIs, NoRegisterStep, RegisterAsks, MayDo}
use Rattle.test_pm_explore.specs.TwoProcesses.{two_registers}

-- a call of which a step is left is what its process does
write_is : (c : WriteCall) (s : WriteStage) → WriteGoes s → write_doing c s ≡ Writing (record c { stage = s })
write_is c write.StoreAnnounce go = refl
write_is c write.FlushAnnounce go = refl
write_is c write.BackAnnounce go = refl
write_is c write.LoadHead go = refl
write_is c (write.Swap seen) go = refl
write_is c write.FlushHead go = refl
write_is c write.BackHead go = refl
write_is c write.Done go = absurd go

recover_is : (c : RecoverCall) (s : RecoverStage) → RecoverGoes s → recover_doing c s ≡ Recovering (record c { stage = s })
recover_is c recover.LoadAnnounce go = refl
recover_is c (recover.FlushAnnounce last) go = refl
recover_is c (recover.BackAnnounce last) go = refl
recover_is c (recover.LoadHead last) go = refl
recover_is c (recover.FlushHead last head) go = refl
recover_is c (recover.BackHead last head) go = refl
recover_is c (recover.Done last head) go = absurd go

low : (p n : ℕ) → p < n → n < 4294967296 → p < 4294967296
low p n a b = omega (arith, a, b)

write_steps : (n p : ℕ) (now : Doing) (access : Access ℕ) (answer : ℕ) (after : Doing) (says : List Response) → StepsOf writes n p now access answer after says → RegisterStepIs now access answer after says
write_steps n p now access answer after says m =
    subst (λ (z : Doing). RegisterStepIs z access answer after says) (sym (m.at ∙ write_is m.call m.call.stage m.goes)) (low m.call.process n m.fits.0 m.fits.1, m.goes, m.asks, m.lands, m.tells)

recover_steps : (n p : ℕ) (now : Doing) (access : Access ℕ) (answer : ℕ) (after : Doing) (says : List Response) → StepsOf recoveries n p now access answer after says → RegisterStepIs now access answer after says
recover_steps n p now access answer after says m =
    subst (λ (z : Doing). RegisterStepIs z access answer after says) (sym (m.at ∙ recover_is m.call m.call.stage m.goes)) (low m.call.process n m.fits.0 m.fits.1, m.goes, m.asks, m.lands, m.tells)

pub steps_are : (n p : ℕ) (now : Doing) (access : Access ℕ) (answer : ℕ) (after : Doing) (says : List Response) → registers.steps n p now access answer after says → RegisterStepIs now access answer after says
steps_are n p now access answer after says s = ⊎_elim (λ w. write_steps n p now access answer after says w) (λ r. recover_steps n p now access answer after says r) s

pub wants_are : (k p : ℕ) (now : Doing) (o : Option (Access ℕ)) → MatchOption o (NoRegisterStep now) (RegisterAsks now) → MatchOption o (Rests two_registers k p now) (AsksFor two_registers k p now)
wants_are k p now None none = λ access answer after says s. none access answer after says (steps_are 2 p now access answer after says s)
wants_are k p now (Some a) asks = λ access answer after says s. asks access answer after says (steps_are 2 p now access answer after says s)

may_write : (now : Doing) (c : WriteCall) → MayWrite now c → WriteGoes c.stage → MayDo now (write_doing c c.stage)
may_write (Idle last) c may go = subst (MayDo (Idle last)) (sym (write_is c c.stage go)) may.0
may_write (Writing d) c may go = absurd may
may_write (Recovering d) c may go = absurd may
may_write Stopped c may go = absurd may

may_recover : (now : Doing) (c : RecoverCall) → MayRecover now c → RecoverGoes c.stage → MayDo now (recover_doing c c.stage)
may_recover Stopped c may go = subst (MayDo Stopped) (sym (recover_is c c.stage go)) tt
may_recover (Idle last) c may go = absurd may
may_recover (Writing d) c may go = absurd may
may_recover (Recovering d) c may go = absurd may

pub begins_are : (n p : ℕ) (now after : Doing) → registers.begins n p now after → MayDo now after
begins_are n p now after b = ⊎_elim
    (λ (w : BeginsOf writes n p now after). subst (MayDo now) (sym w.lands) (may_write now w.call w.may w.goes))
    (λ (r : BeginsOf recoveries n p now after). subst (MayDo now) (sym r.lands) (may_recover now r.call r.may r.goes)) b
