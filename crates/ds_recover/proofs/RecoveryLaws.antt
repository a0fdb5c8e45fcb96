-- The laws of recoveries, at a recovery's own stage.
use Rattle.std.proofs.Common.{ℕ, ◌≡◌, ◌<◌, ap, ◌∙◌, subst, Some}
use Rattle.std.specs.Prelude.{Option, Bool}
use Rattle.ds_layout.specs.SheetMemory.{CanPerform}
use Rattle.ds_state.specs.Works.{PlainRecoverCall}
use Rattle.ds_state.specs.World.{PlainIssue, PlainWorld}
use Rattle.ds_state.specs.Owing.{HoldsNone}
use Rattle.ds_state.specs.CallsFit.{CallFits, IdleFits, RecoveryFits}
use Rattle.ds_state.specs.Rely.{Keeps}
use Rattle.ds_state.specs.Sound.{IsSound}
use Rattle.ds_state.specs.declared.situation.Situation.{Situation}
use Rattle.ds_state.specs.declared.situation.Situation.TheVariants.{Idle, Recovering}
use Rattle.ds_state.specs.declared.recovery.RecoverStage.{RecoverStage}
use Rattle.ds_state.specs.declared.recovery.RecoverStage.TheVariants.{Answer}
use Rattle.ds_recover.specs.RecoverySteps.{Steps, access_at, after, rest_after, end_of, ResolvesAs, RepeatsAs}
use Rattle.ds_recover.proofs.RecoveryRepeats.{repeats}
use Rattle.ds_recover.specs.RecoverBegun.{IsBegun}
use Rattle.ds_recover.proofs.RecoveryBegins.{begun_keeps}
use Rattle.ds_recover.proofs.RecoveryPossible.{possible}
use Rattle.ds_recover.proofs.RecoveryWhole.{recovery_keeps_soundness, answer_resolves}

-- in a sound world a recovery knows what its stage says
pub fits_of : (e : PlainRecoverCall) (w : PlainWorld) → IsSound w → e.process < w.layout.processes → w.situation e.process ≡ Recovering e → RecoveryFits w e.process e
fits_of e w sound real is = subst (λ (s : Situation). CallFits w e.process s) is (sound.calls e.process real)

-- each step of a recovery leaves a sound world sound, and what the others rely on
pub steps : (e : PlainRecoverCall) (word : ℕ) (old new : PlainWorld) → IsSound old → e.process < old.layout.processes → old.situation e.process ≡ Recovering e → Steps e word old new → Keeps e.process old new
steps e word old new sound real is t = recovery_keeps_soundness e word old new sound real e.stage is t

-- the begin of a recovery leaves a sound world sound, and what the others rely on
pub begins : (p : ℕ) (old new : PlainWorld) → IsSound old → p < old.layout.processes → IsBegun old p new → Keeps p old new
begins p old new sound real b = begun_keeps p old new sound real b

-- in a sound world a recovery can perform the access of its stage
pub accesses : (e : PlainRecoverCall) (w : PlainWorld) → IsSound w → e.process < w.layout.processes → w.situation e.process ≡ Recovering e → CanPerform w.layout w.memory e.process (access_at e e.stage)
accesses e w sound real is = possible e w real (fits_of e w sound real is)

-- the edit in doubt is as the recovery's answer resolves it
pub answers : (e : PlainRecoverCall) (how : Option Bool) (w : PlainWorld) (issue : PlainIssue) → IsSound w → e.process < w.layout.processes → w.situation e.process ≡ Recovering e → e.stage ≡ Answer how
    → w.open_edits e.process ≡ Some issue → ResolvesAs w issue.edit (end_of e how)
answers e how w issue sound real is last open_is =
    answer_resolves e how w issue (subst (λ (s : RecoverStage). RecoveryFits w e.process (record e { stage = s })) last (fits_of e w sound real is)) open_is

-- a recovery's answer repeats how its process's last edit with a spent number ended
pub repeated : (e : PlainRecoverCall) (how : Option Bool) (w : PlainWorld) → IsSound w → e.process < w.layout.processes → w.situation e.process ≡ Recovering e → e.stage ≡ Answer how → RepeatsAs w e.process (end_of e how)
repeated e how w sound real is last = repeats e how w (subst (λ (s : RecoverStage). RecoveryFits w e.process (record e { stage = s })) last (fits_of e w sound real is))

-- after its answer the process is idle, and holds no cell
idle_after : (e : PlainRecoverCall) (s : RecoverStage) (how : Option Bool) (word : ℕ) → s ≡ Answer how → after e s word ≡ Idle (rest_after e how)
idle_after e s how word is = ap (λ (x : RecoverStage). after e x word) is

-- after a recovery's answer its process holds no cell
pub lets_go : (e : PlainRecoverCall) (how : Option Bool) (word : ℕ) (old new : PlainWorld) → IsSound old → e.process < old.layout.processes → old.situation e.process ≡ Recovering e → e.stage ≡ Answer how
    → Steps e word old new → HoldsNone new e.process
lets_go e how word old new sound real is last t =
    let now : IsSound new = (steps e word old new sound real is t).sound in
    let idle : IdleFits new e.process (rest_after e how) = subst (λ (s : Situation). CallFits new e.process s) (t.situation ∙ idle_after e e.stage how word last) (now.calls e.process (rw t.layout real)) in
    idle.holds_none
