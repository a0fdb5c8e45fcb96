-- What a step of a recovery leaves all others, and what its beginning does.
use Rattle.std.proofs.Common.{ℕ, ◌≡◌, ◌<◌, sym, ◌∙◌}
use Rattle.ds_layout.specs.Places.{cells_of}
use Rattle.ds_state.specs.Works.{PlainRecoverCall, PlainShowCall}
use Rattle.ds_state.specs.World.{PlainWorld}
use Rattle.ds_state.specs.Leaves.{Leaves}
use Rattle.ds_state.specs.Sound.{IsSound}
use Rattle.ds_state.specs.declared.recovery.RecoverStage.{RecoverStage}
use Rattle.ds_state.specs.declared.recovery.RecoverStage.TheVariants.{LoadVersion, Answer}
use Rattle.ds_state.specs.declared.situation.Situation.TheVariants.{Recovering, Showing}
use Rattle.ds_state.proofs.Leaves.{leaves_same, middles_left}
use Rattle.ds_recover.specs.RecoverySteps.{Steps, after, at, fresh}
use Rattle.ds_recover.specs.RecoverBegun.{IsBegun}
use Rattle.ds_recover.proofs.RecoveryLaws as laws

-- it is no show
no_show : (e : PlainRecoverCall) (s : RecoverStage) (word : ℕ) (f : PlainShowCall) → after e s word ≡ Showing f → ⊥
no_show e (Answer how) word f is = cc
no_show e s word f is = cc

-- what a step of a recovery leaves is what a process's doing leaves
pub recovery_leaves : (e : PlainRecoverCall) (word : ℕ) (old new : PlainWorld) → IsSound old → e.process < old.layout.processes → old.situation e.process ≡ Recovering e → Steps e word old new → Leaves e.process old new
recovery_leaves e word old new sound real was t =
    let k = laws.steps e word old new sound real was t in
    leaves_same e.process old new k t.counted (middles_left e.process old new k (λ f is. no_show e e.stage word f (sym t.situation ∙ is)))

-- what the begin of a recovery leaves is what a process's doing leaves
pub begin_leaves : (p : ℕ) (old new : PlainWorld) → IsSound old → p < old.layout.processes → IsBegun old p new → Leaves p old new
begin_leaves p old new sound real b =
    let k = laws.begins p old new sound real b in
    leaves_same p old new k b.begins.counted (middles_left p old new k (λ f is. let both : Recovering (at (fresh p (cells_of old.layout) old.layout.processes) LoadVersion) ≡ Showing f = sym b.begins.situation ∙ is in cc))
