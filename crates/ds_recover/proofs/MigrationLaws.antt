-- What a migration leaves all others, and what its answer says.
use Rattle.std.proofs.Common.{ℕ, ◌≡◌, ◌<◌, sym, ◌∙◌, subst}
use Rattle.ds_layout.specs.declared.place.Edition.TheVariants.{Second}
use Rattle.ds_state.specs.Editions.{Agrees}
use Rattle.ds_state.specs.LayoutsFit.{LayoutFits, MovesFit, MovesAt}
use Rattle.ds_state.specs.Works.{PlainMigrateCall, PlainShowCall}
use Rattle.ds_state.specs.World.{PlainWorld}
use Rattle.ds_state.specs.Leaves.{Leaves}
use Rattle.ds_state.specs.Sound.{IsSound}
use Rattle.ds_state.specs.declared.migration.MigrateEnd.{MigrateEnd}
use Rattle.ds_state.specs.declared.migration.MigrateStage.{MigrateStage}
use Rattle.ds_state.specs.declared.migration.MigrateStage.TheVariants.{Answer}
use Rattle.ds_state.specs.declared.situation.Situation.{Situation}
use Rattle.ds_state.specs.declared.situation.Situation.TheVariants.{Migrating, Showing}
use Rattle.ds_state.proofs.Leaves.{leaves_same, middles_left}
use Rattle.ds_recover.specs.MigrationSteps.{StepsAt, BeginsMigration, after, at, fresh}
use Rattle.ds_recover.proofs.Migrating.{migration_keeps, migration_begins}

-- it is no show
no_show : (e : PlainMigrateCall) (s : MigrateStage) (word : ℕ) (f : PlainShowCall) → after e s word ≡ Showing f → ⊥
no_show e (Answer how) word f is = cc
no_show e s word f is = cc

-- what a step of a migration leaves is what a process's doing leaves
pub migration_leaves : (e : PlainMigrateCall) (s : MigrateStage) (word : ℕ) (old new : PlainWorld) → IsSound old → e.process < old.layout.processes → old.situation e.process ≡ Migrating (at e s) → StepsAt e s word old new → Leaves e.process old new
migration_leaves e s word old new sound real was t =
    let k = migration_keeps e s word old new sound real was t in
    leaves_same e.process old new k t.counted (middles_left e.process old new k (λ f is. no_show e s word f (sym t.situation ∙ is)))

-- what the begin of a migration leaves is what a process's doing leaves
pub begin_leaves : (p : ℕ) (old new : PlainWorld) → IsSound old → p < old.layout.processes → BeginsMigration p old new → Leaves p old new
begin_leaves p old new sound real b =
    let k = migration_begins p old new sound real b in
    leaves_same p old new k b.counted (middles_left p old new k (λ f is. let both : Migrating (fresh p old.layout.processes) ≡ Showing f = sym b.situation ∙ is in cc))

-- in a sound world with a migration that is to answer, both sides say the second layout
pub ends_second : (e : PlainMigrateCall) (how : MigrateEnd) (w : PlainWorld) → IsSound w → e.process < w.layout.processes → w.situation e.process ≡ Migrating e → e.stage ≡ Answer how → Agrees w.memory Second
ends_second e how w sound real is last =
    let fit : MovesFit w e.process e = subst (λ (s : Situation). LayoutFits w e.process s) is (sound.layouts e.process real) in
    subst (λ (s : MigrateStage). MovesAt w e s) last fit.at
