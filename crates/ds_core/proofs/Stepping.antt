-- A step of a call of each kind is one of its process, and so it is among calls of any kind.
use Rattle.std.proofs.Common.{ℕ, ◌≡◌, refl}
use Rattle.std.specs.Prelude.{Option, Some, None, IfNone}
use Rattle.ds_state.specs.Value.{WorldValue, world_of}
use Rattle.ds_state.specs.declared.situation.Situation.{Situation}
use Rattle.ds_state.specs.declared.situation.Situation.TheVariants.{Idle, Stopped, Editing, Working, Recovering, Showing, Migrating}
use Rattle.ds_state.specs.Edits.{PlainEditCall}
use Rattle.ds_state.specs.Works.{PlainWorkCall, PlainRecoverCall, PlainShowCall, PlainMigrateCall}
use Rattle.ds_state.specs.declared.answer.Answer.TheVariants.{Edit, Work, Show, Recovery, Migration}
use Rattle.ds_state.specs.declared.answer.EditEnd.TheVariants.{Done}
use Rattle.ds_state.specs.declared.work.WorkEnd.TheVariants.{NotDirty}
use Rattle.ds_state.specs.declared.show.ShowEnd.TheVariants.{Settled}
use Rattle.ds_state.specs.declared.recovery.RecoveryEnd.TheVariants.{Nothing}
use Rattle.ds_state.specs.declared.migration.MigrateEnd.TheVariants.{Already}
use Rattle.ds_state.specs.declared.answer.EditEnd.{EditEnd}
use Rattle.ds_state.specs.declared.work.WorkEnd.{WorkEnd}
use Rattle.ds_state.specs.declared.show.ShowEnd.{ShowEnd}
use Rattle.ds_state.specs.declared.recovery.RecoveryEnd.{RecoveryEnd}
use Rattle.ds_state.specs.declared.migration.MigrateEnd.{MigrateEnd}
use Rattle.ds_state.specs.declared.turn.Turn.{Turn}
use Rattle.ds_state.specs.declared.turn.Turn.TheVariants.{GoesOn, Answers}
use Rattle.ds_edit.specs.EditTakes as edit_takes
use Rattle.ds_work.specs.WorkTakes as work_takes
use Rattle.ds_show.specs.ShowTakes as show_takes
use Rattle.ds_recover.specs.RecoverTakes as recover_takes
use Rattle.ds_recover.specs.MigrationTakes as migration_takes
use Rattle.ds_core.specs.Ends as kinds
use Rattle.ds_core.specs.Ends.{Kind, StepsAs, all_of, IsCallOf, IsOnlyIn}
use Rattle.ds_core.specs.Kinds.{IsEditAnswer, IsWorkAnswer, IsShowAnswer, IsRecoveryAnswer, IsMigrationAnswer}
use Rattle.ds_core.specs.Own.{IsInCall}
use Rattle.ds_core.specs.StepEvents.{Rests, edits, works, reports, recoveries, migrations}

-- ---- which call it is, by its answers

which_edit : (s : Situation) → IsCallOf IsEditAnswer s → (e : PlainEditCall) × (s ≡ Editing e)
which_edit (Idle next) h = absurd h.0
which_edit Stopped h = absurd h.0
which_edit (Editing e) h = (e, refl)
which_edit (Working e) h = absurd (h.1 (Work NotDirty) tt)
which_edit (Recovering e) h = absurd (h.1 (Recovery Nothing) tt)
which_edit (Showing e) h = absurd (h.1 (Show Settled) tt)
which_edit (Migrating e) h = absurd (h.1 (Migration Already) tt)

which_work : (s : Situation) → IsCallOf IsWorkAnswer s → (e : PlainWorkCall) × (s ≡ Working e)
which_work (Idle next) h = absurd h.0
which_work Stopped h = absurd h.0
which_work (Editing e) h = absurd (h.1 (Edit (Done 0)) tt)
which_work (Working e) h = (e, refl)
which_work (Recovering e) h = absurd (h.1 (Recovery Nothing) tt)
which_work (Showing e) h = absurd (h.1 (Show Settled) tt)
which_work (Migrating e) h = absurd (h.1 (Migration Already) tt)

which_show : (s : Situation) → IsCallOf IsShowAnswer s → (e : PlainShowCall) × (s ≡ Showing e)
which_show (Idle next) h = absurd h.0
which_show Stopped h = absurd h.0
which_show (Editing e) h = absurd (h.1 (Edit (Done 0)) tt)
which_show (Working e) h = absurd (h.1 (Work NotDirty) tt)
which_show (Recovering e) h = absurd (h.1 (Recovery Nothing) tt)
which_show (Showing e) h = (e, refl)
which_show (Migrating e) h = absurd (h.1 (Migration Already) tt)

which_recovery : (s : Situation) → IsCallOf IsRecoveryAnswer s → (e : PlainRecoverCall) × (s ≡ Recovering e)
which_recovery (Idle next) h = absurd h.0
which_recovery Stopped h = absurd h.0
which_recovery (Editing e) h = absurd (h.1 (Edit (Done 0)) tt)
which_recovery (Working e) h = absurd (h.1 (Work NotDirty) tt)
which_recovery (Recovering e) h = (e, refl)
which_recovery (Showing e) h = absurd (h.1 (Show Settled) tt)
which_recovery (Migrating e) h = absurd (h.1 (Migration Already) tt)

which_migration : (s : Situation) → IsCallOf IsMigrationAnswer s → (e : PlainMigrateCall) × (s ≡ Migrating e)
which_migration (Idle next) h = absurd h.0
which_migration Stopped h = absurd h.0
which_migration (Editing e) h = absurd (h.1 (Edit (Done 0)) tt)
which_migration (Working e) h = absurd (h.1 (Work NotDirty) tt)
which_migration (Recovering e) h = absurd (h.1 (Recovery Nothing) tt)
which_migration (Showing e) h = absurd (h.1 (Show Settled) tt)
which_migration (Migrating e) h = (e, refl)

-- ---- a step of each kind

-- a step of an edit is a step of a call among edits
pub of_edit : (old new : WorldValue) (p : ℕ) (turn : Option (Turn EditEnd)) → edit_takes.StepTakes old p turn new → StepsAs kinds.edits old p turn new
of_edit old new p None h = record { same = h.same; waits = λ low call. absurd (let w = which_edit ((world_of old).situation p) call in h.none w.0 low w.1) }
of_edit old new p (Some turn) h = edits (record { what = turn; steps = h; is = refl })

-- the same, of work
pub of_work : (old new : WorldValue) (p : ℕ) (turn : Option (Turn WorkEnd)) → work_takes.StepTakes (world_of old) p turn (world_of new) → IfNone turn (new ≡ old)
    → new.done ≡ old.done → new.settled ≡ old.settled → new.reports ≡ old.reports → StepsAs kinds.works old p turn new
of_work old new p None takes same done count kept = record { same = same; waits = λ low call. (let w = which_work ((world_of old).situation p) call in (w.0, w.1, takes w.0 low w.1)) }
of_work old new p (Some turn) takes same done count kept = works (record { what = turn; steps = takes; is = refl; done = done; reports = record { settled = count; reports = kept } })

-- the same, of a show
pub of_show : (old new : WorldValue) (p : ℕ) (turn : Option (Turn ShowEnd)) → show_takes.StepTakes old p turn new → StepsAs kinds.reports old p turn new
of_show old new p None h = record { same = h.same; waits = λ low call. absurd (let w = which_show ((world_of old).situation p) call in h.none w.0 low w.1) }
of_show old new p (Some turn) h = reports (record { what = turn; steps = h; is = refl })

-- the same, of a recovery
pub of_recovery : (old new : WorldValue) (p : ℕ) (turn : Option (Turn RecoveryEnd)) → recover_takes.StepTakes old p turn new → StepsAs kinds.recoveries old p turn new
of_recovery old new p None h = record { same = h.same; waits = λ low call. absurd (let w = which_recovery ((world_of old).situation p) call in h.none w.0 low w.1) }
of_recovery old new p (Some turn) h = recoveries (record { what = turn; steps = h; is = refl })

-- the same, of a migration
pub of_migration : (old new : WorldValue) (p : ℕ) (turn : Option (Turn MigrateEnd)) → migration_takes.StepTakes old p turn new → StepsAs kinds.migrations old p turn new
of_migration old new p None h = record { same = h.same; waits = λ low call. absurd (let w = which_migration ((world_of old).situation p) call in h.none w.0 low w.1) }
of_migration old new p (Some turn) h = migrations (record { what = turn; steps = h; is = refl })

-- ---- among calls of any kind

-- a step of a call of one kind is one of a call of any kind, where the process can be in no other
pub among : {E : Type 0} (kind : Kind E) (old new : WorldValue) (p : ℕ) (turn : Option (Turn E)) → IsOnlyIn kind old p → StepsAs kind old p turn new → StepsAs kinds.all old p (all_of kind.answer turn) new
among kind old new p None only h = record { same = h.same; waits = λ low call. h.waits low (call.0, only) }
among kind old new p (Some GoesOn) only h = h
among kind old new p (Some (Answers end)) only h = h

-- no call of any kind is none
pub of_any : (old new : WorldValue) (p : ℕ) → StepsAs kinds.all old p None new → Rests IsInCall old p new
of_any old new p h = record { same = h.same; waits = λ low calls. h.waits low (calls, λ answer to. tt) }
