-- What a whole migration has found when it answers: its first step reads which layout the sheet has, and no other event
-- comes between its steps.
use Rattle.std.specs.Prelude.{Bool, true, false, if◌then◌else◌, ◌==◌}
use Rattle.std.proofs.Common.{ℕ, ◌≡◌, List, refl, sym, ap, ◌∙◌, subst}
use Rattle.std.specs.Prelude.{Result, Ok}
use Rattle.ds_words.specs.Memory.{Memory}
use Rattle.ds_layout.specs.declared.place.Place.{Place}
use Rattle.ds_layout.specs.declared.place.Place.TheVariants.{Version}
use Rattle.ds_layout.specs.declared.place.Edition.{Edition}
use Rattle.ds_layout.specs.declared.place.Edition.TheVariants.{First, Second}
use Rattle.ds_layout.specs.Places.{edition_of}
use Rattle.ds_layout.specs.SheetMemory.{PerformsAt}
use Rattle.ds_state.specs.Editions.{seen_edition}
use Rattle.ds_state.specs.Value.{WorldValue, world_of}
use Rattle.ds_state.specs.Works.{PlainMigrateCall, old_words}
use Rattle.ds_state.specs.declared.answer.Answer.TheVariants.{Migration}
use Rattle.ds_state.specs.declared.migration.MigrateEnd.{MigrateEnd}
use Rattle.ds_state.specs.declared.migration.MigrateEnd.TheVariants.{Migrated, Already}
use Rattle.ds_state.specs.declared.migration.MigrateStage.{MigrateStage}
use Rattle.ds_state.specs.declared.migration.MigrateStage.TheVariants.{LoadVersion, LoadOld, StoreNew, FlushNew, BackNew, Swap, FlushVersion, BackVersion, Answer}
use Rattle.ds_state.specs.declared.situation.Situation.{Situation}
use Rattle.ds_state.specs.declared.situation.Situation.TheVariants.{Editing, Working, Recovering, Showing, Migrating}
use Rattle.ds_recover.specs.MigrationSteps.{access_at, copy_from, next_at, after, fresh}
use Rattle.ds_recover.specs.MigrationTakes.{effect_at}
use Rattle.ds_core.specs.Takes.{Fits}
use Rattle.ds_core.specs.MigrationEvents.{BeginMigrateTakes, migration_reply}
use Rattle.ds_core.specs.StepEvents.{StepsBy, edits, works, reports, recoveries, migrations}
use Rattle.ds_core.specs.declared.event.Event.{Event}
use Rattle.ds_core.specs.declared.event.Event.TheVariants.{BeginMigrate, Step}
use Rattle.ds_core.specs.declared.reply.Reply.{Reply}
use Rattle.ds_core.specs.declared.reply.Reply.TheVariants.{Begun, Entered, Refused, Stepped, Answered}
use Rattle.ds_calls.specs.Wanted.{wanted, wants}
use Rattle.ds_calls.specs.Whole.{Goes, stays, goes, Finishes, Whole, finishes, HasBegun}
use Rattle.ds_calls.specs.Found.{HasFound}

-- what the migration knows at a stage: before its first step, that the sheet has still the layout that it had; then which
-- it was
abbrev Knows : Edition → Memory Place → MigrateStage → Type 0
Knows d m LoadVersion = seen_edition m ≡ d
Knows d m (LoadOld n) = d ≡ First
Knows d m (StoreNew n) = d ≡ First
Knows d m (FlushNew n) = d ≡ First
Knows d m (BackNew n) = d ≡ First
Knows d m Swap = d ≡ First
Knows d m (FlushVersion how) = HasFound d how
Knows d m (BackVersion how) = HasFound d how
Knows d m (Answer how) = HasFound d how

copying : (d : Edition) (m : Memory Place) (n : ℕ) (more : Bool) → d ≡ First → Knows d m (if more then LoadOld n else Swap)
copying d m n true is = is
copying d m n false is = is

loaded : (d : Edition) (m : Memory Place) (e : PlainMigrateCall) (zero_is : Bool) → (if zero_is then First else Second) ≡ d
    → Knows d m (if zero_is then copy_from (old_words e.processes) 0 else FlushVersion Already)
loaded d m e true is = copying d m 0 _ (sym is)
loaded d m e false is = sym is

-- a step keeps what is known
knows_on : (d : Edition) (e : PlainMigrateCall) (s : MigrateStage) (word : ℕ) (old new : Memory Place) → e.stage ≡ s
    → PerformsAt (access_at e s) e.process old new word → Knows d old s → Knows d new (next_at e s word).stage
knows_on d e LoadVersion word old new is h k = loaded d new e (word == 0) (subst (λ (n : ℕ). edition_of n ≡ d) (sym h.0) k)
knows_on d e (LoadOld n) word old new is h k = k
knows_on d e (StoreNew n) word old new is h k = k
knows_on d e (FlushNew n) word old new is h k = k
knows_on d e (BackNew n) word old new is h k = copying d new _ _ k
knows_on d e Swap word old new is h k = k
knows_on d e (FlushVersion how) word old new is h k = k
knows_on d e (BackVersion how) word old new is h k = k
knows_on d e (Answer how) word old new is h k = subst (λ (s : MigrateStage). Knows d new s) (sym is) k

module _ (p : ℕ) (d : Edition) where
  -- the process migrates the sheet, and knows that
  record Migrates (w : WorldValue) : Type 0 where
    call : PlainMigrateCall
    is : (world_of w).situation p ≡ Migrating call
    knows : Knows d (world_of w).memory call.stage

  wants_step : (w : WorldValue) → Migrates w → wants w p ≡ Step p
  wants_step w m = ap (λ (s : Situation). wanted p w.sheet.layout.shape s) m.is

  -- a step that goes on
  step : (old new : WorldValue) → Migrates old → StepsBy old p Stepped new → Migrates new
  step old new m (edits h) = absurd (let bad : Editing h.steps.edit ≡ Migrating m.call = sym h.steps.at ∙ m.is in cc)
  step old new m (works h) = absurd (let bad : Working h.steps.work ≡ Migrating m.call = sym h.steps.works ∙ m.is in cc)
  step old new m (reports h) = absurd (let bad : Showing h.steps.show ≡ Migrating m.call = sym h.steps.at ∙ m.is in cc)
  step old new m (recoveries h) = absurd (let bad : Recovering h.steps.recovery ≡ Migrating m.call = sym h.steps.at ∙ m.is in cc)
  step old new m (migrations h) = on e.stage refl where
    e : PlainMigrateCall
    e = h.steps.migration

    same : e ≡ m.call
    same = let both : Migrating h.steps.migration ≡ Migrating m.call = sym h.steps.at ∙ m.is in cc

    known : (s : MigrateStage) → s ≡ e.stage → Knows d (world_of old).memory s
    known s at = subst (λ (z : MigrateStage). Knows d (world_of old).memory z) (ap (λ (c : PlainMigrateCall). c.stage) (sym same) ∙ sym at) m.knows

    on : (s : MigrateStage) → s ≡ e.stage → Migrates new
    on (Answer how) at = absurd (let bad : Stepped ≡ Answered (Migration how) = h.is ∙ ap migration_reply (h.steps.is ∙ ap effect_at (sym at)) in cc)
    on s at = record {
      call = next_at e s h.steps.word;
      is = ap (λ q. (world_of new).situation q) (sym h.steps.mine) ∙ h.steps.steps.situation ∙ ap (λ (z : MigrateStage). after e z h.steps.word) (sym at);
      knows = knows_on d e s h.steps.word (world_of old).memory (world_of new).memory (sym at)
          (subst (λ (z : MigrateStage). PerformsAt (access_at e z) e.process (world_of old).memory (world_of new).memory h.steps.word) (sym at) h.steps.steps.memory) (known s at);
    }

  -- the step that answers
  last : (old new : WorldValue) (end : MigrateEnd) → Migrates old → StepsBy old p (Answered (Migration end)) new → HasFound d end
  last old new end m (edits h) = absurd (let bad : Editing h.steps.edit ≡ Migrating m.call = sym h.steps.at ∙ m.is in cc)
  last old new end m (works h) = absurd (let bad : Working h.steps.work ≡ Migrating m.call = sym h.steps.works ∙ m.is in cc)
  last old new end m (reports h) = absurd (let bad : Showing h.steps.show ≡ Migrating m.call = sym h.steps.at ∙ m.is in cc)
  last old new end m (recoveries h) = absurd (let bad : Recovering h.steps.recovery ≡ Migrating m.call = sym h.steps.at ∙ m.is in cc)
  last old new end m (migrations h) = on e.stage refl where
    e : PlainMigrateCall
    e = h.steps.migration

    same : e ≡ m.call
    same = let both : Migrating h.steps.migration ≡ Migrating m.call = sym h.steps.at ∙ m.is in cc

    known : (s : MigrateStage) → s ≡ e.stage → Knows d (world_of old).memory s
    known s at = subst (λ (z : MigrateStage). Knows d (world_of old).memory z) (ap (λ (c : PlainMigrateCall). c.stage) (sym same) ∙ sym at) m.knows

    on : (s : MigrateStage) → s ≡ e.stage → HasFound d end
    on (Answer how) at =
        let replies : Answered (Migration end) ≡ Answered (Migration how) = h.is ∙ ap migration_reply (h.steps.is ∙ ap effect_at (sym at)) in
        let is : end ≡ how = cc in
        subst (λ (z : MigrateEnd). HasFound d z) (sym is) (known (Answer how) at)
    on s at = absurd (let bad : Answered (Migration end) ≡ Stepped = h.is ∙ ap migration_reply (h.steps.is ∙ ap effect_at (sym at)) in cc)

  all : (first : WorldValue) → Migrates first → (events : List Event) (replies : List Reply) (new : WorldValue) → Goes p first events replies new → Migrates new
  all first m events replies new stays = m
  all first m events replies new (goes es rs old n so_far fits) =
      let before = all first m es rs old so_far in
      step old new before (subst (λ (event : Event). Fits old event Stepped new) (wants_step old before) fits).takes

  finished : (mid new : WorldValue) (end : MigrateEnd) → Migrates mid → Finishes p mid (Migration end) new → HasFound d end
  finished mid new end m h = last h.last new end (all mid m h.events h.replies h.last h.goes) h.answers.takes

-- a migration that has begun migrates the sheet that it began on
begun : (p : ℕ) (old mid : WorldValue) (reply : Reply) → HasBegun reply → BeginMigrateTakes old p reply mid → Migrates p (seen_edition (world_of old).memory) mid
begun p old mid Entered is t = record {
  call = fresh p old.sheet.layout.processes;
  is = t.begun.situation;
  knows = ap edition_of (t.begun.memory.cached Version);
}
begun p old mid (Begun number) is t = absurd t
begun p old mid _ is t = absurd is

-- what a whole migration has found
pub migrations_found : (p : ℕ) (old new : WorldValue) (how : MigrateEnd) → Whole Migration p (BeginMigrate p) old (Ok how) new → HasFound (seen_edition (world_of old).memory) how
migrations_found p old new how (finishes reply mid n end is fits h) = finished p (seen_edition (world_of old).memory) mid new how (begun p old mid reply is fits.takes) h
