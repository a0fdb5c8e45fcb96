-- Where buffers are empty.
use Rattle.std.proofs.Common.{ℕ, zero, suc, refl, inl, inr, ◌≡◌, ◌<◌, ◌∙◌, List, [], ◌∷◌, ◌++◌, map, sym, subst}
use Rattle.std.specs.Prelude.{slice_index_or}
use Rattle.std.proofs.lemmas.Bool.{cases_lt}
use Rattle.ds_words.specs.declared.access.BufferEntry.{BufferEntry}
use Rattle.ds_layout.specs.declared.place.Place.{Place}
use Rattle.ds_layout.specs.SheetMemory.{memory}
use Rattle.ds_state.specs.CallsFit.{CallFits, EditFits, Holds, MigrationFits, MigrationHolds, RecoveryFits}
use Rattle.ds_state.specs.CallsFit as edits
use Rattle.ds_state.specs.KnownWork.{WorkFits, WorkHolds}
use Rattle.ds_state.specs.KnownWork as works
use Rattle.ds_state.specs.KnownRecovery.{RecoveryHeld, RecoveryHolds}
use Rattle.ds_state.specs.Works.{PlainMigrateCall}
use Rattle.ds_state.specs.World.{PlainWorld, edit_of}
use Rattle.ds_state.specs.Value.{WorldValue, world_of, IsGood}
use Rattle.ds_state.specs.declared.migration.MigrateStage.{MigrateStage}
use Rattle.ds_state.specs.declared.migration.MigrateStage.TheVariants as stages
use Rattle.ds_state.specs.declared.situation.Situation.{Situation}
use Rattle.ds_state.specs.declared.situation.Situation.TheVariants.{Idle, Stopped, Editing, Working, Showing, Recovering, Migrating}
use Rattle.ds_explore_state.specs.declared.position.Position.{Position}
use Rattle.ds_explore_state.specs.declared.position.ProcessState.{ProcessState}
use Rattle.ds_explore_state.specs.Following.{KnowsBuffers}
use Rattle.ds_explore_state.specs.Orders.{no_seat}
use Rattle.ds_explore_state.specs.States.{seat_of}
use Rattle.ds_explore_state.specs.Buffers.{HasEmptyBuffer, HasEmptyBuffers, MigratesEmpty}

migrates_empty : (w : PlainWorld) (p : ℕ) (e : PlainMigrateCall) (stage : MigrateStage) → MigratesEmpty stage → MigrationHolds w p e stage → w.memory.buffer p ≡ []
migrates_empty w p e (stages.BackNew at) none holds = absurd none
migrates_empty w p e (stages.BackVersion how) none holds = absurd none
migrates_empty w p e stages.LoadVersion none holds = holds
migrates_empty w p e (stages.LoadOld at) none holds = holds
migrates_empty w p e (stages.StoreNew at) none holds = holds
migrates_empty w p e (stages.FlushNew at) none holds = holds
migrates_empty w p e stages.Swap none holds = holds
migrates_empty w p e (stages.FlushVersion how) none holds = holds
migrates_empty w p e (stages.Answer how) none holds = holds

empty_by : (w : PlainWorld) (p : ℕ) (s : Situation) → CallFits w p s → HasEmptyBuffer s → w.memory.buffer p ≡ []
empty_by w p (Idle next) fits none = fits.buffer
empty_by w p Stopped fits none = fits.buffer
empty_by w p (Editing e) fits none = subst (λ (q : ℕ). w.memory.buffer q ≡ []) fits.mine (subst (λ (h : edits.Held). Holds w e.edition (edit_of e) h) none fits.buffer)
empty_by w p (Working e) fits none = subst (λ (q : ℕ). w.memory.buffer q ≡ []) fits.mine (subst (λ (h : works.WorkHeld). WorkHolds w e h) none fits.buffer)
empty_by w p (Showing e) fits none = subst (λ (q : ℕ). w.memory.buffer q ≡ []) fits.1.mine fits.1.buffer
empty_by w p (Recovering e) fits none = subst (λ (q : ℕ). w.memory.buffer q ≡ []) fits.mine (subst (λ (h : RecoveryHeld). RecoveryHolds w e.process e.announcement e.cell h) none fits.buffer)
empty_by w p (Migrating e) fits none = migrates_empty w p e e.stage none fits.buffer

pub buffer_is_empty : (w : WorldValue) (p : ℕ) → IsGood w → p < w.sheet.layout.processes → HasEmptyBuffer ((world_of w).situation p) → (memory w.sheet).buffer p ≡ []
buffer_is_empty w p good low none = empty_by (world_of w) p ((world_of w).situation p) (good.sound.calls p low) none

-- ---- the first position

-- one process more that has nothing in its buffer
pub buffers_push : (old new : List ProcessState) (seat : ProcessState) → ((q : ℕ) → (slice_index_or (map seat_of old) q no_seat).buffer ≡ []) → seat.buffer.items ≡ [] → new ≡ old ++ seat ∷ [] → (q : ℕ) → (slice_index_or (map seat_of new) q no_seat).buffer ≡ []
buffers_push old new seat all none e q = subst (λ (l : List ProcessState). (slice_index_or (map seat_of l) q no_seat).buffer ≡ []) (sym e) (pushed old q all)
  where
    pushed : (old : List ProcessState) (q : ℕ) → ((q : ℕ) → (slice_index_or (map seat_of old) q no_seat).buffer ≡ []) → (slice_index_or (map seat_of (old ++ seat ∷ [])) q no_seat).buffer ≡ []
    pushed [] zero all = none
    pushed [] (suc q) all = refl
    pushed (x ∷ old) zero all = all zero
    pushed (x ∷ old) (suc q) all = pushed old q (λ q. all (suc q))

-- where no process of the sheet has anything in its buffer, nor says so, buffers are known
pub all_known : (x : Position) (w : WorldValue) (seats : List ProcessState) → IsGood w → x.world ≡ w → x.seats.items ≡ seats → (HasEmptyBuffers w → (q : ℕ) → (slice_index_or (map seat_of seats) q no_seat).buffer ≡ []) → HasEmptyBuffers w → KnowsBuffers x
all_known x w seats good e f says none q =
    subst (λ (v : WorldValue). (memory v.sheet).buffer q ≡ (slice_index_or (map seat_of x.seats.items) q no_seat).buffer) (sym e)
    (subst (λ (l : List ProcessState). (memory w.sheet).buffer q ≡ (slice_index_or (map seat_of l) q no_seat).buffer) (sym f) (real ∙ sym (says none q)))
  where
    real : (memory w.sheet).buffer q ≡ []
    real = elim (cases_lt q w.sheet.layout.processes) [
      | inl low ↦ buffer_is_empty w q good low (none.empty q low)
      | inr far ↦ none.others q far
    ]
