-- The later steps of a recovery: its mark, and its announcement's way back.
use Rattle.std.proofs.Common.{ℕ, ◌≡◌, ◌<◌, ◌≤◌, ◌⊎◌, [], ◌∷◌, ◌++◌, ap, sym, ◌∙◌, subst, arith, inl, inr, Some, max}
use Rattle.std.specs.Prelude.{Option, Bool, bit_or}
use Rattle.ds_words.specs.declared.access.BufferEntry.{BufferEntry}
use Rattle.ds_words.specs.Memory.{OrsAt, FlushesAt, WritesBack}
use Rattle.ds_layout.specs.Places.{class_of}
use Rattle.ds_layout.specs.declared.mark.TheConstants.{DIRTY}
use Rattle.ds_layout.specs.declared.place.Place.{Place}
use Rattle.ds_layout.specs.declared.place.Place.TheVariants.{Version, Mark, Value, Kind, Announce}
use Rattle.ds_state.specs.Works.{PlainRecoverCall}
use Rattle.ds_state.specs.World.{PlainEdit, PlainIssue, PlainWorld}
use Rattle.ds_state.specs.Owing.{entry, IsPending, IsBelowBuffered}
use Rattle.ds_state.specs.Standing.{Matters}
use Rattle.ds_state.specs.KnownWork.{HasMark}
use Rattle.ds_state.specs.KnownRecovery.{IsOpenAnd, SettledAs}
use Rattle.ds_state.specs.CallsFit.{RecoveryFits}
use Rattle.ds_state.specs.Rely.{Grows, Keeps}
use Rattle.ds_state.specs.Sound.{IsSound}
use Rattle.ds_recover.specs.RecoverySteps.{StepsAt, at}
use Rattle.ds_state.specs.declared.recovery.RecoverStage.TheVariants.{OrMark, FlushMark, BackMark, StoreOutcome, FlushOutcome, BackOutcome, Answer}
use Rattle.ds_state.specs.declared.situation.Situation.TheVariants.{Recovering}
use Rattle.ds_state.proofs.Dirty.{or_dirty}
use Rattle.ds_state.proofs.Frames.{Moves, grows_own}
use Rattle.ds_state.proofs.Bearing.{no_new_marks, text_same, durable_least}
use Rattle.ds_state.proofs.Buffers.{buffered}
use Rattle.ds_state.proofs.EditFrame.{back_any}
use Rattle.ds_state.proofs.Telling.{matters_most, odd_above}
use Rattle.ds_state.proofs.Accesses.{Turn, flush_moves}
use Rattle.ds_recover.proofs.RecoveryFrame.{turn_of, simple_passes, flushes}
use Rattle.ds_recover.proofs.RecoveryBack.{held_from, pends_from, first_back, grown_back, was_there, backs, moved_or, grown_or, ors}

same_issue : {o : Option PlainIssue} {a b : PlainIssue} → o ≡ Some a → o ≡ Some b → a ≡ b
same_issue x y = let both : Some _ ≡ Some _ = sym x ∙ y in cc

-- the cell of a pending edit is that of the edit in doubt
pub its_cell : (w : PlainWorld) (p word own c : ℕ) (P : PlainEdit → Type 0) → IsOpenAnd w p word own P → IsPending w p c → own ≡ c
its_cell w p word own c P h k = sym h.own_is ∙ ap (λ (i : PlainIssue). i.edit.cell) (same_issue h.it.issued k.issued) ∙ k.cell

module _ (e : PlainRecoverCall) (word : ℕ) (old new : PlainWorld) (sound : IsSound old) (real : e.process < old.layout.processes) where
  abbrev p : ℕ
  p = e.process

  -- its own bit in the cell's mark, whether the edit is linearized or not
  pub step_or_mark : (how : Bool) → old.situation e.process ≡ Recovering (at e (OrMark how)) → RecoveryFits old e.process (at e (OrMark how)) → StepsAt e (OrMark how) word old new → Keeps e.process old new
  step_or_mark how was fits t =
      let m : OrsAt (Mark e.cell) DIRTY old.memory new.memory = t.memory.1 in
      let tn : Turn p old new = turn_of e (OrMark how) word old new real was tt t in
      let g : Grows p Version old new = grown_or p e.cell old new tn m in
      let moves : Moves p (Mark e.cell) old new = moved_or p e.cell old new tn m in
      let is = or_dirty (old.memory.cached (Mark e.cell)) in
      ors e e.mark e.row e.announcement e.cell (OrMark how) (FlushMark how) old new sound was fits real tn t.situation t.open_edits
      (simple_passes p e.row (OrMark how) e.row (FlushMark how) old new (held_from p old new g) (pends_from p old new g t.open_edits)
      (λ r c x bit matters held o. o)
      (λ c x matters k o. (
      let same : e.cell ≡ c = its_cell old p e.announcement e.cell c (λ f. SettledAs old f how) fits.resolved k in
      let most = matters_most p e.cell _ old new m moves sound (buffered old sound) c x matters in
      let there : new.memory.cached (Mark c) ≡ bit_or (old.memory.cached (Mark e.cell)) DIRTY = ap (λ (y : ℕ). new.memory.cached (Mark y)) (sym same) ∙ m.there in
      odd_above x (new.memory.cached (Mark c)) matters.0 (omega arith) most))
      (λ r held o. o) (λ f before last_of issue issued same k o. o))
      e.cell m (λ h. h) (λ h. h) (m.buffer p ∙ fits.buffer) fits.is.stage

  pub step_flush_mark : (how : Bool) → old.situation e.process ≡ Recovering (at e (FlushMark how)) → RecoveryFits old e.process (at e (FlushMark how)) → StepsAt e (FlushMark how) word old new → Keeps e.process old new
  step_flush_mark how was fits t =
      let m : FlushesAt p (Mark e.cell) (class_of (Mark e.cell)) old.memory new.memory = t.memory.1 in
      let tn : Turn p old new = turn_of e (FlushMark how) word old new real was tt t in
      let g : Grows p Version old new = grows_own p Version old new (flush_moves p old new tn (Mark e.cell) (class_of (Mark e.cell)) m) tn.counted in
      let alone : new.memory.buffer p ≡ entry (Mark e.cell) (old.memory.cached (Mark e.cell)) ∷ [] = m.mine ∙ ap (λ xs. xs ++ entry (Mark e.cell) (old.memory.cached (Mark e.cell)) ∷ []) fits.buffer in
      flushes e e.mark e.row e.announcement e.cell (FlushMark how) (BackMark how) old new sound was fits real tn t.situation t.open_edits
      (simple_passes p e.row (FlushMark how) e.row (BackMark how) old new (held_from p old new g) (pends_from p old new g t.open_edits)
      (λ r c x bit matters held o. o)
      (λ c x matters k o. (
      let same : e.cell ≡ c = its_cell old p e.announcement e.cell c (λ f. SettledAs old f how) fits.resolved k in
      record { value = old.memory.cached (Mark c); alone = subst (λ (y : ℕ). new.memory.buffer p ≡ entry (Mark y) (old.memory.cached (Mark y)) ∷ []) same alone; below = o }))
      (λ r held o. o) (λ f before last_of issue issued same k o. o))
      (Mark e.cell) m (λ h. h) (λ h. h)
      (record { value = old.memory.cached (Mark e.cell); alone = alone; had = (let c = m.cached (Mark e.cell) in omega arith); is = λ q by. rw tn.layout ((sound.words (Mark e.cell)).holder q by) }) fits.is.stage

  pub step_back_mark : (how : Bool) → old.situation e.process ≡ Recovering (at e (BackMark how)) → RecoveryFits old e.process (at e (BackMark how)) → StepsAt e (BackMark how) word old new → Keeps e.process old new
  step_back_mark how was fits t =
      let one : HasMark old p e.cell = fits.buffer in
      let m : WritesBack p (entry (Mark e.cell) one.value) [] old.memory new.memory = first_back (entry (Mark e.cell) one.value) [] one.alone t.memory.1 in
      let tn : Turn p old new = turn_of e (BackMark how) word old new real was tt t in
      let g : Grows p Version old new = grown_back p (Mark e.cell) one.value [] old new sound tn m (one.had, one.is) (λ o. absurd o) in
      backs e e.mark e.row e.announcement e.cell (BackMark how) (StoreOutcome how) old new sound was fits real tn t.situation t.open_edits
      (simple_passes p e.row (BackMark how) e.row (StoreOutcome how) old new (held_from p old new g) (pends_from p old new g t.open_edits)
      (λ r c x bit matters held o. o)
      (λ c x matters k o. absurd (
      let same : e.cell ≡ c = its_cell old p e.announcement e.cell c (λ f. SettledAs old f how) fits.resolved k in
      gone one.value one.alone (let n : new.memory.persisted (Mark e.cell) ≡ max (old.memory.persisted (Mark e.cell)) one.value = m.there in omega arith) (let c' = m.cached (Mark e.cell) in let n : new.memory.persisted (Mark e.cell) ≡ max (old.memory.persisted (Mark e.cell)) one.value = m.there in let h = one.had in let b = (sound.words (Mark e.cell)).behind in omega arith) c x same matters o))
      (λ r held o. o) (λ f before last_of issue issued same k o. o))
      (Mark e.cell) one.value [] m (one.had, one.is) (λ o. absurd o) (λ c at. cc) (λ r at. absurd (no_value r at)) (λ r at. absurd (no_value r at))
      (λ moves my. back_any p (Mark e.cell) one.value old new moves sound (buffered old sound) my (text_same old new moves.layout tn.counted) real m)
      (λ h. h) (λ h. h) m.mine fits.is.stage
    where
      no_value : (r : ℕ) → (Mark e.cell ≡ Value r) ⊎ (Mark e.cell ≡ Kind r) → ⊥
      no_value r at = elim at [ inl x ↦ cc | inr x ↦ cc ]

      gone : (v : ℕ) → old.memory.buffer p ≡ entry (Mark e.cell) v ∷ [] → v ≤ new.memory.persisted (Mark e.cell) → new.memory.persisted (Mark e.cell) ≤ new.memory.cached (Mark e.cell)
          → (c x : ℕ) → e.cell ≡ c → Matters new c x → IsBelowBuffered old.memory p c x → ⊥
      gone v alone enough behind c x at matters k =
          let both : entry (Mark e.cell) v ∷ [] ≡ entry (Mark c) k.value ∷ [] = sym alone ∙ k.alone in
          let value : v ≡ k.value = ap (λ (y : BufferEntry Place). y.value) (let one : entry (Mark e.cell) v ≡ entry (Mark c) k.value = cc in one) in
          let l = k.below in
          let p1 = ap (λ (y : ℕ). new.memory.persisted (Mark y)) at in
          let c1 = ap (λ (y : ℕ). new.memory.cached (Mark y)) at in
          elim matters.1 [
            | inl is ↦ omega arith
            | inr durable ↦ (let least = durable_least new c x durable in omega arith)
          ]

  pub step_flush_outcome : (how : Bool) → old.situation e.process ≡ Recovering (at e (FlushOutcome how)) → RecoveryFits old e.process (at e (FlushOutcome how)) → StepsAt e (FlushOutcome how) word old new → Keeps e.process old new
  step_flush_outcome how was fits t =
      let m : FlushesAt p (Announce p) (class_of (Announce p)) old.memory new.memory = t.memory.1 in
      let tn : Turn p old new = turn_of e (FlushOutcome how) word old new real was tt t in
      let g : Grows p Version old new = grows_own p Version old new (flush_moves p old new tn (Announce p) (class_of (Announce p)) m) tn.counted in
      flushes e e.mark e.row e.announcement e.cell (FlushOutcome how) (BackOutcome how) old new sound was fits real tn t.situation t.open_edits
      (simple_passes p e.row (FlushOutcome how) e.row (BackOutcome how) old new (held_from p old new g) (pends_from p old new g t.open_edits)
      (λ r c x bit matters held o. o) (λ c x matters k o. o) (λ r held o. o) (λ f before last_of issue issued same k o. o))
      (Announce p) m (λ h. h) (λ h. h)
      (m.mine ∙ ap (λ xs. xs ++ entry (Announce p) (old.memory.cached (Announce p)) ∷ []) fits.buffer ∙ ap (λ (v : ℕ). entry (Announce p) v ∷ []) fits.resolved.0) fits.is.stage

  pub step_back_outcome : (how : Bool) → old.situation e.process ≡ Recovering (at e (BackOutcome how)) → RecoveryFits old e.process (at e (BackOutcome how)) → StepsAt e (BackOutcome how) word old new → Keeps e.process old new
  step_back_outcome how was fits t =
      let m : WritesBack p (entry (Announce p) e.announcement) [] old.memory new.memory = first_back (entry (Announce p) e.announcement) [] fits.buffer t.memory.1 in
      let tn : Turn p old new = turn_of e (BackOutcome how) word old new real was tt t in
      let g : Grows p Version old new = grown_back p (Announce p) e.announcement [] old new sound tn m (sym fits.resolved.0) (λ o. sym fits.resolved.0) in
      backs e e.mark e.row e.announcement e.cell (BackOutcome how) (Answer (Some how)) old new sound was fits real tn t.situation t.open_edits
      (simple_passes p e.row (BackOutcome how) e.row (Answer (Some how)) old new (held_from p old new g) (pends_from p old new g t.open_edits)
      (λ r c x bit matters held o. o) (λ c x matters k o. o) (λ r held o. o) (λ f before last_of issue issued same k o. o))
      (Announce p) e.announcement [] m (sym fits.resolved.0) (λ o. sym fits.resolved.0) (λ c at. cc) (λ r at. absurd (no_value r at)) (λ r at. absurd (no_value r at))
      (λ moves my. no_new_marks p (Announce p) old new moves (λ c at. cc) (was_there p (Announce p) e.announcement [] old new sound tn m (sym fits.resolved.0) (λ o. sym fits.resolved.0)))
      (λ h. h) (λ h. (h.0, m.there, h.1, h.2)) m.mine fits.is.stage
    where
      no_value : (r : ℕ) → (Announce p ≡ Value r) ⊎ (Announce p ≡ Kind r) → ⊥
      no_value r at = elim at [ inl x ↦ cc | inr x ↦ cc ]
