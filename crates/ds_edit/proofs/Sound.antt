-- Each step of an edit keeps a world sound.
use Rattle.std.proofs.Common.{ℕ, ◌≡◌, ◌≢◌, ◌<◌, ◌+◌, ◌-◌, ◌/◌, [], ◌∷◌, refl, ap, sym, ◌∙◌, subst, arith, inl, inr, zero, suc, map, length}
use Rattle.std.specs.Prelude.{bit_or, slice_index_or}
use Rattle.std.specs.List.{range_with_len}
use Rattle.std.proofs.lemmas.Bool.{cases_eq}
use Rattle.ds_words.specs.Memory.{FlushesAt}
use Rattle.ds_layout.specs.Places.{class_of}
use Rattle.ds_layout.specs.declared.place.Place.{Place}
use Rattle.ds_layout.specs.declared.place.Place.TheVariants as place
use Rattle.ds_layout.specs.Bits.{IsSubset, bit_of}
use Rattle.ds_layout.proofs.OrBits.{HasBit-or_bit, HasBit-subset, IsSubset-same, IsSubset-or_left, IsSubset-or_right}
use Rattle.ds_state.specs.Edits.{PlainEditCall, text_parts}
use Rattle.ds_state.specs.World.{PlainEdit, edit_of, PlainWorld, record_place, index_place}
use Rattle.ds_layout.specs.declared.announcement.Phase.TheVariants as phase
use Rattle.ds_state.proofs.Saying.{announced_number}
use Rattle.ds_state.specs.Known.{ended, pending, word_of, phase_of, known_at}
use Rattle.ds_state.specs.Owing.{entry}
use Rattle.ds_state.specs.CallsFit.{record_entry, HasOne, IsBits, EditFits, CallFits}
use Rattle.ds_state.specs.Rely.{Keeps}
use Rattle.ds_state.specs.Sound.{IsSound}
use Rattle.ds_state.specs.declared.stage.Outcome.{Outcome}
use Rattle.ds_state.specs.declared.stage.Stage.{Stage}
use Rattle.ds_state.specs.declared.stage.Stage.TheVariants.{StoreHeader, StoreText, FlushHeader, FlushText, BackRecord, StorePending, FlushPending, BackPending, OrIndex, FlushIndex, BackIndex, LoadHead, FlushNoted, BackNoted, OrDone, FlushDone, BackDone, Swap, FlushOwn, BackOwn, OrMark, FlushMark, BackMark, StoreOutcome, FlushOutcome, BackOutcome, Answer}
use Rattle.ds_state.specs.declared.situation.Situation.{Situation}
use Rattle.ds_state.specs.declared.situation.Situation.TheVariants.{Editing}
use Rattle.ds_state.proofs.Frames.{word_bears}
use Rattle.ds_state.proofs.Sides.{row_or_fits}
use Rattle.ds_edit.specs.EditTakes.{StepsAt, Steps}
use Rattle.ds_edit.proofs.Turns.{is_within, turn, on, back_first}
use Rattle.ds_edit.proofs.Sorts.{flushes, backs, ors}
use Rattle.ds_edit.proofs.Recording as recording
use Rattle.ds_edit.proofs.Announcing.{last_less, ended_more, announces, on_both, pending_tells, ended_tells, index_next, index_holds}
use Rattle.ds_edit.proofs.Placing.{step_load_head, step_flush_noted, step_back_noted, step_or_done, step_flush_done, step_back_done, step_swap_lost}
use Rattle.ds_edit.proofs.Taking.{step_swap_won, step_flush_own, step_back_own, step_or_mark, step_flush_mark, step_back_mark}
use Rattle.ds_edit.proofs.Answering.{step_answer}
use Rattle.ds_layout.specs.declared.place.Edition.{Edition}

record_no_row : (edition : Edition) (p n row part k : ℕ) → record_place edition p n k ≢ place.Index row part
record_no_row edition p n row part zero = λ same. cc
record_no_row edition p n row part (suc k) = λ same. cc

module _ (e : PlainEditCall) (word : ℕ) (old new : PlainWorld) (sound : IsSound old) where
  abbrev E : PlainEdit
  E = edit_of e

  abbrev AtStage : Stage → Type 0
  AtStage s = old.situation e.process ≡ Editing (on e s) → EditFits old e.process (on e s) → StepsAt e s word old new → Keeps e.process old new

  -- the record
  store_header : AtStage StoreHeader
  store_header at fits t =
      recording.stores e StoreHeader word old new sound at fits t (record { goes_on = refl; counts = refl; pends = λ i. refl }) t.memory.0 (λ h o. o) (λ x o. o)
      0 0 refl (omega arith) refl fits.knows fits.buffer t.memory.1

  store_text : (part : ℕ) → AtStage (StoreText part)
  store_text part at fits t =
      let l = fits.is.stage in
      recording.stores e (StoreText part) word old new sound at fits t (record { goes_on = refl; counts = refl; pends = λ i. refl }) t.memory.0 (λ h o. o) (λ x o. o)
      (suc part) (part + 1) (omega arith) (omega arith) refl fits.knows fits.buffer t.memory.1

  flush_header : AtStage FlushHeader
  flush_header at fits t =
      recording.flushes e FlushHeader word old new sound at fits t (record { goes_on = refl; counts = refl; pends = λ i. refl }) t.memory.0 (λ h o. o) (λ x o. o)
      0 0 refl (omega arith) refl fits.knows fits.buffer t.memory.1

  flush_text : (part : ℕ) → AtStage (FlushText part)
  flush_text part at fits t =
      let l = fits.is.stage in
      recording.flushes e (FlushText part) word old new sound at fits t (record { goes_on = refl; counts = refl; pends = λ i. refl }) t.memory.0 (λ h o. o) (λ x o. o)
      (suc part) (part + 1) (omega arith) (omega arith) refl fits.knows fits.buffer t.memory.1

  back_record : (left : ℕ) → AtStage (BackRecord left)
  back_record left at fits t =
      let k : ℕ = text_parts e.text - left in
      recording.backs e (BackRecord left) word old new sound at fits t (record { goes_on = refl; counts = refl; pends = λ i. refl }) t.memory.0 (λ h o. o) (λ x o. o)
      left k fits.is.stage refl refl fits.knows fits.buffer
      (back_first (record_entry e.edition E k) (map (record_entry e.edition E) (range_with_len (k + 1) left)) fits.buffer t.memory.1)

  -- the announcement
  store_pending : AtStage StorePending
  store_pending at fits t =
      announces e StorePending word old new sound at fits t (record { goes_on = refl; counts = refl; pends = λ i. refl }) (rw t.memory.0 (omega arith)) (λ h o. o) (λ x o. o)
      (known_at (text_parts e.text) (length e.refs) StorePending) (word_of new E pending) pending fits.knows refl (omega arith) (announced_number e.number phase.Pending) (λ known. known) refl
      (λ stands n is. pending_tells new e.process e.number n is) (last_less old e fits.knows.announced.cached) t.memory.1 (λ same. same ∙ fits.buffer)

  flush_pending : AtStage FlushPending
  flush_pending at fits t =
      flushes e FlushPending word old new sound at fits t (record { goes_on = refl; counts = refl; pends = λ i. refl }) (rw t.memory.0 (omega arith)) (λ h o. absurd o) (λ x k o. absurd o)
      (place.Announce e.process) t.memory.1 fits.buffer (λ known. known)
      (λ alone. alone ∙ ap (λ (v : ℕ). entry (place.Announce e.process) v ∷ []) fits.knows.announced.cached)

  back_pending : AtStage BackPending
  back_pending at fits t =
      backs e BackPending word old new sound at fits t (record { goes_on = refl; counts = refl; pends = λ i. refl }) (rw t.memory.0 (omega arith)) (λ h o. absurd o) (λ x k o. absurd o)
      (place.Announce e.process) (word_of old E pending) fits.buffer (sym fits.knows.announced.cached) (λ o. sym fits.knows.announced.cached) t.memory.1
      (λ known now. index_next new e fits.since 0 (omega arith) (record {
        standing = known.standing;
        recorded = known.recorded;
        announced = on_both new E _ pending known.announced now;
        indexed = known.indexed;
        ored = tt;
        head = tt;
      }))
      (λ none. index_holds new e 0 none)

  -- the index
  or_index : (i : ℕ) → AtStage (OrIndex i)
  or_index i at fits t =
      let there : Place = index_place (slice_index_or e.refs i 0) e.cell in
      ors e (OrIndex i) word old new sound at fits t (record { goes_on = refl; counts = refl; pends = λ i. refl }) (rw t.memory.0 (omega arith)) (λ h o. absurd o) (λ x k o. absurd o)
      there (bit_of e.cell) (record_no_row e.edition e.process e.number (slice_index_or e.refs i 0) (e.cell / 64)) (λ same. cc) (λ same. cc)
      (IsSubset-or_left (old.memory.cached there) (bit_of e.cell), IsSubset-same (old.memory.persisted there))
      (λ moves. row_or_fits new (slice_index_or e.refs i 0) (e.cell / 64) (old.memory.cached there) (old.memory.persisted there) (bit_of e.cell)
      (word_bears e.process there old new moves (turn e _ word old new t at (is_within e _ old fits) refl).counted there (old.memory.cached there) (old.memory.persisted there) (λ cell is. cc) (λ cell is a. elim is [ inl x ↦ cc | inr x ↦ cc ]) (λ edition q n part is. cc) (sound.words there)))
      (λ c is. cc) (λ c is k. cc) (λ c is k. cc)
      t.memory.1
      (λ known now. record {
        standing = known.standing;
        recorded = known.recorded;
        announced = known.announced;
        indexed = known.indexed;
        ored = rw now (HasBit-or_bit (old.memory.cached there) e.cell);
        head = tt;
      })
      (λ same. same ∙ fits.buffer)

  flush_index : (i : ℕ) → AtStage (FlushIndex i)
  flush_index i at fits t =
      let there : Place = index_place (slice_index_or e.refs i 0) e.cell in
      let m : FlushesAt e.process there (class_of there) old.memory new.memory = t.memory.1 in
      flushes e (FlushIndex i) word old new sound at fits t (record { goes_on = refl; counts = refl; pends = λ i. refl }) (rw t.memory.0 (omega arith)) (λ h o. absurd o) (λ x k o. absurd o)
      there m fits.buffer (λ known. known)
      (λ alone. record {
        value = old.memory.cached there;
        alone = alone;
        is = record { has = fits.knows.ored; subset = subst (λ (c : ℕ). IsSubset (old.memory.cached there) c) (sym (m.cached there)) (IsSubset-same (old.memory.cached there)) };
      })

  back_index : (i : ℕ) → AtStage (BackIndex i)
  back_index i at fits t =
      let there : Place = index_place (slice_index_or e.refs i 0) e.cell in
      let one : HasOne old e.process there (IsBits old there e.cell) = fits.buffer in
      backs e (BackIndex i) word old new sound at fits t (record { goes_on = refl; counts = refl; pends = λ i. refl }) (rw t.memory.0 (omega arith)) (λ h o. absurd o) (λ x k o. absurd o)
      there one.value one.alone one.is.subset (λ o. absurd o) t.memory.1
      (λ known now. index_next new e fits.since (i + 1) (let l = fits.is.stage in omega arith) (record {
        standing = known.standing;
        recorded = known.recorded;
        announced = known.announced;
        indexed = record {
          cached = λ j l. elim (cases_eq j i) [ inl same ↦ rw same known.ored | inr ne ↦ known.indexed.cached j (omega arith) ];
          persisted = λ j l. elim (cases_eq j i) [
            | inl same ↦ rw (same, now) (HasBit-subset one.value (bit_or (old.memory.persisted there) one.value) e.cell (IsSubset-or_right (old.memory.persisted there) one.value) one.is.has)
            | inr ne ↦ known.indexed.persisted j (omega arith)
          ];
        };
        ored = tt;
        head = tt;
      }))
      (λ none. index_holds new e (i + 1) none)

  -- the head
  swap : (noted : ℕ) → AtStage (Swap noted)
  swap noted at fits t =
      let seen : word ≡ old.memory.cached (place.Head e.cell) = t.memory.0 in
      elim t.memory.1 [
        | inl won ↦ step_swap_won e word old new sound noted fits (sym won.0 ∙ seen ∙ (sound.words (place.Head e.cell)).last) at t won.0 won.1
        | inr lost ↦ step_swap_lost e word old new sound noted at fits t seen lost.0 lost.1
      ]

  -- how it ended
  store_outcome : (how : Outcome) → AtStage (StoreOutcome how)
  store_outcome how at fits t =
      announces e (StoreOutcome how) word old new sound at fits t (record { goes_on = refl; counts = refl; pends = λ i. refl }) (rw t.memory.0 (omega arith)) (λ h o. o) (λ x o. o)
      (known_at (text_parts e.text) (length e.refs) (StoreOutcome how)) (word_of new E (ended how)) (ended how) fits.knows refl (omega arith) (announced_number e.number (phase_of how)) (λ known. known) refl
      (λ stands n is. ended_tells new E how n stands is) (ended_more old E how fits.knows.announced.cached) t.memory.1 (λ same. same ∙ fits.buffer)

  flush_outcome : (how : Outcome) → AtStage (FlushOutcome how)
  flush_outcome how at fits t =
      flushes e (FlushOutcome how) word old new sound at fits t (record { goes_on = refl; counts = refl; pends = λ i. refl }) (rw t.memory.0 (omega arith)) (λ h o. absurd o) (λ x k o. absurd o)
      (place.Announce e.process) t.memory.1 fits.buffer (λ known. known)
      (λ alone. alone ∙ ap (λ (v : ℕ). entry (place.Announce e.process) v ∷ []) fits.knows.announced.cached)

  back_outcome : (how : Outcome) → AtStage (BackOutcome how)
  back_outcome how at fits t =
      backs e (BackOutcome how) word old new sound at fits t (record { goes_on = refl; counts = refl; pends = λ i. refl }) (rw t.memory.0 (omega arith)) (λ h o. absurd o) (λ x k o. absurd o)
      (place.Announce e.process) (word_of old E (ended how)) fits.buffer (sym fits.knows.announced.cached) (λ o. sym fits.knows.announced.cached) t.memory.1
      (λ known now. record {
        standing = known.standing;
        recorded = known.recorded;
        announced = on_both new E pending (ended how) known.announced now;
        indexed = known.indexed;
        ored = tt;
        head = known.head;
      })
      (λ none. none)

  any_stage : (s : Stage) → AtStage s
  any_stage StoreHeader = store_header
  any_stage (StoreText part) = store_text part
  any_stage FlushHeader = flush_header
  any_stage (FlushText part) = flush_text part
  any_stage (BackRecord left) = back_record left
  any_stage StorePending = store_pending
  any_stage FlushPending = flush_pending
  any_stage BackPending = back_pending
  any_stage (OrIndex i) = or_index i
  any_stage (FlushIndex i) = flush_index i
  any_stage (BackIndex i) = back_index i
  any_stage LoadHead = step_load_head e word old new sound
  any_stage (FlushNoted head) = step_flush_noted e word old new sound head
  any_stage (BackNoted head) = step_back_noted e word old new sound head
  any_stage (OrDone head) = step_or_done e word old new sound head
  any_stage (FlushDone head) = step_flush_done e word old new sound head
  any_stage (BackDone head) = step_back_done e word old new sound head
  any_stage (Swap noted) = swap noted
  any_stage (FlushOwn own) = step_flush_own e word old new sound own
  any_stage (BackOwn own) = step_back_own e word old new sound own
  any_stage (OrMark own) = step_or_mark e word old new sound own
  any_stage (FlushMark own) = step_flush_mark e word old new sound own
  any_stage (BackMark own) = step_back_mark e word old new sound own
  any_stage (StoreOutcome how) = store_outcome how
  any_stage (FlushOutcome how) = flush_outcome how
  any_stage (BackOutcome how) = back_outcome how
  any_stage (Answer how) = step_answer e word old new sound how

-- any step of an edit
pub step_sound : (e : PlainEditCall) (word : ℕ) (old new : PlainWorld) → IsSound old → e.process < old.layout.processes → old.situation e.process ≡ Editing e → Steps e word old new → Keeps e.process old new
step_sound e word old new sound low at t =
    any_stage e word old new sound e.stage at (subst (λ (x : Situation). CallFits old e.process x) at (sound.calls e.process low)) t
