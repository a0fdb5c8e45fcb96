-- Work on the cell's own words: it loads them, is given an entry, stores it and writes it back.
use Rattle.std.proofs.Common.{ℕ, ◌≡◌, ◌<◌, ◌==◌, ◌&&◌, ◌⊎◌, Bool, true, false, if◌then◌else◌, List, [], ◌∷◌, ◌++◌, refl, ap, sym, ◌∙◌, subst, arith, length, inl, inr}
use Rattle.std.proofs.lemmas.Bool.{eqb-true}
use Rattle.ds_words.specs.Memory.{SameMemory, StoresAt, FlushesAt, WritesBack}
use Rattle.ds_words.specs.declared.access.BufferEntry.{BufferEntry}
use Rattle.ds_eval.specs.declared.inputs.Entry as entries
use Rattle.ds_eval.specs.Inputs.{entry_in}
use Rattle.ds_eval.specs.Local.{local}
use Rattle.ds_layout.specs.Places.{class_of}
use Rattle.ds_layout.specs.declared.place.Place.{Place}
use Rattle.ds_layout.specs.declared.place.Place.TheVariants.{Mark, Value, Kind}
use Rattle.ds_state.specs.Works.{PlainWorkCall, StageFits}
use Rattle.ds_state.specs.World.{PlainWorld}
use Rattle.ds_state.specs.Owing.{entry, IsHeld, IsApart, Parts}
use Rattle.ds_state.specs.Standing.{value_for, word_for}
use Rattle.ds_state.specs.KnownWork.{WorkFits, value_entry, kind_entry}
use Rattle.ds_work.specs.WorkSteps.{StepsAt, offered}
use Rattle.ds_state.specs.Rely.{Keeps}
use Rattle.ds_state.specs.Sound.{IsSound}
use Rattle.ds_state.specs.declared.work.WorkStage.{WorkStage}
use Rattle.ds_state.specs.declared.work.WorkStage.TheVariants as works
use Rattle.ds_state.specs.declared.spread.Spread.TheVariants.{LoadRow}
use Rattle.ds_state.specs.declared.situation.Situation.{Situation}
use Rattle.ds_state.specs.declared.situation.Situation.TheVariants.{Working}
use Rattle.ds_state.proofs.Frames.{one_holder}
use Rattle.ds_state.proofs.Accesses.{Turn}
use Rattle.ds_state.proofs.Bearing.{stored_marks}
use Rattle.ds_state.proofs.StableWork.{held_stable, inputs_stable}
use Rattle.ds_work.proofs.WorkSteps.{on, held_both, store_kind_mine}
use Rattle.ds_work.proofs.WholeSteps.{store_keeps}
use Rattle.ds_work.proofs.WorkClaims.{back_first}
use Rattle.ds_work.proofs.WorkFrame as frame
use Rattle.ds_work.proofs.Keeping.{work_goes}

own_value : (a c : ℕ) → (Value a ≡ Value c) ⊎ (Value a ≡ Kind c) → a ≡ c
own_value a c (inl e) = cc
own_value a c (inr e) = cc

own_kind : (a c : ℕ) → (Kind a ≡ Value c) ⊎ (Kind a ≡ Kind c) → a ≡ c
own_kind a c (inl e) = cc
own_kind a c (inr e) = cc

module _ (e : PlainWorkCall) (word : ℕ) (old new : PlainWorld) (sound : IsSound old) (real : e.process < old.layout.processes) where
  turn_of : (s : WorkStage) → old.situation e.process ≡ Working (on e s) → StepsAt e s word old new → Turn e.process old new
  turn_of s was t = record { layout = t.layout; counted = t.counted; situations = t.others; pendings = λ q ne. t.open_edits q; goes = work_goes e s word old new real was t }

  -- ---- the cell's own words

  pub load_own_value : WorkFits old e.process (on e works.LoadOwnValue) → old.situation e.process ≡ Working (on e works.LoadOwnValue) → StepsAt e works.LoadOwnValue word old new → Keeps e.process old new
  load_own_value fits was t = frame.loads e works.LoadOwnValue (record e { value = word; stage = works.LoadOwnKind }) old new sound real was t.situation (turn_of _ was t) (t.open_edits e.process) fits tt t.memory.1
      (λ c x bit matters o. absurd o) (λ o. absurd o)
      (λ k. record { hold = k.hold; loaded = k.loaded; own = t.memory.1.cached (Value e.cell) ∙ sym t.memory.0; evaluated = tt }) (λ h. h)

  pub load_own_kind : WorkFits old e.process (on e works.LoadOwnKind) → old.situation e.process ≡ Working (on e works.LoadOwnKind) → StepsAt e works.LoadOwnKind word old new → Keeps e.process old new
  load_own_kind fits was t = frame.loads e works.LoadOwnKind (record e { kind = word; stage = works.Wait }) old new sound real was t.situation (turn_of _ was t) (t.open_edits e.process) fits tt t.memory.1
      (λ c x bit matters o. absurd o) (λ o. absurd o)
      (λ k. record { hold = k.hold; loaded = k.loaded; own = (k.own, t.memory.1.cached (Kind e.cell) ∙ sym t.memory.0); evaluated = tt }) (λ h. h)

  -- ---- the stores

  pub store_value : WorkFits old e.process (on e works.StoreValue) → old.situation e.process ≡ Working (on e works.StoreValue) → StepsAt e works.StoreValue word old new → Keeps e.process old new
  store_value fits was t = store_keeps e.process e old new sound (turn_of _ was t) fits was t.situation (t.open_edits e.process) t.memory.1

  pub store_kind : WorkFits old e.process (on e works.StoreKind) → old.situation e.process ≡ Working (on e works.StoreKind) → StepsAt e works.StoreKind word old new → Keeps e.process old new
  store_kind fits was t =
      let m : StoresAt (Kind e.cell) (word_for e.entry) old.memory new.memory = t.memory.1 in
      let held : IsHeld old.memory e.process e.cell = held_both old (on e works.StoreKind) fits.knows.hold in
      let still : IsHeld old.memory e.process e.cell → IsHeld new.memory e.process e.cell =
      frame.same_hold e works.StoreKind (on e works.FlushValue) old new sound real was t.situation (turn_of _ was t) (t.open_edits e.process) fits tt (m.elsewhere (Mark e.cell) (λ x. cc)) (m.persisted (Mark e.cell)) in
      frame.stores e works.StoreKind (on e works.FlushValue) old new sound real was t.situation (turn_of _ was t) (t.open_edits e.process) fits tt (Kind e.cell) (word_for e.entry) (λ x. cc) (λ x. cc)
      (inl held.by) m
      (λ moves. store_kind_mine e.process e (word_for e.entry) old new was t.situation held m moves)
      (λ moves mine. stored_marks e.process (Kind e.cell) old new moves (λ c x. cc) m.persisted m.buffer)
      (λ o. still) (λ o. inl tt)
      (λ moves. inr (record { holder = e.process; held = still held; still = subst (λ (s : Situation). Parts s e.cell) (sym t.situation) (refl, tt) }))
      (λ moves g b. record {
        hold = held_stable (Kind e.cell) old new (on e works.StoreKind) g b (λ r x. cc) fits.knows.hold;
        loaded = inputs_stable (Kind e.cell) old new (on e works.StoreKind) g b fits.knows.hold.claim (length e.inputs) fits.knows.loaded;
        own = (m.elsewhere (Value e.cell) (λ x. cc) ∙ fits.knows.own, m.there);
        evaluated = rw t.layout fits.knows.evaluated;
      })
      (m.buffer e.process ∙ fits.buffer)

  -- ---- the write-backs

  pub flush_value : WorkFits old e.process (on e works.FlushValue) → old.situation e.process ≡ Working (on e works.FlushValue) → StepsAt e works.FlushValue word old new → Keeps e.process old new
  flush_value fits was t =
      let m : FlushesAt e.process (Value e.cell) (class_of (Value e.cell)) old.memory new.memory = t.memory.1 in
      frame.flushes e works.FlushValue (on e works.FlushKind) old new sound real was t.situation (turn_of _ was t) (t.open_edits e.process) fits tt (Value e.cell) m
      (λ c x bit matters o. tt) (λ o. inl tt) (λ k. record { hold = k.hold; loaded = k.loaded; own = k.own; evaluated = k.evaluated })
      (λ g. m.mine ∙ ap (λ (xs : List (BufferEntry Place)). xs ++ entry (Value e.cell) (old.memory.cached (Value e.cell)) ∷ []) fits.buffer
      ∙ ap (λ (v : ℕ). entry (Value e.cell) v ∷ []) fits.knows.own.0)

  pub flush_kind : WorkFits old e.process (on e works.FlushKind) → old.situation e.process ≡ Working (on e works.FlushKind) → StepsAt e works.FlushKind word old new → Keeps e.process old new
  flush_kind fits was t =
      let m : FlushesAt e.process (Kind e.cell) (class_of (Kind e.cell)) old.memory new.memory = t.memory.1 in
      frame.flushes e works.FlushKind (on e works.BackValue) old new sound real was t.situation (turn_of _ was t) (t.open_edits e.process) fits tt (Kind e.cell) m
      (λ c x bit matters o. tt) (λ o. inl tt) (λ k. record { hold = k.hold; loaded = k.loaded; own = k.own; evaluated = k.evaluated })
      (λ g. m.mine ∙ ap (λ (xs : List (BufferEntry Place)). xs ++ entry (Kind e.cell) (old.memory.cached (Kind e.cell)) ∷ []) fits.buffer
      ∙ ap (λ (v : ℕ). value_entry e ∷ entry (Kind e.cell) v ∷ []) fits.knows.own.1)

  pub back_value : WorkFits old e.process (on e works.BackValue) → old.situation e.process ≡ Working (on e works.BackValue) → StepsAt e works.BackValue word old new → Keeps e.process old new
  back_value fits was t =
      let m : WritesBack e.process (value_entry e) (kind_entry e ∷ []) old.memory new.memory = back_first (value_entry e) (kind_entry e ∷ []) fits.buffer t.memory.1 in
      let held : IsHeld old.memory e.process e.cell = held_both old (on e works.BackValue) fits.knows.hold in
      let still : IsHeld old.memory e.process e.cell → IsHeld new.memory e.process e.cell =
      frame.same_hold e works.BackValue (on e works.BackKind) old new sound real was t.situation (turn_of _ was t) (t.open_edits e.process) fits tt (m.cached (Mark e.cell)) (m.elsewhere (Mark e.cell) (λ x. cc)) in
      frame.backs e works.BackValue (on e works.BackKind) old new sound real was t.situation (turn_of _ was t) (t.open_edits e.process) fits tt (Value e.cell) (value_for e.entry) (kind_entry e ∷ []) m
      (sym fits.knows.own.0) (λ o. sym fits.knows.own.0)
      (λ moves. frame.own_mine e works.BackValue (on e works.BackKind) old new sound real was t.situation (turn_of _ was t) (t.open_edits e.process) fits tt (Value e.cell) moves
      (λ c at. own_value e.cell c at) (λ c at. cc) held (still held) (λ c x. tt))
      (λ cell at. cc) still (λ o. inl tt)
      (λ k. record { hold = k.hold; loaded = k.loaded; own = (k.own, m.there); evaluated = k.evaluated })
      m.mine

  pub back_kind : WorkFits old e.process (on e works.BackKind) → old.situation e.process ≡ Working (on e works.BackKind) → StepsAt e works.BackKind word old new → Keeps e.process old new
  back_kind fits was t =
      let f : PlainWorkCall = record e { row = []; stage = works.Telling (LoadRow 0) } in
      let some = fits.cell in
      let row : StageFits f (works.Telling (LoadRow 0)) = (refl, omega arith) in
      let m : WritesBack e.process (kind_entry e) [] old.memory new.memory = back_first (kind_entry e) [] fits.buffer t.memory.1 in
      let held : IsHeld old.memory e.process e.cell = held_both old (on e works.BackKind) fits.knows.hold in
      let still : IsHeld old.memory e.process e.cell → IsHeld new.memory e.process e.cell =
      frame.same_hold e works.BackKind f old new sound real was t.situation (turn_of _ was t) (t.open_edits e.process) fits row (m.cached (Mark e.cell)) (m.elsewhere (Mark e.cell) (λ x. cc)) in
      let value : new.memory.persisted (Value e.cell) ≡ value_for e.entry = m.elsewhere (Value e.cell) (λ x. cc) ∙ fits.knows.own.1 in
      frame.backs e works.BackKind f old new sound real was t.situation (turn_of _ was t) (t.open_edits e.process) fits row (Kind e.cell) (word_for e.entry) [] m
      (sym fits.knows.own.0.1) (λ o. sym fits.knows.own.0.1)
      (λ moves. frame.own_mine e works.BackKind f old new sound real was t.situation (turn_of _ was t) (t.open_edits e.process) fits row (Kind e.cell) moves
      (λ c at. own_kind e.cell c at) (λ c at. cc) held (still held) (λ c x. inl (omega arith)))
      (λ cell at. cc) still
      (λ o. inr (value ∙ sym (m.cached (Value e.cell) ∙ fits.knows.own.0.0), m.there ∙ sym (m.cached (Kind e.cell) ∙ fits.knows.own.0.1)))
      (λ k. record { hold = k.hold; loaded = k.loaded; own = (k.own.0, k.own.1, m.there); evaluated = k.evaluated })
      m.mine

both_true : (a b : Bool) → (a && b) ≡ true → (a ≡ true) × (b ≡ true)
both_true true true e = (refl, refl)
both_true true false e = absurd cc
both_true false b e = absurd cc

-- the offer: the entry of what was loaded
module _ (e : PlainWorkCall) (entry' : entries.Entry) (old new : PlainWorld) (sound : IsSound old) (real : e.process < old.layout.processes)
    (was : old.situation e.process ≡ Working (on e works.Wait)) (is : new.situation e.process ≡ Working (offered e entry')) (tn : Turn e.process old new) (pending : new.open_edits e.process ≡ old.open_edits e.process)
    (fits : WorkFits old e.process (on e works.Wait)) (m : SameMemory old.memory new.memory)
    (entry_is : entry' ≡ local old.layout.shape e.content (entry_in e.inputs)) where
  -- nobody holds a cell's sides apart that its own work waits for
  agree : (q : Place) → (old.memory.persisted q ≡ old.memory.cached q) ⊎ IsApart old e.cell → old.memory.persisted q ≡ old.memory.cached q
  agree q (inl same) = same
  agree q (inr a) =
      let mine : IsHeld old.memory e.process e.cell = held_both old (on e works.Wait) fits.knows.hold in
      let same : a.holder ≡ e.process = one_holder (old.memory.cached (Mark e.cell)) e.process a.holder mine.by a.held.by in
      absurd ((subst (λ (s : Situation). Parts s e.cell) was (subst (λ (h : ℕ). Parts (old.situation h) e.cell) same a.still)).1)

  pub offer_keeps : Keeps e.process old new
  offer_keeps = go ((e.value == value_for entry') && (e.kind == word_for entry')) refl
    where
      go : (b : Bool) → ((e.value == value_for entry') && (e.kind == word_for entry')) ≡ b → Keeps e.process old new
      go false eq = frame.loads e works.Wait (record e { entry = entry'; stage = works.StoreValue }) old new sound real was
          (is ∙ ap (λ (b : Bool). Working (record e { entry = entry'; stage = if b then works.Clear false else works.StoreValue })) eq) tn pending fits tt m
          (λ c x bit matters o. absurd o) (λ o. absurd o)
          (λ k. record { hold = k.hold; loaded = k.loaded; own = k.own; evaluated = rw tn.layout entry_is }) (λ h. h)
      go true eq =
          let two = both_true (e.value == value_for entry') (e.kind == word_for entry') eq in
          let value : e.value ≡ value_for entry' = eqb-true e.value (value_for entry') two.0 in
          let kind : e.kind ≡ word_for entry' = eqb-true e.kind (word_for entry') two.1 in
          let v : old.memory.cached (Value e.cell) ≡ value_for entry' = fits.knows.own.0 ∙ value in
          let k' : old.memory.cached (Kind e.cell) ≡ word_for entry' = fits.knows.own.1 ∙ kind in
          frame.loads e works.Wait (record e { entry = entry'; stage = works.Clear false }) old new sound real was
          (is ∙ ap (λ (b : Bool). Working (record e { entry = entry'; stage = if b then works.Clear false else works.StoreValue })) eq) tn pending fits tt m
          (λ c x bit matters o. absurd o) (λ o. absurd o)
          (λ k. record {
            hold = k.hold;
            loaded = k.loaded;
            own = (
              (m.cached (Value e.cell) ∙ v, m.cached (Kind e.cell) ∙ k'),
              m.persisted (Value e.cell) ∙ agree (Value e.cell) (sound.words (Value e.cell)) ∙ v,
              m.persisted (Kind e.cell) ∙ agree (Kind e.cell) (sound.words (Kind e.cell)) ∙ k',
            );
            evaluated = rw tn.layout entry_is;
          }) (λ h. h)
