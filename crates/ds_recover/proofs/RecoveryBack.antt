-- A recovery's write-backs, and the bits that it adds to marks.
use Rattle.std.proofs.Common.{ℕ, ◌≡◌, ◌≢◌, ◌<◌, ◌⊎◌, List, ◌∷◌, refl, ap, sym, ◌∙◌, subst, arith, inl, inr, suc}
use Rattle.std.specs.Prelude.{Contains, bit_or}
use Rattle.std.proofs.lemmas.Bool.{cases_eq}
use Rattle.ds_words.specs.declared.access.BufferEntry.{BufferEntry}
use Rattle.ds_words.specs.Memory.{Memory, OrsAt, WritesBack, BacksFirst, newer}
use Rattle.ds_layout.specs.Places.{class_of}
use Rattle.ds_layout.specs.declared.mark.TheConstants.{DIRTY}
use Rattle.ds_layout.specs.declared.place.Place.{Place}
use Rattle.ds_layout.specs.declared.place.Place.TheVariants.{Version, Head, Mark, Value, Kind, Announce}
use Rattle.ds_layout.proofs.PlaceCases.{place_cases}
use Rattle.ds_state.specs.Works.{PlainRecoverCall}
use Rattle.ds_state.specs.RecoverStages.{IsStage}
use Rattle.ds_state.specs.World.{PlainWorld}
use Rattle.ds_state.specs.Owing.{entry, IsHeld, IsPending, CellOwes}
use Rattle.ds_layout.specs.Mark.{IsClean, IsHeldBy}
use Rattle.ds_state.specs.KnownRecovery.{FreedFits, freed_at, ResolvedFits, resolved_at, RecoveryHolds, recovery_held}
use Rattle.ds_state.specs.CallsFit.{CallFits, RecoveryFits}
use Rattle.ds_state.specs.WordsFit.{WordFits}
use Rattle.ds_state.specs.Rely.{IsOwnedBy, KeepsHold, Grows, Keeps}
use Rattle.ds_state.specs.Sound.{IsSound}
use Rattle.ds_state.specs.declared.recovery.RecoverStage.{RecoverStage}
use Rattle.ds_state.specs.declared.situation.Situation.{Situation}
use Rattle.ds_state.specs.declared.situation.Situation.TheVariants.{Recovering}
use Rattle.ds_state.proofs.Dirty.{or_dirty, or_moves, or_mark_fits}
use Rattle.ds_state.proofs.Heads.{small_counted}
use Rattle.ds_state.proofs.Frames.{Moves, grows_by, stays_hold, word_bears, moves_sound}
use Rattle.ds_state.proofs.Bearing.{Mine, MyMarks, bears, all_stand, text_same, no_new_marks, stored_marks}
use Rattle.ds_state.proofs.Buffers.{buffered}
use Rattle.ds_state.proofs.Sides.{EntryFits, IsBetween, newer_between}
use Rattle.ds_state.proofs.Accesses.{Turn, store_moves, Backs, written_backs, back_moves, back_grows, back_sound}
use Rattle.ds_recover.proofs.RecoveryFrame.{on, Passes, recovery_mine, recovery_apart, recovery_keeps, stays, silent_step}

-- a cell that the process holds on both sides it holds so still, where its words only grow
pub held_from : (p : ℕ) (old new : PlainWorld) → Grows p Version old new → (r : ℕ) → IsHeld old.memory p r → IsHeld new.memory p r
held_from p old new g r k =
    let a = (g.holds r (λ x. cc)).cached k.by in
    let b = (g.holds r (λ x. cc)).persisted k.by k.same in
    let by = k.by in
    record { by = omega arith; same = omega arith }

-- an edit that both sides announce as pending is pending still, where the process's words only grow
pub pends_from : (p : ℕ) (old new : PlainWorld) → Grows p Version old new → new.open_edits p ≡ old.open_edits p → (c : ℕ) → IsPending old p c → IsPending new p c
pends_from p old new g pending c k = record {
  issue = k.issue;
  issued = pending ∙ k.issued;
  cell = k.cell;
  cached = g.owned_cached (Announce p) refl (λ x. cc) ∙ k.cached;
  persisted = elim (g.owned_persisted (Announce p) refl (λ x. cc)) [ inl same ↦ same ∙ k.persisted | inr up ↦ up ∙ k.cached ];
}

-- a write-back is that of the buffer's first entry
pub first_back : {p : ℕ} {old new : Memory Place} (x : BufferEntry Place) (xs : List (BufferEntry Place)) → old.buffer p ≡ x ∷ xs → BacksFirst p old new → WritesBack p x xs old new
first_back {p} {old} {new} x xs holds (first, rest, m) =
    let both : x ∷ xs ≡ first ∷ rest = sym holds ∙ m.oldest in
    let a : first ≡ x = cc in
    let b : rest ≡ xs = cc in
    subst (λ (r : List (BufferEntry Place)). WritesBack p x r old new) b (subst (λ (y : BufferEntry Place). WritesBack p y rest old new) a m)

-- one entry is written back
module _ (p : ℕ) (place : Place) (value : ℕ) (rest : List (BufferEntry Place)) (old new : PlainWorld) (sound : IsSound old) (tn : Turn p old new)
    (m : WritesBack p (entry place value) rest old.memory new.memory) (fitting : EntryFits old place (old.memory.cached place) value)
    (caught : IsOwnedBy old.memory p place → newer (class_of place) (old.memory.persisted place) value ≡ old.memory.cached place) where
  abbrev pub now : ℕ
  now = newer (class_of place) (old.memory.persisted place) value

  pub b : Backs p old new tn place now
  b = written_backs p old new tn place value rest m

  pub between : IsBetween old.layout place (old.memory.cached place) (old.memory.persisted place) now
  between = newer_between old (small_counted old sound.of_sheet) place (old.memory.cached place) (old.memory.persisted place) value (sound.words place) fitting

  pub moved_back : Moves p place old new
  moved_back = back_moves p old new tn sound place now b between

  keeps_hold : (cell : ℕ) → Mark cell ≡ place → KeepsHold p (old.memory.cached (Mark cell)) (old.memory.persisted (Mark cell)) (new.memory.cached (Mark cell)) (new.memory.persisted (Mark cell))
  keeps_hold cell at =
      let k : IsBetween old.layout (Mark cell) (old.memory.cached (Mark cell)) (old.memory.persisted (Mark cell)) now = subst (λ (y : Place). IsBetween old.layout y (old.memory.cached y) (old.memory.persisted y) now) (sym at) between in
      let there : new.memory.persisted (Mark cell) ≡ now = subst (λ (y : Place). new.memory.persisted y ≡ now) (sym at) m.there in
      let c = m.cached (Mark cell) in
      let low = k.0 in
      let high = k.1 in
      record { cached = λ h. omega arith; persisted = λ h s. omega arith; came = λ h. subst (λ (x : ℕ). IsHeldBy p x) c h }

  pub grown_back : Grows p Version old new
  grown_back = back_grows p old new tn sound place now b between (λ o. (m.cached place, inr (m.there ∙ caught o))) keeps_hold

  -- what was in a buffer
  pub was_there : (c x q : ℕ) → Contains (new.memory.buffer q) (entry (Mark c) x) → Contains (old.memory.buffer q) (entry (Mark c) x)
  was_there c x q h = elim (cases_eq q p) [
    | inr ne ↦ subst (λ (xs : List (BufferEntry Place)). Contains xs (entry (Mark c) x)) (m.others q ne) h
    | inl eq ↦ subst (λ (xs : List (BufferEntry Place)). Contains xs (entry (Mark c) x)) (sym (ap old.memory.buffer eq ∙ m.oldest)) (further (subst (λ (xs : List (BufferEntry Place)). Contains xs (entry (Mark c) x)) (ap new.memory.buffer eq ∙ m.mine) h))
  ]
    where
      further : Contains rest (entry (Mark c) x) → Contains (entry place value ∷ rest) (entry (Mark c) x)
      further (k, l, is) = (suc k, omega arith, is)

module _ (e : PlainRecoverCall) (mark : ℕ) (row : List ℕ) (word : ℕ) (cell : ℕ) (s s' : RecoverStage) (old new : PlainWorld) (sound : IsSound old)
    (was : old.situation e.process ≡ Recovering (record e { stage = s })) (fits : RecoveryFits old e.process (record e { stage = s })) (real : e.process < old.layout.processes)
    (tn : Turn e.process old new) (is : new.situation e.process ≡ Recovering (on e mark row word cell s')) (pending : new.open_edits e.process ≡ old.open_edits e.process)
    (passes : Passes e.process e.row s row s' old new) where
  -- a write-back of what is no head
  pub backs : (place : Place) (value : ℕ) (rest : List (BufferEntry Place)) (m : WritesBack e.process (entry place value) rest old.memory new.memory) (fitting : EntryFits old place (old.memory.cached place) value)
      (caught : IsOwnedBy old.memory e.process place → newer (class_of place) (old.memory.persisted place) value ≡ old.memory.cached place)
      → ((c : ℕ) → place ≡ Head c → ⊥)
      → ((r : ℕ) → (place ≡ Value r) ⊎ (place ≡ Kind r) → IsHeldBy e.process (old.memory.cached (Mark r)) → (c x : ℕ) → CellOwes new r c x)
      → ((r : ℕ) → (place ≡ Value r) ⊎ (place ≡ Kind r) → IsHeldBy e.process (old.memory.cached (Mark r)) → IsHeld old.memory e.process r)
      → ((moves : Moves e.process place old new) → Mine e.process place old new moves → MyMarks e.process place old new moves)
      → (FreedFits new e.process e.mark (freed_at s) → FreedFits new e.process mark (freed_at s'))
      → (ResolvedFits new e.process e.announcement e.cell (resolved_at s) → ResolvedFits new e.process word cell (resolved_at s'))
      → RecoveryHolds new e.process word cell (recovery_held cell s') → IsStage (on e mark row word cell s') s' → Keeps e.process old new
  backs place value rest m fitting caught no_head stored holds marks freed resolved buffer rows =
      let moves : Moves e.process place old new = moved_back e.process place value rest old new sound tn m fitting caught in
      let g : Grows e.process Version old new = grown_back e.process place value rest old new sound tn m fitting caught in
      let my : Mine e.process place old new moves = recovery_mine e mark row word cell s s' old new was is place moves passes stored holds (λ c. m.cached (Head c)) (λ c at. absurd (no_head c at)) in
      back_sound e.process old new tn sound place (newer (class_of place) (old.memory.persisted place) value) (b e.process place value rest old new sound tn m fitting caught)
      (between e.process place value rest old new sound tn m fitting caught)
      (bears e.process place old new moves sound my)
      (all_stand e.process place old new moves sound (buffered old sound) my (text_same old new moves.layout tn.counted) (marks moves my))
      (recovery_apart e mark row word cell s s' old new was is place moves passes) (recovery_keeps e mark row word cell s s' old new was is place moves passes pending)
      (λ l. subst (λ (t : Situation). CallFits new e.process t) (sym is)
      (stays e mark row word cell s s' old new sound was fits real tn is pending passes g freed resolved buffer rows))

  -- one that changes nothing but the buffer
  pub backs_none : (place : Place) (value : ℕ) (rest : List (BufferEntry Place)) (m : WritesBack e.process (entry place value) rest old.memory new.memory)
      → newer (class_of place) (old.memory.persisted place) value ≡ old.memory.persisted place
      → ((c x q : ℕ) → Contains (new.memory.buffer q) (entry (Mark c) x) → Contains (old.memory.buffer q) (entry (Mark c) x))
      → Grows e.process Version old new
      → (FreedFits new e.process e.mark (freed_at s) → FreedFits new e.process mark (freed_at s'))
      → (ResolvedFits new e.process e.announcement e.cell (resolved_at s) → ResolvedFits new e.process word cell (resolved_at s'))
      → RecoveryHolds new e.process word cell (recovery_held cell s') → IsStage (on e mark row word cell s') s' → Keeps e.process old new
  backs_none place value rest m same there g freed resolved buffer rows =
      let kept : (r : Place) → new.memory.persisted r ≡ old.memory.persisted r = λ r. elim (place_cases r place) [
        | inl eq ↦ subst (λ (y : Place). new.memory.persisted y ≡ old.memory.persisted y) (sym eq) (m.there ∙ same)
        | inr apart ↦ m.elsewhere r apart
      ] in
      let moves : Moves e.process Version old new = record {
        layout = tn.layout;
        cached = λ r ne. m.cached r;
        persisted = λ r ne. kept r;
        here = tt;
        buffers = m.others;
        situations = tn.situations;
        pendings = tn.pendings;
        goes = tn.goes;
        version = inl (m.cached Version, inl (kept Version));
      } in
      silent_step e mark row word cell s s' old new sound was fits real tn is pending passes moves (λ c. m.cached (Head c)) (λ my. no_new_marks e.process Version old new moves (λ c at. cc) there)
      (stays e mark row word cell s s' old new sound was fits real tn is pending passes g freed resolved buffer rows)

-- the dirty bit comes to a mark
module _ (p d : ℕ) (old new : PlainWorld) (tn : Turn p old new) (m : OrsAt (Mark d) DIRTY old.memory new.memory) where
  pub moved_or : Moves p (Mark d) old new
  moved_or = store_moves p old new tn (Mark d) (bit_or (old.memory.cached (Mark d)) DIRTY) (λ x. cc) (or_moves p (old.memory.cached (Mark d)) (old.memory.persisted (Mark d))) m

  or_hold : (cell : ℕ) → Mark cell ≢ Version → KeepsHold p (old.memory.cached (Mark cell)) (old.memory.persisted (Mark cell)) (new.memory.cached (Mark cell)) (new.memory.persisted (Mark cell))
  or_hold cell ne = elim (cases_eq cell d) [
    | inr apart ↦ stays_hold p _ _ _ _ (m.elsewhere (Mark cell) (λ x. apart (let y : Mark cell ≡ Mark d = x in cc))) (m.persisted (Mark cell))
    | inl at ↦ (
        let is = or_dirty (old.memory.cached (Mark d)) in
        let there = m.there in
        let v = m.persisted (Mark d) in
        subst (λ (y : ℕ). KeepsHold p (old.memory.cached (Mark y)) (old.memory.persisted (Mark y)) (new.memory.cached (Mark y)) (new.memory.persisted (Mark y))) (sym at)
        (record { cached = λ h. omega arith; persisted = λ h k. omega arith; came = λ h. omega arith }))
  ]

  pub grown_or : Grows p Version old new
  grown_or = grows_by p (Mark d) old new moved_or tn.counted p Version (λ r o ne. elim (place_cases r (Mark d)) [
    | inl eq ↦ absurd (subst (λ (y : Place). IsOwnedBy old.memory p y) eq o)
    | inr apart ↦ (m.elsewhere r apart, inl (m.persisted r))
  ]) or_hold

module _ (e : PlainRecoverCall) (mark : ℕ) (row : List ℕ) (word : ℕ) (cell : ℕ) (s s' : RecoverStage) (old new : PlainWorld) (sound : IsSound old)
    (was : old.situation e.process ≡ Recovering (record e { stage = s })) (fits : RecoveryFits old e.process (record e { stage = s })) (real : e.process < old.layout.processes)
    (tn : Turn e.process old new) (is : new.situation e.process ≡ Recovering (on e mark row word cell s')) (pending : new.open_edits e.process ≡ old.open_edits e.process)
    (passes : Passes e.process e.row s row s' old new) where
  pub ors : (d : ℕ) → OrsAt (Mark d) DIRTY old.memory new.memory
      → (FreedFits new e.process e.mark (freed_at s) → FreedFits new e.process mark (freed_at s'))
      → (ResolvedFits new e.process e.announcement e.cell (resolved_at s) → ResolvedFits new e.process word cell (resolved_at s'))
      → RecoveryHolds new e.process word cell (recovery_held cell s') → IsStage (on e mark row word cell s') s' → Keeps e.process old new
  ors d m freed resolved buffer rows =
      let p : ℕ = e.process in
      let c : ℕ = old.memory.cached (Mark d) in
      let v : ℕ = old.memory.persisted (Mark d) in
      let moves : Moves p (Mark d) old new = moved_or p d old new tn m in
      let my : Mine p (Mark d) old new moves = recovery_mine e mark row word cell s s' old new was is (Mark d) moves passes (λ r at. absurd (no_value d r at)) (λ r at. absurd (no_value d r at)) (λ k. m.elsewhere (Head k) (λ x. cc)) (λ k at. cc) in
      let marks : MyMarks p (Mark d) old new moves = stored_marks p (Mark d) old new moves (λ k at clean. absurd (unclean k at clean)) m.persisted m.buffer in
      moves_sound p (Mark d) old new moves tn.counted sound (bears p (Mark d) old new moves sound my)
      (all_stand p (Mark d) old new moves sound (buffered old sound) my (text_same old new moves.layout tn.counted) marks)
      (recovery_apart e mark row word cell s s' old new was is (Mark d) moves passes) (λ k ne. recovery_keeps e mark row word cell s s' old new was is (Mark d) moves passes pending k)
      (subst (λ (x : ℕ). WordFits new (Mark d) x (new.memory.persisted (Mark d))) (sym m.there) (subst (λ (y : ℕ). WordFits new (Mark d) (bit_or c DIRTY) y) (sym (m.persisted (Mark d)))
      (or_mark_fits new d c v (word_bears p (Mark d) old new moves tn.counted (Mark d) c v (λ k at. cc) (λ k at a. elim at [ inl x ↦ cc | inr x ↦ cc ]) (λ edition q n part at now. absurd (cc)) (sound.words (Mark d))))))
      (λ l. subst (λ (t : Situation). CallFits new p t) (sym is)
      (stays e mark row word cell s s' old new sound was fits real tn is pending passes (grown_or p d old new tn m) freed resolved buffer rows))
    where
      no_value : (d r : ℕ) → (Mark d ≡ Value r) ⊎ (Mark d ≡ Kind r) → ⊥
      no_value d r at = elim at [ inl x ↦ cc | inr x ↦ cc ]

      unclean : (k : ℕ) → Mark d ≡ Mark k → IsClean (new.memory.cached (Mark k)) → ⊥
      unclean k at clean =
          let there = m.there in
          let is' = or_dirty (old.memory.cached (Mark d)) in
          let same = ap new.memory.cached at in
          omega arith
