-- A recovery writes back the words of a cell that it holds, and marks the cells that refer to it.
use Rattle.std.proofs.Common.{ℕ, ◌≡◌, ◌≢◌, ◌<◌, ◌≤◌, ◌+◌, ◌-◌, ◌/◌, ◌⊎◌, List, [], ◌∷◌, ◌++◌, refl, ap, sym, ◌∙◌, subst, arith, inl, inr, Some, None, true, false, max, length-append}
use Rattle.std.specs.Prelude.{Contains, Option, Bool, bit_or, nat_lt, if◌then◌else◌}
use Rattle.std.proofs.lemmas.Bool.{cases_eq, ltb-true, ltb-false}
use Rattle.ds_words.specs.Memory.{SameMemory, OrsAt, FlushesAt, WritesBack}
use Rattle.ds_layout.specs.Places.{class_of}
use Rattle.ds_layout.specs.declared.mark.TheConstants.{DIRTY}
use Rattle.ds_layout.specs.declared.place.Place.TheVariants.{Version, Mark, Value, Kind}
use Rattle.ds_state.specs.Works.{PlainRecoverCall}
use Rattle.ds_state.specs.World.{PlainWorld}
use Rattle.ds_state.specs.Owing.{entry, IsHeld, IsApart, CellOwes, IsIndexed, SpreadOwes, Owes}
use Rattle.ds_layout.specs.Mark.{IsHeldBy}
use Rattle.ds_state.specs.Standing.{Matters}
use Rattle.ds_state.specs.KnownWork.{HasMark}
use Rattle.ds_state.specs.KnownRecovery.{Holding, ValueAgrees, KindAgrees, value_now, kind_now}
use Rattle.ds_state.specs.CallsFit.{RecoveryFits}
use Rattle.ds_state.specs.Rely.{Grows, Keeps}
use Rattle.ds_state.specs.Sound.{IsSound}
use Rattle.ds_state.specs.Telling.{told_from}
use Rattle.ds_recover.specs.RecoverySteps.{StepsAt, at, told}
use Rattle.ds_state.specs.declared.spread.Spread.TheVariants.{LoadRow, OrTold, FlushTold, BackTold}
use Rattle.ds_state.specs.declared.recovery.RecoverStage.TheVariants.{BackValue, BackKind, Telling, Give}
use Rattle.ds_state.specs.declared.situation.Situation.{Situation}
use Rattle.ds_state.specs.declared.situation.Situation.TheVariants.{Recovering}
use Rattle.ds_state.proofs.Dirty.{or_dirty}
use Rattle.ds_state.proofs.Frames.{Moves, one_holder}
use Rattle.ds_state.proofs.Bearing.{no_new_marks, text_same}
use Rattle.ds_state.proofs.Buffers.{buffered}
use Rattle.ds_state.proofs.EditFrame.{back_any}
use Rattle.ds_state.proofs.Telling.{matters_most, odd_above, row_passes, flush_passes, back_passes}
use Rattle.ds_state.proofs.Accesses.{Turn, same_moves, flush_moves}
use Rattle.ds_recover.proofs.RecoveryFrame.{Passes, turn_of, held_on, pends_on, simple_passes, loads, flushes}
use Rattle.ds_recover.proofs.RecoveryBack.{held_from, pends_from, first_back, grown_back, was_there, backs, backs_none, moved_or, grown_or, ors}
use Rattle.ds_recover.proofs.RecoveryFree.{tells_none, tells_some, told_below}

same_value : (a r : ℕ) → (Value a ≡ Value r) ⊎ (Value a ≡ Kind r) → a ≡ r
same_value a r (inl x) = cc
same_value a r (inr x) = cc

same_kind : (a r : ℕ) → (Kind a ≡ Value r) ⊎ (Kind a ≡ Kind r) → a ≡ r
same_kind a r (inl x) = cc
same_kind a r (inr x) = cc

no_value : (a r : ℕ) → (Mark a ≡ Value r) ⊎ (Mark a ≡ Kind r) → ⊥
no_value a r at = elim at [ inl x ↦ cc | inr x ↦ cc ]

module _ (e : PlainRecoverCall) (word : ℕ) (old new : PlainWorld) (sound : IsSound old) (real : e.process < old.layout.processes) where
  abbrev p : ℕ
  p = e.process

  mine_held : (c : ℕ) → Holding old p e.mark c → IsHeldBy p (old.memory.cached (Mark c))
  mine_held c h = let a = h.stands in let b = h.by in omega arith

  -- whoever may have the sides of the cell's words differ is this process, which holds it on both sides
  apart_held : (c : ℕ) → Holding old p e.mark c → IsApart old c → IsHeld old.memory p c
  apart_held c h a = subst (λ (q : ℕ). IsHeld old.memory q c) (one_holder (old.memory.cached (Mark c)) p a.holder (mine_held c h) a.held.by) a.held

  pub step_back_value : (c : ℕ) → old.situation e.process ≡ Recovering (at e (BackValue c)) → RecoveryFits old e.process (at e (BackValue c)) → StepsAt e (BackValue c) word old new → Keeps e.process old new
  step_back_value c was fits t =
      let v : ℕ = old.memory.cached (Value c) in
      let m : WritesBack p (value_now old c) (kind_now old c ∷ []) old.memory new.memory = first_back (value_now old c) (kind_now old c ∷ []) fits.buffer t.memory.1 in
      let tn : Turn p old new = turn_of e (BackValue c) word old new real was tt t in
      let g : Grows p Version old new = grown_back p (Value c) v (kind_now old c ∷ []) old new sound tn m refl (λ o. refl) in
      let passes : Passes p e.row (BackValue c) e.row (BackKind c) old new = simple_passes p e.row (BackValue c) e.row (BackKind c) old new (held_from p old new g) (pends_from p old new g t.open_edits)
      (λ r d x bit matters held o. tt) (λ d x matters k o. tt) (λ r held o. tt) (λ f before last_of issue issued same k o. tt) in
      let agree : ValueAgrees new c = m.there ∙ sym (m.cached (Value c)) in
      let there : (d x q : ℕ) → Contains (new.memory.buffer q) (entry (Mark d) x) → Contains (old.memory.buffer q) (entry (Mark d) x) = was_there p (Value c) v (kind_now old c ∷ []) old new sound tn m refl (λ o. refl) in
      let holds : new.memory.buffer p ≡ kind_now new c ∷ [] = m.mine ∙ ap (λ (y : ℕ). entry (Kind c) y ∷ []) (sym (m.cached (Kind c))) in
      elim (sound.words (Value c)) [
        | inl same ↦ backs_none e e.mark e.row e.announcement e.cell (BackValue c) (BackKind c) old new sound was fits real tn t.situation t.open_edits passes (Value c) v (kind_now old c ∷ []) m (sym same) there g
            (λ h. (h, agree)) (λ h. h) holds fits.is.stage
        | inr a ↦ (
            let both : IsHeld old.memory p c = apart_held c fits.freed a in
            backs e e.mark e.row e.announcement e.cell (BackValue c) (BackKind c) old new sound was fits real tn t.situation t.open_edits passes (Value c) v (kind_now old c ∷ []) m refl (λ o. refl) (λ d at. cc)
            (λ r at by d x. subst (λ (y : ℕ). CellOwes new y d x) (same_value c r at) (record { holder = p; held = held_from p old new g c both; still = subst (λ (s : Situation). Owes new.memory p s c d x) (sym t.situation) tt }))
            (λ r at by. subst (λ (y : ℕ). IsHeld old.memory p y) (same_value c r at) both)
            (λ moves my. no_new_marks p (Value c) old new moves (λ d at. cc) there)
            (λ h. (h, agree)) (λ h. h) holds fits.is.stage)
      ]

  pub step_back_kind : (c : ℕ) → old.situation e.process ≡ Recovering (at e (BackKind c)) → RecoveryFits old e.process (at e (BackKind c)) → StepsAt e (BackKind c) word old new → Keeps e.process old new
  step_back_kind c was fits t =
      let v : ℕ = old.memory.cached (Kind c) in
      let m : WritesBack p (kind_now old c) [] old.memory new.memory = first_back (kind_now old c) [] fits.buffer t.memory.1 in
      let tn : Turn p old new = turn_of e (BackKind c) word old new real was tt t in
      let g : Grows p Version old new = grown_back p (Kind c) v [] old new sound tn m refl (λ o. refl) in
      let agree : KindAgrees new c = m.there ∙ sym (m.cached (Kind c)) in
      let agree' : ValueAgrees new c = m.elsewhere (Value c) (λ x. cc) ∙ fits.freed.1 ∙ sym (m.cached (Value c)) in
      let passes : Passes p e.row (BackKind c) e.row (Telling c (LoadRow 0)) old new = record {
        owes = λ r d x bit matters k o. (held_from p old new g r k, inr (inl (omega arith)));
        excuses = λ d x matters k o. (pends_from p old new g t.open_edits d k, tt);
        parts = λ r k o. elim (cases_eq c r) [
          | inl eq ↦ inr (subst (λ (y : ℕ). ValueAgrees new y × KindAgrees new y) eq (agree', agree))
          | inr ne ↦ inl (held_from p old new g r k, ne)
        ];
        splits = λ f before last_of issue issued same k o. (pends_from p old new g t.open_edits f.cell k, tt);
      } in
      let there : (d x q : ℕ) → Contains (new.memory.buffer q) (entry (Mark d) x) → Contains (old.memory.buffer q) (entry (Mark d) x) = was_there p (Kind c) v [] old new sound tn m refl (λ o. refl) in
      elim (sound.words (Kind c)) [
        | inl same ↦ backs_none e e.mark e.row e.announcement e.cell (BackKind c) (Telling c (LoadRow 0)) old new sound was fits real tn t.situation t.open_edits passes (Kind c) v [] m (sym same) there g
            (λ h. (h.0, h.1, agree)) (λ h. h) m.mine (fits.is.stage.0, ((let n = fits.is.some in omega arith), fits.is.stage.1))
        | inr a ↦ (
            let both : IsHeld old.memory p c = apart_held c fits.freed.0 a in
            backs e e.mark e.row e.announcement e.cell (BackKind c) (Telling c (LoadRow 0)) old new sound was fits real tn t.situation t.open_edits passes (Kind c) v [] m refl (λ o. refl) (λ d at. cc)
            (λ r at by d x. subst (λ (y : ℕ). CellOwes new y d x) (same_kind c r at) (record { holder = p; held = held_from p old new g c both; still = subst (λ (s : Situation). Owes new.memory p s c d x) (sym t.situation) (inr (inl (omega arith))) }))
            (λ r at by. subst (λ (y : ℕ). IsHeld old.memory p y) (same_kind c r at) both)
            (λ moves my. no_new_marks p (Kind c) old new moves (λ d at. cc) there)
            (λ h. (h.0, h.1, agree)) (λ h. h) m.mine (fits.is.stage.0, ((let n = fits.is.some in omega arith), fits.is.stage.1)))
      ]

  -- what is owed by the cell c, and by others
  other_or : (c r : ℕ) (X Y : Type 0) → (c ≡ r → X → Y) → (c ≢ r) ⊎ X → (c ≢ r) ⊎ Y
  other_or c r X Y f (inl ne) = inl ne
  other_or c r X Y f (inr x) = elim (cases_eq c r) [ inl eq ↦ inr (f eq x) | inr ne ↦ inl ne ]

  pub step_or_told : (c d : ℕ) → old.situation e.process ≡ Recovering (at e (Telling c (OrTold d))) → RecoveryFits old e.process (at e (Telling c (OrTold d))) → StepsAt e (Telling c (OrTold d)) word old new → Keeps e.process old new
  step_or_told c d was fits t =
      let m : OrsAt (Mark d) DIRTY old.memory new.memory = t.memory.1 in
      let tn : Turn p old new = turn_of e (Telling c (OrTold d)) word old new real was tt t in
      let g : Grows p Version old new = grown_or p d old new tn m in
      let moves : Moves p (Mark d) old new = moved_or p d old new tn m in
      let is = or_dirty (old.memory.cached (Mark d)) in
      ors e e.mark e.row e.announcement e.cell (Telling c (OrTold d)) (Telling c (FlushTold d)) old new sound was fits real tn t.situation t.open_edits
      (simple_passes p e.row (Telling c (OrTold d)) e.row (Telling c (FlushTold d)) old new (held_from p old new g) (pends_from p old new g t.open_edits)
      (λ r y x bit matters held o. other_or c r _ _ (λ eq k. (
        k.0,
        elim (cases_eq d y) [
          | inr ne ↦ inl (let l = k.1 in omega arith)
          | inl at ↦ inr (
            at,
            (
                let most = matters_most p d _ old new m moves sound (buffered old sound) y x matters in
                let there : new.memory.cached (Mark y) ≡ bit_or (old.memory.cached (Mark d)) DIRTY = ap (λ (z : ℕ). new.memory.cached (Mark z)) (sym at) ∙ m.there in
                odd_above x (new.memory.cached (Mark y)) matters.0 (omega arith) most),
          )
        ],
      )) o)
      (λ y x matters k o. tt) (λ r held o. o) (λ f before last_of issue issued same k o. tt))
      d m (λ h. h) (λ h. h) (m.buffer p ∙ fits.buffer) fits.is.stage

  pub step_flush_told : (c d : ℕ) → old.situation e.process ≡ Recovering (at e (Telling c (FlushTold d))) → RecoveryFits old e.process (at e (Telling c (FlushTold d))) → StepsAt e (Telling c (FlushTold d)) word old new → Keeps e.process old new
  step_flush_told c d was fits t =
      let m : FlushesAt p (Mark d) (class_of (Mark d)) old.memory new.memory = t.memory.1 in
      let tn : Turn p old new = turn_of e (Telling c (FlushTold d)) word old new real was tt t in
      let moves : Moves p Version old new = flush_moves p old new tn (Mark d) (class_of (Mark d)) m in
      let alone : new.memory.buffer p ≡ entry (Mark d) (old.memory.cached (Mark d)) ∷ [] = m.mine ∙ ap (λ xs. xs ++ entry (Mark d) (old.memory.cached (Mark d)) ∷ []) fits.buffer in
      flushes e e.mark e.row e.announcement e.cell (Telling c (FlushTold d)) (Telling c (BackTold d)) old new sound was fits real tn t.situation t.open_edits
      (simple_passes p e.row (Telling c (FlushTold d)) e.row (Telling c (BackTold d)) old new (held_on p old new moves) (pends_on p old new moves t.open_edits)
      (λ r y x bit matters held o. other_or c r _ _ (λ eq k. flush_passes p e.row d old new alone y x k) o)
      (λ y x matters k o. tt) (λ r held o. o) (λ f before last_of issue issued same k o. tt))
      (Mark d) m (λ h. h) (λ h. h)
      (record { value = old.memory.cached (Mark d); alone = alone; had = (let k = m.cached (Mark d) in omega arith); is = λ q by. rw tn.layout ((sound.words (Mark d)).holder q by) }) fits.is.stage

  -- the mark of a cell that was marked is written back: what comes next is a later cell, or the give-back
  pub step_back_told : (c d : ℕ) → old.situation e.process ≡ Recovering (at e (Telling c (BackTold d))) → RecoveryFits old e.process (at e (Telling c (BackTold d))) → StepsAt e (Telling c (BackTold d)) word old new → Keeps e.process old new
  step_back_told c d was fits t = go (told_from e.row (e.cells - (d + 1)) (d + 1)) refl t.situation
    where
      one : HasMark old p d
      one = fits.buffer

      m : WritesBack p (entry (Mark d) one.value) [] old.memory new.memory
      m = first_back (entry (Mark d) one.value) [] one.alone t.memory.1

      tn : Turn p old new
      tn = turn_of e (Telling c (BackTold d)) word old new real was tt t

      g : Grows p Version old new
      g = grown_back p (Mark d) one.value [] old new sound tn m (one.had, one.is) (λ o. absurd o)

      enough : one.value ≤ new.memory.persisted (Mark d)
      enough = let n : new.memory.persisted (Mark d) ≡ max (old.memory.persisted (Mark d)) one.value = m.there in omega arith

      behind : new.memory.persisted (Mark d) ≤ new.memory.cached (Mark d)
      behind = let k = m.cached (Mark d) in let n : new.memory.persisted (Mark d) ≡ max (old.memory.persisted (Mark d)) one.value = m.there in let h = one.had in let b = (sound.words (Mark d)).behind in omega arith

      left : (y x : ℕ) → Matters new y x → SpreadOwes old.memory p e.row (BackTold d) y x → SpreadOwes new.memory p e.row (OrTold (d + 1)) y x
      left y x matters k = back_passes p e.row d (d + 1) one.value old new one.alone enough behind (λ z l b. omega arith) y x matters k

      go : (o : Option ℕ) → told_from e.row (e.cells - (d + 1)) (d + 1) ≡ o → new.situation p ≡ Recovering (at e (told c o)) → Keeps p old new
      go None none is = backs e e.mark e.row e.announcement e.cell (Telling c (BackTold d)) (Give c) old new sound was fits real tn is t.open_edits
          (simple_passes p e.row (Telling c (BackTold d)) e.row (Give c) old new (held_from p old new g) (pends_from p old new g t.open_edits)
          (λ r y x bit matters held o. elim o [
            | inl ne ↦ ne
            | inr k ↦ absurd (let l = left y x matters k in tells_none e.row e.cells (d + 1) y none (let b = bit.1 in let n = fits.cells in omega arith) l.0 l.1)
          ])
          (λ y x matters k o. tt) (λ r held o. o) (λ f before last_of issue issued same k o. tt))
          (Mark d) one.value [] m (one.had, one.is) (λ o. absurd o) (λ y at. cc) (λ r at. absurd (no_value d r at)) (λ r at. absurd (no_value d r at))
          (λ moves my. back_any p (Mark d) one.value old new moves sound (buffered old sound) my (text_same old new moves.layout tn.counted) real m)
          (λ h. h) (λ h. h) m.mine fits.is.stage.0
      go (Some d') some is = backs e e.mark e.row e.announcement e.cell (Telling c (BackTold d)) (Telling c (OrTold d')) old new sound was fits real tn is t.open_edits
          (simple_passes p e.row (Telling c (BackTold d)) e.row (Telling c (OrTold d')) old new (held_from p old new g) (pends_from p old new g t.open_edits)
          (λ r y x bit matters held o. elim o [
            | inl ne ↦ inl ne
            | inr k ↦ inr (let l = left y x matters k in (l.0, tells_some e.row e.cells (d + 1) d' y some (let b = bit.1 in let n = fits.cells in omega arith) l.0 l.1))
          ])
          (λ y x matters k o. tt) (λ r held o. o) (λ f before last_of issue issued same k o. tt))
          (Mark d) one.value [] m (one.had, one.is) (λ o. absurd o) (λ y at. cc) (λ r at. absurd (no_value d r at)) (λ r at. absurd (no_value d r at))
          (λ moves my. back_any p (Mark d) one.value old new moves sound (buffered old sound) my (text_same old new moves.layout tn.counted) real m)
          (λ h. h) (λ h. h) m.mine (fits.is.stage.0, ((let l = told_below e.row (e.cells - (d + 1)) (d + 1) d' some in let k = fits.is.stage.1.0 in omega arith), fits.is.stage.1.1))

  -- a part of the row
  pub step_load_row : (c part : ℕ) → old.situation e.process ≡ Recovering (at e (Telling c (LoadRow part))) → RecoveryFits old e.process (at e (Telling c (LoadRow part))) → StepsAt e (Telling c (LoadRow part)) word old new → Keeps e.process old new
  step_load_row c part was fits t = by (nat_lt (part + 1) ((e.cells + 63) / 64)) refl t.situation
    where
      row' : List ℕ
      row' = e.row ++ word ∷ []

      m : SameMemory old.memory new.memory
      m = t.memory.1

      tn : Turn p old new
      tn = turn_of e (Telling c (LoadRow part)) word old new real was tt t

      moves : Moves p Version old new
      moves = same_moves p old new tn m

      left : (r y x : ℕ) → c ≡ r → IsIndexed old r y → SpreadOwes old.memory p e.row (LoadRow part) y x → SpreadOwes new.memory p (e.row ++ word ∷ []) (LoadRow (part + 1)) y x
      left r y x eq bit k = row_passes p e.row c part word old new fits.is.stage.1.1 t.memory.0 y x (subst (λ (z : ℕ). IsIndexed old z y) (sym eq) bit) k

      go : (o : Option ℕ) → told_from (e.row ++ word ∷ []) (e.cells - 0) 0 ≡ o → (e.cells + 63) / 64 ≤ part + 1 → new.situation p ≡ Recovering (record e { row = e.row ++ word ∷ []; stage = told c o }) → Keeps p old new
      go None none last is = loads e e.mark (e.row ++ word ∷ []) e.announcement e.cell (Telling c (LoadRow part)) (Give c) old new sound was fits real tn is t.open_edits
          (simple_passes p e.row (Telling c (LoadRow part)) (e.row ++ word ∷ []) (Give c) old new (held_on p old new moves) (pends_on p old new moves t.open_edits)
          (λ r y x bit matters held o. elim o [
            | inl ne ↦ ne
            | inr k ↦ elim (cases_eq c r) [
              | inr ne ↦ ne
              | inl eq ↦ absurd (elim (left r y x eq bit k) [
                | inl later ↦ (let b = bit.1 in let n = fits.cells in omega arith)
                | inr there ↦ tells_none (e.row ++ word ∷ []) e.cells 0 y none (let b = bit.1 in let n = fits.cells in omega arith) there (omega arith)
              ])
            ]
          ])
          (λ y x matters k o. tt) (λ r held o. o) (λ f before last_of issue issued same k o. tt))
          m (λ h. h) (λ h. h) (m.buffer p ∙ fits.buffer) fits.is.stage.0
      go (Some d') some last is = loads e e.mark (e.row ++ word ∷ []) e.announcement e.cell (Telling c (LoadRow part)) (Telling c (OrTold d')) old new sound was fits real tn is t.open_edits
          (simple_passes p e.row (Telling c (LoadRow part)) (e.row ++ word ∷ []) (Telling c (OrTold d')) old new (held_on p old new moves) (pends_on p old new moves t.open_edits)
          (λ r y x bit matters held o. other_or c r _ _ (λ eq k. elim (left r y x eq bit k) [
            | inl later ↦ absurd (let b = bit.1 in let n = fits.cells in omega arith)
            | inr there ↦ (there, tells_some (e.row ++ word ∷ []) e.cells 0 d' y some (let b = bit.1 in let n = fits.cells in omega arith) there (omega arith))
          ]) o)
          (λ y x matters k o. tt) (λ r held o. o) (λ f before last_of issue issued same k o. tt))
          m (λ h. h) (λ h. h) (m.buffer p ∙ fits.buffer) (fits.is.stage.0, ((let l = told_below (e.row ++ word ∷ []) (e.cells - 0) 0 d' some in let n = fits.is.some in omega arith), (let k = fits.is.stage.1.0 in let s = fits.is.stage.1.1 in omega (arith, length-append e.row (word ∷ [])))))

      by : (b : Bool) → nat_lt (part + 1) ((e.cells + 63) / 64) ≡ b → new.situation p ≡ Recovering (record e { row = e.row ++ word ∷ []; stage = if b then Telling c (LoadRow (part + 1)) else told c (told_from (e.row ++ word ∷ []) (e.cells - 0) 0) }) → Keeps p old new
      by true more is = loads e e.mark (e.row ++ word ∷ []) e.announcement e.cell (Telling c (LoadRow part)) (Telling c (LoadRow (part + 1))) old new sound was fits real tn is t.open_edits
          (simple_passes p e.row (Telling c (LoadRow part)) (e.row ++ word ∷ []) (Telling c (LoadRow (part + 1))) old new (held_on p old new moves) (pends_on p old new moves t.open_edits)
          (λ r y x bit matters held o. other_or c r _ _ (λ eq k. left r y x eq bit k) o)
          (λ y x matters k o. tt) (λ r held o. o) (λ f before last_of issue issued same k o. tt))
          m (λ h. h) (λ h. h) (m.buffer p ∙ fits.buffer) (fits.is.stage.0, (ltb-true (part + 1) ((e.cells + 63) / 64) more, (let s = fits.is.stage.1.1 in omega (arith, length-append e.row (word ∷ [])))))
      by false none is = go (told_from (e.row ++ word ∷ []) (e.cells - 0) 0) refl (ltb-false (part + 1) ((e.cells + 63) / 64) none) is
