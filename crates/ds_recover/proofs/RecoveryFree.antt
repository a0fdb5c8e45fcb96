-- A recovery looks at its cells, and gives back those that it holds.
use Rattle.std.proofs.Common.{ℕ, ◌≡◌, ◌≢◌, ◌<◌, ◌≤◌, ◌+◌, ◌-◌, ◌/◌, ◌%◌, ◌⊎◌, List, [], ◌∷◌, ◌++◌, refl, ap, sym, ◌∙◌, subst, arith, inl, inr, Some, None, zero, suc, true, false}
use Rattle.std.specs.Prelude.{Option, Bool, nat_lt, if◌then◌else◌, slice_index_or}
use Rattle.std.specs.Int.{bit_at}
use Rattle.std.proofs.lemmas.Bool.{cases_eq, ltb-true, ltb-false}
use Rattle.std.proofs.lemmas.Bool.Decides.{eqb_tells}
use Rattle.ds_words.specs.Memory.{SameMemory, FlushesAt, WritesBack}
use Rattle.ds_layout.specs.Places.{class_of, cells_of}
use Rattle.ds_layout.specs.declared.place.Place.TheVariants.{Version, Mark, Value, Kind}
use Rattle.ds_state.specs.Works.{PlainRecoverCall, HELD_MOST}
use Rattle.ds_state.specs.World.{PlainWorld}
use Rattle.ds_state.specs.Owing.{entry, HoldsNone, StandsIn}
use Rattle.ds_layout.specs.Mark.{IsHeldBy, marked}
use Rattle.ds_state.specs.KnownWork.{HasMark}
use Rattle.ds_state.specs.KnownRecovery.{HoldsFrom, Holding, value_now, kind_now}
use Rattle.ds_state.specs.CallsFit.{RecoveryFits}
use Rattle.ds_state.specs.Rely.{Grows, Keeps}
use Rattle.ds_state.specs.Sound.{IsSound}
use Rattle.ds_state.specs.Telling.{told_from}
use Rattle.ds_state.proofs.Telling.{ToldFits, first_told as first_fits}
use Rattle.ds_recover.specs.RecoverySteps.{StepsAt, at, reads_held}
use Rattle.ds_state.specs.declared.recovery.RecoverStage.TheVariants.{LoadMark, FlushValue, FlushKind, BackValue, Give, GiveDirty, FlushGiven, BackGiven, LoadAnnounce}
use Rattle.ds_state.specs.declared.situation.Situation.TheVariants.{Recovering}
use Rattle.ds_state.proofs.Frames.{Moves}
use Rattle.ds_state.proofs.Bearing.{text_same}
use Rattle.ds_state.proofs.Buffers.{buffered}
use Rattle.ds_state.proofs.EditFrame.{back_any}
use Rattle.ds_state.proofs.Accesses.{Turn, same_moves, flush_moves}
use Rattle.ds_recover.proofs.RecoveryFrame.{turn_of, held_on, pends_on, simple_passes, loads, flushes}
use Rattle.ds_recover.proofs.RecoveryBack.{held_from, pends_from, first_back, grown_back, backs}
use Rattle.ds_recover.proofs.RecoveryGive.{give_keeps}

-- the first cell that is marked is no later than one whose bit stands
pub first_told : (row : List ℕ) (more d c : ℕ) → d ≤ c → c < d + more → StandsIn row c → (d' : ℕ) × (told_from row more d ≡ Some d') × (d' ≤ c)
first_told row zero d c low high bit = absurd (omega arith)
first_told row (suc more) d c low high bit = elim (eqb_tells (bit_at (slice_index_or row (d / 64) 0) (d % 64)) 1) [
  | inl hit ↦ (d, ap (λ (b : Bool). if b then Some d else told_from row more (d + 1)) hit.0, low)
  | inr miss ↦ (
      let apart : d ≢ c = λ same. miss.1 (subst (λ (y : ℕ). StandsIn row y) (sym same) bit) in
      let rest = first_told row more (d + 1) c (omega arith) (omega arith) bit in
      (rest.0, ap (λ (b : Bool). if b then Some d else told_from row more (d + 1)) miss.0 ∙ rest.1, rest.2))
]

none_some : {o : Option ℕ} {d : ℕ} → o ≡ None → o ≡ Some d → ⊥
none_some x y = let z : None ≡ Some _ = sym x ∙ y in cc

some_same : {o : Option ℕ} {d k : ℕ} → o ≡ Some d → o ≡ Some k → d ≡ k
some_same x y = let z : Some _ ≡ Some _ = sym x ∙ y in cc

-- where no cell is found to mark, no bit of a cell from there on stands in the row
pub tells_none : (row : List ℕ) (cells d c : ℕ) → told_from row (cells - d) d ≡ None → c < cells → StandsIn row c → d ≤ c → ⊥
tells_none row cells d c is inside bit low = let k = first_told row (cells - d) d c low (omega arith) bit in none_some is k.1

-- the cell that is found to mark is the first from there on whose bit stands in the row
pub tells_some : (row : List ℕ) (cells d d' c : ℕ) → told_from row (cells - d) d ≡ Some d' → c < cells → StandsIn row c → d ≤ c → d' ≤ c
tells_some row cells d d' c is inside bit low =
    let k = first_told row (cells - d) d c low (omega arith) bit in
    let same = some_same is k.1 in
    let l = k.2 in
    omega arith

-- whether a mark reads as held by the process
held_cases : (p word : ℕ) → ((reads_held p word ≡ true) × (word / 2 % 16 ≡ p + 1) × (word / 32 ≤ HELD_MOST)) ⊎ ((reads_held p word ≡ false) × (word / 2 % 16 ≡ p + 1 → HELD_MOST < word / 32))
held_cases p word = elim (eqb_tells (word / 2 % 16) (p + 1)) [
  | inr apart ↦ inr (ap (λ (b : Bool). if b then nat_lt (word / 32) (HELD_MOST + 1) else false) apart.0, λ by. absurd (apart.1 by))
  | inl mine ↦ by (nat_lt (word / 32) (HELD_MOST + 1)) refl mine.1 (ap (λ (b : Bool). if b then nat_lt (word / 32) (HELD_MOST + 1) else false) mine.0)
]
  where
    by : (b : Bool) → nat_lt (word / 32) (HELD_MOST + 1) ≡ b → word / 2 % 16 ≡ p + 1 → reads_held p word ≡ nat_lt (word / 32) (HELD_MOST + 1)
        → ((reads_held p word ≡ true) × (word / 2 % 16 ≡ p + 1) × (word / 32 ≤ HELD_MOST)) ⊎ ((reads_held p word ≡ false) × (word / 2 % 16 ≡ p + 1 → HELD_MOST < word / 32))
    by true young mine is = inl (is ∙ young, mine, let l = ltb-true (word / 32) (HELD_MOST + 1) young in omega arith)
    by false old mine is = inr (is ∙ old, λ h. let l = ltb-false (word / 32) (HELD_MOST + 1) old in omega arith)

-- a cell that is marked is one of the sheet
pub told_below : (row : List ℕ) (n d k : ℕ) → told_from row n d ≡ Some k → k < d + n
told_below row n d k is = (subst (λ (o : Option ℕ). ToldFits row n d o) is (first_fits row n d)).1

module _ (e : PlainRecoverCall) (word : ℕ) (old new : PlainWorld) (sound : IsSound old) (real : e.process < old.layout.processes) where
  abbrev p : ℕ
  p = e.process

  -- the give-back, which wins or does not
  pub step_give : (c : ℕ) → old.situation e.process ≡ Recovering (at e (Give c)) → RecoveryFits old e.process (at e (Give c)) → StepsAt e (Give c) word old new → Keeps e.process old new
  step_give c was fits t = elim t.memory.1 [
    | inl won ↦ elim (eqb_tells word e.mark) [
      | inr apart ↦ absurd (apart.1 won.0)
      | inl same ↦ give_keeps e c (Give c) old new sound (λ r d x o. o) (λ r o. o) was fits fits.freed.0 fits.buffer fits.is.stage (turn_of e (Give c) word old new real was tt t)
          (t.situation ∙ ap (λ (b : Bool). Recovering (if b then at e (FlushGiven c) else at e (GiveDirty c))) same.0) t.open_edits won.1
    ]
    | inr lost ↦ elim (eqb_tells word e.mark) [
      | inl same ↦ absurd (lost.0 same.1)
      | inr apart ↦ (
          let m : SameMemory old.memory new.memory = lost.1 in
          let tn : Turn p old new = turn_of e (Give c) word old new real was tt t in
          let moves : Moves p Version old new = same_moves p old new tn m in
          loads e e.mark e.row e.announcement e.cell (Give c) (GiveDirty c) old new sound was fits real tn
          (t.situation ∙ ap (λ (b : Bool). Recovering (if b then at e (FlushGiven c) else at e (GiveDirty c))) apart.0) t.open_edits
          (simple_passes p e.row (Give c) e.row (GiveDirty c) old new (held_on p old new moves) (pends_on p old new moves t.open_edits)
          (λ r d x bit matters held o. o) (λ d x matters k o. tt) (λ r held o. o) (λ f before last_of issue issued same k o. tt))
          m (λ h. (h.0, h.1, h.2, outrun_is m (apart.1) h.0)) (λ h. h) (m.buffer p ∙ fits.buffer) fits.is.stage)
    ]
  ]
    where
      outrun_is : SameMemory old.memory new.memory → word ≢ e.mark → Holding new p e.mark c → new.memory.cached (Mark c) ≡ marked e.mark
      outrun_is m ne h =
          let seen = t.memory.0 in
          let same = m.cached (Mark c) in
          let s = h.stands in
          let l = h.seen in
          elim (cases_eq (new.memory.cached (Mark c)) e.mark) [
            | inl eq ↦ absurd (ne (seen ∙ sym same ∙ eq))
            | inr apart ↦ omega arith
          ]

  pub step_give_dirty : (c : ℕ) → old.situation e.process ≡ Recovering (at e (GiveDirty c)) → RecoveryFits old e.process (at e (GiveDirty c)) → StepsAt e (GiveDirty c) word old new → Keeps e.process old new
  step_give_dirty c was fits t = elim t.memory.1 [
    | inl won ↦ give_keeps e c (GiveDirty c) old new sound (λ r d x o. o) (λ r o. o) was fits fits.freed.0 fits.buffer fits.is.stage (turn_of e (GiveDirty c) word old new real was tt t) t.situation t.open_edits won.1
    | inr lost ↦ absurd (lost.0 (t.memory.0 ∙ fits.freed.3))
  ]

  pub step_flush_given : (c : ℕ) → old.situation e.process ≡ Recovering (at e (FlushGiven c)) → RecoveryFits old e.process (at e (FlushGiven c)) → StepsAt e (FlushGiven c) word old new → Keeps e.process old new
  step_flush_given c was fits t =
      let m : FlushesAt p (Mark c) (class_of (Mark c)) old.memory new.memory = t.memory.1 in
      let tn : Turn p old new = turn_of e (FlushGiven c) word old new real was tt t in
      let moves : Moves p Version old new = flush_moves p old new tn (Mark c) (class_of (Mark c)) m in
      flushes e e.mark e.row e.announcement e.cell (FlushGiven c) (BackGiven c) old new sound was fits real tn t.situation t.open_edits
      (simple_passes p e.row (FlushGiven c) e.row (BackGiven c) old new (held_on p old new moves) (pends_on p old new moves t.open_edits)
      (λ r d x bit matters held o. o) (λ d x matters k o. tt) (λ r held o. o) (λ f before last_of issue issued same k o. tt))
      (Mark c) m (λ h. h) (λ h. h)
      (record { value = old.memory.cached (Mark c); alone = m.mine ∙ ap (λ xs. xs ++ entry (Mark c) (old.memory.cached (Mark c)) ∷ []) fits.buffer; had = (let k = m.cached (Mark c) in omega arith); is = λ q by. rw tn.layout ((sound.words (Mark c)).holder q by) }) fits.is.stage

  -- no cell is left: it holds none
  none_left : (w : PlainWorld) (c : ℕ) → IsSound w → cells_of w.layout ≡ e.cells → e.cells ≤ c → HoldsFrom w p c → HoldsNone w p
  none_left w c s cells most h r by = let k = ((s.words (Mark r)).holder p by).1 in h r (omega arith) by

  pub step_flush_value : (c : ℕ) → old.situation e.process ≡ Recovering (at e (FlushValue c)) → RecoveryFits old e.process (at e (FlushValue c)) → StepsAt e (FlushValue c) word old new → Keeps e.process old new
  step_flush_value c was fits t =
      let m : FlushesAt p (Value c) (class_of (Value c)) old.memory new.memory = t.memory.1 in
      let tn : Turn p old new = turn_of e (FlushValue c) word old new real was tt t in
      let moves : Moves p Version old new = flush_moves p old new tn (Value c) (class_of (Value c)) m in
      flushes e e.mark e.row e.announcement e.cell (FlushValue c) (FlushKind c) old new sound was fits real tn t.situation t.open_edits
      (simple_passes p e.row (FlushValue c) e.row (FlushKind c) old new (held_on p old new moves) (pends_on p old new moves t.open_edits)
      (λ r d x bit matters held o. tt) (λ d x matters k o. tt) (λ r held o. tt) (λ f before last_of issue issued same k o. tt))
      (Value c) m (λ h. h) (λ h. h)
      (m.mine ∙ ap (λ xs. xs ++ entry (Value c) (old.memory.cached (Value c)) ∷ []) fits.buffer ∙ ap (λ (v : ℕ). entry (Value c) v ∷ []) (sym (m.cached (Value c)))) fits.is.stage

  pub step_flush_kind : (c : ℕ) → old.situation e.process ≡ Recovering (at e (FlushKind c)) → RecoveryFits old e.process (at e (FlushKind c)) → StepsAt e (FlushKind c) word old new → Keeps e.process old new
  step_flush_kind c was fits t =
      let m : FlushesAt p (Kind c) (class_of (Kind c)) old.memory new.memory = t.memory.1 in
      let tn : Turn p old new = turn_of e (FlushKind c) word old new real was tt t in
      let moves : Moves p Version old new = flush_moves p old new tn (Kind c) (class_of (Kind c)) m in
      flushes e e.mark e.row e.announcement e.cell (FlushKind c) (BackValue c) old new sound was fits real tn t.situation t.open_edits
      (simple_passes p e.row (FlushKind c) e.row (BackValue c) old new (held_on p old new moves) (pends_on p old new moves t.open_edits)
      (λ r d x bit matters held o. tt) (λ d x matters k o. tt) (λ r held o. tt) (λ f before last_of issue issued same k o. tt))
      (Kind c) m (λ h. h) (λ h. h)
      (m.mine ∙ ap (λ xs. xs ++ entry (Kind c) (old.memory.cached (Kind c)) ∷ []) fits.buffer
      ∙ ap (λ (v : ℕ). entry (Value c) v ∷ kind_now old c ∷ []) (sym (m.cached (Value c))) ∙ ap (λ (v : ℕ). value_now new c ∷ entry (Kind c) v ∷ []) (sym (m.cached (Kind c)))) fits.is.stage

  -- the mark of a cell
  step_let_be : (c : ℕ) → old.situation e.process ≡ Recovering (at e (LoadMark c)) → (fits : RecoveryFits old e.process (at e (LoadMark c))) → (t : StepsAt e (LoadMark c) word old new) → word / 2 % 16 ≢ p + 1
      → (b : Bool) → nat_lt (c + 1) e.cells ≡ b → new.situation e.process ≡ Recovering (at e (if b then LoadMark (c + 1) else LoadAnnounce)) → Keeps e.process old new
  step_let_be c was fits t other true more is =
      let m : SameMemory old.memory new.memory = t.memory.1 in
      let tn : Turn p old new = turn_of e (LoadMark c) word old new real was tt t in
      let moves : Moves p Version old new = same_moves p old new tn m in
      loads e e.mark e.row e.announcement e.cell (LoadMark c) (LoadMark (c + 1)) old new sound was fits real tn is t.open_edits
      (simple_passes p e.row (LoadMark c) e.row (LoadMark (c + 1)) old new (held_on p old new moves) (pends_on p old new moves t.open_edits)
      (λ r d x bit matters held o. tt) (λ d x matters k o. tt) (λ r held o. tt) (λ f before last_of issue issued same k o. tt))
      m (λ h r l by. elim (cases_eq r c) [
        | inl eq ↦ other (ap (λ (x : ℕ). x / 2 % 16) (t.memory.0 ∙ sym (m.cached (Mark c)) ∙ ap (λ (y : ℕ). new.memory.cached (Mark y)) (sym eq)) ∙ by)
        | inr ne ↦ h r (omega arith) by
      ]) (λ h. h) (m.buffer p ∙ fits.buffer) (ltb-true (c + 1) e.cells more)
  step_let_be c was fits t other false none is =
      let m : SameMemory old.memory new.memory = t.memory.1 in
      let tn : Turn p old new = turn_of e (LoadMark c) word old new real was tt t in
      let moves : Moves p Version old new = same_moves p old new tn m in
      let from : HoldsFrom old p (c + 1) = λ r l by. elim (cases_eq r c) [
        | inl eq ↦ other (ap (λ (x : ℕ). x / 2 % 16) (t.memory.0 ∙ ap (λ (y : ℕ). old.memory.cached (Mark y)) (sym eq)) ∙ by)
        | inr ne ↦ fits.freed r (omega arith) by
      ] in
      let free : HoldsNone old p = none_left old (c + 1) sound fits.cells (ltb-false (c + 1) e.cells none) from in
      loads e e.mark e.row e.announcement e.cell (LoadMark c) LoadAnnounce old new sound was fits real tn is t.open_edits
      (simple_passes p e.row (LoadMark c) e.row LoadAnnounce old new (held_on p old new moves) (pends_on p old new moves t.open_edits)
      (λ r d x bit matters held o. absurd (free r held.by)) (λ d x matters k o. tt) (λ r held o. absurd (free r held.by)) (λ f before last_of issue issued same k o. tt))
      m (λ h r by. free r (subst (λ (x : ℕ). IsHeldBy p x) (m.cached (Mark r)) by)) (λ h. h) (m.buffer p ∙ fits.buffer) tt

  pub step_load_mark : (c : ℕ) → old.situation e.process ≡ Recovering (at e (LoadMark c)) → RecoveryFits old e.process (at e (LoadMark c)) → StepsAt e (LoadMark c) word old new → Keeps e.process old new
  step_load_mark c was fits t = elim (held_cases p word) [
    | inr apart ↦ step_let_be c was fits t (other apart.1) (nat_lt (c + 1) e.cells) refl
        (t.situation ∙ ap (λ (b : Bool). Recovering (if b then record e { mark = word; row = []; stage = FlushValue c } else at e (if nat_lt (c + 1) e.cells then LoadMark (c + 1) else LoadAnnounce))) apart.0)
    | inl mine ↦ (
        let m : SameMemory old.memory new.memory = t.memory.1 in
        let tn : Turn p old new = turn_of e (LoadMark c) word old new real was tt t in
        let moves : Moves p Version old new = same_moves p old new tn m in
        let now : new.memory.cached (Mark c) ≡ word = m.cached (Mark c) ∙ sym t.memory.0 in
        loads e word [] e.announcement e.cell (LoadMark c) (FlushValue c) old new sound was fits real tn
        (t.situation ∙ ap (λ (b : Bool). Recovering (if b then record e { mark = word; row = []; stage = FlushValue c } else at e (if nat_lt (c + 1) e.cells then LoadMark (c + 1) else LoadAnnounce))) mine.0) t.open_edits
        (simple_passes p e.row (LoadMark c) [] (FlushValue c) old new (held_on p old new moves) (pends_on p old new moves t.open_edits)
        (λ r d x bit matters held o. tt) (λ d x matters k o. tt) (λ r held o. tt) (λ f before last_of issue issued same k o. tt))
        m (λ h. record { below = h; by = mine.1; stands = ap (λ (x : ℕ). x / 2) now; seen = omega arith }) (λ h. h) (m.buffer p ∙ fits.buffer) ((fits.is.stage, mine.2), refl))
  ]
    where
      -- no mark that is held has so great a generation
      other : (word / 2 % 16 ≡ p + 1 → HELD_MOST < word / 32) → word / 2 % 16 ≢ p + 1
      other great by =
          let seen = t.memory.0 in
          let young = ((sound.words (Mark c)).holder p (subst (λ (x : ℕ). IsHeldBy p x) seen by)).2 in
          let more = great by in
          omega arith

  -- the mark that gives a cell back is written back
  step_back_to : (c : ℕ) → old.situation e.process ≡ Recovering (at e (BackGiven c)) → (fits : RecoveryFits old e.process (at e (BackGiven c))) → (t : StepsAt e (BackGiven c) word old new)
      → (b : Bool) → nat_lt (c + 1) e.cells ≡ b → new.situation e.process ≡ Recovering (at e (if b then LoadMark (c + 1) else LoadAnnounce)) → Keeps e.process old new
  step_back_to c was fits t true more is =
      let one : HasMark old p c = fits.buffer in
      let m : WritesBack p (entry (Mark c) one.value) [] old.memory new.memory = first_back (entry (Mark c) one.value) [] one.alone t.memory.1 in
      let tn : Turn p old new = turn_of e (BackGiven c) word old new real was tt t in
      let g : Grows p Version old new = grown_back p (Mark c) one.value [] old new sound tn m (one.had, one.is) (λ o. absurd o) in
      backs e e.mark e.row e.announcement e.cell (BackGiven c) (LoadMark (c + 1)) old new sound was fits real tn is t.open_edits
      (simple_passes p e.row (BackGiven c) e.row (LoadMark (c + 1)) old new (held_from p old new g) (pends_from p old new g t.open_edits)
      (λ r d x bit matters held o. tt) (λ d x matters k o. tt) (λ r held o. tt) (λ f before last_of issue issued same k o. tt))
      (Mark c) one.value [] m (one.had, one.is) (λ o. absurd o) (λ d at. cc) (λ r at. absurd (elim at [ inl x ↦ cc | inr x ↦ cc ])) (λ r at. absurd (elim at [ inl x ↦ cc | inr x ↦ cc ]))
      (λ moves my. back_any p (Mark c) one.value old new moves sound (buffered old sound) my (text_same old new moves.layout tn.counted) real m)
      (λ h. h) (λ h. h) m.mine (ltb-true (c + 1) e.cells more)
  step_back_to c was fits t false none is =
      let one : HasMark old p c = fits.buffer in
      let m : WritesBack p (entry (Mark c) one.value) [] old.memory new.memory = first_back (entry (Mark c) one.value) [] one.alone t.memory.1 in
      let tn : Turn p old new = turn_of e (BackGiven c) word old new real was tt t in
      let g : Grows p Version old new = grown_back p (Mark c) one.value [] old new sound tn m (one.had, one.is) (λ o. absurd o) in
      let free : HoldsNone old p = none_left old (c + 1) sound fits.cells (ltb-false (c + 1) e.cells none) fits.freed in
      backs e e.mark e.row e.announcement e.cell (BackGiven c) LoadAnnounce old new sound was fits real tn is t.open_edits
      (simple_passes p e.row (BackGiven c) e.row LoadAnnounce old new (held_from p old new g) (pends_from p old new g t.open_edits)
      (λ r d x bit matters held o. absurd (free r held.by)) (λ d x matters k o. tt) (λ r held o. absurd (free r held.by)) (λ f before last_of issue issued same k o. tt))
      (Mark c) one.value [] m (one.had, one.is) (λ o. absurd o) (λ d at. cc) (λ r at. absurd (elim at [ inl x ↦ cc | inr x ↦ cc ])) (λ r at. absurd (elim at [ inl x ↦ cc | inr x ↦ cc ]))
      (λ moves my. back_any p (Mark c) one.value old new moves sound (buffered old sound) my (text_same old new moves.layout tn.counted) real m)
      (λ h r by. free r (subst (λ (x : ℕ). IsHeldBy p x) (m.cached (Mark r)) by)) (λ h. h) m.mine tt

  pub step_back_given : (c : ℕ) → old.situation e.process ≡ Recovering (at e (BackGiven c)) → RecoveryFits old e.process (at e (BackGiven c)) → StepsAt e (BackGiven c) word old new → Keeps e.process old new
  step_back_given c was fits t = step_back_to c was fits t (nat_lt (c + 1) e.cells) refl t.situation
