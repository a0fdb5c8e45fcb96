-- The hard steps of work: its claim, its stores, and its clear.
use Rattle.std.proofs.Common.{ℕ, ◌≡◌, ◌≢◌, ◌<◌, ◌≤◌, ◌/◌, ◌%◌, ◌⊎◌, List, refl, ap, sym, ◌∙◌, subst, arith, length, inl, inr}
use Rattle.std.specs.Prelude.{Bool, Contains}
use Rattle.std.proofs.lemmas.Bool.{cases_eq}
use Rattle.ds_words.specs.Memory.{StoresAt}
use Rattle.ds_words.specs.declared.access.BufferEntry.{BufferEntry}
use Rattle.ds_formula.specs.Cells.{IsInside, index_of}
use Rattle.ds_formula.specs.declared.cells.Cell.{Cell}
use Rattle.ds_eval.specs.declared.inputs.Entry as entries
use Rattle.ds_eval.specs.Inputs.{entry_in, cell_in, entry_at}
use Rattle.ds_eval.proofs.Cells.{entry_found}
use Rattle.ds_layout.specs.declared.place.Place.{Place}
use Rattle.ds_layout.specs.declared.place.Place.TheVariants.{Mark, Value, Kind, Head}
use Rattle.ds_layout.specs.declared.layout.Layout.{Layout}
use Rattle.ds_state.specs.Works.{PlainWorkCall}
use Rattle.ds_state.specs.World.{PlainWorld}
use Rattle.ds_state.specs.Owing.{entry, IsHeld, IsBelowBuffered, SpreadOwes, WorkOwes, RecoveryOwes, Owes, CellOwes, EditOwes, RecoveryExcuses, Excuses, IsExcused, IsIndexed}
use Rattle.ds_layout.specs.Mark.{IsClean, IsHeldBy, freed_after}
use Rattle.ds_state.specs.Standing.{cached_side, entry_on, value_for, word_for, HasContent, Stands, Matters, AllStand}
use Rattle.ds_state.specs.KnownWork.{HasHeld, HasInputs, input_row, WorkFits}
use Rattle.ds_state.specs.Sound.{IsSound}
use Rattle.ds_state.specs.declared.stage.Stage.{Stage}
use Rattle.ds_state.specs.declared.stage.Stage.TheVariants as edits
use Rattle.ds_state.specs.declared.spread.Spread.{Spread}
use Rattle.ds_state.specs.declared.spread.Spread.TheVariants.{LoadRow, OrTold, FlushTold, BackTold}
use Rattle.ds_state.specs.declared.work.WorkStage.{WorkStage}
use Rattle.ds_state.specs.declared.work.WorkStage.TheVariants as works
use Rattle.ds_state.specs.declared.recovery.RecoverStage.{RecoverStage}
use Rattle.ds_state.specs.declared.recovery.RecoverStage.TheVariants as recoveries
use Rattle.ds_state.specs.declared.situation.Situation.{Situation}
use Rattle.ds_state.specs.declared.situation.Situation.TheVariants.{Idle, Stopped, Editing, Working, Recovering, Showing, Migrating}
use Rattle.ds_state.proofs.Frames.{Moves, clean_free}
use Rattle.ds_state.proofs.Telling.{matters_most, odd_above}
use Rattle.ds_state.proofs.Bearing.{Buffered, Mine, MyMarks, text_same, stored_marks, all_stand, cell_owes_lasts, excused_lasts}

-- the work at this stage
abbrev pub on : PlainWorkCall → WorkStage → PlainWorkCall
on e s = record e { stage = s }

-- who owes above the cached mark owes above any: it has not marked it
module _ (w : PlainWorld) (h : ℕ) (c x y : ℕ) (is : x ≡ w.memory.cached (Mark c)) (had : (v : ℕ) → Contains (w.memory.buffer h) (entry (Mark c) v) → v ≤ w.memory.cached (Mark c)) where
  no_later : IsBelowBuffered w.memory h c x → ⊥
  no_later k = let v = had k.value (subst (λ (b : List (BufferEntry Place)). Contains b (entry (Mark c) k.value)) (sym k.alone) (0, omega arith, refl)) in let l = k.below in omega arith

  spread_later : (row : List ℕ) (s : Spread) → SpreadOwes w.memory h row s c x → SpreadOwes w.memory h row s c y
  spread_later row (LoadRow part) k = k
  spread_later row (OrTold d) k = k
  spread_later row (FlushTold d) (bit, inl lt) = (bit, inl lt)
  spread_later row (FlushTold d) (bit, inr o) = absurd (let l = o.1 in omega arith)
  spread_later row (BackTold d) (bit, inl lt) = (bit, inl lt)
  spread_later row (BackTold d) (bit, inr o) = absurd (no_later o.1)

  work_later : (row : List ℕ) (s : WorkStage) → WorkOwes w.memory h row s c x → WorkOwes w.memory h row s c y
  work_later row works.StoreKind k = tt
  work_later row works.FlushValue k = tt
  work_later row works.FlushKind k = tt
  work_later row works.BackValue k = tt
  work_later row works.BackKind k = tt
  work_later row (works.Telling spread) k = spread_later row spread k
  work_later row _ k = absurd k

  recovery_later : (row : List ℕ) (s : RecoverStage) (r : ℕ) → RecoveryOwes w.memory h row s r c x → RecoveryOwes w.memory h row s r c y
  recovery_later row recoveries.LoadVersion r k = tt
  recovery_later row recoveries.FlushVersion r k = tt
  recovery_later row recoveries.BackVersion r k = tt
  recovery_later row (recoveries.LoadMark cell) r k = tt
  recovery_later row (recoveries.FlushValue cell) r k = tt
  recovery_later row (recoveries.FlushKind cell) r k = tt
  recovery_later row (recoveries.BackValue cell) r k = tt
  recovery_later row (recoveries.BackKind cell) r k = tt
  recovery_later row (recoveries.Telling cell spread) r k = elim k [ inl ne ↦ inl ne | inr o ↦ inr (spread_later row spread o) ]
  recovery_later row (recoveries.Give cell) r k = k
  recovery_later row (recoveries.GiveDirty cell) r k = k
  recovery_later row (recoveries.FlushGiven cell) r k = k
  recovery_later row (recoveries.BackGiven cell) r k = k
  recovery_later row _ r k = absurd k

  pub owes_later : (s : Situation) (r : ℕ) → Owes w.memory h s r c x → Owes w.memory h s r c y
  owes_later (Idle next) r k = absurd k
  owes_later (Migrating e) r k = tt
  owes_later Stopped r k = tt
  owes_later (Editing e) r k = absurd k
  owes_later (Working e) r k = (k.0, work_later e.row e.stage k.1)
  owes_later (Recovering e) r k = recovery_later e.row e.stage r k
  owes_later (Showing e) r k = absurd k

  edit_later : (s : Stage) → EditOwes w.memory h c s x → EditOwes w.memory h c s y
  edit_later (edits.FlushOwn own) k = tt
  edit_later (edits.BackOwn own) k = tt
  edit_later (edits.OrMark own) k = tt
  edit_later (edits.FlushMark own) k = absurd (omega arith)
  edit_later (edits.BackMark own) k = absurd (no_later k)
  edit_later _ k = absurd k

  excuse_later : (s : RecoverStage) → RecoveryExcuses w.memory h c s x → RecoveryExcuses w.memory h c s y
  excuse_later (recoveries.FlushMark how) k = absurd (omega arith)
  excuse_later (recoveries.BackMark how) k = absurd (no_later k)
  excuse_later (recoveries.StoreOutcome how) k = absurd k
  excuse_later (recoveries.FlushOutcome how) k = absurd k
  excuse_later (recoveries.BackOutcome how) k = absurd k
  excuse_later (recoveries.Answer how) k = absurd k
  excuse_later _ k = tt

  pub excuses_later : (s : Situation) → Excuses w h s c x → Excuses w h s c y
  excuses_later (Idle next) k = absurd k
  excuses_later (Migrating e) k = k
  excuses_later Stopped k = k
  excuses_later (Editing e) k = (k.0, edit_later e.stage k.1)
  excuses_later (Working e) k = absurd k
  excuses_later (Recovering e) k = (k.0, excuse_later e.stage k.1)
  excuses_later (Showing e) k = absurd k

no_place : (a c : ℕ) → ((Mark a ≡ Value c) ⊎ (Mark a ≡ Kind c)) → ⊥
no_place a c (inl e) = cc
no_place a c (inr e) = cc

-- the clear: what was noted becomes what the clean mark says
module _ (p : ℕ) (e : PlainWorkCall) (changed : Bool) (old new : PlainWorld) (sound : IsSound old) (buffered : Buffered old)
    (fits : WorkFits old p (on e (works.Clear changed))) (was : old.situation p ≡ Working (on e (works.Clear changed)))
    (at : old.memory.cached (Mark e.cell) ≡ e.mark) (store : StoresAt (Mark e.cell) (freed_after e.mark) old.memory new.memory)
    (moves : Moves p (Mark e.cell) old new) (same_list : new.counted ≡ old.counted) where
  abbrev k : ℕ
  k = e.mark

  nothing_owed : (r c x : ℕ) → Owes old.memory p (old.situation p) r c x → ⊥
  nothing_owed r c x o = (subst (λ (s : Situation). Owes old.memory p s r c x) was o).1

  nothing_excused : (c x : ℕ) → Excuses old p (old.situation p) c x → ⊥
  nothing_excused c x o = subst (λ (s : Situation). Excuses old p s c x) was o

  later_owed : (r : ℕ) → CellOwes old r e.cell k → CellOwes new r e.cell (freed_after k)
  later_owed r o =
      let later : CellOwes old r e.cell (freed_after k) = record {
        holder = o.holder;
        held = o.held;
        still = owes_later old o.holder e.cell k (freed_after k) (sym at) (λ v there. buffered.had o.holder e.cell v ((sound.words (Mark r)).holder o.holder o.held.by).0 there) (old.situation o.holder) r o.still;
      } in
      elim (cases_eq o.holder p) [
        | inl eq ↦ absurd (nothing_owed r e.cell k (subst (λ (q : ℕ). Owes old.memory q (old.situation q) r e.cell k) eq o.still))
        | inr ne ↦ cell_owes_lasts p (Mark e.cell) old new moves r e.cell (freed_after k) later ne
      ]

  later_excused : IsExcused old e.cell k → IsExcused new e.cell (freed_after k)
  later_excused o =
      let later : IsExcused old e.cell (freed_after k) = record {
        process = o.process;
        inside = o.inside;
        still = excuses_later old o.process e.cell k (freed_after k) (sym at) (λ v there. buffered.had o.process e.cell v o.inside there) (old.situation o.process) o.still;
      } in
      elim (cases_eq o.process p) [
        | inl eq ↦ absurd (nothing_excused e.cell k (subst (λ (q : ℕ). Excuses old q (old.situation q) e.cell k) eq o.still))
        | inr ne ↦ excused_lasts p (Mark e.cell) old new moves e.cell (freed_after k) later ne
      ]

  abbrev loads : HasInputs old (on e (works.Clear changed)) (length e.inputs)
  loads = fits.knows.loaded

  other : (r : Place) → r ≢ Mark e.cell → new.memory.cached r ≡ old.memory.cached r
  other r ne = store.elsewhere r ne

  fresh : Stands new (cached_side new.memory) e.cell (freed_after k)
  fresh = elim (loads.head at) [
    | inr o ↦ inl (later_excused o)
    | inl same ↦ inr (record {
      content = e.content;
      has = subst (λ (h : ℕ). HasContent new e.cell h e.content) (sym (other (Head e.cell) (λ x. cc) ∙ same)) (text loads.content);
      inputs = entry_in e.inputs;
      on_value = rw moves.layout (other (Value e.cell) (λ x. cc) ∙ fits.knows.own.0.0 ∙ ap (λ (y : entries.Entry). value_for y) fits.knows.evaluated);
      on_kind = rw moves.layout (other (Kind e.cell) (λ x. cc) ∙ fits.knows.own.0.1 ∙ ap (λ (y : entries.Entry). word_for y) fits.knows.evaluated);
      near = λ d refers inside.
          let inside' : IsInside old.layout.shape d = subst (λ (l : Layout). IsInside l.shape d) moves.layout inside in
          let found : (j : ℕ) × (j < length e.inputs) × (cell_in e.inputs j ≡ d) = loads.found d refers inside' in
          let j : ℕ = found.0 in
          let r : ℕ = index_of old.layout.shape d in
          let row : input_row old e j ≡ r = ap (λ (y : Cell). index_of old.layout.shape y) found.2 in
          let now : index_of new.layout.shape d ≡ r = ap (λ (l : Layout). index_of l.shape d) moves.layout in
          let got : entry_in e.inputs d ≡ entry_at e.inputs j = entry_found e.inputs j d loads.ascending found.1 found.2 in
          elim ((loads.each j found.1).stands at) [
            | inr o ↦ inr (subst (λ (y : ℕ). CellOwes new y e.cell (freed_after k)) (sym now) (later_owed r (subst (λ (y : ℕ). CellOwes old y e.cell k) row o)))
            | inl is ↦ inl (
                let there : entry_at e.inputs j ≡ entry_on old.layout (cached_side old.memory) r = subst (λ (y : ℕ). entry_at e.inputs j ≡ entry_on old.layout (cached_side old.memory) y) row is in
                rw (moves.layout, other (Value r) (λ x. cc), other (Kind r) (λ x. cc)) (got ∙ there))
          ];
    })
  ]
    where
      text : HasContent old e.cell e.head e.content → HasContent new e.cell e.head e.content
      text (inl none) = inl none
      text (inr h) = inr (record { by = h.by; gave = rw same_list h.gave; reads = rw moves.layout h.reads })

  pub clear_mine : Mine p (Mark e.cell) old new moves
  clear_mine = record {
    owes = λ r c x bit matters held o. absurd (nothing_owed r c x o);
    excuses = λ l c x matters o. absurd (nothing_excused c x o);
    stored = λ r is by c x. absurd (no_place e.cell r is);
    holds = λ r is by. absurd (no_place e.cell r is);
    cached_heads = λ c is. cc;
    persisted_heads = λ c is. cc;
  }

  pub clear_marks : MyMarks p (Mark e.cell) old new moves
  clear_marks = stored_marks p (Mark e.cell) old new moves (λ c is clean. inr (
      let same : e.cell ≡ c = cc in
      subst (λ (y : ℕ). Stands new (cached_side new.memory) y (new.memory.cached (Mark y))) same (subst (λ (x : ℕ). Stands new (cached_side new.memory) e.cell x) (sym store.there) fresh))) store.persisted store.buffer

  -- so every clean mark stands, and what others noted
  pub clear_stands : AllStand new
  clear_stands = all_stand p (Mark e.cell) old new moves sound buffered clear_mine (text_same old new moves.layout same_list) clear_marks

no_value : (a c : ℕ) → Value a ≡ Mark c → ⊥
no_value a c e = cc

same_value : (a c : ℕ) → (Value a ≡ Value c) ⊎ (Value a ≡ Kind c) → a ≡ c
same_value a c (inl e) = cc
same_value a c (inr e) = cc

same_kind : (a c : ℕ) → (Kind a ≡ Value c) ⊎ (Kind a ≡ Kind c) → a ≡ c
same_kind a c (inl e) = cc
same_kind a c (inr e) = cc

-- a work that holds its cell on both sides is its holder on both
pub held_both : (w : PlainWorld) (e : PlainWorkCall) → HasHeld w e → IsHeld w.memory e.process e.cell
held_both w e h = let a = h.claim.by in let b = h.claim.cached in let c = h.persisted in record { by = omega arith; same = omega arith }

-- the stores: from here everyone is owed
module _ (p : ℕ) (e : PlainWorkCall) (s s' : WorkStage) (place : Place) (v : ℕ) (old new : PlainWorld)
    (was : old.situation p ≡ Working (on e s)) (is : new.situation p ≡ Working (on e s'))
    (held : IsHeld old.memory p e.cell)
    (own : (c : ℕ) → (place ≡ Value c) ⊎ (place ≡ Kind c) → e.cell ≡ c)
    (no_mark : (c : ℕ) → place ≡ Mark c → ⊥) (no_head : (c : ℕ) → place ≡ Head c → ⊥)
    (owes' : (c x : ℕ) → WorkOwes new.memory p e.row s' c x)
    (store : StoresAt place v old.memory new.memory) (moves : Moves p place old new) where
  held_new : IsHeld new.memory p e.cell
  held_new =
      let a = store.elsewhere (Mark e.cell) (λ x. no_mark e.cell (sym x)) in
      let b = store.persisted (Mark e.cell) in
      let by = held.by in
      let same = held.same in
      record { by = omega arith; same = omega arith }

  all_owed : (r c x : ℕ) → e.cell ≡ r → CellOwes new r c x
  all_owed r c x at = subst (λ (y : ℕ). CellOwes new y c x) at (record {
    holder = p;
    held = held_new;
    still = subst (λ (t : Situation). Owes new.memory p t e.cell c x) (sym is) (refl, owes' c x);
  })

  pub store_mine : Mine p place old new moves
  store_mine = record {
    owes = λ r c x bit matters h o. all_owed r c x (subst (λ (t : Situation). Owes old.memory p t r c x) was o).0;
    excuses = λ l c x matters o. absurd (subst (λ (t : Situation). Excuses old p t c x) was o);
    stored = λ r at by c x. all_owed r c x (own r at);
    holds = λ r at by. subst (λ (y : ℕ). IsHeld old.memory p y) (own r at) held;
    cached_heads = λ c at. absurd (no_head c at);
    persisted_heads = λ c at. absurd (no_head c at);
  }

  pub store_marks : MyMarks p place old new moves
  store_marks = stored_marks p place old new moves (λ c at. absurd (no_mark c at)) store.persisted store.buffer

-- the value, then the kind
pub store_value_mine : (p : ℕ) (e : PlainWorkCall) (v : ℕ) (old new : PlainWorld) → old.situation p ≡ Working (on e works.StoreValue) → new.situation p ≡ Working (on e works.StoreKind)
    → IsHeld old.memory p e.cell → StoresAt (Value e.cell) v old.memory new.memory → (moves : Moves p (Value e.cell) old new) → Mine p (Value e.cell) old new moves
store_value_mine p e v old new was is held store moves = store_mine p e works.StoreValue works.StoreKind (Value e.cell) v old new was is held (λ c at. same_value e.cell c at) (λ c at. cc) (λ c at. cc) (λ c x. tt) store moves

-- after the store of its kind the cell owes all that it owed
pub store_kind_mine : (p : ℕ) (e : PlainWorkCall) (v : ℕ) (old new : PlainWorld) → old.situation p ≡ Working (on e works.StoreKind) → new.situation p ≡ Working (on e works.FlushValue)
    → IsHeld old.memory p e.cell → StoresAt (Kind e.cell) v old.memory new.memory → (moves : Moves p (Kind e.cell) old new) → Mine p (Kind e.cell) old new moves
store_kind_mine p e v old new was is held store moves = store_mine p e works.StoreKind works.FlushValue (Kind e.cell) v old new was is held (λ c at. same_kind e.cell c at) (λ c at. cc) (λ c at. cc) (λ c x. tt) store moves

-- a mark that is not clean comes to a cell: a claim, an `or`, a giving back
module _ (p : ℕ) (cell n : ℕ) (old new : PlainWorld) (store : StoresAt (Mark cell) n old.memory new.memory) (moves : Moves p (Mark cell) old new) (unclean : IsClean n → ⊥)
    (owes : (r c x : ℕ) → IsIndexed old r c → Matters new c x → IsHeld old.memory p r → Owes old.memory p (old.situation p) r c x → CellOwes new r c x)
    (excuses : p < old.layout.processes → (c x : ℕ) → Matters new c x → Excuses old p (old.situation p) c x → IsExcused new c x) where
  pub mark_mine : Mine p (Mark cell) old new moves
  mark_mine = record {
    owes = owes;
    excuses = excuses;
    stored = λ r at. absurd (no_place cell r at);
    holds = λ r at. absurd (no_place cell r at);
    cached_heads = λ c at. cc;
    persisted_heads = λ c at. cc;
  }

  pub mark_marks : MyMarks p (Mark cell) old new moves
  mark_marks = stored_marks p (Mark cell) old new moves (λ c at clean. absurd (let same : cell ≡ c = cc in unclean (subst (λ (x : ℕ). IsClean x) (ap (λ (y : ℕ). new.memory.cached (Mark y)) (sym same) ∙ store.there) clean))) store.persisted store.buffer

-- the claim: nothing is owed yet
pub claim_mine : (p : ℕ) (e e' : PlainWorkCall) (n : ℕ) (old new : PlainWorld) → old.situation p ≡ Working (on e works.Claim) → IsHeldBy p n
    → (store : StoresAt (Mark e.cell) n old.memory new.memory) → (moves : Moves p (Mark e.cell) old new) → Mine p (Mark e.cell) old new moves
claim_mine p e e' n old new was by store moves = mark_mine p e.cell n old new store moves (λ clean. clean_free n p clean by)
    (λ r c x bit matters held o. absurd (subst (λ (t : Situation). Owes old.memory p t r c x) was o).1)
    (λ l c x matters o. absurd (subst (λ (t : Situation). Excuses old p t c x) was o))

-- the `or` that marks a cell: every mark of it that matters is below
module _ (p : ℕ) (e : PlainWorkCall) (d n : ℕ) (old new : PlainWorld) (sound : IsSound old) (buffered : Buffered old)
    (was : old.situation p ≡ Working (on e (works.Telling (OrTold d)))) (is : new.situation p ≡ Working (on e (works.Telling (FlushTold d))))
    (odd : n % 2 ≡ 1) (same_turn : n / 2 ≡ old.memory.cached (Mark d) / 2)
    (store : StoresAt (Mark d) n old.memory new.memory) (moves : Moves p (Mark d) old new) where
  unclean : IsClean n → ⊥
  unclean clean = omega arith

  turns : (r : ℕ) → new.memory.cached (Mark r) / 2 ≡ old.memory.cached (Mark r) / 2
  turns r = elim (cases_eq r d) [
    | inl eq ↦ (let t = store.there in rw eq (omega arith))
    | inr ne ↦ (let t = store.elsewhere (Mark r) (λ x. ne cc) in omega arith)
  ]

  holds_new : (r : ℕ) → IsHeld old.memory p r → IsHeld new.memory p r
  holds_new r h = let a = turns r in let b = store.persisted (Mark r) in let by = h.by in let same = h.same in record { by = omega arith; same = omega arith }

  told : (r c x : ℕ) → IsIndexed old r c → Matters new c x → IsHeld old.memory p r → Owes old.memory p (old.situation p) r c x → CellOwes new r c x
  told r c x bit matters held o =
      let k : Owes old.memory p (Working (on e (works.Telling (OrTold d)))) r c x = subst (λ (t : Situation). Owes old.memory p t r c x) was o in
      let now : (d < c) ⊎ ((d ≡ c) × (x < new.memory.cached (Mark c))) = elim (cases_eq d c) [
        | inr ne ↦ inl (let l = k.1.1 in omega arith)
        | inl eq ↦ inr (
          eq,
          (
              let most = matters_most p d n old new store moves sound buffered c x matters in
              let there : new.memory.cached (Mark c) ≡ n = ap (λ (y : ℕ). new.memory.cached (Mark y)) (sym eq) ∙ store.there in
              odd_above x (new.memory.cached (Mark c)) matters.0 (omega arith) most),
        )
      ] in
      record { holder = p; held = holds_new r held; still = subst (λ (t : Situation). Owes new.memory p t r c x) (sym is) (k.0, (k.1.0, now)) }

  pub told_mine : Mine p (Mark d) old new moves
  told_mine = mark_mine p d n old new store moves unclean told (λ l c x matters o. absurd (subst (λ (t : Situation). Excuses old p t c x) was o))

-- telling: each step passes on what is still owed
module _ (p : ℕ) (e e' : PlainWorkCall) (spread spread' : Spread) (place : Place) (old new : PlainWorld) (moves : Moves p place old new)
    (was : old.situation p ≡ Working (on e (works.Telling spread))) (is : new.situation p ≡ Working (on e' (works.Telling spread')))
    (same : e'.cell ≡ e.cell) (no_value : (c : ℕ) → (place ≡ Value c) ⊎ (place ≡ Kind c) → ⊥) (no_head : (c : ℕ) → place ≡ Head c → ⊥)
    (holds : IsHeld old.memory p e.cell → IsHeld new.memory p e.cell)
    (passes : (c x : ℕ) → IsIndexed old e.cell c → Matters new c x → SpreadOwes old.memory p e.row spread c x → SpreadOwes new.memory p e'.row spread' c x) where
  pub telling_mine : Mine p place old new moves
  telling_mine = record {
    owes = λ r c x bit matters held o. (
        let k : Owes old.memory p (Working (on e (works.Telling spread))) r c x = subst (λ (t : Situation). Owes old.memory p t r c x) was o in
        let at : e.cell ≡ r = k.0 in
        record {
          holder = p;
          held = subst (λ (y : ℕ). IsHeld new.memory p y) at (holds (subst (λ (y : ℕ). IsHeld old.memory p y) (sym at) held));
          still = subst (λ (t : Situation). Owes new.memory p t r c x) (sym is) (same ∙ at, passes c x (subst (λ (y : ℕ). IsIndexed old y c) (sym at) bit) matters k.1);
        });
    excuses = λ l c x matters o. absurd (subst (λ (t : Situation). Excuses old p t c x) was o);
    stored = λ r at by c x. absurd (no_value r at);
    holds = λ r at by. absurd (no_value r at);
    cached_heads = λ c at. absurd (no_head c at);
    persisted_heads = λ c at. absurd (no_head c at);
  }
