-- What a step leaves of what was owed, and of what clean marks say.
use Rattle.std.proofs.Common.{ℕ, ◌≡◌, ◌≢◌, ◌<◌, ◌≤◌, ◌/◌, ◌⊎◌, List, [], ◌∷◌, ◌++◌, zero, suc, refl, ap, sym, ◌∙◌, subst, arith, inl, inr}
use Rattle.std.specs.Prelude.{Contains}
use Rattle.std.proofs.lemmas.Bool.{cases_eq}
use Rattle.std.proofs.lemmas.List.Elements.{Contains-append_cases}
use Rattle.ds_words.specs.declared.access.BufferEntry.{BufferEntry}
use Rattle.ds_words.specs.Memory.{Memory, FlushesAt}
use Rattle.ds_layout.specs.Places.{class_of}
use Rattle.ds_formula.specs.Cells.{IsInside, index_of}
use Rattle.ds_formula.specs.Plain.{PlainContent}
use Rattle.ds_layout.specs.declared.place.Place.{Place}
use Rattle.ds_layout.specs.declared.place.Place.TheVariants.{Head, Mark, Value, Kind, Announce}
use Rattle.ds_layout.specs.declared.layout.Layout.{Layout}
use Rattle.ds_layout.proofs.PlaceCases.{place_cases}
use Rattle.ds_state.specs.World.{PlainEdit, PlainWorld, of_cell, IsHeadBy}
use Rattle.ds_state.specs.Owing.{entry, IsHeld, IsBelowBuffered, SpreadOwes, WorkOwes, RecoveryOwes, Owes, WorkParts, RecoveryParts, Parts, CellOwes, IsApart, IsPending, EditOwes, RecoveryExcuses, Excuses, IsExcused, SplitsAt, RecoverySplits, Splits, IsIndexed}
use Rattle.ds_layout.specs.Mark.{IsClean, IsEven, IsHeldBy}
use Rattle.ds_state.specs.Standing.{Side, cached_side, persisted_side, HasContent, Stands, IsBuffered, IsDurable, Matters, AllStand}
use Rattle.ds_state.specs.WordsFit.{IsOnItsWay}
use Rattle.ds_state.specs.Rely.{Bears}
use Rattle.ds_state.specs.Sound.{IsSound}
use Rattle.ds_state.specs.declared.stage.Stage.{Stage}
use Rattle.ds_state.specs.declared.stage.Stage.TheVariants as edits
use Rattle.ds_state.specs.declared.spread.Spread.{Spread}
use Rattle.ds_state.specs.declared.spread.Spread.TheVariants.{LoadRow, OrTold, FlushTold, BackTold}
use Rattle.ds_state.specs.declared.work.WorkStage.{WorkStage}
use Rattle.ds_state.specs.declared.work.WorkStage.TheVariants as works
use Rattle.ds_state.specs.declared.recovery.RecoverStage.{RecoverStage}
use Rattle.ds_state.specs.declared.recovery.RecoverStage.TheVariants as recoveries
use Rattle.ds_state.specs.declared.situation.Situation.{Situation}
use Rattle.ds_state.specs.declared.situation.Situation.TheVariants.{Idle, Stopped, Editing, Working, Recovering, Showing, Migrating}
use Rattle.ds_state.proofs.Heads.{cell_of-middle}
use Rattle.ds_state.proofs.Noted.{of_sheet_middle}
use Rattle.ds_state.proofs.Found.{refs_indexed}
use Rattle.ds_state.proofs.Frames.{CatchesUp, Moves, each_moved, owned_catches, clean_free}

-- the contents of heads, where the same edits are linearized
pub text_same : (old new : PlainWorld) → new.layout ≡ old.layout → new.counted ≡ old.counted → (c head : ℕ) (content : PlainContent) → HasContent old c head content → HasContent new c head content
text_same old new layout counted c head content (inl none) = inl none
text_same old new layout counted c head content (inr h) = inr (record {
  by = h.by;
  gave = subst (λ (es : List PlainEdit). IsHeadBy (of_cell c es) head h.by) (sym counted) h.gave;
  reads = rw layout h.reads;
})

-- where the sides may differ, everyone is owed
work_parts : (m : Memory Place) (p : ℕ) (row : List ℕ) (s : WorkStage) (c x : ℕ) → WorkParts s → WorkOwes m p row s c x
work_parts m p row works.StoreKind c x h = tt
work_parts m p row works.FlushValue c x h = tt
work_parts m p row works.FlushKind c x h = tt
work_parts m p row works.BackValue c x h = tt
work_parts m p row works.BackKind c x h = tt
work_parts m p row _ c x h = absurd h

recovery_parts : (m : Memory Place) (p : ℕ) (row : List ℕ) (s : RecoverStage) (r c x : ℕ) → RecoveryParts s r → RecoveryOwes m p row s r c x
recovery_parts m p row recoveries.LoadVersion r c x h = tt
recovery_parts m p row recoveries.FlushVersion r c x h = tt
recovery_parts m p row recoveries.BackVersion r c x h = tt
recovery_parts m p row (recoveries.LoadMark cell) r c x h = tt
recovery_parts m p row (recoveries.FlushValue cell) r c x h = tt
recovery_parts m p row (recoveries.FlushKind cell) r c x h = tt
recovery_parts m p row (recoveries.BackValue cell) r c x h = tt
recovery_parts m p row (recoveries.BackKind cell) r c x h = tt
recovery_parts m p row (recoveries.Telling cell spread) r c x h = inl h
recovery_parts m p row (recoveries.Give cell) r c x h = h
recovery_parts m p row (recoveries.GiveDirty cell) r c x h = h
recovery_parts m p row (recoveries.FlushGiven cell) r c x h = h
recovery_parts m p row (recoveries.BackGiven cell) r c x h = h
recovery_parts m p row _ r c x h = absurd h

-- whoever may have the two sides of a held cell's words differ owes every cell a mark
pub parts_owe : (m : Memory Place) (p : ℕ) (s : Situation) (r c x : ℕ) → Parts s r → Owes m p s r c x
parts_owe m p (Idle next) r c x h = absurd h
parts_owe m p Stopped r c x h = tt
parts_owe m p (Editing e) r c x h = absurd h
parts_owe m p (Working e) r c x h = (h.0, work_parts m p e.row e.stage c x h.1)
parts_owe m p (Recovering e) r c x h = recovery_parts m p e.row e.stage r c x h
parts_owe m p (Showing e) r c x h = absurd h
parts_owe m p (Migrating e) r c x h = tt

pub apart_owes : (w : PlainWorld) (r c x : ℕ) → IsApart w r → CellOwes w r c x
apart_owes w r c x a = record { holder = a.holder; held = a.held; still = parts_owe w.memory a.holder (w.situation a.holder) r c x a.still }

splits_at : (m : Memory Place) (p c : ℕ) (s : Stage) (head x : ℕ) → SplitsAt s head → EditOwes m p c s x
splits_at m p c (edits.FlushOwn own) head x h = tt
splits_at m p c (edits.BackOwn own) head x h = tt
splits_at m p c _ head x h = absurd h

recovery_splits : (m : Memory Place) (p c : ℕ) (s : RecoverStage) (x : ℕ) → RecoverySplits s → RecoveryExcuses m p c s x
recovery_splits m p c recoveries.LoadDone x h = absurd h
recovery_splits m p c (recoveries.OrMark how) x h = absurd h
recovery_splits m p c (recoveries.FlushMark how) x h = absurd h
recovery_splits m p c (recoveries.BackMark how) x h = absurd h
recovery_splits m p c (recoveries.StoreOutcome how) x h = absurd h
recovery_splits m p c (recoveries.FlushOutcome how) x h = absurd h
recovery_splits m p c (recoveries.BackOutcome how) x h = absurd h
recovery_splits m p c (recoveries.Answer how) x h = absurd h
recovery_splits m p c _ x h = tt

-- whoever may have the two sides of a cell's head differ owes the cell its edit's mark
pub splits_excuse : (w : PlainWorld) (p : ℕ) (s : Situation) (c head x : ℕ) → Splits w p s c head → Excuses w p s c x
splits_excuse w p (Idle next) c head x h = absurd h
splits_excuse w p Stopped c head x h = h
splits_excuse w p (Editing e) c head x h = (h.0, splits_at w.memory p c e.stage head x h.1)
splits_excuse w p (Working e) c head x h = absurd h
splits_excuse w p (Recovering e) c head x h = (h.0, recovery_splits w.memory p c e.stage x h.1)
splits_excuse w p (Showing e) c head x h = absurd h
splits_excuse w p (Migrating e) c head x h = h

-- a cell whose head is on its way is excused: the edit that swung it still owes the cell its mark
pub on_its_way_excuses : (w : PlainWorld) (cell persisted x : ℕ) → IsSound w → IsOnItsWay w (of_cell cell w.counted) persisted → IsExcused w cell x
on_its_way_excuses w cell persisted x sound b =
    let its : b.last.cell ≡ cell = cell_of-middle cell w.counted b.before b.last [] b.parts in
    record { process = b.last.process; inside = (of_sheet_middle w sound.of_sheet cell b.before b.last [] b.parts).process; still = subst (λ (y : ℕ). Excuses w b.last.process (w.situation b.last.process) y x) its (splits_excuse w b.last.process (w.situation b.last.process) b.last.cell _ x b.owes) }

-- what a process owes that does nothing
module _ (old new : PlainWorld) (h : ℕ) (marks : (c : ℕ) → old.memory.cached (Mark c) ≤ new.memory.cached (Mark c)) (buffer : new.memory.buffer h ≡ old.memory.buffer h) where
  below_lasts : (c x : ℕ) → IsBelowBuffered old.memory h c x → IsBelowBuffered new.memory h c x
  below_lasts c x k = record { value = k.value; alone = buffer ∙ k.alone; below = k.below }

  above_lasts : (c x : ℕ) → x < old.memory.cached (Mark c) → x < new.memory.cached (Mark c)
  above_lasts c x k = let l = marks c in omega arith

  spread_lasts : (row : List ℕ) (s : Spread) (c x : ℕ) → SpreadOwes old.memory h row s c x → SpreadOwes new.memory h row s c x
  spread_lasts row (LoadRow part) c x k = k
  spread_lasts row (OrTold d) c x k = k
  spread_lasts row (FlushTold d) c x (bit, k) = (bit, elim k [ inl lt ↦ inl lt | inr o ↦ inr (o.0, above_lasts c x o.1) ])
  spread_lasts row (BackTold d) c x (bit, k) = (bit, elim k [ inl lt ↦ inl lt | inr o ↦ inr (o.0, below_lasts c x o.1) ])

  work_lasts : (row : List ℕ) (s : WorkStage) (c x : ℕ) → WorkOwes old.memory h row s c x → WorkOwes new.memory h row s c x
  work_lasts row works.StoreKind c x k = tt
  work_lasts row works.FlushValue c x k = tt
  work_lasts row works.FlushKind c x k = tt
  work_lasts row works.BackValue c x k = tt
  work_lasts row works.BackKind c x k = tt
  work_lasts row (works.Telling spread) c x k = spread_lasts row spread c x k
  work_lasts row _ c x k = absurd k

  recovery_lasts : (row : List ℕ) (s : RecoverStage) (r c x : ℕ) → RecoveryOwes old.memory h row s r c x → RecoveryOwes new.memory h row s r c x
  recovery_lasts row recoveries.LoadVersion r c x k = tt
  recovery_lasts row recoveries.FlushVersion r c x k = tt
  recovery_lasts row recoveries.BackVersion r c x k = tt
  recovery_lasts row (recoveries.LoadMark cell) r c x k = tt
  recovery_lasts row (recoveries.FlushValue cell) r c x k = tt
  recovery_lasts row (recoveries.FlushKind cell) r c x k = tt
  recovery_lasts row (recoveries.BackValue cell) r c x k = tt
  recovery_lasts row (recoveries.BackKind cell) r c x k = tt
  recovery_lasts row (recoveries.Telling cell spread) r c x k = elim k [ inl ne ↦ inl ne | inr o ↦ inr (spread_lasts row spread c x o) ]
  recovery_lasts row (recoveries.Give cell) r c x k = k
  recovery_lasts row (recoveries.GiveDirty cell) r c x k = k
  recovery_lasts row (recoveries.FlushGiven cell) r c x k = k
  recovery_lasts row (recoveries.BackGiven cell) r c x k = k
  recovery_lasts row _ r c x k = absurd k

  pub owes_lasts : (s : Situation) (r c x : ℕ) → Owes old.memory h s r c x → Owes new.memory h s r c x
  owes_lasts (Idle next) r c x k = absurd k
  owes_lasts Stopped r c x k = tt
  owes_lasts (Editing e) r c x k = absurd k
  owes_lasts (Working e) r c x k = (k.0, work_lasts e.row e.stage c x k.1)
  owes_lasts (Recovering e) r c x k = recovery_lasts e.row e.stage r c x k
  owes_lasts (Showing e) r c x k = absurd k
  owes_lasts (Migrating e) r c x k = tt

  edit_lasts : (s : Stage) (c x : ℕ) → EditOwes old.memory h c s x → EditOwes new.memory h c s x
  edit_lasts (edits.FlushOwn own) c x k = tt
  edit_lasts (edits.BackOwn own) c x k = tt
  edit_lasts (edits.OrMark own) c x k = tt
  edit_lasts (edits.FlushMark own) c x k = above_lasts c x k
  edit_lasts (edits.BackMark own) c x k = below_lasts c x k
  edit_lasts _ c x k = absurd k

  excuse_lasts : (s : RecoverStage) (c x : ℕ) → RecoveryExcuses old.memory h c s x → RecoveryExcuses new.memory h c s x
  excuse_lasts (recoveries.FlushMark how) c x k = above_lasts c x k
  excuse_lasts (recoveries.BackMark how) c x k = below_lasts c x k
  excuse_lasts (recoveries.StoreOutcome how) c x k = absurd k
  excuse_lasts (recoveries.FlushOutcome how) c x k = absurd k
  excuse_lasts (recoveries.BackOutcome how) c x k = absurd k
  excuse_lasts (recoveries.Answer how) c x k = absurd k
  excuse_lasts _ c x k = tt

  pub excuses_lasts : ((c : ℕ) → IsPending old h c → IsPending new h c) → (s : Situation) (c x : ℕ) → Excuses old h s c x → Excuses new h s c x
  excuses_lasts pends (Idle next) c x k = absurd k
  excuses_lasts pends Stopped c x k = pends c k
  excuses_lasts pends (Editing e) c x k = (k.0, edit_lasts e.stage c x k.1)
  excuses_lasts pends (Working e) c x k = absurd k
  excuses_lasts pends (Recovering e) c x k = (pends c k.0, excuse_lasts e.stage c x k.1)
  excuses_lasts pends (Showing e) c x k = absurd k
  excuses_lasts pends (Migrating e) c x k = pends c k

  pub splits_last : ((c : ℕ) → IsPending old h c → IsPending new h c) → (s : Situation) (c head : ℕ) → Splits old h s c head → Splits new h s c head
  splits_last pends (Idle next) c head k = absurd k
  splits_last pends Stopped c head k = pends c k
  splits_last pends (Editing e) c head k = k
  splits_last pends (Working e) c head k = absurd k
  splits_last pends (Recovering e) c head k = (pends c k.0, k.1)
  splits_last pends (Showing e) c head k = absurd k
  splits_last pends (Migrating e) c head k = pends c k

-- what others owe, while p steps
module _ (p : ℕ) (place : Place) (old new : PlainWorld) (m : Moves p place old new) where
  pub marks_grow : (c : ℕ) → old.memory.cached (Mark c) ≤ new.memory.cached (Mark c)
  marks_grow c = (each_moved p place old new m (Mark c)).cached

  pub held_lasts : (h r : ℕ) → h ≢ p → IsHeld old.memory h r → IsHeld new.memory h r
  held_lasts h r ne k =
      let keeps = (each_moved p place old new m (Mark r)).holds h ne in
      let a = keeps.cached k.by in
      let b = keeps.persisted k.by k.same in
      let by = k.by in
      record { by = omega arith; same = omega arith }

  pub pends_last : (h c : ℕ) → h ≢ p → IsPending old h c → IsPending new h c
  pends_last h c ne k =
      let up : CatchesUp (old.memory.cached (Announce h)) (old.memory.persisted (Announce h)) (new.memory.cached (Announce h)) (new.memory.persisted (Announce h)) = owned_catches p place old new m h ne (Announce h) refl in
      record {
        issue = k.issue;
        issued = m.pendings h ne ∙ k.issued;
        cell = k.cell;
        cached = up.0 ∙ k.cached;
        persisted = elim up.1 [ inl same ↦ same ∙ k.persisted | inr now ↦ now ∙ k.cached ];
      }

  pub cell_owes_lasts : (r c x : ℕ) → (o : CellOwes old r c x) → o.holder ≢ p → CellOwes new r c x
  cell_owes_lasts r c x o ne = record {
    holder = o.holder;
    held = held_lasts o.holder r ne o.held;
    still = subst (λ (s : Situation). Owes new.memory o.holder s r c x) (sym (m.situations o.holder ne)) (owes_lasts old new o.holder marks_grow (m.buffers o.holder ne) (old.situation o.holder) r c x o.still);
  }

  pub apart_lasts : (r : ℕ) → (a : IsApart old r) → a.holder ≢ p → IsApart new r
  apart_lasts r a ne = record {
    holder = a.holder;
    held = held_lasts a.holder r ne a.held;
    still = subst (λ (s : Situation). Parts s r) (sym (m.situations a.holder ne)) a.still;
  }

  pub excused_lasts : (c x : ℕ) → (o : IsExcused old c x) → o.process ≢ p → IsExcused new c x
  excused_lasts c x o ne = record {
    process = o.process;
    inside = rw m.layout o.inside;
    still = subst (λ (s : Situation). Excuses new o.process s c x) (sym (m.situations o.process ne)) (excuses_lasts old new o.process marks_grow (m.buffers o.process ne) (λ y. pends_last o.process y ne) (old.situation o.process) c x o.still);
  }

  -- what the process itself has to show
  pub record Mine : Type 0 where
    pub owes : (r c x : ℕ) → IsIndexed old r c → Matters new c x → IsHeld old.memory p r → Owes old.memory p (old.situation p) r c x → CellOwes new r c x
    pub excuses : p < old.layout.processes → (c x : ℕ) → Matters new c x → Excuses old p (old.situation p) c x → IsExcused new c x
    pub stored : (r : ℕ) → (place ≡ Value r) ⊎ (place ≡ Kind r) → IsHeldBy p (old.memory.cached (Mark r)) → (c x : ℕ) → CellOwes new r c x
    pub holds : (r : ℕ) → (place ≡ Value r) ⊎ (place ≡ Kind r) → IsHeldBy p (old.memory.cached (Mark r)) → IsHeld old.memory p r
    pub cached_heads : (c : ℕ) → place ≡ Head c → (new.memory.cached (Head c) ≡ old.memory.cached (Head c)) ⊎ ((x : ℕ) → IsExcused new c x)
    pub persisted_heads : (c : ℕ) → place ≡ Head c → (new.memory.persisted (Head c) ≡ old.memory.persisted (Head c)) ⊎ ((x : ℕ) → IsExcused new c x)

  -- of marks: one that comes to be clean, or to be durable, stands
  pub record MyMarks : Type 0 where
    pub cached_marks : (c : ℕ) → place ≡ Mark c → IsClean (new.memory.cached (Mark c))
        → (new.memory.cached (Mark c) ≡ old.memory.cached (Mark c)) ⊎ Stands new (cached_side new.memory) c (new.memory.cached (Mark c))
    pub durable : (c x : ℕ) → IsClean x → IsDurable new c x → IsDurable old c x ⊎ Stands new (persisted_side new.memory) c x

  module _ (sound : IsSound old) (mine : Mine) where
    owing : (r c x : ℕ) → IsIndexed old r c → Matters new c x → CellOwes old r c x → CellOwes new r c x
    owing r c x bit matters o = elim (cases_eq o.holder p) [
      | inl eq ↦ mine.owes r c x bit matters (subst (λ (q : ℕ). IsHeld old.memory q r) eq o.held) (subst (λ (q : ℕ). Owes old.memory q (old.situation q) r c x) eq o.still)
      | inr ne ↦ cell_owes_lasts r c x o ne
    ]

    excused : (c x : ℕ) → Matters new c x → IsExcused old c x → IsExcused new c x
    excused c x matters o = elim (cases_eq o.process p) [
      | inl eq ↦ mine.excuses (subst (λ (q : ℕ). q < old.layout.processes) eq o.inside) c x matters (subst (λ (q : ℕ). Excuses old q (old.situation q) c x) eq o.still)
      | inr ne ↦ excused_lasts c x o ne
    ]

    pub bears : Bears old new
    bears = record {
      owing = owing;
      excused = excused;
      values = λ r. elim (place_cases (Value r) place) [
        | inr ne ↦ inl (m.cached (Value r) ne)
        | inl eq ↦ elim (each_moved p place old new m (Value r)) [ inl by ↦ inr (mine.stored r (inl (sym eq)) by) | inr up ↦ inl up.0 ]
      ];
      kinds = λ r. elim (place_cases (Kind r) place) [
        | inr ne ↦ inl (m.cached (Kind r) ne)
        | inl eq ↦ elim (each_moved p place old new m (Kind r)) [ inl by ↦ inr (mine.stored r (inr (sym eq)) by) | inr up ↦ inl up.0 ]
      ];
      heads = λ c. elim (place_cases (Head c) place) [ inr ne ↦ inl (m.cached (Head c) ne) | inl eq ↦ mine.cached_heads c (sym eq) ];
    }

    -- the persisted words
    caught : (r : ℕ) (q : Place) → (q ≡ Value r) ⊎ (q ≡ Kind r) → place ≡ q → (old.memory.persisted q ≡ old.memory.cached q) ⊎ IsApart old r
        → CatchesUp (old.memory.cached q) (old.memory.persisted q) (new.memory.cached q) (new.memory.persisted q) → (new.memory.persisted q ≡ old.memory.persisted q) ⊎ ((c x : ℕ) → CellOwes new r c x)
    caught r q its at sides up = elim up.1 [
      | inl same ↦ inl same
      | inr now ↦ elim sides [
        | inl agree ↦ inl (now ∙ sym agree)
        | inr a ↦ inr (elim (cases_eq a.holder p) [
          | inl eq ↦ mine.stored r (elim its [ inl v ↦ inl (at ∙ v) | inr k ↦ inr (at ∙ k) ]) (subst (λ (y : ℕ). IsHeldBy y (old.memory.cached (Mark r))) eq a.held.by)
          | inr ne ↦ (λ c x. apart_owes new r c x (apart_lasts r a ne))
        ])
      ]
    ]

    pub persisted_value : (r : ℕ) → (new.memory.persisted (Value r) ≡ old.memory.persisted (Value r)) ⊎ ((c x : ℕ) → CellOwes new r c x)
    persisted_value r = elim (place_cases (Value r) place) [
      | inr ne ↦ inl (m.persisted (Value r) ne)
      | inl eq ↦ elim (each_moved p place old new m (Value r)) [ inl by ↦ inr (mine.stored r (inl (sym eq)) by) | inr up ↦ caught r (Value r) (inl refl) (sym eq) (sound.words (Value r)) up ]
    ]

    pub persisted_kind : (r : ℕ) → (new.memory.persisted (Kind r) ≡ old.memory.persisted (Kind r)) ⊎ ((c x : ℕ) → CellOwes new r c x)
    persisted_kind r = elim (place_cases (Kind r) place) [
      | inr ne ↦ inl (m.persisted (Kind r) ne)
      | inl eq ↦ elim (each_moved p place old new m (Kind r)) [ inl by ↦ inr (mine.stored r (inr (sym eq)) by) | inr up ↦ caught r (Kind r) (inr refl) (sym eq) (sound.words (Kind r)) up ]
    ]

-- what a mark says stays, on a side that stays but for what is owed
pub stands_lasts : (old new : PlainWorld) (side side' : Side) (c x : ℕ) → IsSound old → new.layout ≡ old.layout
    → ((content : PlainContent) → HasContent old c (side.head c) content → HasContent new c (side.head c) content)
    → side'.value c ≡ side.value c → side'.kind c ≡ side.kind c
    → (side'.head c ≡ side.head c) ⊎ IsExcused new c x
    → (IsExcused old c x → IsExcused new c x)
    → ((r : ℕ) → ((side'.value r ≡ side.value r) × (side'.kind r ≡ side.kind r)) ⊎ CellOwes new r c x)
    → ((r : ℕ) → IsIndexed old r c → CellOwes old r c x → CellOwes new r c x)
    → Stands old side c x → Stands new side' c x
stands_lasts old new side side' c x sound layout text value kind head excused words owing (inl o) = inl (excused o)
stands_lasts old new side side' c x sound layout text value kind (inr o) excused words owing (inr h) = inl o
stands_lasts old new side side' c x sound layout text value kind (inl same) excused words owing (inr h) = inr (record {
  content = h.content;
  has = subst (λ (y : ℕ). HasContent new c y h.content) (sym same) (text h.content h.has);
  inputs = h.inputs;
  on_value = rw layout (value ∙ h.on_value);
  on_kind = rw layout (kind ∙ h.on_kind);
  near = λ d refers inside.
      let r : ℕ = index_of old.layout.shape d in
      let now : index_of new.layout.shape d ≡ r = ap (λ (l : Layout). index_of l.shape d) layout in
      elim (words r) [
        | inr o ↦ inr (subst (λ (y : ℕ). CellOwes new y c x) (sym now) o)
        | inl both ↦ elim (h.near d refers (subst (λ (l : Layout). IsInside l.shape d) layout inside)) [
          | inl is ↦ inl (rw (layout, both.0, both.1) is)
          | inr o ↦ inr (subst (λ (y : ℕ). CellOwes new y c x) (sym now) (owing r (refs_indexed old sound c (side.head c) h.content h.has d refers (subst (λ (l : Layout). IsInside l.shape d) layout inside)) o))
        ]
      ];
})

-- what stands on the cached side stands on the persisted one, where the sides of the cell's words agree
pub to_persisted : (w : PlainWorld) (c x : ℕ) → IsSound w → w.memory.persisted (Value c) ≡ w.memory.cached (Value c) → w.memory.persisted (Kind c) ≡ w.memory.cached (Kind c)
    → Stands w (cached_side w.memory) c x → Stands w (persisted_side w.memory) c x
to_persisted w c x sound value kind h = stands_lasts w w (cached_side w.memory) (persisted_side w.memory) c x sound refl (λ content t. t) value kind
    (elim (sound.words (Head c)).sides [ inl same ↦ inl same | inr b ↦ inr (on_its_way_excuses w c (w.memory.persisted (Head c)) x sound b) ]) (λ o. o)
    (λ r. elim (sound.words (Value r)) [
      | inr a ↦ inr (apart_owes w r c x a)
      | inl v ↦ elim (sound.words (Kind r)) [ inr a ↦ inr (apart_owes w r c x a) | inl k ↦ inl (v, k) ]
    ])
    (λ r bit o. o) h

clean_even : (x : ℕ) → IsClean x → IsEven x
clean_even x a = omega arith

between_held : (p m c q : ℕ) → p ≤ m → m ≤ c → p / 2 ≡ c / 2 → IsHeldBy q c → IsClean m → ⊥
between_held p m c q a b same held clean = omega arith

-- the cell's words agree under a clean mark
pub clean_agrees : (w : PlainWorld) (c : ℕ) (q : Place) → (q ≡ Value c) ⊎ (q ≡ Kind c) → IsSound w → IsClean (w.memory.cached (Mark c)) → (w.memory.persisted q ≡ w.memory.cached q) ⊎ IsApart w c → w.memory.persisted q ≡ w.memory.cached q
clean_agrees w c q its sound clean (inl same) = same
clean_agrees w c q its sound clean (inr a) = absurd (clean_free _ a.holder clean a.held.by)

-- each mark in a buffer is one that its cell has had
pub record Buffered (w : PlainWorld) : Type 0 where
  pub had : (q c x : ℕ) → q < w.layout.processes → Contains (w.memory.buffer q) (entry (Mark c) x) → x ≤ w.memory.cached (Mark c)

-- a mark that is persisted or on its way is no newer than the cached one
pub durable_most : (w : PlainWorld) (c x : ℕ) → IsSound w → Buffered w → IsDurable w c x → x ≤ w.memory.cached (Mark c)
durable_most w c x sound buffered (inl is) = let b = (sound.words (Mark c)).behind in omega arith
durable_most w c x sound buffered (inr d) = buffered.had d.by c x d.process d.there

-- a mark that is persisted or on its way is no older than the persisted one
pub durable_least : (w : PlainWorld) (c x : ℕ) → IsDurable w c x → w.memory.persisted (Mark c) ≤ x
durable_least w c x (inl is) = omega arith
durable_least w c x (inr d) = d.no_older

-- no clean mark of a cell that is held on both sides is durable
pub held_none : (w : PlainWorld) (q c x : ℕ) → IsSound w → Buffered w → IsHeld w.memory q c → IsClean x → IsDurable w c x → ⊥
held_none w q c x sound buffered held clean d = between_held _ x _ q (durable_least w c x d) (durable_most w c x sound buffered d) held.same held.by clean

module _ (p : ℕ) (place : Place) (old new : PlainWorld) (m : Moves p place old new) (sound : IsSound old) (buffered : Buffered old) (mine : Mine p place old new m)
    (same_text : (c head : ℕ) (content : PlainContent) → HasContent old c head content → HasContent new c head content) where
  pub b : Bears old new
  b = bears p place old new m sound mine

  same_cached : (c : ℕ) → IsClean (new.memory.cached (Mark c)) → new.memory.cached (Mark c) ≡ old.memory.cached (Mark c) → Stands new (cached_side new.memory) c (new.memory.cached (Mark c))
  same_cached c clean same =
      let x : ℕ = new.memory.cached (Mark c) in
      let was : IsClean (old.memory.cached (Mark c)) = subst (λ (y : ℕ). IsClean y) same clean in
      let matters : Matters new c x = (clean_even x clean, inl refl) in
      stands_lasts old new (cached_side old.memory) (cached_side new.memory) c x sound m.layout (λ content t. same_text c _ content t)
      (unheld (Value c) was (each_moved p place old new m (Value c))) (unheld (Kind c) was (each_moved p place old new m (Kind c)))
      (elim (b.heads c) [ inl eq ↦ inl eq | inr o ↦ inr (o x) ])
      (b.excused c x matters)
      (λ r. elim (b.values r) [ inr o ↦ inr (o c x) | inl v ↦ elim (b.kinds r) [ inr o ↦ inr (o c x) | inl k ↦ inl (v, k) ] ])
      (λ r bit o. b.owing r c x bit matters o)
      (subst (λ (y : ℕ). Stands old (cached_side old.memory) c y) (sym same) (sound.stand.on_cached c was))
    where
      unheld : (q : Place) → IsClean (old.memory.cached (Mark c)) → IsHeldBy p (old.memory.cached (Mark c)) ⊎ CatchesUp (old.memory.cached q) (old.memory.persisted q) (new.memory.cached q) (new.memory.persisted q) → new.memory.cached q ≡ old.memory.cached q
      unheld q was (inl by) = absurd (clean_free _ p was by)
      unheld q was (inr up) = up.0

  -- a persisted word of a cell with a durable clean mark stays
  same_word : (c x : ℕ) (q : Place) → (q ≡ Value c) ⊎ (q ≡ Kind c) → IsClean x → IsDurable old c x → (old.memory.persisted q ≡ old.memory.cached q) ⊎ IsApart old c
      → IsHeldBy p (old.memory.cached (Mark c)) ⊎ CatchesUp (old.memory.cached q) (old.memory.persisted q) (new.memory.cached q) (new.memory.persisted q) → new.memory.persisted q ≡ old.memory.persisted q
  same_word c x q its clean d sides moved = elim (place_cases q place) [
    | inr ne ↦ m.persisted q ne
    | inl at ↦ elim moved [
      | inl by ↦ absurd (held_none old p c x sound buffered (mine.holds c (elim its [ inl v ↦ inl (sym at ∙ v) | inr k ↦ inr (sym at ∙ k) ]) by) clean d)
      | inr up ↦ elim up.1 [
        | inl same ↦ same
        | inr now ↦ elim sides [ inl agree ↦ now ∙ sym agree | inr a ↦ absurd (held_none old a.holder c x sound buffered a.held clean d) ]
      ]
    ]
  ]

  same_durable : (c x : ℕ) → IsClean x → IsDurable new c x → IsDurable old c x → Stands new (persisted_side new.memory) c x
  same_durable c x clean now was =
      let matters : Matters new c x = (clean_even x clean, inr now) in
      stands_lasts old new (persisted_side old.memory) (persisted_side new.memory) c x sound m.layout (λ content t. same_text c _ content t)
      (same_word c x (Value c) (inl refl) clean was (sound.words (Value c)) (each_moved p place old new m (Value c)))
      (same_word c x (Kind c) (inr refl) clean was (sound.words (Kind c)) (each_moved p place old new m (Kind c)))
      (elim (place_cases (Head c) place) [
        | inr ne ↦ inl (m.persisted (Head c) ne)
        | inl at ↦ elim (mine.persisted_heads c (sym at)) [ inl same ↦ inl same | inr o ↦ inr (o x) ]
      ])
      (b.excused c x matters)
      (λ r. elim (persisted_value p place old new m sound mine r) [
        | inr o ↦ inr (o c x)
        | inl v ↦ elim (persisted_kind p place old new m sound mine r) [ inr o ↦ inr (o c x) | inl k ↦ inl (v, k) ]
      ])
      (λ r bit o. b.owing r c x bit matters o)
      (sound.stand.on_persisted c x clean was)

  -- a word of a cell that has a clean mark
  agreed_word : (c : ℕ) (q : Place) → (q ≡ Value c) ⊎ (q ≡ Kind c) → IsClean (old.memory.cached (Mark c)) → (old.memory.persisted q ≡ old.memory.cached q) ⊎ IsApart old c
      → IsHeldBy p (old.memory.cached (Mark c)) ⊎ CatchesUp (old.memory.cached q) (old.memory.persisted q) (new.memory.cached q) (new.memory.persisted q) → new.memory.persisted q ≡ old.memory.persisted q
  agreed_word c q its clean sides (inl by) = absurd (clean_free _ p clean by)
  agreed_word c q its clean sides (inr up) = elim up.1 [ inl same ↦ same | inr now ↦ now ∙ sym (clean_agrees old c q its sound clean sides) ]

  -- the clean mark of the cached side comes to be durable
  pub durable_now : (c x : ℕ) → IsClean x → x ≡ old.memory.cached (Mark c) → IsDurable new c x → Stands new (persisted_side new.memory) c x
  durable_now c x clean is now =
      let was : IsClean (old.memory.cached (Mark c)) = subst (λ (y : ℕ). IsClean y) is clean in
      let matters : Matters new c x = (clean_even x clean, inr now) in
      stands_lasts old new (persisted_side old.memory) (persisted_side new.memory) c x sound m.layout (λ content t. same_text c _ content t)
      (agreed_word c (Value c) (inl refl) was (sound.words (Value c)) (each_moved p place old new m (Value c)))
      (agreed_word c (Kind c) (inr refl) was (sound.words (Kind c)) (each_moved p place old new m (Kind c)))
      (elim (place_cases (Head c) place) [
        | inr ne ↦ inl (m.persisted (Head c) ne)
        | inl at ↦ elim (mine.persisted_heads c (sym at)) [ inl same ↦ inl same | inr o ↦ inr (o x) ]
      ])
      (b.excused c x matters)
      (λ r. elim (persisted_value p place old new m sound mine r) [
        | inr o ↦ inr (o c x)
        | inl v ↦ elim (persisted_kind p place old new m sound mine r) [ inr o ↦ inr (o c x) | inl k ↦ inl (v, k) ]
      ])
      (λ r bit o. b.owing r c x bit matters o)
      (to_persisted old c x sound
      (clean_agrees old c (Value c) (inl refl) sound was (sound.words (Value c)))
      (clean_agrees old c (Kind c) (inr refl) sound was (sound.words (Kind c)))
      (subst (λ (y : ℕ). Stands old (cached_side old.memory) c y) (sym is) (sound.stand.on_cached c was)))

  -- every clean mark stands after the step
  pub all_stand : MyMarks p place old new m → AllStand new
  all_stand marks = record {
    on_cached = λ c clean. elim (place_cases (Mark c) place) [
      | inr ne ↦ same_cached c clean (m.cached (Mark c) ne)
      | inl at ↦ elim (marks.cached_marks c (sym at) clean) [ inl same ↦ same_cached c clean same | inr fresh ↦ fresh ]
    ];
    on_persisted = λ c x clean now. elim (marks.durable c x clean now) [ inl was ↦ same_durable c x clean now was | inr fresh ↦ fresh ];
  }

-- an entry of a buffer with one more after it is one of the buffer's, or that one
pub in_push : (xs : List (BufferEntry Place)) (y e : BufferEntry Place) → Contains (xs ++ y ∷ []) e → Contains xs e ⊎ (y ≡ e)
in_push xs y e h = elim (Contains-append_cases xs (y ∷ []) e h) [
  | inl k ↦ inl k
  | inr k ↦ inr (only k)
]
  where
    only : Contains (y ∷ []) e → y ≡ e
    only (zero, l, is) = is
    only (suc k, l, is) = absurd (omega arith)

-- which marks are durable after an access
module _ (p : ℕ) (place : Place) (old new : PlainWorld) (m : Moves p place old new) where
  -- the persisted mark is the same, or greater, or was durable
  back_durable : (c x : ℕ) → IsBuffered new c x → ((q : ℕ) → Contains (new.memory.buffer q) (entry (Mark c) x) → Contains (old.memory.buffer q) (entry (Mark c) x)) → IsBuffered old c x
  back_durable c x d was = record {
    by = d.by;
    process = subst (λ (l : Layout). d.by < l.processes) m.layout d.process;
    there = was d.by d.there;
    no_older = (let g = (each_moved p place old new m (Mark c)).persisted in let n = d.no_older in omega arith);
  }

  -- no mark is stored, and no mark comes into a buffer
  pub no_new_marks : ((c : ℕ) → place ≡ Mark c → ⊥) → ((c x q : ℕ) → Contains (new.memory.buffer q) (entry (Mark c) x) → Contains (old.memory.buffer q) (entry (Mark c) x)) → MyMarks p place old new m
  no_new_marks apart was = record {
    cached_marks = λ c at clean. absurd (apart c at);
    durable = λ c x clean d. inl (elim d [
      | inl is ↦ inl (is ∙ m.persisted (Mark c) (λ same. apart c (sym same)))
      | inr k ↦ inr (back_durable c x k (λ q. was c x q))
    ]);
  }

  -- a mark is stored
  pub stored_marks : ((c : ℕ) → place ≡ Mark c → IsClean (new.memory.cached (Mark c)) → (new.memory.cached (Mark c) ≡ old.memory.cached (Mark c)) ⊎ Stands new (cached_side new.memory) c (new.memory.cached (Mark c)))
      → ((r : Place) → new.memory.persisted r ≡ old.memory.persisted r) → ((q : ℕ) → new.memory.buffer q ≡ old.memory.buffer q) → MyMarks p place old new m
  stored_marks cached persisted buffer = record {
    cached_marks = cached;
    durable = λ c x clean d. inl (elim d [
      | inl is ↦ inl (is ∙ persisted (Mark c))
      | inr k ↦ inr (back_durable c x k (λ q h. subst (λ (xs : List (BufferEntry Place)). Contains xs (entry (Mark c) x)) (buffer q) h))
    ]);
  }

  module _ (sound : IsSound old) (buffered : Buffered old) (mine : Mine p place old new m)
      (same_text : (c head : ℕ) (content : PlainContent) → HasContent old c head content → HasContent new c head content) where
    -- a mark is flushed
    pub flushed_marks : (d : ℕ) → ((c : ℕ) → place ≡ Mark c → ⊥) → FlushesAt p (Mark d) (class_of (Mark d)) old.memory new.memory → MyMarks p place old new m
    flushed_marks d apart f = record {
      cached_marks = λ c at clean. absurd (apart c at);
      durable = λ c x clean now. elim now [
        | inl is ↦ inl (inl (is ∙ f.persisted (Mark c)))
        | inr k ↦ elim (cases_eq k.by p) [
          | inr ne ↦ inl (inr (record {
            by = k.by;
            process = subst (λ (l : Layout). k.by < l.processes) m.layout k.process;
            there = subst (λ (xs : List (BufferEntry Place)). Contains xs (entry (Mark c) x)) (f.others k.by ne) k.there;
            no_older = (let g = f.persisted (Mark c) in let n = k.no_older in omega arith);
          }))
          | inl eq ↦ elim (in_push (old.memory.buffer p) (entry (Mark d) (old.memory.cached (Mark d))) (entry (Mark c) x)
              (subst (λ (xs : List (BufferEntry Place)). Contains xs (entry (Mark c) x)) (ap new.memory.buffer eq ∙ f.mine) k.there)) [
                | inl there ↦ inl (inr (record {
                  by = p;
                  process = subst (λ (l : Layout). p < l.processes) m.layout (subst (λ (q : ℕ). q < new.layout.processes) eq k.process);
                  there = there;
                  no_older = (let g = f.persisted (Mark c) in let n = k.no_older in omega arith);
                }))
                | inr is ↦ (
                    let at : Mark d ≡ Mark c = ap (λ (y : BufferEntry Place). y.place) is in
                    let v : old.memory.cached (Mark d) ≡ x = ap (λ (y : BufferEntry Place). y.value) is in
                    inr (durable_now p place old new m sound buffered mine same_text c x clean (sym v ∙ ap old.memory.cached at) (inr k)))
              ]
        ]
      ];
    }

    -- the persisted side of a mark becomes what was durable, or the cached mark
    pub backed_marks : (d v : ℕ) → place ≡ Mark d → new.memory.persisted (Mark d) ≡ v → IsDurable old d v ⊎ (v ≡ old.memory.cached (Mark d))
        → ((r : Place) → new.memory.cached r ≡ old.memory.cached r)
        → ((c x q : ℕ) → Contains (new.memory.buffer q) (entry (Mark c) x) → Contains (old.memory.buffer q) (entry (Mark c) x)) → MyMarks p place old new m
    backed_marks d v at there found cached was = record {
      cached_marks = λ c its clean. inl (cached (Mark c));
      durable = λ c x clean now. elim now [
        | inr k ↦ inl (inr (back_durable c x k (λ q. was c x q)))
        | inl is ↦ elim (cases_eq c d) [
          | inr ne ↦ inl (inl (is ∙ m.persisted (Mark c) (λ same. ne (let both : Mark c ≡ Mark d = same ∙ at in cc))))
          | inl eq ↦ (
              let vx : x ≡ v = is ∙ ap (λ (y : ℕ). new.memory.persisted (Mark y)) eq ∙ there in
              elim found [
                | inl durable ↦ inl (subst (λ (y : ℕ). IsDurable old y x) (sym eq) (subst (λ (y : ℕ). IsDurable old d y) (sym vx) durable))
                | inr newest ↦ inr (durable_now p place old new m sound buffered mine same_text c x clean (vx ∙ newest ∙ ap (λ (y : ℕ). old.memory.cached (Mark y)) (sym eq)) (inl is))
              ])
        ]
      ];
    }
