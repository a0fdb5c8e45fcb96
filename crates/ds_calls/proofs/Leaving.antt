-- What a work that is alone leaves: the words that it does not touch, and the entry that it gives its cell.
use Rattle.std.proofs.Common.{ℕ, ◌≡◌, ◌<◌, ◌+◌, ◌-◌, ◌*◌, ◌/◌, ◌==◌, [], ◌∷◌, ◌++◌, nat_lt, if◌then◌else◌, refl, ap, sym, ◌∙◌, arith, inl, inr, length, take, Bool, true, false, Some, None}
use Rattle.std.specs.Prelude.{Option}
use Rattle.std.proofs.lemmas.Bool.{cases_eq, eq-eqb, ne_eqb}
use Rattle.ds_state.specs.Shown.{header_in}
use Rattle.ds_words.proofs.Frames.{cached_kept, Changes}
use Rattle.ds_formula.specs.Cells.{index_of}
use Rattle.ds_formula.specs.declared.cells.Cell.{Cell}
use Rattle.ds_formula.specs.declared.cells.Shape.{Shape}
use Rattle.ds_formula.specs.Plain.{PlainContent}
use Rattle.ds_eval.specs.declared.inputs.Entry as entries
use Rattle.ds_eval.specs.Inputs.{with_entry}
use Rattle.ds_eval.specs.Local.{local}
use Rattle.ds_layout.specs.declared.place.Place.{Place}
use Rattle.ds_layout.specs.declared.place.Place.TheVariants.{Mark, Head, Value, Kind}
use Rattle.ds_layout.specs.declared.mark.State.{State}
use Rattle.ds_layout.specs.declared.mark.State.TheVariants as state
use Rattle.ds_layout.specs.declared.head.Head as heads
use Rattle.ds_layout.specs.declared.header.Header.{Header}
use Rattle.ds_layout.specs.Places.{class_of}
use Rattle.ds_layout.specs.Mark.{mark_of, state_of, generation_of, held_after, dirtied}
use Rattle.ds_layout.specs.Head.{head_of}
use Rattle.ds_layout.specs.Header.{header_of}
use Rattle.ds_layout.specs.TextWords.{bytes_of}
use Rattle.ds_layout.specs.SheetMemory.{PerformsAt}
use Rattle.ds_state.specs.Works.{PlainWorkCall, SEEN_MOST}
use Rattle.ds_state.specs.Standing.{cached_side, entry_on, HasContent, value_for, word_for, shown_entry}
use Rattle.ds_state.specs.Telling.{told_from}
use Rattle.ds_state.specs.World.{PlainWorld}
use Rattle.ds_state.specs.KnownWork.{WorkFits, WorkKnows, work_known, CachedAre}
use Rattle.ds_state.specs.declared.spread.Spread.{Spread}
use Rattle.ds_state.specs.declared.spread.Spread.TheVariants.{LoadRow, OrTold, FlushTold, BackTold}
use Rattle.ds_state.specs.declared.work.WorkEnd.{WorkEnd}
use Rattle.ds_state.specs.declared.work.WorkEnd.TheVariants as ends
use Rattle.ds_state.specs.declared.work.WorkStage.{WorkStage}
use Rattle.ds_state.specs.declared.work.WorkStage.TheVariants as works
use Rattle.ds_state.proofs.Dirty.{or_dirty}
use Rattle.ds_work.specs.WorkSteps.{at, access_at, claims_from, head_from, header_from, text_from, input_from, told, tell_from, row_from, next_at, text_parts, parts_of}
use Rattle.ds_work.specs.WorkShows.{CellWords, shown_in, words_for}
use Rattle.ds_work.proofs.WorkShows.{shown_same}

-- ---- what it leaves

-- the generation of the mark of the cell with this number
abbrev pub age : PlainWorld → ℕ → ℕ
age w c = generation_of (w.memory.cached (Mark c))

-- what each cell shows
abbrev pub entries_in : PlainWorld → Cell → entries.Entry
entries_in w d = entry_on w.layout (cached_side w.memory) (index_of w.layout.shape d)

-- the entry is what the cell's content gives of what the cells show
pub record IsGiven (w : PlainWorld) (c : ℕ) (entry : entries.Entry) : Type 0 where
  pub content : PlainContent
  pub has : HasContent w c (w.memory.cached (Head c)) content
  pub is : entry ≡ local w.layout.shape content (entries_in w)

-- the cell shows the entry that its content gave of what the cells showed at first
pub record Gives (first w : PlainWorld) (c : ℕ) : Type 0 where
  pub entry : entries.Entry
  pub given : IsGiven first c entry
  pub shows : shown_in w c ≡ words_for entry

-- the marks of all other cells are as they were
abbrev pub Untold : PlainWorld → PlainWorld → ℕ → Type 0
Untold first w c = (d : ℕ) → (d ≡ c → ⊥) → w.memory.cached (Mark d) ≡ first.memory.cached (Mark d)

-- what a work that ends so leaves
abbrev pub EndLeaves : PlainWorld → PlainWorld → ℕ → WorkEnd → Type 0
EndLeaves first w c (ends.Published true) = Gives first w c × (age w c ≡ age first c + 2)
EndLeaves first w c (ends.Published false) = Gives first w c × (age w c ≡ age first c + 2) × Untold first w c
EndLeaves first w c ends.Again = Gives first w c × (age w c ≡ age first c + 2)
EndLeaves first w c _ = Unit {0}

abbrev Loads : PlainWorld → PlainWorld → PlainWorkCall → Type 0
Loads first w e = Untold first w e.cell × (generation_of e.mark ≡ age first e.cell + 1)

abbrev Tells : PlainWorld → PlainWorkCall → Type 0
Tells first e = (generation_of e.mark ≡ age first e.cell + 1) × IsGiven first e.cell e.entry

abbrev Stores : PlainWorld → PlainWorld → PlainWorkCall → Type 0
Stores first w e = Untold first w e.cell × Tells first e

-- what work leaves at each stage
abbrev pub LeavesAt : PlainWorld → PlainWorld → PlainWorkCall → WorkStage → Type 0
LeavesAt first w e works.LoadMark = Untold first w e.cell × (age w e.cell ≡ age first e.cell)
LeavesAt first w e works.Claim = Untold first w e.cell × (generation_of e.mark ≡ age first e.cell)
LeavesAt first w e works.StoreValue = Stores first w e
LeavesAt first w e works.StoreKind = Stores first w e
LeavesAt first w e works.FlushValue = Stores first w e
LeavesAt first w e works.FlushKind = Stores first w e
LeavesAt first w e works.BackValue = Stores first w e
LeavesAt first w e works.BackKind = Stores first w e
LeavesAt first w e (works.Telling spread) = Tells first e
LeavesAt first w e (works.Clear true) = Tells first e
LeavesAt first w e (works.Clear false) = Stores first w e
LeavesAt first w e works.ClearDirty = (generation_of e.mark ≡ age first e.cell + 1) × Gives first w e.cell
LeavesAt first w e works.Give = Unit {0}
LeavesAt first w e works.GiveDirty = Unit {0}
LeavesAt first w e (works.FlushCleared end) = EndLeaves first w e.cell end
LeavesAt first w e (works.BackCleared end) = EndLeaves first w e.cell end
LeavesAt first w e (works.Answer end) = EndLeaves first w e.cell end
LeavesAt first w e works.FlushClaim = Loads first w e
LeavesAt first w e works.BackClaim = Loads first w e
LeavesAt first w e works.LoadHead = Loads first w e
LeavesAt first w e works.LoadHeader = Loads first w e
LeavesAt first w e (works.LoadText part) = Loads first w e
LeavesAt first w e works.Read = Loads first w e
LeavesAt first w e (works.LoadValue i) = Loads first w e
LeavesAt first w e (works.LoadKind i value) = Loads first w e
LeavesAt first w e works.LoadOwnValue = Loads first w e
LeavesAt first w e works.LoadOwnKind = Loads first w e
LeavesAt first w e works.Wait = Loads first w e

-- the words that work of the process on the cell does not touch
pub record Since (first w : PlainWorld) (p c : ℕ) : Type 0 where
  pub layout : w.layout ≡ first.layout
  pub counted : w.counted ≡ first.counted
  pub others : (q : ℕ) → (q ≡ p → ⊥) → w.situation q ≡ first.situation q
  pub head : (d : ℕ) → w.memory.cached (Head d) ≡ first.memory.cached (Head d)
  pub shown : (d : ℕ) → (d ≡ c → ⊥) → shown_in w d ≡ shown_in first d
  pub ages : (d : ℕ) → (d ≡ c → ⊥) → age w d ≡ age first d

pub since_none : (w : PlainWorld) (p c : ℕ) → Since w w p c
since_none w p c = record { layout = refl; counted = refl; others = λ q n. refl; head = λ d. refl; shown = λ d n. refl; ages = λ d n. refl }

-- ---- branches

module _ (first w : PlainWorld) where
  abbrev Here : PlainWorkCall → Type 0
  Here e = LeavesAt first w e e.stage

  either : (b : Bool) (x y : PlainWorkCall) → Here x → Here y → Here (if b then x else y)
  either true x y h k = h
  either false x y h k = k

  claims_leave : (e : PlainWorkCall) (word : ℕ) (s : State) → Untold first w e.cell → generation_of word ≡ age first e.cell → Here (claims_from e word s)
  claims_leave e word state.Clean h k = tt
  claims_leave e word (state.Held p) h k = tt
  claims_leave e word state.Marked h k = either (nat_lt SEEN_MOST (generation_of word)) _ _ tt (h, k)

  text_leaves : (e : PlainWorkCall) (part : ℕ) → Loads first w e → Here (text_from e part)
  text_leaves e part h = either (nat_lt part (text_parts e)) _ _ h h

  header_leaves : (e : PlainWorkCall) (o : Option Header) → Loads first w e → Here (header_from e o)
  header_leaves e None h = h
  header_leaves e (Some header) h = text_leaves (record e { length = header.length; text = [] }) 0 h

  head_leaves : (e : PlainWorkCall) (word : ℕ) (o : Option heads.Head) → Loads first w e → Here (head_from e word o)
  head_leaves e word None h = h
  head_leaves e word (Some head) h = h

  pub input_leaves : (e : PlainWorkCall) (i : ℕ) → Loads first w e → Here (input_from e i)
  input_leaves e i h = either (nat_lt i (length e.inputs)) _ _ h h

  told_leaves : (e : PlainWorkCall) (o : Option ℕ) → Tells first e → Here (told e o)
  told_leaves e None h = h
  told_leaves e (Some d) h = h

  tell_leaves : (e : PlainWorkCall) (d : ℕ) → Tells first e → Here (tell_from e d)
  tell_leaves e d h = told_leaves e (told_from e.row (e.cells - d) d) h

  row_leaves : (e : PlainWorkCall) (part : ℕ) → Tells first e → Here (row_from e part)
  row_leaves e part h = either (nat_lt part (parts_of e)) _ _ h (tell_leaves e 0 h)

-- ---- a step

-- what the work knows of its cell where it lets it go
abbrev HelpAt : PlainWorld → PlainWorkCall → WorkStage → Type 0
HelpAt w e (works.Clear changed) = CachedAre w e (value_for e.entry) (word_for e.entry)
HelpAt w e works.ClearDirty = w.memory.cached (Mark e.cell) ≡ dirtied e.mark
HelpAt w e _ = Unit {0}

-- a work that fits knows its cell's words, or its mark, where it lets the cell go
pub help_at : (w : PlainWorld) (p : ℕ) (e : PlainWorkCall) → WorkFits w p e → HelpAt w e e.stage
help_at w p e fits = by e.stage fits.knows
  where
    by : (s : WorkStage) → WorkKnows w e (work_known (length e.inputs) s) → HelpAt w e s
    by (works.Clear changed) k = k.own.0
    by works.ClearDirty k = k.hold.1
    by _ k = tt

abbrev words_of : ℕ → ℕ → CellWords
words_of v k = record { value = v; kind = k }

module _ (first : PlainWorld) (shape : Shape) (e : PlainWorkCall) (word : ℕ) (old new : PlainWorld) where
  abbrev Performs : WorkStage → Type 0
  Performs s = PerformsAt (access_at shape e s) e.process old.memory new.memory word

  kept : (s : WorkStage) (r : Place) → (Changes (access_at shape e s) r → ⊥) → Performs s → new.memory.cached r ≡ old.memory.cached r
  kept s r never m = cached_kept class_of old.memory new.memory (access_at shape e s) e.process word r never m

  -- what an access touches is a mark, or a word of the cell
  tells_never : (x : Spread) (r : Place) → ((d : ℕ) → r ≡ Mark d → ⊥) → Changes (access_at shape e (works.Telling x)) r → ⊥
  tells_never (LoadRow k) r not c = c
  tells_never (OrTold d) r not c = not d c
  tells_never (FlushTold d) r not c = c
  tells_never (BackTold d) r not c = c

  never : (s : WorkStage) (r : Place) → ((d : ℕ) → r ≡ Mark d → ⊥) → (r ≡ Value e.cell → ⊥) → (r ≡ Kind e.cell → ⊥) → Changes (access_at shape e s) r → ⊥
  never works.StoreValue r not v k c = v c
  never works.StoreKind r not v k c = k c
  never works.Claim r not v k c = not e.cell c
  never (works.Clear changed) r not v k c = not e.cell c
  never works.ClearDirty r not v k c = not e.cell c
  never works.Give r not v k c = not e.cell c
  never works.GiveDirty r not v k c = not e.cell c
  never (works.Telling x) r not v k c = tells_never x r not c
  never _ r not v k c = c

  pub same_heads : (s : WorkStage) → Performs s → (d : ℕ) → new.memory.cached (Head d) ≡ old.memory.cached (Head d)
  same_heads s m d = kept s (Head d) (never s (Head d) (λ k is. cc) (λ is. cc) (λ is. cc)) m

  pub same_shown : (s : WorkStage) → Performs s → (d : ℕ) → (d ≡ e.cell → ⊥) → shown_in new d ≡ shown_in old d
  same_shown s m d other = shown_same old new d
      (kept s (Value d) (never s (Value d) (λ k is. cc) (λ is. other (let one : d ≡ e.cell = cc in one)) (λ is. cc)) m)
      (kept s (Kind d) (never s (Kind d) (λ k is. cc) (λ is. cc) (λ is. other (let one : d ≡ e.cell = cc in one))) m)

  -- a stage that marks no other cell
  abbrev TellsNone : WorkStage → Type 0
  TellsNone (works.Telling x) = ⊥
  TellsNone _ = Unit {0}

  own_mark : (s : WorkStage) → TellsNone s → (d : ℕ) → (d ≡ e.cell → ⊥) → Changes (access_at shape e s) (Mark d) → ⊥
  own_mark works.StoreValue none d other c = cc
  own_mark works.StoreKind none d other c = cc
  own_mark works.Claim none d other c = other (let one : d ≡ e.cell = cc in one)
  own_mark (works.Clear changed) none d other c = other (let one : d ≡ e.cell = cc in one)
  own_mark works.ClearDirty none d other c = other (let one : d ≡ e.cell = cc in one)
  own_mark works.Give none d other c = other (let one : d ≡ e.cell = cc in one)
  own_mark works.GiveDirty none d other c = other (let one : d ≡ e.cell = cc in one)
  own_mark (works.Telling x) none d other c = none
  own_mark _ none d other c = c

  same_mark : (s : WorkStage) → TellsNone s → Performs s → (d : ℕ) → (d ≡ e.cell → ⊥) → new.memory.cached (Mark d) ≡ old.memory.cached (Mark d)
  same_mark s none m d other = kept s (Mark d) (own_mark s none d other) m

  tells_age : (x : Spread) → Performs (works.Telling x) → (d : ℕ) → age new d ≡ age old d
  tells_age (LoadRow k) m d = ap generation_of (m.1.cached (Mark d))
  tells_age (OrTold k) m d = elim (cases_eq d k) [
    | inl here ↦ (
        let now : new.memory.cached (Mark k) ≡ old.memory.cached (Mark k) / 2 * 2 + 1 = m.1.there ∙ or_dirty (old.memory.cached (Mark k)) in
        let one : age new k ≡ age old k = omega (arith, now) in
        ap (λ x. age new x) here ∙ one ∙ ap (λ x. age old x) (sym here))
    | inr other ↦ ap generation_of (m.1.elsewhere (Mark d) (λ is. other (let one : d ≡ k = cc in one)))
  ]
  tells_age (FlushTold k) m d = ap generation_of (m.1.cached (Mark d))
  tells_age (BackTold k) m d = ap generation_of (m.1.2.cached (Mark d))

  pub same_age : (s : WorkStage) → Performs s → (d : ℕ) → (d ≡ e.cell → ⊥) → age new d ≡ age old d
  same_age (works.Telling x) m d other = tells_age x m d
  same_age s m d other = ap generation_of (same_mark s tt m d other)

  untold : (s : WorkStage) → TellsNone s → Performs s → Untold first old e.cell → Untold first new e.cell
  untold s none m h = λ d other. same_mark s none m d other ∙ h d other

  -- the stores of its entry are what the cell shows
  gives : (s : WorkStage) → ((d : ℕ) → Changes (access_at shape e s) (Value d) → ⊥) → ((d : ℕ) → Changes (access_at shape e s) (Kind d) → ⊥) → Performs s → Gives first old e.cell → Gives first new e.cell
  gives s v k m g = record { entry = g.entry; given = g.given; shows = shown_same old new e.cell (kept s (Value e.cell) (v e.cell) m) (kept s (Kind e.cell) (k e.cell) m) ∙ g.shows }

  clear_gives : (changed : Bool) → Performs (works.Clear changed) → HelpAt old e (works.Clear changed) → IsGiven first e.cell e.entry → Gives first new e.cell
  clear_gives changed m help given = record {
    entry = e.entry;
    given = given;
    shows = ap (λ x. words_of x (new.memory.cached (Kind e.cell))) (kept (works.Clear changed) (Value e.cell) (λ is. cc) m ∙ help.0) ∙ ap (λ x. words_of (value_for e.entry) x) (kept (works.Clear changed) (Kind e.cell) (λ is. cc) m ∙ help.1);
  }

  end_leaves : (end : WorkEnd) → ((d : ℕ) → new.memory.cached (Mark d) ≡ old.memory.cached (Mark d)) → shown_in new e.cell ≡ shown_in old e.cell → EndLeaves first old e.cell end → EndLeaves first new e.cell end
  end_leaves end marks same h = by end h
    where
      still : Gives first old e.cell → Gives first new e.cell
      still g = record { entry = g.entry; given = g.given; shows = same ∙ g.shows }

      by : (x : WorkEnd) → EndLeaves first old e.cell x → EndLeaves first new e.cell x
      by (ends.Published true) k = (still k.0, ap generation_of (marks e.cell) ∙ k.1)
      by (ends.Published false) k = (still k.0, ap generation_of (marks e.cell) ∙ k.1, λ d other. marks d ∙ k.2 d other)
      by ends.Again k = (still k.0, ap generation_of (marks e.cell) ∙ k.1)
      by _ k = tt

  leaves : (s : WorkStage) → e.process < 8 → HelpAt old e s → Performs s → LeavesAt first old e s → LeavesAt first new (next_at e s word) (next_at e s word).stage
  leaves works.LoadMark low help m h = claims_leave first new e word (state_of (mark_of e.processes word)) (untold works.LoadMark tt m h.0) (ap generation_of m.0 ∙ h.1)
  leaves works.Claim low help m h = either first new (word == e.mark) (record e { mark = held_after e.process e.mark; stage = works.FlushClaim }) (at e (works.Answer ends.Missed)) (untold works.Claim tt m h.0, let g = h.1 in omega (arith, g, low)) tt
  leaves works.FlushClaim low help m h = (untold works.FlushClaim tt m h.0, h.1)
  leaves works.BackClaim low help m h = (untold works.BackClaim tt m h.0, h.1)
  leaves works.LoadHead low help m h = head_leaves first new e word (head_of e.processes word) (untold works.LoadHead tt m h.0, h.1)
  leaves works.LoadHeader low help m h = header_leaves first new e (header_in e.edition (header_of e.cells word)) (untold works.LoadHeader tt m h.0, h.1)
  leaves (works.LoadText part) low help m h = text_leaves first new (record e { text = take e.length (e.text ++ bytes_of word) }) (part + 1) (untold (works.LoadText part) tt m h.0, h.1)
  leaves works.Read low help m h = (untold works.Read tt m h.0, h.1)
  leaves (works.LoadValue i) low help m h = (untold (works.LoadValue i) tt m h.0, h.1)
  leaves (works.LoadKind i value) low help m h = input_leaves first new (record e { inputs = with_entry e.inputs i (shown_entry e.cells value word) }) (i + 1) (untold (works.LoadKind i value) tt m h.0, h.1)
  leaves works.LoadOwnValue low help m h = (untold works.LoadOwnValue tt m h.0, h.1)
  leaves works.LoadOwnKind low help m h = (untold works.LoadOwnKind tt m h.0, h.1)
  leaves works.Wait low help m h = (untold works.Wait tt m h.0, h.1)
  leaves works.StoreValue low help m h = (untold works.StoreValue tt m h.0, h.1)
  leaves works.StoreKind low help m h = (untold works.StoreKind tt m h.0, h.1)
  leaves works.FlushValue low help m h = (untold works.FlushValue tt m h.0, h.1)
  leaves works.FlushKind low help m h = (untold works.FlushKind tt m h.0, h.1)
  leaves works.BackValue low help m h = (untold works.BackValue tt m h.0, h.1)
  leaves works.BackKind low help m h = h.1
  leaves (works.Telling (LoadRow part)) low help m h = row_leaves first new (record e { row = e.row ++ word ∷ [] }) (part + 1) h
  leaves (works.Telling (OrTold d)) low help m h = h
  leaves (works.Telling (FlushTold d)) low help m h = h
  leaves (works.Telling (BackTold d)) low help m h = tell_leaves first new e (d + 1) h
  leaves (works.Clear true) low help m h = elim m.1 [
    | inl won ↦ rw (eq-eqb word e.mark won.0) (clear_gives true m help h.1, (let g = h.0 in let now = won.1.there in omega (arith, g, now)))
    | inr lost ↦ rw (ne_eqb word e.mark lost.0) (h.0, clear_gives true m help h.1)
  ]
  leaves (works.Clear false) low help m h = elim m.1 [
    | inl won ↦ rw (eq-eqb word e.mark won.0) (clear_gives false m help h.1.1, (let g = h.1.0 in let now = won.1.there in omega (arith, g, now)), untold (works.Clear false) tt m h.0)
    | inr lost ↦ rw (ne_eqb word e.mark lost.0) (h.1.0, clear_gives false m help h.1.1)
  ]
  leaves works.ClearDirty low help m h = elim m.1 [
    | inl won ↦ (gives works.ClearDirty (λ d is. cc) (λ d is. cc) m h.1, (let g = h.0 in let now = won.1.there in omega (arith, g, now)))
    | inr lost ↦ absurd (lost.0 (m.0 ∙ help))
  ]
  leaves works.Give low help m h = either first new (word == e.mark) (at e (works.FlushCleared ends.NoMemory)) (at e works.GiveDirty) tt tt
  leaves works.GiveDirty low help m h = tt
  leaves (works.FlushCleared end) low help m h = end_leaves end (λ d. m.1.cached (Mark d)) (shown_same old new e.cell (m.1.cached (Value e.cell)) (m.1.cached (Kind e.cell))) h
  leaves (works.BackCleared end) low help m h = end_leaves end (λ d. m.1.2.cached (Mark d)) (shown_same old new e.cell (m.1.2.cached (Value e.cell)) (m.1.2.cached (Kind e.cell))) h
  leaves (works.Answer end) low help m h = end_leaves end (λ d. m.1.cached (Mark d)) (shown_same old new e.cell (m.1.cached (Value e.cell)) (m.1.cached (Kind e.cell))) h

  pub step_leaves : (s : WorkStage) → e.process < 8 → HelpAt old e s → Performs s → LeavesAt first old e s → LeavesAt first new (next_at e s word) (next_at e s word).stage
  step_leaves s low help m h = leaves s low help m h
