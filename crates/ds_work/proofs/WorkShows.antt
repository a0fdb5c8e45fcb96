-- Work that is alone: what its cell shows.
use Rattle.std.proofs.Common.{ℕ, ◌≡◌, ◌≢◌, ◌+◌, ◌-◌, ◌==◌, ◌&&◌, [], ◌∷◌, ◌++◌, nat_lt, if◌then◌else◌, ap, sym, ◌∙◌, subst, length, take, Bool, true, false, Some, None}
use Rattle.std.specs.Prelude.{Option}
use Rattle.std.proofs.lemmas.Bool.{eq-eqb}
use Rattle.ds_words.specs.Memory.{SameMemory}
use Rattle.ds_words.proofs.Frames.{cached_kept, Changes}
use Rattle.ds_formula.specs.declared.cells.Shape.{Shape}
use Rattle.ds_eval.specs.declared.inputs.Entry as entries
use Rattle.ds_eval.specs.Inputs.{with_entry}
use Rattle.ds_layout.specs.declared.place.Place.{Place}
use Rattle.ds_layout.specs.declared.place.Place.TheVariants.{Mark, Value, Kind}
use Rattle.ds_layout.specs.declared.mark.State.{State}
use Rattle.ds_layout.specs.declared.mark.State.TheVariants as state
use Rattle.ds_layout.specs.declared.head.Head.{Head}
use Rattle.ds_layout.specs.declared.header.Header.{Header}
use Rattle.ds_layout.specs.Places.{class_of}
use Rattle.ds_layout.specs.Mark.{mark_of, state_of, generation_of}
use Rattle.ds_layout.specs.Head.{head_of}
use Rattle.ds_layout.specs.Header.{header_of}
use Rattle.ds_layout.specs.TextWords.{bytes_of}
use Rattle.ds_layout.specs.SheetMemory.{PerformsAt}
use Rattle.ds_state.specs.Works.{PlainWorkCall, TellsFits, Differs, SEEN_MOST}
use Rattle.ds_state.specs.Standing.{value_for, word_for, shown_entry}
use Rattle.ds_state.specs.Telling.{told_from}
use Rattle.ds_state.specs.World.{PlainWorld}
use Rattle.ds_state.specs.declared.spread.Spread.{Spread}
use Rattle.ds_state.specs.declared.spread.Spread.TheVariants.{LoadRow, OrTold, FlushTold, BackTold}
use Rattle.ds_state.specs.declared.work.WorkStage.{WorkStage}
use Rattle.ds_state.specs.declared.work.WorkStage.TheVariants as works
use Rattle.ds_work.specs.WorkSteps.{access_at, claims_from, head_from, header_from, text_from, input_from, told, tell_from, row_from, spread_next, next_at, offered, text_parts, parts_of}
use Rattle.ds_work.specs.WorkAnswers.{mark_now}
use Rattle.ds_work.specs.WorkShows.{CellWords, shown_in, noted_by, words_for, HasNoted, ShowsAt}
use Rattle.ds_state.specs.Shown.{header_in}

-- ---- words of a cell

-- the words of a cell
abbrev words_of : ℕ → ℕ → CellWords
words_of v k = record { value = v; kind = k }

both : (v k v' k' : ℕ) → v ≡ v' → k ≡ k' → words_of v k ≡ words_of v' k'
both v k v' k' a b = ap (λ (x : ℕ). words_of x k) a ∙ ap (λ (x : ℕ). words_of v' x) b

-- a cell shows the same where the cached sides of its value and its kind stay
pub shown_same : (old new : PlainWorld) (cell : ℕ) → new.memory.cached (Value cell) ≡ old.memory.cached (Value cell) → new.memory.cached (Kind cell) ≡ old.memory.cached (Kind cell) → shown_in new cell ≡ shown_in old cell
shown_same old new cell value kind = both _ _ _ _ value kind

-- a cell shows the same where no word changes
pub shown_kept : (old new : PlainWorld) (cell : ℕ) → SameMemory old.memory new.memory → shown_in new cell ≡ shown_in old cell
shown_kept old new cell same = shown_same old new cell (same.cached (Value cell)) (same.cached (Kind cell))

-- where the words that were stored are not those that were noted, the cell shows others than before
differ : (before now : CellWords) (e : PlainWorkCall) → Differs e → HasNoted before e now (words_for e.entry) → now ≢ before
differ before now e other (noted, stored) = λ same.
    let one : noted_by e ≡ words_for e.entry = noted ∙ sym same ∙ stored in
    other (ap (λ (c : CellWords). c.value) one, ap (λ (c : CellWords). c.kind) one)

-- ---- branches that keep what it shows

module _ (before now : CellWords) where
  abbrev pub Shows : PlainWorkCall → Type 0
  Shows e = ShowsAt before now e e.stage

  either : (b : Bool) (x y : PlainWorkCall) → Shows x → Shows y → Shows (if b then x else y)
  either true x y h k = h
  either false x y h k = k

  claims_show : (e : PlainWorkCall) (word : ℕ) (s : State) → now ≡ before → Shows (claims_from e word s)
  claims_show e word state.Clean h = h
  claims_show e word (state.Held p) h = h
  claims_show e word state.Marked h = either (nat_lt SEEN_MOST (generation_of word)) _ _ h h

  text_shows : (e : PlainWorkCall) (part : ℕ) → now ≡ before → Shows (text_from e part)
  text_shows e part h = either (nat_lt part (text_parts e)) _ _ h h

  header_shows : (e : PlainWorkCall) (o : Option Header) → now ≡ before → Shows (header_from e o)
  header_shows e None h = h
  header_shows e (Some header) h = text_shows (record e { length = header.length; text = [] }) 0 h

  head_shows : (e : PlainWorkCall) (word : ℕ) (o : Option Head) → now ≡ before → Shows (head_from e word o)
  head_shows e word None h = h
  head_shows e word (Some head) h = h

  pub input_shows : (e : PlainWorkCall) (i : ℕ) → now ≡ before → Shows (input_from e i)
  input_shows e i h = either (nat_lt i (length e.inputs)) _ _ h h

  told_shows : (e : PlainWorkCall) (o : Option ℕ) → HasNoted before e now (words_for e.entry) → Shows (told e o)
  told_shows e None h = h
  told_shows e (Some d) h = h

  tell_shows : (e : PlainWorkCall) (d : ℕ) → HasNoted before e now (words_for e.entry) → Shows (tell_from e d)
  tell_shows e d h = told_shows e (told_from e.row (e.cells - d) d) h

  row_shows : (e : PlainWorkCall) (part : ℕ) → HasNoted before e now (words_for e.entry) → Shows (row_from e part)
  row_shows e part h = either (nat_lt part (parts_of e)) _ _ h (tell_shows e 0 h)

  spread_shows : (e : PlainWorkCall) (s : Spread) (word : ℕ) → HasNoted before e now (words_for e.entry) → Shows (spread_next e s word)
  spread_shows e (LoadRow part) word h = row_shows (record e { row = e.row ++ word ∷ [] }) (part + 1) h
  spread_shows e (OrTold d) word h = h
  spread_shows e (FlushTold d) word h = h
  spread_shows e (BackTold d) word h = tell_shows e (d + 1) h

  pub offer_shows : (e : PlainWorkCall) (entry : entries.Entry) → HasNoted before e now before → Shows (offered e entry)
  offer_shows e entry h = stored ((e.value == value_for entry) && (e.kind == word_for entry))
    where
      stored : (b : Bool) → ShowsAt before now (offered e entry) (if b then works.Clear false else works.StoreValue)
      stored true = h.1
      stored false = h

-- ---- a step

-- a stage that does not store a word of the cell
abbrev IsNoStore : WorkStage → Type 0
IsNoStore works.StoreValue = ⊥
IsNoStore works.StoreKind = ⊥
IsNoStore _ = Unit {0}

-- where the mark alone says how it ends, it is the one that was noted
abbrev pub IsUnmarkedAt : PlainWorld → PlainWorkCall → WorkStage → Type 0
IsUnmarkedAt w e (works.Clear false) = mark_now w e ≡ e.mark
IsUnmarkedAt w e _ = Unit {0}

module _ (before : CellWords) (shape : Shape) (e : PlainWorkCall) (word : ℕ) (old new : PlainWorld) where
  abbrev Performs : WorkStage → Type 0
  Performs s = PerformsAt (access_at shape e s) e.process old.memory new.memory word

  same : (s : WorkStage) → IsNoStore s → Performs s → shown_in new e.cell ≡ shown_in old e.cell
  same s none m = shown_same old new e.cell (kept (Value e.cell) (value s none)) (kept (Kind e.cell) (kind s none))
    where
      kept : (r : Place) → (Changes (access_at shape e s) r → ⊥) → new.memory.cached r ≡ old.memory.cached r
      kept r never = cached_kept class_of old.memory new.memory (access_at shape e s) e.process word r never m

      tells : (x : Spread) (r : Place) → ((d : ℕ) → r ≡ Mark d → ⊥) → Changes (access_at shape e (works.Telling x)) r → ⊥
      tells (LoadRow k) r not c = c
      tells (OrTold d) r not c = not d c
      tells (FlushTold d) r not c = c
      tells (BackTold d) r not c = c

      never : (s : WorkStage) (r : Place) → IsNoStore s → ((d : ℕ) → r ≡ Mark d → ⊥) → Changes (access_at shape e s) r → ⊥
      never works.StoreValue r none not c = none
      never works.StoreKind r none not c = none
      never works.Claim r none not c = not e.cell c
      never (works.Clear changed) r none not c = not e.cell c
      never works.ClearDirty r none not c = not e.cell c
      never works.Give r none not c = not e.cell c
      never works.GiveDirty r none not c = not e.cell c
      never (works.Telling x) r none not c = tells x r not c
      never _ r none not c = c

      value : (s : WorkStage) → IsNoStore s → Changes (access_at shape e s) (Value e.cell) → ⊥
      value s none c = never s (Value e.cell) none (λ d is. cc) c

      kind : (s : WorkStage) → IsNoStore s → Changes (access_at shape e s) (Kind e.cell) → ⊥
      kind s none c = never s (Kind e.cell) none (λ d is. cc) c

  -- what it shows at the next stage, where the access left the cell's words
  goes : (s : WorkStage) → IsNoStore s → IsUnmarkedAt old e s → TellsFits e s → Performs s → ShowsAt before (shown_in new e.cell) e s → Shows before (shown_in new e.cell) (next_at e s word)
  goes works.LoadMark none mark tells m h = claims_show before _ e word (state_of (mark_of e.processes word)) h
  goes works.Claim none mark tells m h = either before _ (word == e.mark) _ _ h h
  goes works.FlushClaim none mark tells m h = h
  goes works.BackClaim none mark tells m h = h
  goes works.LoadHead none mark tells m h = head_shows before _ e word (head_of e.processes word) h
  goes works.LoadHeader none mark tells m h = header_shows before _ e (header_in e.edition (header_of e.cells word)) h
  goes (works.LoadText part) none mark tells m h = text_shows before _ (record e { text = take e.length (e.text ++ bytes_of word) }) (part + 1) h
  goes works.Read none mark tells m h = h
  goes (works.LoadValue i) none mark tells m h = h
  goes (works.LoadKind i value) none mark tells m h = input_shows before _ (record e { inputs = with_entry e.inputs i (shown_entry e.cells value word) }) (i + 1) h
  goes works.LoadOwnValue none mark tells m h = (h, m.0 ∙ sym (m.1.cached (Value e.cell)) ∙ ap (λ (c : CellWords). c.value) h)
  goes works.LoadOwnKind none mark tells m h = (both _ _ _ _ h.1 (m.0 ∙ sym (m.1.cached (Kind e.cell)) ∙ ap (λ (c : CellWords). c.kind) h.0), h.0)
  goes works.Wait none mark tells m h = h
  goes works.StoreValue none mark tells m h = absurd none
  goes works.StoreKind none mark tells m h = absurd none
  goes works.FlushValue none mark tells m h = h
  goes works.FlushKind none mark tells m h = h
  goes works.BackValue none mark tells m h = h
  goes works.BackKind none mark tells m h = h
  goes (works.Telling spread) none mark tells m h = spread_shows before _ e spread word h
  goes (works.Clear true) none mark tells m h = let other = differ before _ e tells h in either before _ (word == e.mark) _ _ other other
  goes (works.Clear false) none mark tells m h = rw (eq-eqb word e.mark (m.0 ∙ mark)) h
  goes works.ClearDirty none mark tells m h = h
  goes works.Give none mark tells m h = either before _ (word == e.mark) _ _ h h
  goes works.GiveDirty none mark tells m h = h
  goes (works.FlushCleared end) none mark tells m h = h
  goes (works.BackCleared end) none mark tells m h = h
  goes (works.Answer end) none mark tells m h = h

  pub shows : (s : WorkStage) → IsUnmarkedAt old e s → TellsFits e s → Performs s → ShowsAt before (shown_in old e.cell) e s → Shows before (shown_in new e.cell) (next_at e s word)
  shows works.StoreValue mark tells m h = (h.0, both _ _ _ _ m.1.there (m.1.elsewhere (Kind e.cell) (λ is. cc) ∙ ap (λ (c : CellWords). c.kind) h.1))
  shows works.StoreKind mark tells m h = (h.0, both _ _ _ _ (m.1.elsewhere (Value e.cell) (λ is. cc) ∙ ap (λ (c : CellWords). c.value) h.1) m.1.there)
  shows s mark tells m h = goes s tt mark tells m (subst (λ x. ShowsAt before x e s) (sym (same s tt m)) h)
