-- Work that is alone goes on so.
use Rattle.std.proofs.Common.{ℕ, ◌≡◌, ◌<◌, ◌≤◌, ◌+◌, ◌-◌, ◌*◌, ◌/◌, ◌^◌, ◌==◌, ◌&&◌, List, [], ◌∷◌, ◌++◌, length-append, nat_lt, le-ltb, if◌then◌else◌, refl, ap, sym, ◌∙◌, subst, arith, inl, inr, zero, suc, length, take, Bool, true, false, Some, None}
use Rattle.std.specs.Prelude.{Option, slice_index_or}
use Rattle.std.proofs.lemmas.Bool.{cases_eq, cases_lt, eq-eqb, ltb-false, ne_eqb}
use Rattle.ds_words.proofs.Frames.{cached_kept, Changes}
use Rattle.ds_formula.specs.declared.cells.Shape.{Shape}
use Rattle.ds_eval.specs.declared.inputs.Entry as entries
use Rattle.ds_layout.specs.declared.place.Place.TheVariants.{Mark, Index}
use Rattle.ds_layout.specs.declared.mark.State.{State}
use Rattle.ds_layout.specs.declared.mark.State.TheVariants as state
use Rattle.ds_layout.specs.declared.head.Head.{Head}
use Rattle.ds_layout.specs.declared.header.Header.{Header}
use Rattle.ds_layout.specs.Bits.{HasBit}
use Rattle.ds_layout.specs.Places.{class_of}
use Rattle.ds_layout.specs.Mark.{mark_of, state_of, IsEven, IsClean}
use Rattle.ds_layout.specs.Head.{head_of}
use Rattle.ds_layout.specs.Header.{header_of}
use Rattle.ds_layout.specs.TextWords.{bytes_of}
use Rattle.ds_layout.specs.SheetMemory.{PerformsAt}
use Rattle.ds_state.specs.Works.{PlainWorkCall, TellsFits, StageFits}
use Rattle.ds_state.specs.KnownWork.{WorkFits, WorkKnows, work_known}
use Rattle.ds_state.specs.CallsFit.{CallFits}
use Rattle.ds_state.specs.Sound.{IsSound}
use Rattle.ds_state.specs.declared.situation.Situation.{Situation}
use Rattle.ds_state.specs.declared.situation.Situation.TheVariants.{Working}
use Rattle.ds_state.specs.declared.work.WorkEnd.{WorkEnd}
use Rattle.ds_state.specs.declared.work.WorkEnd.TheVariants as ends
use Rattle.ds_state.specs.Works.{IsWork}
use Rattle.ds_state.specs.declared.turn.Turn.{Turn}
use Rattle.ds_state.specs.declared.turn.Turn.TheVariants as does
use Rattle.ds_work.specs.WorkTakes as events
use Rattle.ds_work.proofs.Next.{next_noted}
use Rattle.ds_state.specs.Standing.{value_for, word_for, shown_entry}
use Rattle.ds_state.specs.Telling.{told_from}
use Rattle.ds_state.specs.World.{PlainWorld}
use Rattle.ds_state.specs.declared.spread.Spread.{Spread}
use Rattle.ds_state.specs.declared.spread.Spread.TheVariants.{LoadRow, OrTold, FlushTold, BackTold}
use Rattle.ds_state.specs.declared.work.WorkStage.{WorkStage}
use Rattle.ds_state.specs.declared.work.WorkStage.TheVariants as works
use Rattle.ds_state.proofs.Dirty.{or_dirty}
use Rattle.ds_state.proofs.Telling.{ToldFits, first_told}
use Rattle.ds_state.specs.Owing.{StandsIn}
use Rattle.ds_eval.specs.Inputs.{with_entry}
use Rattle.ds_work.specs.WorkSteps.{at, access_at, claims_from, head_from, header_from, text_from, input_from, told, tell_from, row_from, next_at, read_from, lacks, offered, after, text_parts, parts_of, StepsAt, Turns}
use Rattle.ds_work.specs.WorkAnswers.{mark_now}
use Rattle.ds_work.specs.WorkAlone.{RefersToItself, IsToldTo, IsTold, IsRow, IsWholeRow, IsAloneAt, IsAlone, EndsAlone, GoesAlone}
use Rattle.ds_work.specs.WorkShows.{CellWords, shown_in, EndsShowing, ShowsAt}
use Rattle.ds_work.proofs.WorkShows.{IsUnmarkedAt, input_shows, offer_shows, shown_kept, shows}
use Rattle.ds_state.specs.Shown.{header_in}

-- ---- rows

pushed : (xs : List ℕ) (row : ℕ → ℕ) (word : ℕ) → ((j : ℕ) → j < length xs → slice_index_or xs j 0 ≡ row j) → word ≡ row (length xs) → (j : ℕ) → j < length (xs ++ word ∷ []) → slice_index_or (xs ++ word ∷ []) j 0 ≡ row j
pushed [] row word h is zero lt = is
pushed [] row word h is (suc j) lt = absurd (omega arith)
pushed (x ∷ xs) row word h is zero lt = h zero (omega arith)
pushed (x ∷ xs) row word h is (suc j) lt = pushed xs (λ k. row (suc k)) word (λ k l. h (suc k) (omega arith)) (is ∙ ap row (let e : length (x ∷ xs) ≡ suc (length xs) = omega arith in e)) j (omega arith)

-- a cell that stands in its own row stands in the row that was loaded
own_stands : (row : ℕ → ℕ) (e : PlainWorkCall) → IsWholeRow row e → e.cell < e.cells → RefersToItself row e → StandsIn e.row e.cell
own_stands row e whole inside own = subst (λ x. HasBit x e.cell) (sym (whole (e.cell / 64) (omega arith))) own

-- ---- branches that keep what it sees

abbrev Here : (ℕ → ℕ) → PlainWorld → PlainWorkCall → Type 0
Here row w e = IsAloneAt row w e e.stage

either : (row : ℕ → ℕ) (w : PlainWorld) (b : Bool) (x y : PlainWorkCall) → Here row w x → Here row w y → Here row w (if b then x else y)
either row w true x y h k = h
either row w false x y h k = k

text_alone : (row : ℕ → ℕ) (w : PlainWorld) (e : PlainWorkCall) (part : ℕ) → mark_now w e ≡ e.mark → Here row w (text_from e part)
text_alone row w e part h = either row w (nat_lt part (text_parts e)) _ _ h h

header_alone : (row : ℕ → ℕ) (w : PlainWorld) (e : PlainWorkCall) (o : Option Header) → mark_now w e ≡ e.mark → Here row w (header_from e o)
header_alone row w e None h = h
header_alone row w e (Some header) h = text_alone row w (record e { length = header.length; text = [] }) 0 h

head_alone : (row : ℕ → ℕ) (w : PlainWorld) (e : PlainWorkCall) (word : ℕ) (o : Option Head) → mark_now w e ≡ e.mark → Here row w (head_from e word o)
head_alone row w e word None h = h
head_alone row w e word (Some head) h = h

input_alone : (row : ℕ → ℕ) (w : PlainWorld) (e : PlainWorkCall) (i : ℕ) → mark_now w e ≡ e.mark → Here row w (input_from e i)
input_alone row w e i h = either row w (nat_lt i (length e.inputs)) _ _ h h

tell_alone : (row : ℕ → ℕ) (w : PlainWorld) (e : PlainWorkCall) (d : ℕ) → IsToldTo row w e d → IsWholeRow row e → e.cell < e.cells → Here row w (tell_from e d)
tell_alone row w e d h whole inside = go (told_from e.row (e.cells - d) d) (first_told e.row (e.cells - d) d) h
  where
    go : (o : Option ℕ) → ToldFits e.row (e.cells - d) d o → IsToldTo row w e d → Here row w (told e o)
    go None none (inl (is, low)) = inl (is, λ own. none e.cell (low own) (let l = low own in omega arith) (own_stands row e whole inside own))
    go None none (inr marked) = inr marked
    go (Some k) first (inl (is, low)) = (inl (is, λ own. first.2 e.cell (low own) (own_stands row e whole inside own)), whole)
    go (Some k) first (inr marked) = (inr marked, whole)

row_alone : (row : ℕ → ℕ) (w : PlainWorld) (e : PlainWorkCall) (part : ℕ) → mark_now w e ≡ e.mark → IsRow row e → length e.row ≡ part → e.cell < e.cells → Here row w (row_from e part)
row_alone row w e part is loaded size inside = go (nat_lt part (parts_of e)) refl
  where
    go : (b : Bool) → nat_lt part (parts_of e) ≡ b → Here row w (if b then at e (works.Telling (LoadRow part)) else tell_from e 0)
    go true more = (is, loaded)
    go false last = tell_alone row w e 0 (inl (is, λ own. omega arith)) (λ k l. loaded k (let none = ltb-false part ((e.cells + 63) / 64) last in omega arith)) inside

claims_alone : (row : ℕ → ℕ) (w : PlainWorld) (e : PlainWorkCall) (word : ℕ) (s : State) → s ≡ state.Marked → word / 32 ≤ 2 ^ 58 → mark_now w e ≡ word → Here row w (claims_from e word s)
claims_alone row w e word state.Marked is young h = rw (not_worn (word / 32) young) h
  where
    not_worn : (n : ℕ) → n ≤ 2 ^ 58 → nat_lt (2 ^ 58) n ≡ false
    not_worn n le = elim (cases_lt (2 ^ 58) n) [ inl lt ↦ absurd (omega arith) | inr ge ↦ le-ltb (2 ^ 58) n ge ]
claims_alone row w e word state.Clean is young h = absurd (cc)
claims_alone row w e word (state.Held p) is young h = absurd (cc)

-- ---- a step

-- where it marks cells, the mark that it noted is even
abbrev EvenAt : PlainWorkCall → WorkStage → Type 0
EvenAt e (works.Telling spread) = IsEven e.mark
EvenAt e _ = Unit {0}

end_alone : (row : ℕ → ℕ) (old new : PlainWorld) (e : PlainWorkCall) (end : WorkEnd) → mark_now new e ≡ mark_now old e → EndsAlone row old e end → EndsAlone row new e end
end_alone row old new e ends.NotDirty same h = h
end_alone row old new e ends.Missed same h = h
end_alone row old new e ends.Worn same h = h
end_alone row old new e (ends.Published true) same h = (subst IsClean (sym same) h.0, h.1)
end_alone row old new e (ends.Published false) same h = subst IsClean (sym same) h
end_alone row old new e ends.Again same h = h
end_alone row old new e ends.NoMemory same h = h

-- what it has marked stays marked, where its own mark stays
told_stays : (row : ℕ → ℕ) (old new : PlainWorld) (e : PlainWorkCall) (d : ℕ) → mark_now new e ≡ mark_now old e → IsToldTo row old e d → IsToldTo row new e d
told_stays row old new e d same (inl (is, low)) = inl (same ∙ is, low)
told_stays row old new e d same (inr (is, own)) = inr (same ∙ is, own)

module _ (row : ℕ → ℕ) (shape : Shape) (e : PlainWorkCall) (word : ℕ) (old new : PlainWorld) where
  abbrev Performs : WorkStage → Type 0
  Performs s = PerformsAt (access_at shape e s) e.process old.memory new.memory word

  same_mark : (s : WorkStage) → Performs s → (Changes (access_at shape e s) (Mark e.cell) → ⊥) → mark_now new e ≡ mark_now old e
  same_mark s m never = cached_kept class_of old.memory new.memory (access_at shape e s) e.process word (Mark e.cell) never m

  -- a cell is marked
  ors_alone : (d : ℕ) → IsEven e.mark → TellsFits e (works.Telling (OrTold d)) → d < e.cells → Performs (works.Telling (OrTold d)) → IsToldTo row old e d → IsWholeRow row e → IsToldTo row new e (d + 1)
  ors_alone d even tells low m h whole = elim (cases_eq d e.cell) [
    | inr other ↦ passes other (m.1.elsewhere (Mark e.cell) (λ is. other (let same : e.cell ≡ d = cc in sym same))) h
    | inl here ↦ (
        let bit : RefersToItself row e = subst (λ x. HasBit (row (x / 64)) x) here (subst (λ x. HasBit x d) (whole (d / 64) (omega arith)) tells.1) in
        let now : mark_now new e ≡ mark_now old e / 2 * 2 + 1 = ap (λ x. new.memory.cached (Mark x)) (sym here) ∙ m.1.there ∙ or_dirty (old.memory.cached (Mark d)) ∙ ap (λ x. old.memory.cached (Mark x) / 2 * 2 + 1) here in
        inr (marked now h, bit))
  ]
    where
      passes : (d ≡ e.cell → ⊥) → mark_now new e ≡ mark_now old e → IsToldTo row old e d → IsToldTo row new e (d + 1)
      passes other same (inl (is, from)) = inl (same ∙ is, λ own. let l = from own in omega (arith, other, l))
      passes other same (inr (is, own)) = inr (same ∙ is, own)

      marked : mark_now new e ≡ mark_now old e / 2 * 2 + 1 → IsToldTo row old e d → mark_now new e ≡ e.mark + 1
      marked now (inl (is, from)) = omega arith
      marked now (inr (is, own)) = omega arith

  spread_alone : (s : Spread) → IsEven e.mark → e.cell < e.cells → TellsFits e (works.Telling s) → StageFits e (works.Telling s) → ((part : ℕ) → old.memory.cached (Index e.cell part) ≡ row part) → Performs (works.Telling s) → IsAloneAt row old e (works.Telling s)
      → Here row new (next_at e (works.Telling s) word)
  spread_alone (LoadRow part) even inside tells fits index m h =
      row_alone row new (record e { row = e.row ++ word ∷ [] }) (part + 1) (m.1.cached (Mark e.cell) ∙ h.0) (pushed e.row row word h.1 (m.0 ∙ index part ∙ ap row (sym fits.0))) (let size = fits.0 in omega (arith, length-append e.row (word ∷ []))) inside
  spread_alone (OrTold d) even inside tells fits index m h = (ors_alone d even tells fits m h.0 h.1, h.1)
  spread_alone (FlushTold d) even inside tells fits index m h = (told_stays row old new e (d + 1) (m.1.cached (Mark e.cell)) h.0, h.1)
  spread_alone (BackTold d) even inside tells fits index m h = tell_alone row new e (d + 1) (told_stays row old new e (d + 1) (m.1.2.cached (Mark e.cell)) h.0) h.1 inside

  pub alone : (s : WorkStage) → EvenAt e s → e.cell < e.cells → TellsFits e s → StageFits e s → ((part : ℕ) → old.memory.cached (Index e.cell part) ≡ row part) → Performs s → IsAloneAt row old e s → Here row new (next_at e s word)
  alone works.LoadMark even inside tells fits index m h =
      let seen = m.0 in
      claims_alone row new e word (state_of (mark_of e.processes word)) (ap (λ x. state_of (mark_of e.processes x)) seen ∙ h.marked) (subst (λ x. x / 32 ≤ 2 ^ 58) (sym seen) h.young) (m.1.cached (Mark e.cell) ∙ sym seen)
  alone works.Claim even inside tells fits index m h = elim m.1 [
    | inl won ↦ rw (eq-eqb word e.mark won.0) won.1.there
    | inr lost ↦ absurd (lost.0 (m.0 ∙ h))
  ]
  alone works.FlushClaim even inside tells fits index m h = same_mark works.FlushClaim m (λ c. c) ∙ h
  alone works.BackClaim even inside tells fits index m h = same_mark works.BackClaim m (λ c. c) ∙ h
  alone works.LoadHead even inside tells fits index m h = head_alone row new e word (head_of e.processes word) (same_mark works.LoadHead m (λ c. c) ∙ h)
  alone works.LoadHeader even inside tells fits index m h = header_alone row new e (header_in e.edition (header_of e.cells word)) (same_mark works.LoadHeader m (λ c. c) ∙ h)
  alone (works.LoadText part) even inside tells fits index m h = text_alone row new (record e { text = take e.length (e.text ++ bytes_of word) }) (part + 1) (same_mark (works.LoadText part) m (λ c. c) ∙ h)
  alone works.Read even inside tells fits index m h = same_mark works.Read m (λ c. c) ∙ h
  alone (works.LoadValue i) even inside tells fits index m h = same_mark (works.LoadValue i) m (λ c. c) ∙ h
  alone (works.LoadKind i value) even inside tells fits index m h = input_alone row new (record e { inputs = with_entry e.inputs i (shown_entry e.cells value word) }) (i + 1) (same_mark (works.LoadKind i value) m (λ c. c) ∙ h)
  alone works.LoadOwnValue even inside tells fits index m h = same_mark works.LoadOwnValue m (λ c. c) ∙ h
  alone works.LoadOwnKind even inside tells fits index m h = same_mark works.LoadOwnKind m (λ c. c) ∙ h
  alone works.Wait even inside tells fits index m h = same_mark works.Wait m (λ c. c) ∙ h
  alone works.StoreValue even inside tells fits index m h = same_mark works.StoreValue m (λ c. cc) ∙ h
  alone works.StoreKind even inside tells fits index m h = same_mark works.StoreKind m (λ c. cc) ∙ h
  alone works.FlushValue even inside tells fits index m h = same_mark works.FlushValue m (λ c. c) ∙ h
  alone works.FlushKind even inside tells fits index m h = same_mark works.FlushKind m (λ c. c) ∙ h
  alone works.BackValue even inside tells fits index m h = same_mark works.BackValue m (λ c. c) ∙ h
  alone works.BackKind even inside tells fits index m h = (same_mark works.BackKind m (λ c. c) ∙ h, λ part lt. absurd (omega arith))
  alone (works.Telling spread) even inside tells fits index m h = spread_alone spread even inside tells fits index m h
  alone (works.Clear true) even inside tells fits index m h = elim m.1 [
    | inl won ↦ rw (eq-eqb word e.mark won.0) (let now = won.1.there in cleared won.0 (omega arith) h)
    | inr lost ↦ rw (ne_eqb word e.mark lost.0) (dirtied lost.0 h)
  ]
    where
      cleared : word ≡ e.mark → IsClean (mark_now new e) → IsTold row old e → EndsAlone row new e (ends.Published true)
      cleared same clean (inl (is, not)) = (clean, not)
      cleared same clean (inr (is, own)) = absurd (let bad : e.mark ≡ e.mark + 1 = sym same ∙ m.0 ∙ is in omega arith)

      dirtied : (word ≡ e.mark → ⊥) → IsTold row old e → RefersToItself row e
      dirtied not (inl (is, none)) = absurd (not (m.0 ∙ is))
      dirtied not (inr (is, own)) = own
  alone (works.Clear false) even inside tells fits index m h = elim m.1 [
    | inl won ↦ rw (eq-eqb word e.mark won.0) (let now = won.1.there in omega arith)
    | inr lost ↦ absurd (lost.0 (m.0 ∙ h))
  ]
  alone works.ClearDirty even inside tells fits index m h = h
  alone works.Give even inside tells fits index m h = rw (eq-eqb word e.mark (m.0 ∙ h)) tt
  alone works.GiveDirty even inside tells fits index m h = absurd h
  alone (works.FlushCleared end) even inside tells fits index m h = end_alone row old new e end (same_mark (works.FlushCleared end) m (λ c. c)) h
  alone (works.BackCleared end) even inside tells fits index m h = end_alone row old new e end (same_mark (works.BackCleared end) m (λ c. c)) h
  alone (works.Answer end) even inside tells fits index m h = end_alone row old new e end (same_mark (works.Answer end) m (λ c. c)) h

  -- no step of work touches the index
  pub same_index : (s : WorkStage) (part : ℕ) → Performs s → new.memory.cached (Index e.cell part) ≡ old.memory.cached (Index e.cell part)
  same_index s part m = cached_kept class_of old.memory new.memory (access_at shape e s) e.process word (Index e.cell part) (never s) m
    where
      spread_never : (x : Spread) → Changes (access_at shape e (works.Telling x)) (Index e.cell part) → ⊥
      spread_never (LoadRow k) c = c
      spread_never (OrTold d) c = cc
      spread_never (FlushTold d) c = c
      spread_never (BackTold d) c = c

      never : (s : WorkStage) → Changes (access_at shape e s) (Index e.cell part) → ⊥
      never works.Claim c = cc
      never works.StoreValue c = cc
      never works.StoreKind c = cc
      never (works.Clear changed) c = cc
      never works.ClearDirty c = cc
      never works.Give c = cc
      never works.GiveDirty c = cc
      never (works.Telling x) c = spread_never x c
      never _ c = c

-- ---- a turn

even_at : (w : PlainWorld) (p : ℕ) (e : PlainWorkCall) → WorkFits w p e → EvenAt e e.stage
even_at w p e fits = by e.stage fits.knows
  where
    by : (s : WorkStage) → WorkKnows w e (work_known (length e.inputs) s) → EvenAt e s
    by (works.Telling spread) knows = knows.hold.claim.even
    by _ knows = tt

-- after a step that is no answer the process is in the next work
pub after_on : (e : PlainWorkCall) (s : WorkStage) (word : ℕ) → ((end : WorkEnd) → s ≡ works.Answer end → ⊥) → after e s word ≡ Working (next_at e s word)
after_on e (works.Answer end) word not = absurd (not end refl)
after_on e _ word not = refl

if_field : {A : Type 0} (b : Bool) (x y : PlainWorkCall) (field : PlainWorkCall → A) (v : A) → field x ≡ v → field y ≡ v → field (if b then x else y) ≡ v
if_field true x y field v h k = h
if_field false x y field v h k = k

-- where the mark alone says how it ends, work that is alone sees it
unmarked : (row : ℕ → ℕ) (w : PlainWorld) (e : PlainWorkCall) (s : WorkStage) → IsAloneAt row w e s → IsUnmarkedAt w e s
unmarked row w e (works.Clear true) h = tt
unmarked row w e (works.Clear false) h = h
unmarked row w e _ h = tt

module _ (row : ℕ → ℕ) (before : CellWords) (e : PlainWorkCall) (old new : PlainWorld) (h : IsAlone row before old e) where
  -- where no word is touched
  by_turn : (f : PlainWorkCall) → Turns e f old new → f.cell ≡ e.cell → f.process ≡ e.process → (mark_now new f ≡ f.mark → IsAloneAt row new f f.stage) → mark_now old e ≡ e.mark → f.mark ≡ e.mark → ShowsAt before (shown_in old e.cell) f f.stage
      → GoesAlone row before e new does.GoesOn
  by_turn f t cell process so was mark showing = (
    f,
    cell,
    process,
    t.situation,
    record {
      at = so (ap (λ c. new.memory.cached (Mark c)) cell ∙ t.memory.cached (Mark e.cell) ∙ was ∙ sym mark);
      shows = subst (λ x. ShowsAt before x f f.stage) (sym (ap (λ c. shown_in new c) cell ∙ shown_kept old new e.cell t.memory)) showing;
      index = λ part. ap (λ c. new.memory.cached (Index c part)) cell ∙ t.memory.cached (Index e.cell part) ∙ h.index part;
    },
  )

  seen_at : (s : WorkStage) → e.stage ≡ s → IsAloneAt row old e s
  seen_at s same = subst (λ (x : WorkStage). IsAloneAt row old e x) same h.at

  shows_at : (s : WorkStage) → e.stage ≡ s → ShowsAt before (shown_in old e.cell) e s
  shows_at s same = subst (λ (x : WorkStage). ShowsAt before (shown_in old e.cell) e x) same h.shows

  pub offer_alone : (entry : entries.Entry) → e.stage ≡ works.Wait → Turns e (offered e entry) old new → GoesAlone row before e new does.GoesOn
  offer_alone entry waits t = by_turn (offered e entry) t refl refl (λ was. stored ((e.value == value_for entry) && (e.kind == word_for entry)) was) (seen_at works.Wait waits) refl
      (offer_shows before (shown_in old e.cell) e entry (shows_at works.Wait waits))
    where
      stored : (b : Bool) → mark_now new e ≡ e.mark → IsAloneAt row new (offered e entry) (if b then works.Clear false else works.StoreValue)
      stored true was = was
      stored false was = was

module _ (row : ℕ → ℕ) (before : CellWords) (e : PlainWorkCall) (old new : PlainWorld) (sound : IsSound old) (low : e.process < old.layout.processes) (here : old.situation e.process ≡ Working e) (is : IsWork e) (h : IsAlone row before old e) where
  fits : WorkFits old e.process e
  fits = subst (λ (x : Situation). CallFits old e.process x) here (sound.calls e.process low)

  pub turn_alone : (what : Turn WorkEnd) → events.TakesTurn e old new what → GoesAlone row before e new what
  turn_alone what (events.steps word t on) =
      let cell : (next_at e e.stage word).cell ≡ e.cell = ap (λ (f : PlainWorkCall). f.cell) (next_noted e word e.stage) in (
        next_at e e.stage word,
        cell,
        ap (λ (f : PlainWorkCall). f.process) (next_noted e word e.stage),
        t.situation ∙ after_on e e.stage word on,
        record {
          at = alone row old.layout.shape e word old new e.stage (even_at old e.process e fits) is.cell is.told is.stage h.index t.memory h.at;
          shows = subst (λ c. ShowsAt before (shown_in new c) (next_at e e.stage word) (next_at e e.stage word).stage) (sym cell) (shows before old.layout.shape e word old new e.stage (unmarked row old e e.stage h.at) is.told t.memory h.shows);
          index = λ part. ap (λ c. new.memory.cached (Index c part)) cell ∙ same_index row old.layout.shape e word old new e.stage part t.memory ∙ h.index part;
        },
      )
  turn_alone what (events.reads content inputs at t) =
      let b : Bool = nat_lt 0 (length inputs) in
      let cell : (read_from e content inputs).cell ≡ e.cell = if_field b (Rattle.ds_work.specs.WorkSteps.at (record e { content = content; inputs = inputs }) (works.LoadValue 0)) (Rattle.ds_work.specs.WorkSteps.at (record e { content = content; inputs = inputs }) works.LoadOwnValue) (λ f. f.cell) e.cell refl refl in
      let process : (read_from e content inputs).process ≡ e.process = if_field b (Rattle.ds_work.specs.WorkSteps.at (record e { content = content; inputs = inputs }) (works.LoadValue 0)) (Rattle.ds_work.specs.WorkSteps.at (record e { content = content; inputs = inputs }) works.LoadOwnValue) (λ f. f.process) e.process refl refl in
      let mark : (read_from e content inputs).mark ≡ e.mark = if_field b (Rattle.ds_work.specs.WorkSteps.at (record e { content = content; inputs = inputs }) (works.LoadValue 0)) (Rattle.ds_work.specs.WorkSteps.at (record e { content = content; inputs = inputs }) works.LoadOwnValue) (λ f. f.mark) e.mark refl refl in
      by_turn row before e old new h (read_from e content inputs) t.turn cell process
      (λ was. input_alone row new (record e { content = content; inputs = inputs }) 0 (ap (λ c. new.memory.cached (Mark c)) (sym cell) ∙ was ∙ mark)) (seen_at row before e old new h works.Read at) mark
      (input_shows before (shown_in old e.cell) (record e { content = content; inputs = inputs }) 0 (shows_at row before e old new h works.Read at))
  turn_alone what (events.lacked at t) = by_turn row before e old new h (lacks e) t refl refl (λ was. was) (seen_at row before e old new h works.Read at) refl (shows_at row before e old new h works.Read at)
  turn_alone what (events.answers end at t) = (
    t.situation,
    end_alone row old new e end (t.memory.1.cached (Mark e.cell)) (seen_at row before e old new h (works.Answer end) at),
    subst (λ x. EndsShowing before x end) (sym (shown_kept old new e.cell t.memory.1)) (shows_at row before e old new h (works.Answer end) at),
  )

-- ---- an eviction

module _ (row : ℕ → ℕ) (old new : PlainWorld) (e : PlainWorkCall) (same : mark_now new e ≡ mark_now old e) where
  all_same : IsTold row old e → IsTold row new e
  all_same (inl (is, none)) = inl (same ∙ is, none)
  all_same (inr (is, own)) = inr (same ∙ is, own)

  tells : (s : Spread) → IsAloneAt row old e (works.Telling s) → IsAloneAt row new e (works.Telling s)
  tells (LoadRow part) h = (same ∙ h.0, h.1)
  tells (OrTold d) h = (told_stays row old new e d same h.0, h.1)
  tells (FlushTold d) h = (told_stays row old new e (d + 1) same h.0, h.1)
  tells (BackTold d) h = (told_stays row old new e (d + 1) same h.0, h.1)

  sees : (s : WorkStage) → IsAloneAt row old e s → IsAloneAt row new e s
  sees works.LoadMark h = record { marked = ap (λ x. state_of (mark_of e.processes x)) same ∙ h.marked; young = subst (λ x. x / 32 ≤ 2 ^ 58) (sym same) h.young }
  sees works.Claim h = same ∙ h
  sees works.FlushClaim h = same ∙ h
  sees works.BackClaim h = same ∙ h
  sees works.LoadHead h = same ∙ h
  sees works.LoadHeader h = same ∙ h
  sees (works.LoadText part) h = same ∙ h
  sees works.Read h = same ∙ h
  sees (works.LoadValue i) h = same ∙ h
  sees (works.LoadKind i value) h = same ∙ h
  sees works.LoadOwnValue h = same ∙ h
  sees works.LoadOwnKind h = same ∙ h
  sees works.Wait h = same ∙ h
  sees works.StoreValue h = same ∙ h
  sees works.StoreKind h = same ∙ h
  sees works.FlushValue h = same ∙ h
  sees works.FlushKind h = same ∙ h
  sees works.BackValue h = same ∙ h
  sees works.BackKind h = same ∙ h
  sees (works.Telling spread) h = tells spread h
  sees (works.Clear true) h = all_same h
  sees (works.Clear false) h = same ∙ h
  sees works.ClearDirty h = h
  sees works.Give h = same ∙ h
  sees works.GiveDirty h = h
  sees (works.FlushCleared end) h = end_alone row old new e end same h
  sees (works.BackCleared end) h = end_alone row old new e end same h
  sees (works.Answer end) h = end_alone row old new e end same h

  pub same_sees : (before : CellWords) → ((part : ℕ) → new.memory.cached (Index e.cell part) ≡ old.memory.cached (Index e.cell part)) → shown_in new e.cell ≡ shown_in old e.cell → IsAlone row before old e → IsAlone row before new e
  same_sees before index shown h = record {
    at = sees e.stage h.at;
    shows = subst (λ x. ShowsAt before x e e.stage) (sym shown) h.shows;
    index = λ part. index part ∙ h.index part;
  }
