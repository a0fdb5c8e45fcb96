-- Each answer of work is true by the step that decides it.
use Rattle.std.proofs.Common.{ℕ, ◌≡◌, ◌<◌, ◌+◌, ◌-◌, ◌/◌, ◌^◌, ◌==◌, Bool, true, false, if◌then◌else◌, nat_lt, [], ◌∷◌, ◌++◌, take, Option, Some, None, refl, ap, sym, ◌∙◌, subst, arith, length, inl, inr}
use Rattle.std.proofs.lemmas.Bool.{ltb-true, ne_eqb}
use Rattle.std.proofs.lemmas.Bool.Decides.{nat_tests}
use Rattle.ds_eval.specs.Inputs.{with_entry}
use Rattle.ds_layout.specs.declared.head.Head.{Head}
use Rattle.ds_layout.specs.declared.header.Header.{Header}
use Rattle.ds_layout.specs.declared.mark.State.{State}
use Rattle.ds_layout.specs.declared.mark.State.TheVariants.{Clean, Marked, Held}
use Rattle.ds_layout.specs.declared.place.Place.TheVariants.{Value, Kind}
use Rattle.ds_layout.specs.Head.{head_of}
use Rattle.ds_layout.specs.Header.{header_of}
use Rattle.ds_layout.specs.Mark.{mark_of, state_of, held_after}
use Rattle.ds_layout.specs.TextWords.{bytes_of}
use Rattle.ds_state.specs.Works.{PlainWorkCall, SEEN_MOST}
use Rattle.ds_state.specs.World.{PlainWorld}
use Rattle.ds_state.specs.Standing.{shown_entry}
use Rattle.ds_state.specs.Telling.{told_from}
use Rattle.ds_state.specs.Sound.{IsSound}
use Rattle.ds_state.specs.KnownWork.{WorkFits}
use Rattle.ds_state.specs.declared.situation.Situation.TheVariants.{Working}
use Rattle.ds_state.specs.declared.work.WorkEnd.{WorkEnd}
use Rattle.ds_state.specs.declared.work.WorkEnd.TheVariants.{Missed, Worn, Published, NoMemory}
use Rattle.ds_state.specs.declared.work.WorkStage.{WorkStage}
use Rattle.ds_state.specs.declared.work.WorkStage.TheVariants.{LoadMark, Claim, FlushClaim, BackClaim, LoadHead, LoadHeader, LoadText, Read, LoadValue, LoadKind, LoadOwnValue, LoadOwnKind, Wait, StoreValue, StoreKind, FlushValue, FlushKind, BackValue, BackKind, Telling, Clear, ClearDirty, Give, GiveDirty, FlushCleared, BackCleared, Answer}
use Rattle.ds_state.specs.declared.spread.Spread.TheVariants.{LoadRow, OrTold, FlushTold, BackTold}
use Rattle.ds_work.specs.WorkSteps.{at, next_at, claims_from, head_from, header_from, told, tell_from, StepsAt}
use Rattle.ds_work.specs.WorkAnswers.{IsDecided, mark_now, IsTrueAnswer}
use Rattle.ds_work.proofs.EachWork.{fits_at}
use Rattle.ds_state.specs.Shown.{header_in}

-- a test of which the outcome is known
when : (b : Bool) (x y : PlainWorkCall) (end : WorkEnd) → b ≡ true → IsDecided (if b then x else y).stage end → IsDecided x.stage end
when true x y end is d = d
when false x y end is d = absurd cc

unless : (b : Bool) (x y : PlainWorkCall) (end : WorkEnd) → b ≡ false → IsDecided (if b then x else y).stage end → IsDecided y.stage end
unless true x y end is d = absurd cc
unless false x y end is d = d

either : (b : Bool) (x y : PlainWorkCall) (end : WorkEnd) → (IsDecided x.stage end → ⊥) → (IsDecided y.stage end → ⊥) → IsDecided (if b then x else y).stage end → ⊥
either true x y end h k d = h d
either false x y end h k d = k d

module _ (e : PlainWorkCall) (word : ℕ) (old new : PlainWorld) (sound : IsSound old) (real : e.process < old.layout.processes) (end : WorkEnd) where
  eq_true : (n : ℕ) → word ≡ n → (word == n) ≡ true
  eq_true n is = grind (arith, nat_tests)

  by_state : (st : State) → word ≡ mark_now old e → state_of (mark_of e.processes word) ≡ st → IsDecided (claims_from e word st).stage end → IsTrueAnswer e LoadMark old new end
  by_state Clean seen is d = subst (λ (x : WorkEnd). IsTrueAnswer e LoadMark old new x) d (ap (λ (n : ℕ). state_of (mark_of e.processes n)) (sym seen) ∙ is)
  by_state (Held q) seen is d = subst (λ (x : WorkEnd). IsTrueAnswer e LoadMark old new x) d (q, ap (λ (n : ℕ). state_of (mark_of e.processes n)) (sym seen) ∙ is)
  by_state Marked seen is d = worn (nat_lt (2 ^ 58) (word / 32)) refl d
    where
      worn : (b : Bool) → nat_lt (2 ^ 58) (word / 32) ≡ b → IsDecided (if b then at e (Answer Worn) else record e { mark = word; stage = Claim }).stage end → IsTrueAnswer e LoadMark old new end
      worn true b d = subst (λ (x : WorkEnd). IsTrueAnswer e LoadMark old new x) d (ap (λ (n : ℕ). state_of (mark_of e.processes n)) (sym seen) ∙ is, subst (λ (n : ℕ). SEEN_MOST < n / 32) seen (ltb-true (2 ^ 58) (word / 32) b))
      worn false b d = absurd d

  no_head : (o : Option Head) → IsDecided (head_from e word o).stage end → ⊥
  no_head None d = d
  no_head (Some head) d = d

  no_header : (o : Option Header) → IsDecided (header_from e o).stage end → ⊥
  no_header None d = d
  no_header (Some header) d = either (nat_lt 0 ((header.length + 7) / 8)) (record e { length = header.length; text = []; stage = LoadText 0 }) (record e { length = header.length; text = []; stage = Read }) end (λ x. x) (λ x. x) d

  no_told : (f : PlainWorkCall) (o : Option ℕ) → IsDecided (told f o).stage end → ⊥
  no_told f None d = d
  no_told f (Some cell) d = d

  decided : (s : WorkStage) → WorkFits old e.process (at e s) → StepsAt e s word old new → IsDecided (next_at e s word).stage end → IsTrueAnswer e s old new end
  decided LoadMark fits t d = by_state (state_of (mark_of e.processes word)) t.memory.0 refl d
  decided Claim fits t d = elim t.memory.1 [
    | inl won ↦ absurd (when (word == e.mark) (record e { mark = held_after e.process e.mark; stage = FlushClaim }) (at e (Answer Missed)) end (eq_true e.mark won.0) d)
    | inr lost ↦ (let is : Missed ≡ end = unless (word == e.mark) (record e { mark = held_after e.process e.mark; stage = FlushClaim }) (at e (Answer Missed)) end (ne_eqb word e.mark lost.0) d in
        subst (λ (x : WorkEnd). IsTrueAnswer e Claim old new x) is (λ same. lost.0 (t.memory.0 ∙ same)))
  ]
  decided FlushClaim fits t d = absurd d
  decided BackClaim fits t d = absurd d
  decided LoadHead fits t d = absurd (no_head (head_of e.processes word) d)
  decided LoadHeader fits t d = absurd (no_header (header_in e.edition (header_of e.cells word)) d)
  decided (LoadText part) fits t d = absurd (either (nat_lt (part + 1) ((e.length + 7) / 8)) (record e { text = take e.length (e.text ++ bytes_of word); stage = LoadText (part + 1) }) (record e { text = take e.length (e.text ++ bytes_of word); stage = Read }) end (λ x. x) (λ x. x) d)
  decided Read fits t d = absurd d
  decided (LoadValue i) fits t d = absurd d
  decided (LoadKind i value) fits t d = absurd (either (nat_lt (i + 1) (length (with_entry e.inputs i (shown_entry e.cells value word)))) (record e { inputs = with_entry e.inputs i (shown_entry e.cells value word); stage = LoadValue (i + 1) }) (record e { inputs = with_entry e.inputs i (shown_entry e.cells value word); stage = LoadOwnValue }) end (λ x. x) (λ x. x) d)
  decided LoadOwnValue fits t d = absurd d
  decided LoadOwnKind fits t d = absurd d
  decided Wait fits t d = absurd d
  decided StoreValue fits t d = absurd d
  decided StoreKind fits t d = absurd d
  decided FlushValue fits t d = absurd d
  decided FlushKind fits t d = absurd d
  decided BackValue fits t d = absurd d
  decided BackKind fits t d = absurd d
  decided (Telling (LoadRow part)) fits t d = absurd (either (nat_lt (part + 1) ((e.cells + 63) / 64)) (record e { row = e.row ++ word ∷ []; stage = Telling (LoadRow (part + 1)) }) (tell_from (record e { row = e.row ++ word ∷ [] }) 0) end (λ x. x)
      (λ x. no_told (record e { row = e.row ++ word ∷ [] }) (told_from (e.row ++ word ∷ []) (e.cells - 0) 0) x) d)
  decided (Telling (OrTold cell)) fits t d = absurd d
  decided (Telling (FlushTold cell)) fits t d = absurd d
  decided (Telling (BackTold cell)) fits t d = absurd (no_told e (told_from e.row (e.cells - (cell + 1)) (cell + 1)) d)
  decided (Clear changed) fits t d = elim t.memory.1 [
    | inl won ↦ (
      sym (when (word == e.mark) (at e (FlushCleared (Published changed))) (at e ClearDirty) end (eq_true e.mark won.0) d),
      record {
        clean = won.1.there;
        value = won.1.elsewhere (Value e.cell) (λ x. cc) ∙ fits.knows.own.0.0;
        kind = won.1.elsewhere (Kind e.cell) (λ x. cc) ∙ fits.knows.own.0.1;
      },
    )
    | inr lost ↦ absurd (unless (word == e.mark) (at e (FlushCleared (Published changed))) (at e ClearDirty) end (ne_eqb word e.mark lost.0) d)
  ]
  decided ClearDirty fits t d = elim t.memory.1 [
    | inl won ↦ (sym d, fits.knows.hold.1, won.1.there)
    | inr lost ↦ absurd (lost.0 (t.memory.0 ∙ fits.knows.hold.1))
  ]
  decided Give fits t d = elim t.memory.1 [
    | inl won ↦ (sym (when (word == e.mark) (at e (FlushCleared NoMemory)) (at e GiveDirty) end (eq_true e.mark won.0) d), won.1.there)
    | inr lost ↦ absurd (unless (word == e.mark) (at e (FlushCleared NoMemory)) (at e GiveDirty) end (ne_eqb word e.mark lost.0) d)
  ]
  decided GiveDirty fits t d = elim t.memory.1 [
    | inl won ↦ (sym d, won.1.there)
    | inr lost ↦ absurd (lost.0 (t.memory.0 ∙ fits.knows.hold.1))
  ]
  decided (FlushCleared before) fits t d = d
  decided (BackCleared before) fits t d = d
  decided (Answer before) fits t d = d

-- each answer of work is true by the step that decides it
pub answer_true : (e : PlainWorkCall) (stage : WorkStage) (word : ℕ) (old new : PlainWorld) (end : WorkEnd) → IsSound old → e.process < old.layout.processes
    → old.situation e.process ≡ Working (at e stage) → StepsAt e stage word old new → IsDecided (next_at e stage word).stage end → IsTrueAnswer e stage old new end
answer_true e stage word old new end sound real was t d = decided e word old new sound real end stage (fits_at e stage old sound real was) t d
