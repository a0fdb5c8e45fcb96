-- The steps by which an edit announces itself, or how it ended.
use Rattle.std.proofs.Common.{List, ℕ, ◌≡◌, ◌≢◌, ◌<◌, ◌≤◌, ◌+◌, ◌^◌, nat_lt, [], refl, ap, sym, ◌∙◌, subst, arith, le_refl, inl, inr, zero, suc, length, None}
use Rattle.std.proofs.lemmas.Bool.{ltb-false}
use Rattle.ds_words.specs.Memory.{StoresAt}
use Rattle.ds_layout.specs.declared.place.Place.{Place}
use Rattle.ds_layout.specs.declared.place.Place.TheVariants.{Head, Mark, Announce}
use Rattle.ds_layout.specs.declared.announcement.Phase.TheVariants as phase
use Rattle.ds_state.specs.Edits.{PlainEditCall, text_parts}
use Rattle.ds_state.specs.World.{PlainEdit, edit_of, PlainWorld, record_place, announcement, last_announcement, phase_among}
use Rattle.ds_layout.specs.declared.announcement.Phase.{Phase}
use Rattle.ds_state.specs.Known.{Known, Announced, last, pending, ended, indexing, word_of, Knowing, IsAnnounced, StandsAs, standing_after}
use Rattle.ds_state.specs.CallsFit.{EditFits}
use Rattle.ds_state.specs.Owing.{HoldsNone, SplitsAt, EditOwes}
use Rattle.ds_layout.specs.Mark.{IsHeldBy}
use Rattle.ds_state.proofs.Buffers.{buffered}
use Rattle.ds_state.proofs.Bearing.{Mine, MyMarks, stored_marks}
use Rattle.ds_state.proofs.EditSteps.{edit_mine}
use Rattle.ds_state.proofs.EditFrame.{Framed, edit_keeps, edit_framed}
use Rattle.ds_state.specs.WordsFit.{IsKept, WordFits}
use Rattle.ds_state.specs.Rely.{Grows, Keeps}
use Rattle.ds_state.specs.Sound.{IsSound}
use Rattle.ds_state.specs.declared.stage.Outcome.{Outcome}
use Rattle.ds_state.specs.declared.stage.Outcome.TheVariants as outcome
use Rattle.ds_state.specs.declared.stage.Stage.{Stage}
use Rattle.ds_state.specs.declared.stage.Stage.TheVariants.{OrIndex, LoadHead}
use Rattle.ds_state.specs.declared.situation.Situation.TheVariants.{Editing}
use Rattle.ds_state.proofs.Stable.{standing_stable, recorded_stable, word_stable, indexed_stable, ored_stable, head_stable}
use Rattle.ds_layout.specs.Announcement.{number_after}
use Rattle.ds_state.specs.Headers.{SayNumber, HasCell}
use Rattle.ds_state.proofs.Saying.{recorded_cell}
use Rattle.ds_state.proofs.Frames.{Moves, KeepsOwing, grows_own, word_bears, moves_sound}
use Rattle.ds_state.proofs.Accesses.{Turn, store_moves}
use Rattle.ds_edit.specs.EditSteps.{next_at, index_from}
use Rattle.ds_edit.specs.EditTakes.{StepsAt}
use Rattle.ds_edit.proofs.Stays.{branches}
use Rattle.ds_edit.proofs.Turns.{is_within, noted_of, on, Known_on, Holds_on, IsPlainStep, turn, goes, stays_open, fits_next}
use Rattle.ds_layout.specs.declared.place.Edition.{Edition}
use Rattle.ds_state.specs.Editions.{seen_edition}

record_announce : (edition : Edition) (p n k : ℕ) → record_place edition p n k ≢ Announce p
record_announce edition p n zero = λ same. cc
record_announce edition p n (suc k) = λ same. cc

-- a pending announcement says no Done, and an ended one says it of its own edit alone
pub pending_tells : (w : PlainWorld) (p m n : ℕ) → announcement m phase.Pending ≡ announcement n phase.Done → IsKept w p n
pending_tells w p m n is = absurd (omega arith)

-- where an edit's outcome is announced as done of some number, the edit of that number is kept
pub ended_tells : (w : PlainWorld) (e : PlainEdit) (how : Outcome) (n : ℕ) → StandsAs w e (standing_after how) → word_of w e (ended how) ≡ announcement n phase.Done → IsKept w e.process n
ended_tells w e outcome.Done n stands is = record { edit = e; process_is = refl; number_is = omega arith; safe = stands.safe }
ended_tells w e (outcome.Overtaken noted seen) n stands is = absurd (omega arith)

-- announcements grow
last_low : (es : List PlainEdit) (p n : ℕ) → last_announcement es p n ≤ announcement n phase.Pending
last_low es p zero = omega arith
last_low es p (suc n) = low (phase_among es p n)
  where
    low : (f : Phase) → announcement n f ≤ announcement (suc n) phase.Pending
    low phase.Pending = omega arith
    low phase.Done = omega arith
    low phase.NotDone = omega arith

-- that an edit is pending is announced by a word no less than how the one before it ended
pub last_less : (w : PlainWorld) (e : PlainEditCall) → w.memory.cached (Announce e.process) ≡ word_of w (edit_of e) last → w.memory.cached (Announce e.process) ≤ announcement e.number phase.Pending
last_less w e is = let l = last_low w.counted e.process e.number in omega arith

-- how an edit ended is announced by a word no less than that it is pending
pub ended_more : (w : PlainWorld) (e : PlainEdit) (how : Outcome) → w.memory.cached (Announce e.process) ≡ word_of w e pending → w.memory.cached (Announce e.process) ≤ word_of w e (ended how)
ended_more w e outcome.Done is = omega arith
ended_more w e (outcome.Overtaken a b) is = omega arith

-- on both sides
pub on_both : (w : PlainWorld) (e : PlainEdit) (before now : Announced) → IsAnnounced w e before now → w.memory.persisted (Announce e.process) ≡ word_of w e now → IsAnnounced w e now now
on_both w e before now h is = record { cached = h.cached; persisted = inl is }

module _ (e : PlainEditCall) (s : Stage) (word : ℕ) (old new : PlainWorld) (sound : IsSound old)
    (at : old.situation e.process ≡ Editing (on e s)) (fits : EditFits old e.process (on e s))
    (t : StepsAt e s word old new) (plain : IsPlainStep e s word) (small : word < 2 ^ 64) (owes : (head : ℕ) → SplitsAt s head → ⊥) (calm : (x : ℕ) → EditOwes old.memory e.process e.cell s x → ⊥) where
  went : new.situation e.process ≡ Editing (on e (next_at e s word))
  went = goes e s word old new t plain

  seen : seen_edition old.memory ≡ e.edition
  seen = (noted_of e s old sound at fits).cached

  tk : Turn e.process old new
  tk = turn e s word old new t at (is_within e s old fits) plain.counts

  module _ (place : Place) (moves : Moves e.process place old new) where
    keeps_at : (cell : ℕ) → KeepsOwing old new cell
    keeps_at = edit_keeps e.process e s (next_at e s word) place old new moves tk.counted at went sound (buffered old sound) (stays_open e s word old new t plain) (λ head o. absurd (owes head o))

    my : ((c : ℕ) → new.memory.cached (Head c) ≡ old.memory.cached (Head c)) → ((c : ℕ) → place ≡ Head c → ⊥) → Mine e.process place old new moves
    my cached away = edit_mine e.process e s (next_at e s word) place old new moves at went fits.holds_none (λ x k o. absurd (calm x o)) cached (λ c is. absurd (away c is))

    framed : Mine e.process place old new moves → MyMarks e.process place old new moves → Framed old new
    framed m marks = edit_framed e.process e s (next_at e s word) place old new moves tk.counted at went sound (buffered old sound) m marks

  unheld : ((r : ℕ) → new.memory.cached (Mark r) ≡ old.memory.cached (Mark r)) → HoldsNone new e.process
  unheld same r by = fits.holds_none r (subst (λ (x : ℕ). IsHeldBy e.process x) (same r) by)

  -- an announcement is stored, where both sides agreed
  pub announces : (k : Known) (value : ℕ) (a : Announced) → Knowing old e.edition (edit_of e) e.refs fits.since k → k.before ≡ k.now → 0 < k.back → number_after value ≡ e.number + 1
      → (Knowing new e.edition (edit_of e) e.refs fits.since (record k { now = a }) → Known_on new e fits.since (next_at e s word))
      → value ≡ word_of new (edit_of e) a
      → (StandsAs new (edit_of e) k.standing → (n : ℕ) → value ≡ announcement n phase.Done → IsKept new e.process n)
      → old.memory.cached (Announce e.process) ≤ value → StoresAt (Announce e.process) value old.memory new.memory
      → (new.memory.buffer e.process ≡ old.memory.buffer e.process → Holds_on new e (next_at e s word)) → Keeps e.process old new
  announces k value a knows both written number advance is tells more m held =
      let place : Place = Announce e.process in
      let E : PlainEdit = edit_of e in
      let tn : Turn e.process old new = turn e s word old new t at (is_within e s old fits) plain.counts in
      let cell : HasCell old e.process e.number = (let cells = fits.sheet.cells in let low = fits.is.cell in recorded_cell old e.edition E k.stored k.back written knows.recorded (omega (arith, cells, low)) fits.is.text.short) in
      let says : (n : ℕ) → SayNumber value (old.memory.persisted place) n → HasCell old e.process n = λ n said. elim said [
        | inl now ↦ (let same : e.number ≡ n = omega (arith, number, now) in subst (λ x. HasCell old e.process x) same cell)
        | inr now ↦ sound.headers e.process n (inr now)
      ] in
      let moves : Moves e.process place old new = store_moves e.process old new tn place value (λ x. cc) (more, le_refl _, inl (refl, says)) m in
      let g : Grows e.process place old new = grows_own e.process place old new moves tn.counted in
      let stands : StandsAs new E k.standing = standing_stable place old new E g k.standing knows.standing in
      let before : old.memory.persisted place ≡ word_of old E k.before = elim knows.announced.persisted [ inl b ↦ b | inr n ↦ n ∙ ap (λ (x : Announced). word_of old E x) (sym both) ] in
      let after : Knowing new e.edition E e.refs fits.since (record k { now = a }) = record {
        standing = stands;
        recorded = recorded_stable place old new E g e.edition seen (record_announce e.edition e.process e.number) k.stored k.back knows.recorded;
        announced = record {
          cached = m.there ∙ is;
          persisted = inl (m.persisted place ∙ before ∙ sym (word_stable place old new E g k.before));
        };
        indexed = indexed_stable place old new E g e.refs k.indexed knows.indexed;
        ored = ored_stable place old new E g e.refs k.ored knows.ored;
        head = head_stable place old new E g fits.since k.head knows.head;
      } in
      let bears = word_bears e.process place old new moves tn.counted place (old.memory.cached place) (old.memory.persisted place) (λ cell same. cc) (λ cell is a. elim is [ inl x ↦ cc | inr x ↦ cc ]) (λ edition q n part is. cc) (sound.words place) in
      let mine : Mine e.process place old new moves = my place moves (λ c. m.elsewhere (Head c) (λ x. cc)) (λ c x. cc) in
      let f : Framed old new = framed place moves mine (stored_marks e.process place old new moves (λ c x. cc) m.persisted m.buffer) in
      let told : WordFits new place (new.memory.cached place) (new.memory.persisted place) = record {
        sides = (let l = (sound.words place).sides in let c = m.there in let p = m.persisted place in omega arith);
        on_cached = λ n low here. tells stands n (sym m.there ∙ here);
        on_persisted = λ n low here. bears.on_persisted n low (sym (m.persisted place) ∙ here);
      } in
      moves_sound e.process place old new moves tn.counted sound f.bears f.stand f.apart (λ cell ne. keeps_at place moves cell)
      told
      (λ l. fits_next e s word old new t fits plain small (unheld (λ r. m.elsewhere (Mark r) (λ x. cc))) (advance after) (held (m.buffer e.process)))

-- the references that are left, or the head
pub index_next : (w : PlainWorld) (e : PlainEditCall) (since i : ℕ) → i ≤ length e.refs → Knowing w e.edition (edit_of e) e.refs since (indexing (text_parts e.text) i None) → Known_on w e since (index_from e i)
index_next w e since i most h = branches (λ x. Known_on w e since x) (nat_lt i (length e.refs)) (OrIndex i) LoadHead
    (λ b. h)
    (λ b. let l = ltb-false i (length e.refs) b in
    let all : i ≡ length e.refs = omega arith in
    subst (λ (x : ℕ). Knowing w e.edition (edit_of e) e.refs since (indexing (text_parts e.text) x None)) all h)

-- an empty buffer is what an edit's is before it indexes its next reference, or loads the head
pub index_holds : (w : PlainWorld) (e : PlainEditCall) (i : ℕ) → w.memory.buffer e.process ≡ [] → Holds_on w e (index_from e i)
index_holds w e i h = branches (λ x. Holds_on w e x) (nat_lt i (length e.refs)) (OrIndex i) LoadHead (λ b. h) (λ b. h)
