-- The steps by which an edit writes its record.
use Rattle.std.proofs.Common.{List, ℕ, ◌≡◌, ◌≢◌, ◌<◌, ◌≤◌, ◌+◌, ◌-◌, ◌^◌, ◌==◌, nat_lt, [], ◌∷◌, ◌++◌, refl, ap, sym, ◌∙◌, subst, arith, inl, inr, zero, suc, map}
use Rattle.std.specs.List.{range_with_len}
use Rattle.std.proofs.lemmas.Bool.{cases_eq, ltb-false, eqb-true, eqb-false}
use Rattle.std.proofs.lemmas.List.Elements.{All-contains}
use Rattle.std.proofs.lemmas.List.FromFn.{map-range_with_len_more}
use Rattle.ds_words.specs.Memory.{StoresAt, FlushesAt, WritesBack, newer}
use Rattle.ds_layout.specs.Places.{class_of}
use Rattle.ds_layout.specs.declared.place.Place.{Place}
use Rattle.ds_layout.specs.declared.place.Place.TheVariants.{Version, Head, Mark, Announce}
use Rattle.ds_state.specs.Edits.{PlainEditCall, text_parts}
use Rattle.ds_state.specs.World.{PlainEdit, edit_of, PlainWorld, record_place, record_word, last_announcement}
use Rattle.ds_layout.specs.Announcement.{number_after}
use Rattle.ds_state.specs.Headers.{IsSaid}
use Rattle.ds_state.specs.Known.{writing, outside, last, AreBelow, IsAnnounced, Knowing}
use Rattle.ds_state.proofs.Saying.{last_number}
use Rattle.ds_state.specs.CallsFit.{record_words, record_entry, Holds, EditFits}
use Rattle.std.specs.Prelude.{Contains}
use Rattle.ds_words.specs.declared.access.BufferEntry.{BufferEntry}
use Rattle.ds_state.specs.Owing.{entry, HoldsNone, SplitsAt, EditOwes}
use Rattle.ds_layout.specs.Mark.{IsHeldBy}
use Rattle.ds_state.proofs.Buffers.{buffered}
use Rattle.ds_state.proofs.Bearing.{Mine, MyMarks, no_new_marks, stored_marks, text_same}
use Rattle.ds_state.proofs.EditSteps.{edit_mine}
use Rattle.ds_state.proofs.EditFrame.{Framed, edit_keeps, edit_framed, flush_any}
use Rattle.ds_state.specs.WordsFit.{WordFits}
use Rattle.ds_state.specs.Rely.{Grows, Keeps}
use Rattle.ds_state.specs.Sound.{IsSound}
use Rattle.ds_state.specs.declared.stage.Stage.{Stage}
use Rattle.ds_state.specs.declared.stage.Stage.TheVariants.{StoreText, FlushHeader, FlushText, BackRecord, StorePending}
use Rattle.ds_state.specs.declared.situation.Situation.TheVariants.{Editing}
use Rattle.ds_state.proofs.Stable.{standing_stable, announced_stable, indexed_stable, knowing_stable, record_no_version}
use Rattle.ds_state.proofs.Lasting.{record_owned}
use Rattle.ds_state.proofs.Frames.{MovesWord, Moves, KeepsOwing, grows_own, moves_sound}
use Rattle.ds_state.proofs.Sides.{IsBetween}
use Rattle.ds_state.proofs.Accesses.{Turn, store_moves, flush_moves, quiet_sound, Backs, back_moves, back_grows, back_sound}
use Rattle.ds_edit.specs.EditSteps.{next_at, store_from, flush_from, back_from}
use Rattle.ds_edit.specs.EditTakes.{StepsAt}
use Rattle.ds_edit.proofs.Stays.{branches}
use Rattle.ds_edit.proofs.Turns.{is_within, noted_of, on, Known_on, Holds_on, IsPlainStep, turn, goes, stays_open, fits_next}
use Rattle.ds_layout.specs.declared.place.Edition.{Edition}
use Rattle.ds_state.specs.Editions.{seen_edition}

record_apart : (edition : Edition) (p n j k : ℕ) → j ≢ k → record_place edition p n j ≢ record_place edition p n k
record_apart edition p n zero zero ne = absurd (ne refl)
record_apart edition p n zero (suc k) ne = λ same. cc
record_apart edition p n (suc j) zero ne = λ same. cc
record_apart edition p n (suc j) (suc k) ne = λ same. ne (let e : j ≡ k = cc in ap (λ x. suc x) e)

announce_apart : (edition : Edition) (p n k : ℕ) → Announce p ≢ record_place edition p n k
announce_apart edition p n zero = λ same. cc
announce_apart edition p n (suc k) = λ same. cc

owned_moves : (w : PlainWorld) (edition : Edition) (p n k c v c' v' : ℕ) → (IsSaid w.memory p n → ⊥) → MovesWord w p (record_place edition p n k) c v c' v'
owned_moves w edition p n zero c v c' v' unsaid = inl (refl, unsaid)
owned_moves w edition p n (suc k) c v c' v' unsaid = inl refl

-- an edit that has not announced itself: both sides say the number before
unannounced : (w : PlainWorld) (e : PlainEdit) → IsAnnounced w e last last → IsSaid w.memory e.process e.number → ⊥
unannounced w e h said =
    let before = last_number w.counted e.process e.number in
    let on : (word : ℕ) → word ≡ last_announcement w.counted e.process e.number → number_after word ≡ e.number + 1 → ⊥ = λ word is now. (let same = sym (ap number_after is) ∙ now in omega (arith, before, same)) in
    elim said [
      | inl now ↦ on _ h.cached now
      | inr now ↦ elim h.persisted [ inl is ↦ on _ is now | inr is ↦ on _ is now ]
    ]

no_mark : (edition : Edition) (p n k cell : ℕ) → record_place edition p n k ≢ Mark cell
no_mark edition p n zero cell = λ same. cc
no_mark edition p n (suc k) cell = λ same. cc

no_head : (edition : Edition) (p n k cell : ℕ) → Head cell ≢ record_place edition p n k
no_head edition p n zero cell = λ same. cc
no_head edition p n (suc k) cell = λ same. cc

-- the record of an edit that is not linearized
unrecorded : (w : PlainWorld) (edition : Edition) (p n k c v : ℕ) → AreBelow w p n → WordFits w (record_place edition p n k) c v
unrecorded w edition p n zero c v below = λ f there i j l. let h = All-contains (λ (f : PlainEdit). f.process ≡ p → f.number < n) w.counted f below there i in absurd (omega arith)
unrecorded w edition p n (suc k) c v below = λ now f there i j l. let h = All-contains (λ (f : PlainEdit). f.process ≡ p → f.number < n) w.counted f below there i in absurd (omega arith)

owned_class : (edition : Edition) (p n k v value : ℕ) → newer (class_of (record_place edition p n k)) v value ≡ value
owned_class edition p n zero v value = refl
owned_class edition p n (suc k) v value = refl

module _ (e : PlainEditCall) (s : Stage) (word : ℕ) (old new : PlainWorld) (sound : IsSound old)
    (at : old.situation e.process ≡ Editing (on e s)) (fits : EditFits old e.process (on e s))
    (t : StepsAt e s word old new) (plain : IsPlainStep e s word) (none : word ≡ 0) (owes : (head : ℕ) → SplitsAt s head → ⊥) (calm : (x : ℕ) → EditOwes old.memory e.process e.cell s x → ⊥) where
  seen : seen_edition old.memory ≡ e.edition
  seen = (noted_of e s old sound at fits).cached

  went : new.situation e.process ≡ Editing (on e (next_at e s word))
  went = goes e s word old new t plain

  tk : Turn e.process old new
  tk = turn e s word old new t at (is_within e s old fits) plain.counts

  module _ (place : Place) (moves : Moves e.process place old new) where
    keeps_at : (cell : ℕ) → KeepsOwing old new cell
    keeps_at = edit_keeps e.process e s (next_at e s word) place old new moves tk.counted at went sound (buffered old sound) (stays_open e s word old new t plain) (λ head o. absurd (owes head o))

    my : ((c : ℕ) → new.memory.cached (Head c) ≡ old.memory.cached (Head c)) → ((c : ℕ) → place ≡ Head c → ⊥) → Mine e.process place old new moves
    my cached away = edit_mine e.process e s (next_at e s word) place old new moves at went fits.holds_none (λ x k o. absurd (calm x o)) cached (λ c is. absurd (away c is))

    framed : Mine e.process place old new moves → MyMarks e.process place old new moves → Framed old new
    framed m marks = edit_framed e.process e s (next_at e s word) place old new moves tk.counted at went sound (buffered old sound) m marks

  unheld : ((r : ℕ) → new.memory.cached (Mark r) ≡ old.memory.cached (Mark r)) → HoldsNone new e.process
  unheld same r by = fits.holds_none r (subst (λ (x : ℕ). IsHeldBy e.process x) (same r) by)

  small : word < 2 ^ 64
  small = rw none (omega arith)

  -- the word with this number of the record is stored
  pub stores : (k k' : ℕ) → k' ≡ k → k ≤ text_parts e.text → next_at e s word ≡ store_from e k'
      → Knowing old e.edition (edit_of e) e.refs fits.since (writing k 0) → old.memory.buffer e.process ≡ []
      → StoresAt (record_place e.edition e.process e.number k) (record_word (edit_of e) k) old.memory new.memory
      → Keeps e.process old new
  stores k k' same most next knows holds m =
      let place : Place = record_place e.edition e.process e.number k in
      let tn : Turn e.process old new = turn e s word old new t at (is_within e s old fits) plain.counts in
      let moves : Moves e.process place old new = store_moves e.process old new tn place (record_word (edit_of e) k) (λ x. record_no_version e.edition e.process e.number k (sym x)) (owned_moves old e.edition e.process e.number k _ _ _ _ (unannounced old (edit_of e) knows.announced)) m in
      let g : Grows e.process place old new = grows_own e.process place old new moves tn.counted in
      let after : Knowing new e.edition (edit_of e) e.refs fits.since (writing (suc k) 0) = record {
        standing = standing_stable place old new (edit_of e) g outside knows.standing;
        recorded = record {
          cached = λ j l. elim (cases_eq j k) [
            | inl is ↦ rw is m.there
            | inr ne ↦ g.owned_cached (record_place e.edition e.process e.number j) (record_owned old.memory e.edition seen e.process e.number j) (record_apart e.edition e.process e.number j k ne) ∙ knows.recorded.cached j (omega arith)
          ];
          persisted = λ j l. absurd (omega arith);
          fewer = omega arith;
        };
        announced = announced_stable place old new (edit_of e) g (announce_apart e.edition e.process e.number k) last last knows.announced;
        indexed = indexed_stable place old new (edit_of e) g e.refs 0 knows.indexed;
        ored = tt;
        head = tt;
      } in
      let known : Known_on new e fits.since (next_at e s word) = subst (λ (x : Stage). Known_on new e fits.since x) (sym next)
      (branches (λ x. Known_on new e fits.since x) (nat_lt k' (text_parts e.text)) (StoreText k') FlushHeader
      (λ b. subst (λ (x : ℕ). Knowing new e.edition (edit_of e) e.refs fits.since (writing (suc x) 0)) (sym same) after)
      (λ b. subst (λ (x : ℕ). Knowing new e.edition (edit_of e) e.refs fits.since (writing (suc x) 0)) (let l = ltb-false k' (text_parts e.text) b in omega arith) after)) in
      let held : Holds_on new e (next_at e s word) = subst (λ (x : Stage). Holds_on new e x) (sym next)
      (branches (λ x. Holds_on new e x) (nat_lt k' (text_parts e.text)) (StoreText k') FlushHeader (λ b. m.buffer e.process ∙ holds) (λ b. m.buffer e.process ∙ holds)) in
      let f : Framed old new = framed place moves (my place moves (λ c. m.elsewhere (Head c) (no_head e.edition e.process e.number k c)) (λ c x. no_head e.edition e.process e.number k c (sym x)))
      (stored_marks e.process place old new moves (λ c x. absurd (no_mark e.edition e.process e.number k c x)) m.persisted m.buffer) in
      moves_sound e.process place old new moves tn.counted sound f.bears f.stand f.apart (λ cell ne. keeps_at place moves cell)
      (unrecorded new e.edition e.process e.number k _ _ after.standing)
      (λ l. fits_next e s word old new t fits plain small (unheld (λ r. m.elsewhere (Mark r) (λ x. no_mark e.edition e.process e.number k r (sym x)))) known held)

  -- it is flushed
  pub flushes : (k k' : ℕ) → k' ≡ k → k ≤ text_parts e.text → next_at e s word ≡ flush_from e k'
      → Knowing old e.edition (edit_of e) e.refs fits.since (writing (suc (text_parts e.text)) 0) → Holds old e.edition (edit_of e) (record_words 0 k)
      → FlushesAt e.process (record_place e.edition e.process e.number k) (class_of (record_place e.edition e.process e.number k)) old.memory new.memory
      → Keeps e.process old new
  flushes k k' same most next knows holds m =
      let place : Place = record_place e.edition e.process e.number k in
      let E : PlainEdit = edit_of e in
      let tn : Turn e.process old new = turn e s word old new t at (is_within e s old fits) plain.counts in
      let moves : Moves e.process Version old new = flush_moves e.process old new tn place (class_of place) m in
      let g : Grows e.process Version old new = grows_own e.process Version old new moves tn.counted in
      let after : Knowing new e.edition E e.refs fits.since (writing (suc (text_parts e.text)) 0) =
      knowing_stable Version old new E g e.edition seen (record_no_version e.edition e.process e.number) (λ same. cc) e.refs fits.since (writing (suc (text_parts e.text)) 0) knows in
      let more : k + 1 ≡ suc k = omega arith in
      let one : entry place (old.memory.cached place) ≡ record_entry e.edition E k = ap (λ (v : ℕ). entry place v) (knows.recorded.cached k (omega arith)) in
      let buffer : new.memory.buffer e.process ≡ map (record_entry e.edition E) (range_with_len 0 (suc k)) =
      m.mine ∙ ap (λ xs. xs ++ entry place (old.memory.cached place) ∷ []) holds ∙ ap (λ x. map (record_entry e.edition E) (range_with_len 0 k) ++ x ∷ []) one
      ∙ sym (map-range_with_len_more (record_entry e.edition E) 0 k k (omega arith)) ∙ ap (λ (n : ℕ). map (record_entry e.edition E) (range_with_len 0 n)) more in
      let known : Known_on new e fits.since (next_at e s word) = subst (λ (x : Stage). Known_on new e fits.since x) (sym next)
      (branches (λ x. Known_on new e fits.since x) (nat_lt k' (text_parts e.text)) (FlushText k') (BackRecord (text_parts e.text))
      (λ b. after)
      (λ b. subst (λ (x : ℕ). Knowing new e.edition E e.refs fits.since (writing (suc (text_parts e.text)) x)) (omega arith) after)) in
      let held : Holds_on new e (next_at e s word) = subst (λ (x : Stage). Holds_on new e x) (sym next)
      (branches (λ x. Holds_on new e x) (nat_lt k' (text_parts e.text)) (FlushText k') (BackRecord (text_parts e.text))
      (λ b. subst (λ (x : ℕ). Holds new e.edition E (record_words 0 (suc x))) (sym same) buffer)
      (λ b. let l = ltb-false k' (text_parts e.text) b in
      let first : 0 ≡ text_parts e.text - text_parts e.text = omega arith in
      let all : k ≡ text_parts e.text = omega arith in
      subst (λ (x : ℕ). Holds new e.edition E (record_words x (suc (text_parts e.text)))) first
      (subst (λ (x : ℕ). Holds new e.edition E (record_words 0 (suc x))) all buffer))) in
      let mine : Mine e.process Version old new moves = my Version moves (λ c. m.cached (Head c)) (λ c x. cc) in
      let f : Framed old new = framed Version moves mine (flush_any e.process old new moves sound (buffered old sound) mine (text_same old new moves.layout tn.counted) place m) in
      quiet_sound e.process old new tn sound moves f.bears f.stand f.apart (keeps_at Version moves) (λ l. fits_next e s word old new t fits plain small (unheld (λ r. m.cached (Mark r))) known held)

  -- it is written back, with n after it
  pub backs : (left k : ℕ) → left ≤ text_parts e.text → k ≡ text_parts e.text - left → next_at e s word ≡ back_from left
      → Knowing old e.edition (edit_of e) e.refs fits.since (writing (suc (text_parts e.text)) k) → Holds old e.edition (edit_of e) (record_words k (suc left))
      → WritesBack e.process (record_entry e.edition (edit_of e) k) (map (record_entry e.edition (edit_of e)) (range_with_len (k + 1) left)) old.memory new.memory
      → Keeps e.process old new
  backs left k most is next knows holds m =
      let parts : ℕ = text_parts e.text in
      let place : Place = record_place e.edition e.process e.number k in
      let E : PlainEdit = edit_of e in
      let tn : Turn e.process old new = turn e s word old new t at (is_within e s old fits) plain.counts in
      let value : ℕ = record_word E k in
      let there : old.memory.cached place ≡ value = knows.recorded.cached k (omega arith) in
      let now : new.memory.persisted place ≡ value = m.there ∙ owned_class e.edition e.process e.number k _ _ in
      let b : Backs e.process old new tn place value = record { cached = m.cached; there = now; elsewhere = m.elsewhere; buffers = m.others } in
      let between : IsBetween old.layout place (old.memory.cached place) (old.memory.persisted place) value = between_own k _ _ _ (sym there) in
      let g : Grows e.process Version old new = back_grows e.process old new tn sound place value b between (λ o. (m.cached place, inr (now ∙ sym there))) (λ c x. absurd (no_mark e.edition e.process e.number k c (sym x))) in
      let kept : Knowing new e.edition E e.refs fits.since (writing (suc parts) k) =
      knowing_stable Version old new E g e.edition seen (record_no_version e.edition e.process e.number) (λ same. cc) e.refs fits.since (writing (suc parts) k) knows in
      let after : Knowing new e.edition E e.refs fits.since (writing (suc parts) (suc k)) = record {
        standing = kept.standing;
        recorded = record {
          cached = kept.recorded.cached;
          persisted = λ j l. elim (cases_eq j k) [ inl same ↦ rw same now | inr ne ↦ kept.recorded.persisted j (omega arith) ];
          fewer = omega arith;
        };
        announced = kept.announced;
        indexed = kept.indexed;
        ored = kept.ored;
        head = kept.head;
      } in
      let known : Known_on new e fits.since (next_at e s word) = subst (λ (x : Stage). Known_on new e fits.since x) (sym next)
      (branches (λ x. Known_on new e fits.since x) (left == 0) StorePending (BackRecord (left - 1))
      (λ z. let l : left ≡ 0 = eqb-true left 0 z in subst (λ (x : ℕ). Knowing new e.edition E e.refs fits.since (writing (suc parts) x)) (omega arith) after)
      (λ z. let l = eqb-false left 0 z in subst (λ (x : ℕ). Knowing new e.edition E e.refs fits.since (writing (suc parts) x)) (omega arith) after)) in
      let held : Holds_on new e (next_at e s word) = subst (λ (x : Stage). Holds_on new e x) (sym next)
      (branches (λ x. Holds_on new e x) (left == 0) StorePending (BackRecord (left - 1))
      (λ z. let l : left ≡ 0 = eqb-true left 0 z in m.mine ∙ ap (λ n. map (record_entry e.edition E) (range_with_len (k + 1) n)) l)
      (λ z. let l = eqb-false left 0 z in
      subst (λ (x : ℕ). Holds new e.edition E (record_words x (suc (left - 1)))) (omega arith)
      (let again : left ≡ suc (left - 1) = omega arith in m.mine ∙ ap (λ (n : ℕ). map (record_entry e.edition E) (range_with_len (k + 1) n)) again))) in
      let moves : Moves e.process place old new = back_moves e.process old new tn sound place value b between in
      let f : Framed old new = framed place moves (my place moves (λ c. m.cached (Head c)) (λ c x. no_head e.edition e.process e.number k c (sym x)))
      (no_new_marks e.process place old new moves (λ c x. no_mark e.edition e.process e.number k c x) was_there) in
      back_sound e.process old new tn sound place value b between f.bears f.stand f.apart (keeps_at place moves) (λ l. fits_next e s word old new t fits plain small (unheld (λ r. m.cached (Mark r))) known held)
    where
      between_own : (k c v value : ℕ) → value ≡ c → IsBetween old.layout (record_place e.edition e.process e.number k) c v value
      between_own zero c v value is = inr is
      between_own (suc k) c v value is = inr is

      was_there : (c x q : ℕ) → Contains (new.memory.buffer q) (entry (Mark c) x) → Contains (old.memory.buffer q) (entry (Mark c) x)
      was_there c x q h = elim (cases_eq q e.process) [
        | inr ne ↦ subst (λ (xs : List (BufferEntry Place)). Contains xs (entry (Mark c) x)) (m.others q ne) h
        | inl eq ↦ subst (λ (r : ℕ). Contains (old.memory.buffer r) (entry (Mark c) x)) (sym eq)
            (subst (λ (xs : List (BufferEntry Place)). Contains xs (entry (Mark c) x)) (sym m.oldest) (behind _ _ _ (subst (λ (xs : List (BufferEntry Place)). Contains xs (entry (Mark c) x)) (ap new.memory.buffer eq ∙ m.mine) h)))
      ]
        where
          behind : (y z : BufferEntry Place) (ys : List (BufferEntry Place)) → Contains ys z → Contains (y ∷ ys) z
          behind y z ys (i, l, is) = (suc i, omega arith, is)
