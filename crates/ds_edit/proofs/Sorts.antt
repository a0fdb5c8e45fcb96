-- The sorts of an edit's steps.
use Rattle.std.proofs.Common.{ℕ, ◌≡◌, ◌≢◌, ◌<◌, ◌^◌, [], ◌∷◌, ◌++◌, ap, sym, ◌∙◌, subst, inr, length}
use Rattle.std.specs.Prelude.{bit_or}
use Rattle.ds_words.specs.Memory.{SameMemory, OrsAt, FlushesAt, WritesBack, BacksFirst, newer}
use Rattle.ds_layout.specs.Places.{class_of}
use Rattle.ds_layout.specs.declared.place.Place.{Place}
use Rattle.ds_layout.specs.declared.place.Place.TheVariants.{Version, Announce, Head, Mark}
use Rattle.ds_state.specs.Edits.{PlainEditCall, text_parts}
use Rattle.ds_state.specs.World.{edit_of, PlainWorld, record_place}
use Rattle.ds_state.specs.Known.{known_at}
use Rattle.ds_words.specs.declared.access.BufferEntry.{BufferEntry}
use Rattle.std.specs.Prelude.{Contains}
use Rattle.std.proofs.Common.{List, ◌⊎◌}
use Rattle.ds_state.specs.Owing.{entry, HoldsNone, SplitsAt, EditOwes, IsExcused}
use Rattle.ds_layout.specs.Mark.{IsHeldBy, IsClean}
use Rattle.ds_state.specs.Standing.{Matters}
use Rattle.ds_state.specs.CallsFit.{EditFits}
use Rattle.std.proofs.Common.{inl}
use Rattle.ds_layout.proofs.PlaceCases.{place_cases}
use Rattle.ds_state.proofs.Buffers.{buffered}
use Rattle.ds_state.proofs.Bearing.{Mine, MyMarks, no_new_marks, stored_marks, text_same}
use Rattle.ds_state.proofs.EditSteps.{edit_mine}
use Rattle.ds_state.proofs.EditFrame.{Framed, edit_keeps, edit_framed, flush_any, back_any, heads_back}
use Rattle.ds_state.specs.WordsFit.{WordFits}
use Rattle.ds_state.specs.Rely.{IsOwnedBy, KeepsHold, Grows, Keeps}
use Rattle.ds_state.specs.Sound.{IsSound}
use Rattle.ds_state.specs.declared.stage.Stage.{Stage}
use Rattle.ds_state.specs.declared.situation.Situation.TheVariants.{Editing}
use Rattle.ds_state.proofs.Heads.{small_counted}
use Rattle.ds_state.proofs.Stable.{knowing_stable, record_no_version}
use Rattle.ds_state.proofs.Frames.{MovesWord, Moves, KeepsOwing, grows_own, moves_sound}
use Rattle.ds_state.proofs.Sides.{EntryFits, IsBetween, newer_between}
use Rattle.ds_state.proofs.Accesses.{Turn, same_moves, store_moves, flush_moves, quiet_sound, Backs, written_backs, back_moves, back_grows, back_sound}
use Rattle.ds_edit.specs.EditSteps.{next_at}
use Rattle.ds_edit.specs.EditTakes.{StepsAt}
use Rattle.ds_edit.proofs.Turns.{is_within, noted_of, on, Known_on, Holds_on, IsPlainStep, turn, goes, stays_open, fits_next, back_first}
use Rattle.ds_state.specs.Editions.{seen_edition}

module _ (e : PlainEditCall) (s : Stage) (word : ℕ) (old new : PlainWorld) (sound : IsSound old)
    (at : old.situation e.process ≡ Editing (on e s)) (fits : EditFits old e.process (on e s))
    (t : StepsAt e s word old new) (plain : IsPlainStep e s word) (small : word < 2 ^ 64)
    (splits : (head : ℕ) → SplitsAt s head → SplitsAt (next_at e s word) head)
    (passes : (x : ℕ) → Matters new e.cell x → EditOwes old.memory e.process e.cell s x → EditOwes new.memory e.process e.cell (next_at e s word) x) where
  seen : seen_edition old.memory ≡ e.edition
  seen = (noted_of e s old sound at fits).cached

  tn : Turn e.process old new
  tn = turn e s word old new t at (is_within e s old fits) plain.counts

  real : e.process < old.layout.processes
  real = rw fits.sheet.processes fits.is.process

  -- no cell comes to be held
  free : (but : Place) → ((r : ℕ) → Mark r ≢ but) → Grows e.process but old new → HoldsNone new e.process
  free but apart g = λ r by. fits.holds_none r ((g.holds r (apart r)).came by)

  module _ (place : Place) (moves : Moves e.process place old new) where
    keeps : (cell : ℕ) → KeepsOwing old new cell
    keeps = edit_keeps e.process e s (next_at e s word) place old new moves tn.counted at (goes e s word old new t plain) sound (buffered old sound) (stays_open e s word old new t plain) splits

    mine : ((c : ℕ) → new.memory.cached (Head c) ≡ old.memory.cached (Head c))
        → ((c : ℕ) → place ≡ Head c → (new.memory.persisted (Head c) ≡ old.memory.persisted (Head c)) ⊎ ((x : ℕ) → IsExcused new c x)) → Mine e.process place old new moves
    mine cached heads = edit_mine e.process e s (next_at e s word) place old new moves at (goes e s word old new t plain) fits.holds_none passes cached heads

    framed : Mine e.process place old new moves → MyMarks e.process place old new moves → Framed old new
    framed m marks = edit_framed e.process e s (next_at e s word) place old new moves tn.counted at (goes e s word old new t plain) sound (buffered old sound) m marks

  -- what is known stays, where no word of the edit's own changes
  stays : (but : Place) → ((k : ℕ) → record_place e.edition e.process e.number k ≢ but) → Announce e.process ≢ but → Grows e.process but old new → Known_on new e fits.since s
  stays but apart apart' g = knowing_stable but old new (edit_of e) g e.edition seen apart apart' e.refs fits.since (known_at (text_parts e.text) (length e.refs) s) fits.knows

  -- nothing is changed
  pub loads : SameMemory old.memory new.memory
      → (Known_on new e fits.since s → Known_on new e fits.since (next_at e s word)) → Holds_on new e (next_at e s word) → Keeps e.process old new
  loads m advance held =
      let moves : Moves e.process Version old new = same_moves e.process old new tn m in
      let g : Grows e.process Version old new = grows_own e.process Version old new moves tn.counted in
      let my : Mine e.process Version old new moves = mine Version moves (λ c. m.cached (Head c)) (λ c is. cc) in
      let f : Framed old new = framed Version moves my (no_new_marks e.process Version old new moves (λ c is. cc) (λ c x q h. subst (λ (xs : List (BufferEntry Place)). Contains xs (entry (Mark c) x)) (m.buffer q) h)) in
      quiet_sound e.process old new tn sound moves f.bears f.stand f.apart (keeps Version moves)
      (λ l. fits_next e s word old new t fits plain small (free Version (λ r same. cc) g) (advance (stays Version (record_no_version e.edition e.process e.number) (λ same. cc) g)) held)

  -- a word is flushed
  pub flushes : (place : Place) → FlushesAt e.process place (class_of place) old.memory new.memory → old.memory.buffer e.process ≡ []
      → (Known_on new e fits.since s → Known_on new e fits.since (next_at e s word))
      → (new.memory.buffer e.process ≡ entry place (old.memory.cached place) ∷ [] → Holds_on new e (next_at e s word)) → Keeps e.process old new
  flushes place m none advance held =
      let moves : Moves e.process Version old new = flush_moves e.process old new tn place (class_of place) m in
      let g : Grows e.process Version old new = grows_own e.process Version old new moves tn.counted in
      let my : Mine e.process Version old new moves = mine Version moves (λ c. m.cached (Head c)) (λ c is. cc) in
      let f : Framed old new = framed Version moves my (flush_any e.process old new moves sound (buffered old sound) my (text_same old new moves.layout tn.counted) place m) in
      quiet_sound e.process old new tn sound moves f.bears f.stand f.apart (keeps Version moves)
      (λ l. fits_next e s word old new t fits plain small (free Version (λ r same. cc) g) (advance (stays Version (record_no_version e.edition e.process e.number) (λ same. cc) g))
      (held (m.mine ∙ ap (λ xs. xs ++ entry place (old.memory.cached place) ∷ []) none)))

  -- the entry of the buffer is written back
  pub backs : (place : Place) (value : ℕ) → old.memory.buffer e.process ≡ entry place value ∷ [] → EntryFits old place (old.memory.cached place) value
      → (IsOwnedBy old.memory e.process place → newer (class_of place) (old.memory.persisted place) value ≡ old.memory.cached place)
      → BacksFirst e.process old.memory new.memory
      → (Known_on new e fits.since s → new.memory.persisted place ≡ newer (class_of place) (old.memory.persisted place) value → Known_on new e fits.since (next_at e s word))
      → (new.memory.buffer e.process ≡ [] → Holds_on new e (next_at e s word)) → Keeps e.process old new
  backs place value holds fitting caught first advance held =
      let m : WritesBack e.process (entry place value) [] old.memory new.memory = back_first (entry place value) [] holds first in
      let now : ℕ = newer (class_of place) (old.memory.persisted place) value in
      let b : Backs e.process old new tn place now = written_backs e.process old new tn place value [] m in
      let between : IsBetween old.layout place (old.memory.cached place) (old.memory.persisted place) now =
      newer_between old (small_counted old sound.of_sheet) place (old.memory.cached place) (old.memory.persisted place) value (sound.words place) fitting in
      let moves : Moves e.process place old new = back_moves e.process old new tn sound place now b between in
      let g : Grows e.process Version old new = back_grows e.process old new tn sound place now b between (λ o. (m.cached place, inr (m.there ∙ caught o)))
      (λ cell is. keeps_free (old.memory.cached (Mark cell)) (old.memory.persisted (Mark cell)) (new.memory.cached (Mark cell)) (new.memory.persisted (Mark cell)) (fits.holds_none cell) (m.cached (Mark cell))) in
      let my : Mine e.process place old new moves = mine place moves (λ c. m.cached (Head c)) (λ c is. heads_back old new c now sound moves.layout (keeps place moves c)
      (subst (λ (y : Place). new.memory.persisted y ≡ now) is m.there) (head_between c is between)) in
      let f : Framed old new = framed place moves my (back_any e.process place value old new moves sound (buffered old sound) my (text_same old new moves.layout tn.counted) real m) in
      back_sound e.process old new tn sound place now b between f.bears f.stand f.apart (keeps place moves)
      (λ l. fits_next e s word old new t fits plain small (free Version (λ r same. cc) g) (advance (stays Version (record_no_version e.edition e.process e.number) (λ same. cc) g) m.there) (held m.mine))
    where
      head_between : {now : ℕ} (c : ℕ) → place ≡ Head c → IsBetween old.layout place (old.memory.cached place) (old.memory.persisted place) now → (now ≡ old.memory.persisted (Head c)) ⊎ (now ≡ old.memory.cached (Head c))
      head_between {now} c is between = subst (λ (y : Place). IsBetween old.layout y (old.memory.cached y) (old.memory.persisted y) now) is between

      keeps_free : (c v c' v' : ℕ) → (IsHeldBy e.process c → ⊥) → c' ≡ c → KeepsHold e.process c v c' v'
      keeps_free c v c' v' none same = record { cached = λ h. absurd (none h); persisted = λ h k. absurd (none h); came = λ h. subst (λ (x : ℕ). IsHeldBy e.process x) same h }

  -- bits are added to a word that is nobody's own
  pub ors : (place : Place) (bits : ℕ) → ((k : ℕ) → record_place e.edition e.process e.number k ≢ place) → Announce e.process ≢ place → Version ≢ place
      → MovesWord old e.process place (old.memory.cached place) (old.memory.persisted place) (bit_or (old.memory.cached place) bits) (old.memory.persisted place)
      → (Moves e.process place old new → WordFits new place (bit_or (old.memory.cached place) bits) (old.memory.persisted place))
      → ((c : ℕ) → place ≡ Head c → ⊥) → ((c : ℕ) → place ≡ Mark c → IsClean (bit_or (old.memory.cached place) bits) → ⊥)
      → ((c : ℕ) → place ≡ Mark c → IsHeldBy e.process (bit_or (old.memory.cached place) bits) → ⊥)
      → OrsAt place bits old.memory new.memory
      → (Known_on new e fits.since s → new.memory.cached place ≡ bit_or (old.memory.cached place) bits → Known_on new e fits.since (next_at e s word))
      → (new.memory.buffer e.process ≡ old.memory.buffer e.process → Holds_on new e (next_at e s word)) → Keeps e.process old new
  ors place bits apart apart' apart'' moved word_fits no_head unclean unheld m advance held =
      let moves : Moves e.process place old new = store_moves e.process old new tn place (bit_or (old.memory.cached place) bits) apart'' moved m in
      let g : Grows e.process place old new = grows_own e.process place old new moves tn.counted in
      let my : Mine e.process place old new moves = mine place moves (λ c. m.elsewhere (Head c) (λ is. no_head c (sym is))) (λ c is. absurd (no_head c is)) in
      let f : Framed old new = framed place moves my (stored_marks e.process place old new moves
      (λ c is clean. absurd (unclean c is (subst (λ (x : ℕ). IsClean x) m.there (subst (λ (y : Place). IsClean (new.memory.cached y)) (sym is) clean)))) m.persisted m.buffer) in
      moves_sound e.process place old new moves tn.counted sound f.bears f.stand f.apart (λ cell ne. keeps place moves cell)
      (subst (λ (c : ℕ). WordFits new place c (new.memory.persisted place)) (sym m.there)
      (subst (λ (v : ℕ). WordFits new place (bit_or (old.memory.cached place) bits) v) (sym (m.persisted place)) (word_fits moves)))
      (λ l. fits_next e s word old new t fits plain small none_held (advance (stays place apart apart' g) m.there) (held (m.buffer e.process)))
    where
      none_held : HoldsNone new e.process
      none_held r by = elim (place_cases (Mark r) place) [
        | inl eq ↦ unheld r (sym eq) (subst (λ (x : ℕ). IsHeldBy e.process x) (ap new.memory.cached eq ∙ m.there) by)
        | inr ne ↦ fits.holds_none r (subst (λ (x : ℕ). IsHeldBy e.process x) (m.elsewhere (Mark r) ne) by)
      ]
