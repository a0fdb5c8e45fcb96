-- The steps by which an edit takes its place, keeps it, and marks its cell.
use Rattle.std.proofs.Common.{ℕ, ◌≡◌, ◌≢◌, ◌<◌, ◌≤◌, ◌+◌, ◌*◌, ◌/◌, ◌%◌, ◌==◌, true, List, [], ◌∷◌, ◌++◌, refl, ap, sym, ◌∙◌, subst, arith, inl, inr, zero, suc, length, length-append, Some, max, min}
use Rattle.std.specs.Prelude.{All, Contains, bit_or, slice_index_or}
use Rattle.std.proofs.lemmas.Bool.{cases_eq, eq-eqb}
use Rattle.std.proofs.lemmas.Grind.{get_or_default_zero}
use Rattle.std.proofs.lemmas.List.Elements.{All-push, All-weaker}
use Rattle.ds_words.specs.Memory.{StoresAt, FlushesAt, WritesBack}
use Rattle.ds_formula.proofs.Whole.{only_content}
use Rattle.ds_layout.specs.Places.{class_of}
use Rattle.ds_layout.specs.declared.place.Place.{Place}
use Rattle.ds_layout.specs.declared.place.Place.TheVariants as place
use Rattle.ds_layout.specs.declared.mark.TheConstants.{DIRTY}
use Rattle.ds_layout.specs.Head.{head_word}
use Rattle.ds_layout.specs.Bits.{HasBit}
use Rattle.ds_state.specs.Edits.{PlainEditCall, text_parts}
use Rattle.ds_state.specs.World.{PlainEdit, edit_of, PlainIssue, PlainWorld, record_place, index_place, of_cell, of_cell_when, head_after_all, IsHeadBy}
use Rattle.ds_state.specs.Known.{placing, inside, nothing, AreBelow, IsIn, IsHelped, row_of}
use Rattle.ds_state.specs.Owing.{entry}
use Rattle.ds_state.specs.CallsFit.{HasOne, IsHeadFrom, EditFits, HasRefs}
use Rattle.ds_state.specs.WordsFit.{RefersTo, WordFits}
use Rattle.ds_state.specs.Rely.{Keeps}
use Rattle.ds_state.specs.Sound.{IsSound}
use Rattle.ds_state.specs.declared.stage.Stage.TheVariants.{Swap, FlushOwn, BackOwn, OrMark, FlushMark, BackMark}
use Rattle.ds_state.specs.declared.situation.Situation.{Situation}
use Rattle.ds_state.specs.declared.situation.Situation.TheVariants.{Editing}
use Rattle.ds_state.proofs.Heads.{Small, small_counted, small_of_cell, of_cell-append, of_cell-own, by_most, by_last, head_push, head_low, head_high, persisted_most}
use Rattle.ds_state.proofs.Few.{of_cell_few}
use Rattle.ds_state.proofs.Noted.{when_rest, when_same}
use Rattle.ds_state.proofs.Stable.{knowing_stable, record_no_version}
use Rattle.ds_state.specs.Owing.{IsMark, Owes, Excuses, Splits}
use Rattle.ds_layout.specs.Mark.{IsHeldBy}
use Rattle.ds_state.specs.declared.stage.Outcome.TheVariants as outcome
use Rattle.ds_state.proofs.Buffers.{buffered}
use Rattle.ds_state.proofs.Dirty.{or_dirty, or_moves, or_mark_fits}
use Rattle.ds_state.proofs.Bearing.{Mine, text_same, splits_last, marks_grow, pends_last}
use Rattle.ds_state.proofs.EditSteps.{edit_mine, or_mark_passes, flush_mark_passes, back_mark_passes}
use Rattle.ds_state.proofs.EditFrame.{Framed, edit_framed, back_any}
use Rattle.ds_state.proofs.Frames.{Moves, KeepsOwing, word_bears, moves_sound}
use Rattle.ds_state.proofs.Sides.{IsBetween, newer_between}
use Rattle.ds_state.proofs.Accesses.{Turn, store_moves, Backs, written_backs, back_moves, back_grows}
use Rattle.ds_state.proofs.Counting.{Counts, MayCount, counts_sound}
use Rattle.ds_edit.specs.EditSteps.{head_after}
use Rattle.ds_edit.specs.EditTakes.{StepsAt}
use Rattle.ds_layout.specs.declared.head.TheConstants.{LAST_STAMP}
use Rattle.ds_edit.proofs.Turns.{is_within, noted_of, on, Known_on, IsPlainStep, turn, goes, fits_next, back_first}
use Rattle.ds_edit.proofs.Sorts.{flushes, backs, ors}
use Rattle.ds_edit.proofs.Placing.{head_now}
use Rattle.ds_layout.specs.declared.place.Edition.{Edition}
use Rattle.ds_state.specs.Editions.{Agrees, Shows, most_in}
use Rattle.ds_layout.specs.declared.place.Edition.TheVariants.{First}
use Rattle.ds_state.proofs.Frames.{notes, noted_in}
use Rattle.ds_words.specs.Memory.{Memory}

-- a text that fits its layout fits the first one, where a side says that
short_in : (m : Memory Place) (edition : Edition) (text : List ℕ) → Agrees m edition → length text ≤ most_in edition → Shows m First → length text ≤ most_in First
short_in m edition text a h now = let its : edition ≡ First = elim now [ inl seen ↦ sym a.cached ∙ seen | inr kept ↦ sym a.persisted ∙ kept ] in subst (λ (d : Edition). length text ≤ most_in d) its h

record_no_head : (edition : Edition) (p n cell k : ℕ) → record_place edition p n k ≢ place.Head cell
record_no_head edition p n cell zero = λ same. cc
record_no_head edition p n cell (suc k) = λ same. cc

record_no_mark : (edition : Edition) (p n cell k : ℕ) → record_place edition p n k ≢ place.Mark cell
record_no_mark edition p n cell zero = λ same. cc
record_no_mark edition p n cell (suc k) = λ same. cc

module _ (e : PlainEditCall) (word : ℕ) (old new : PlainWorld) (sound : IsSound old) where
  abbrev E : PlainEdit
  E = edit_of e

  abbrev es : List PlainEdit
  es = of_cell e.cell old.counted

  cached_is : old.memory.cached (place.Head e.cell) ≡ head_after_all es
  cached_is = (sound.words (place.Head e.cell)).last

  small_es : Small es
  small_es = small_of_cell e.cell old.counted (small_counted old sound.of_sheet)

  -- the head that follows the cell's head
  next_head : (noted : ℕ) → noted ≡ head_after_all es → head_after e noted ≡ head_after_all (es ++ E ∷ [])
  next_head noted is =
      let low = head_low es small_es in
      let high = head_high es small_es in
      let few = of_cell_few old sound e.cell in
      let stamp : min (noted / 65536 + 1) LAST_STAMP ≡ length es + 1 = omega arith in
      ap (λ (n : ℕ). head_word (record { stamp = n; process = e.process; number = e.number })) stamp ∙ sym (head_push es E)

  module _ (noted : ℕ) (fits : EditFits old e.process (on e (Swap noted))) (is : noted ≡ head_after_all es) where
    helped : IsHelped old E fits.since noted
    helped = fits.knows.head

    all_then : es ≡ of_cell_when old e.cell helped.count
    all_then =
        let rest = when_rest old e.cell helped.count in
        rest ∙ when_same (of_cell_when old e.cell helped.count) _ (subst (λ (xs : List PlainEdit). Small xs) rest small_es) (sym helped.is ∙ is ∙ ap head_after_all rest)

    -- both sides of the index rows of its references
    found : (row : ℕ) → RefersTo old.layout.shape e.text row → HasBit (old.memory.cached (index_place row e.cell)) e.cell × HasBit (old.memory.persisted (index_place row e.cell)) e.cell
    found row refers =
        let refs : HasRefs old.layout.shape e.text e.refs = fits.refs in
        let same : refers.content ≡ refs.content = only_content old.layout.shape e.text refers.content refs.content refers.reads refs.reads in
        let there : Contains e.refs row = subst (λ (x : ℕ). Contains e.refs x) refers.is (refs.all refers.cell (rw (sym same) refers.refers)) in
        let at : slice_index_or e.refs there.0 0 ≡ row = sym (get_or_default_zero e.refs there.0 row there.1) ∙ there.2 in (
          subst (λ (x : ℕ). HasBit (old.memory.cached (index_place x e.cell)) e.cell) at (fits.knows.indexed.cached there.0 there.1),
          subst (λ (x : ℕ). HasBit (old.memory.persisted (index_place x e.cell)) e.cell) at (fits.knows.indexed.persisted there.0 there.1),
        )

    may_count : old.situation e.process ≡ Editing (on e (Swap noted)) → MayCount old E
    may_count at =
        let both : Agrees old.memory e.edition = noted_of e (Swap noted) old sound at fits in
        let h = sound.words (place.Head e.cell) in
        let most = persisted_most old es (old.memory.cached (place.Head e.cell)) (old.memory.persisted (place.Head e.cell)) small_es h.last h.sides in
        let back = helped.back in
        let c = cached_is in
        let next = next_head noted is in
        record {
          of_sheet = record { process = rw fits.sheet.processes fits.is.process; number = fits.is.number; cell = rw fits.sheet.cells fits.is.cell; text = fits.is.text; short = short_in old.memory e.edition e.text both fits.is.fits };
          edition = e.edition;
          agrees = both;
          below = fits.knows.standing;
          written = λ k l. (fits.knows.recorded.cached k (omega arith), fits.knows.recorded.persisted k (omega arith));
          indexed = found;
          back = omega arith;
          grows = (let g = grown in omega arith);
          done = λ before by parts. helped.done before by (sym all_then ∙ parts);
          owes_nothing = λ r c x o. subst (λ (s : Situation). Owes old.memory e.process s r c x) at o;
          excuses_nothing = λ c x o. (subst (λ (s : Situation). Excuses old e.process s c x) at o).1;
          splits_nothing = λ c head o. (subst (λ (s : Situation). Splits old e.process s c head) at o).1;
        }
      where
        all : of_cell e.cell (old.counted ++ E ∷ []) ≡ es ++ E ∷ []
        all = of_cell-append e.cell old.counted (E ∷ []) ∙ ap (λ xs. es ++ xs) (of_cell-own E)

        grown : head_after_all es ≤ head_after_all (of_cell e.cell (old.counted ++ E ∷ []))
        grown =
            let low = head_high es small_es in
            let push = head_push es E in
            let few = of_cell_few old sound e.cell in
            let same = ap head_after_all all in
            omega arith

    -- the edit is linearized
    pub step_swap_won : old.situation e.process ≡ Editing (on e (Swap noted)) → StepsAt e (Swap noted) word old new → word ≡ noted
        → StoresAt (place.Head e.cell) (head_after e noted) old.memory new.memory → Keeps e.process old new
    step_swap_won at t same m =
        let own : ℕ = head_after e noted in
        let b : word == noted ≡ true = eq-eqb word noted same in
        let counted : new.counted ≡ old.counted ++ E ∷ [] = t.counted ∙ rw b refl in
        let there : new.situation e.process ≡ Editing (on e (FlushOwn own)) = t.situation ∙ rw b refl in
        let mine : of_cell e.cell new.counted ≡ es ++ E ∷ [] = ap (λ xs. of_cell e.cell xs) counted ∙ of_cell-append e.cell old.counted (E ∷ []) ∙ ap (λ xs. es ++ xs) (of_cell-own E) in
        let own_is : own ≡ head_after_all (of_cell e.cell new.counted) = next_head noted is ∙ ap head_after_all (sym mine) in
        let issue : PlainIssue = record { edit = E; since = fits.since } in
        let pends : new.open_edits e.process ≡ Some issue = t.open_edits ∙ fits.open_edits in
        let counts : Counts E issue old new = record {
          layout = t.layout;
          counted = counted;
          memory = subst (λ (x : ℕ). StoresAt (place.Head e.cell) x old.memory new.memory) own_is m;
          situations = t.others;
          pendings = t.others_open_edits;
          open_edits = pends;
          same = refl;
          goes = notes e.edition (is_within e (Swap noted) old fits) (ap noted_in at) (ap noted_in there);
          owes = subst (λ (s : Situation). Splits new e.process s e.cell (head_after_all (of_cell e.cell new.counted))) (sym there) (refl, own_is);
        } in
        let below : AreBelow new e.process (e.number + 1) = subst (λ (xs : List PlainEdit). All (λ f. f.process ≡ e.process → f.number < e.number + 1) xs) (sym counted)
        (All-push (λ (f : PlainEdit). f.process ≡ e.process → f.number < e.number + 1) old.counted E
        (All-weaker (λ (f : PlainEdit). f.process ≡ e.process → f.number < e.number) (λ (f : PlainEdit). f.process ≡ e.process → f.number < e.number + 1) (λ f h k. let l = h k in omega arith) old.counted fits.knows.standing)
        (λ k. omega arith)) in
        let knows : Known_on new e fits.since (FlushOwn own) = record {
          standing = record {
            below = below;
            head = subst (λ (xs : List PlainEdit). IsHeadBy xs own E) (sym mine) (subst (λ (x : ℕ). IsHeadBy (es ++ E ∷ []) x E) (sym (next_head noted is)) (by_last es E));
          };
          recorded = record {
            cached = λ k l. m.elsewhere (record_place e.edition e.process e.number k) (record_no_head e.edition e.process e.number e.cell k) ∙ fits.knows.recorded.cached k l;
            persisted = λ k l. m.persisted (record_place e.edition e.process e.number k) ∙ fits.knows.recorded.persisted k l;
            fewer = fits.knows.recorded.fewer;
          };
          announced = record {
            cached = m.elsewhere (place.Announce e.process) (λ same'. cc) ∙ fits.knows.announced.cached;
            persisted = rw (m.persisted (place.Announce e.process)) fits.knows.announced.persisted;
          };
          indexed = record {
            cached = λ i l. rw (m.elsewhere (row_of E e.refs i) (λ same'. cc)) (fits.knows.indexed.cached i l);
            persisted = λ i l. rw (m.persisted (row_of E e.refs i)) (fits.knows.indexed.persisted i l);
          };
          ored = tt;
          head = tt;
        } in
        counts_sound E issue old new counts (may_count at) sound (buffered old sound) (rw there (record {
          mine = refl;
          is = record {
            process = fits.is.process;
            processes = fits.is.processes;
            number = fits.is.number;
            cell = fits.is.cell;
            cells = fits.is.cells;
            text = fits.is.text;
            fits = fits.is.fits;
            refs = fits.is.refs;
            stage = tt;
          };
          sheet = record { cells = rw t.layout fits.sheet.cells; processes = rw t.layout fits.sheet.processes };
          refs = rw t.layout fits.refs;
          since = fits.since;
          open_edits = pends;
          issued = (let l = ap length counted in let i = fits.issued in omega (arith, length-append old.counted (E ∷ [])));
          holds_none = λ r by. fits.holds_none r (subst (λ (x : ℕ). IsHeldBy e.process x) (m.elsewhere (place.Mark r) (λ same'. cc)) by);
          knows = knows;
          buffer = m.buffer e.process ∙ fits.buffer;
        }))

  pub step_flush_own : (own : ℕ) → old.situation e.process ≡ Editing (on e (FlushOwn own)) → (fits : EditFits old e.process (on e (FlushOwn own))) → StepsAt e (FlushOwn own) word old new → Keeps e.process old new
  step_flush_own own at fits t =
      let m : FlushesAt e.process (place.Head e.cell) (class_of (place.Head e.cell)) old.memory new.memory = t.memory.1 in
      let counted : new.counted ≡ old.counted = (turn e (FlushOwn own) word old new t at (is_within e (FlushOwn own) old fits) refl).counted in
      let stands : IsIn old E own = fits.knows.standing in
      let from : IsHeadFrom old e.cell own (old.memory.cached (place.Head e.cell)) = head_now old sound E own E stands.head in
      flushes e (FlushOwn own) word old new sound at fits t (record { goes_on = refl; counts = refl; pends = λ i. refl }) (rw t.memory.0 (omega arith)) (λ head o. o) (λ x k o. tt) (place.Head e.cell) m fits.buffer
      (λ known. known)
      (λ alone. record {
        value = old.memory.cached (place.Head e.cell);
        alone = alone;
        is = record {
          enough = from.enough;
          by = from.by;
          head = subst (λ (xs : List PlainEdit). IsHeadBy (of_cell e.cell xs) (old.memory.cached (place.Head e.cell)) from.by) (sym counted) from.head;
        };
      })

  pub step_or_mark : (own : ℕ) → old.situation e.process ≡ Editing (on e (OrMark own)) → (fits : EditFits old e.process (on e (OrMark own))) → StepsAt e (OrMark own) word old new → Keeps e.process old new
  step_or_mark own at fits t =
      let there : Place = place.Mark e.cell in
      let tn : Turn e.process old new = turn e (OrMark own) word old new t at (is_within e (OrMark own) old fits) refl in
      let c : ℕ = old.memory.cached there in
      let v : ℕ = old.memory.persisted there in
      let is : bit_or c DIRTY ≡ c / 2 * 2 + 1 = or_dirty c in
      let odd : bit_or c DIRTY % 2 ≡ 1 = omega arith in
      let moves : Moves e.process there old new = store_moves e.process old new tn there (bit_or c DIRTY) (λ same. cc) (or_moves e.process c v) t.memory.1 in
      ors e (OrMark own) word old new sound at fits t (record { goes_on = refl; counts = refl; pends = λ i. refl }) (rw t.memory.0 (omega arith)) (λ head o. absurd o)
      (λ x k o. or_mark_passes e.process e own (bit_or c DIRTY) old new sound (buffered old sound) odd t.memory.1 moves x k o) there DIRTY
      (record_no_mark e.edition e.process e.number e.cell) (λ same. cc) (λ same. cc) (or_moves e.process c v)
      (λ moves'. or_mark_fits new e.cell c v (word_bears e.process there old new moves tn.counted there c v (λ cell is. cc) (λ cell is a. elim is [ inl x ↦ cc | inr x ↦ cc ]) (λ edition q n part is. cc) (sound.words there)))
      (λ d is'. cc) (λ d is' clean. (let o = odd in omega arith))
      (λ d is' by. fits.holds_none e.cell (let k = is in omega arith))
      t.memory.1
      (λ known now. known)
      (λ same. same ∙ fits.buffer)

  pub step_flush_mark : (own : ℕ) → old.situation e.process ≡ Editing (on e (FlushMark own)) → (fits : EditFits old e.process (on e (FlushMark own))) → StepsAt e (FlushMark own) word old new → Keeps e.process old new
  step_flush_mark own at fits t =
      let there : Place = place.Mark e.cell in
      let m : FlushesAt e.process there (class_of there) old.memory new.memory = t.memory.1 in
      flushes e (FlushMark own) word old new sound at fits t (record { goes_on = refl; counts = refl; pends = λ i. refl }) (rw t.memory.0 (omega arith)) (λ head o. absurd o)
      (λ x k o. flush_mark_passes e.process e own old new (m.mine ∙ ap (λ xs. xs ++ entry there (old.memory.cached there) ∷ []) fits.buffer) x k o) there m fits.buffer
      (λ known. known)
      (λ alone. record { value = old.memory.cached there; alone = alone; is = ((let c = m.cached there in omega arith), λ q by. rw t.layout ((sound.words there).holder q by)) })

  pub step_back_mark : (own : ℕ) → old.situation e.process ≡ Editing (on e (BackMark own)) → (fits : EditFits old e.process (on e (BackMark own))) → StepsAt e (BackMark own) word old new → Keeps e.process old new
  step_back_mark own at fits t =
      let there : Place = place.Mark e.cell in
      let one : HasOne old e.process there (λ value. (value ≤ old.memory.cached there) × IsMark old.layout e.cell value) = fits.buffer in
      let m : WritesBack e.process (entry there one.value) [] old.memory new.memory = back_first (entry there one.value) [] one.alone t.memory.1 in
      let now : new.memory.persisted there ≡ max (old.memory.persisted there) one.value = m.there in
      let c = m.cached there in
      let most = one.is.0 in
      let behind = (sound.words there).behind in
      backs e (BackMark own) word old new sound at fits t (record { goes_on = refl; counts = refl; pends = λ i. refl }) (rw t.memory.0 (omega arith)) (λ head o. absurd o)
      (λ x k o. back_mark_passes e.process e own one.value outcome.Done old new one.alone (omega arith) (omega arith) x k o) there one.value one.alone one.is (λ o. absurd o) t.memory.1
      (λ known now. known)
      (λ empty. empty)

  others_split : Moves e.process (place.Head e.cell) old new → ((q : ℕ) → q ≢ e.process → new.situation q ≡ old.situation q) → (q : ℕ) → q ≢ e.process → (c head : ℕ) → Splits old q (old.situation q) c head → Splits new q (new.situation q) c head
  others_split moves others q ne c head o = subst (λ (x : Situation). Splits new q x c head) (sym (others q ne))
      (splits_last old new q (λ d. marks_grow e.process (place.Head e.cell) old new moves d) (moves.buffers q ne) (λ d k. pends_last e.process (place.Head e.cell) old new moves q d ne k) (old.situation q) c head o)

  -- its head, or a later one, is persisted: the edit no longer owes it
  pub step_back_own : (own : ℕ) → old.situation e.process ≡ Editing (on e (BackOwn own)) → (fits : EditFits old e.process (on e (BackOwn own))) → StepsAt e (BackOwn own) word old new → Keeps e.process old new
  step_back_own own at fits t =
      let there : Place = place.Head e.cell in
      let c : ℕ = old.memory.cached there in
      let v : ℕ = old.memory.persisted there in
      let one : HasOne old e.process there (IsHeadFrom old e.cell own) = fits.buffer in
      let plain : IsPlainStep e (BackOwn own) word = record { goes_on = refl; counts = refl; pends = λ i. refl } in
      let tn : Turn e.process old new = turn e (BackOwn own) word old new t at (is_within e (BackOwn own) old fits) refl in
      let m : WritesBack e.process (entry there one.value) [] old.memory new.memory = back_first (entry there one.value) [] one.alone t.memory.1 in
      let b : Backs e.process old new tn there (max v one.value) = written_backs e.process old new tn there one.value [] m in
      let between : IsBetween old.layout there c v (max v one.value) = newer_between old (small_counted old sound.of_sheet) there c v one.value (sound.words there) (one.is.by, one.is.head) in
      let moves : Moves e.process there old new = back_moves e.process old new tn sound there (max v one.value) b between in
      let g = back_grows e.process old new tn sound there (max v one.value) b between (λ o. absurd o) (λ cell is. cc) in
      let known : Known_on new e fits.since (BackOwn own) = knowing_stable place.Version old new E g e.edition (noted_of e (BackOwn own) old sound at fits).cached (record_no_version e.edition e.process e.number) (λ same. cc) e.refs fits.since (placing (text_parts e.text) (length e.refs) (inside own) nothing) fits.knows in
      let enough = one.is.enough in
      let now : new.memory.persisted there ≡ max v one.value = m.there in
      let knows : Known_on new e fits.since (OrMark own) = record {
        standing = record {
          below = known.standing.below;
          safe = record { own = own; head = known.standing.head; persisted = omega arith };
        };
        recorded = known.recorded;
        announced = known.announced;
        indexed = known.indexed;
        ored = tt;
        head = tt;
      } in
      let most : own ≤ c = let l = by_most es own E small_es (fits.knows.standing).head in let is = cached_is in omega arith in
      let value_most : one.value ≤ c = let l = by_most es one.value one.is.by small_es one.is.head in let is = cached_is in omega arith in
      let went : new.situation e.process ≡ Editing (on e (OrMark own)) = goes e (BackOwn own) word old new t plain in
      let keeps_other : (cell : ℕ) → place.Head cell ≢ there → KeepsOwing old new cell = λ cell ne f issue its is was_same before last_of owes. elim (cases_eq f.process e.process) [
        | inr other ↦ (t.others_open_edits f.process other ∙ is, others_split moves t.others f.process other f.cell _ owes)
        | inl mine ↦ absurd (
            let k : Splits old e.process (Editing (on e (BackOwn own))) f.cell (head_after_all (of_cell cell old.counted)) =
            subst (λ (x : Situation). Splits old e.process x f.cell (head_after_all (of_cell cell old.counted))) at (subst (λ (q : ℕ). Splits old q (old.situation q) f.cell (head_after_all (of_cell cell old.counted))) mine owes) in
            ne (ap (λ (x : ℕ). place.Head x) (sym its ∙ sym k.0)))
      ] in
      let my : Mine e.process there old new moves = edit_mine e.process e (BackOwn own) (OrMark own) there old new moves at went fits.holds_none (λ x k o. tt) (λ d. m.cached (place.Head d))
      (λ d is. inr (λ x. (let same : e.cell ≡ d = cc in record { process = e.process; inside = rw (t.layout, fits.sheet.processes) fits.is.process; still = subst (λ (y : Situation). Excuses new e.process y d x) (sym went) (same, tt) }))) in
      let fr : Framed old new = edit_framed e.process e (BackOwn own) (OrMark own) there old new moves tn.counted at went sound (buffered old sound) my
      (back_any e.process there one.value old new moves sound (buffered old sound) my (text_same old new moves.layout tn.counted) (rw fits.sheet.processes fits.is.process) m) in
      let fitting : WordFits new there (new.memory.cached there) (new.memory.persisted there) = record {
        last = m.cached there ∙ cached_is ∙ ap (λ xs. head_after_all (of_cell e.cell xs)) (sym tn.counted);
        sides = elim (sound.words there).sides [
          | inl same ↦ inl (let k = m.cached there in omega arith)
          | inr w ↦ elim (cases_eq w.last.process e.process) [
            | inl mine ↦ inl (
                let owed : own ≡ head_after_all es = (subst (λ (x : Situation). Splits old e.process x w.last.cell (head_after_all es)) at (subst (λ (q : ℕ). Splits old q (old.situation q) w.last.cell (head_after_all es)) mine w.owes)).1 in
                let is = cached_is in
                let p = persisted_most old es c v small_es cached_is (inr w) in
                let k = m.cached there in
                omega arith)
            | inr other ↦ elim between [
              | inl stays ↦ inr (record {
                before = w.before;
                last = w.last;
                parts = ap (λ xs. of_cell e.cell xs) tn.counted ∙ w.parts;
                is = now ∙ stays ∙ w.is;
                issue = w.issue;
                open_edits = t.others_open_edits w.last.process other ∙ w.open_edits;
                same = w.same;
                owes = subst (λ (xs : List PlainEdit). Splits new w.last.process (new.situation w.last.process) w.last.cell (head_after_all (of_cell e.cell xs))) (sym tn.counted) (others_split moves t.others w.last.process other w.last.cell _ w.owes);
              })
              | inr all ↦ inl (now ∙ all ∙ sym (m.cached there))
            ]
          ]
        ];
      } in
      moves_sound e.process there old new moves tn.counted sound fr.bears fr.stand fr.apart keeps_other fitting
      (λ l. fits_next e (BackOwn own) word old new t fits plain (rw t.memory.0 (omega arith)) (λ r by. fits.holds_none r (subst (λ (x : ℕ). IsHeldBy e.process x) (m.cached (place.Mark r)) by)) knows m.mine)
