-- The steps by which an edit notes its cell's head, helps its edit, and takes its place.
use Rattle.std.proofs.Common.{ℕ, ◌≡◌, ◌≢◌, ◌<◌, ◌≤◌, ◌+◌, ◌/◌, ◌^◌, ◌==◌, false, List, [], ◌∷◌, ◌++◌, refl, ap, sym, ◌∙◌, subst, arith, inl, inr, zero, suc, length, length-append, Some, None}
use Rattle.std.specs.Prelude.{Option, bit_or}
use Rattle.std.proofs.lemmas.Bool.Decides.{eqb_tells}
use Rattle.ds_words.specs.Memory.{SameMemory, FlushesAt}
use Rattle.ds_layout.specs.Places.{class_of}
use Rattle.ds_layout.specs.declared.place.Place.{Place}
use Rattle.ds_layout.specs.declared.place.Place.TheVariants as place
use Rattle.ds_layout.specs.declared.head.Head.{Head}
use Rattle.ds_layout.specs.Head.{head_word, head_of}
use Rattle.ds_layout.specs.Bits.{HasBit, IsSubset, bit_of}
use Rattle.ds_layout.proofs.OrBits.{HasBit-or_bit, HasBit-subset, IsSubset-same, IsSubset-or_left, IsSubset-or_right}
use Rattle.ds_state.specs.Edits.{PlainEditCall, text_parts}
use Rattle.ds_state.specs.World.{PlainEdit, edit_of, PlainWorld, record_place, done_place, of_cell, of_cell_when, head_after_all, IsHeadBy}
use Rattle.ds_state.specs.Known.{placing, outside, nothing, head_noted, head_back, bit_set, bit_back, Knowing, Knows, IsWhen, IsNoted, IsHelped, IsLate, IsDone}
use Rattle.ds_state.specs.CallsFit.{HasOne, IsHeadFrom, IsBits, EditFits}
use Rattle.ds_state.specs.WordsFit.{IsKept}
use Rattle.ds_state.specs.Rely.{Keeps}
use Rattle.ds_state.specs.Sound.{IsSound}
use Rattle.ds_state.specs.declared.stage.Outcome.TheVariants as outcome
use Rattle.ds_state.specs.declared.stage.Stage.{Stage}
use Rattle.ds_state.specs.declared.stage.Stage.TheVariants.{LoadHead, FlushNoted, BackNoted, OrDone, FlushDone, BackDone, Swap, StoreOutcome}
use Rattle.ds_state.specs.declared.situation.Situation.TheVariants.{Editing}
use Rattle.ds_state.proofs.Heads.{Small, small_counted, small_of_cell, cell_of-middle, by_most, by_last, head_push, head_high}
use Rattle.ds_state.proofs.Few.{of_cell_few}
use Rattle.ds_state.proofs.Noted.{last_cases, last_same, when_now, when_rest, noted_by, when_most, head_reads}
use Rattle.ds_state.proofs.Frames.{word_bears, kept_stable}
use Rattle.ds_state.proofs.Sides.{done_or_fits}
use Rattle.ds_edit.specs.EditSteps.{next_at, help_from}
use Rattle.ds_edit.specs.EditTakes.{StepsAt}
use Rattle.ds_edit.proofs.Turns.{is_within, on, Known_on, Holds_on, IsPlainStep, turn}
use Rattle.ds_edit.proofs.Sorts.{loads, flushes, backs, ors}
use Rattle.ds_layout.specs.declared.place.Edition.{Edition}

record_no_done : (edition : Edition) (p n q part k : ℕ) → record_place edition p n k ≢ place.Done q part
record_no_done edition p n q part zero = λ same. cc
record_no_done edition p n q part (suc k) = λ same. cc

no_head : (xs : List PlainEdit) → xs ≡ [] → head_after_all xs ≡ 0
unfolding head_after_all
no_head xs none = ap head_after_all none

-- what else is known stays, where more is known of the head
pub knows_head : (w : PlainWorld) (e : PlainEditCall) (since : ℕ) (k h : _) → Knowing w e.edition (edit_of e) e.refs since (placing (text_parts e.text) (length e.refs) outside k) → Knows w (edit_of e) since h
    → Knowing w e.edition (edit_of e) e.refs since (placing (text_parts e.text) (length e.refs) outside h)
knows_head w e since k h known now = record {
  standing = known.standing;
  recorded = known.recorded;
  announced = known.announced;
  indexed = known.indexed;
  ored = known.ored;
  head = now;
}

-- a head of the cell, the noted one or a later one
pub head_now : (w : PlainWorld) → IsSound w → (e : PlainEdit) (least : ℕ) (by : PlainEdit) → IsHeadBy (of_cell e.cell w.counted) least by → IsHeadFrom w e.cell least (w.memory.cached (place.Head e.cell))
head_now w sound e least by h =
    let es : List PlainEdit = of_cell e.cell w.counted in
    let fits = (sound.words (place.Head e.cell)).last in
    let most = by_most es least by (small_of_cell e.cell w.counted (small_counted w sound.of_sheet)) h in
    elim (last_cases es) [
      | inl none ↦ (
          let l : length (h.before ++ by ∷ h.after) ≡ 0 = ap length (sym h.parts ∙ none) in
          absurd (omega (arith, length-append h.before (by ∷ h.after))))
      | inr found ↦ record {
        enough = omega arith;
        by = found.1;
        head = subst (λ (word : ℕ). IsHeadBy es word found.1) (sym fits)
            (subst (λ (xs : List PlainEdit). IsHeadBy xs (head_after_all xs) found.1) (sym found.2) (by_last found.0 found.1));
      }
    ]

ends : (xs : List PlainEdit) (word : ℕ) (before : List PlainEdit) (by : PlainEdit) → xs ≡ before ++ by ∷ [] → word ≡ head_after_all xs → IsHeadBy xs word by
ends xs word before by parts is = record { before = before; after = []; parts = parts; is = is ∙ ap head_after_all parts ∙ head_push before by }

module _ (e : PlainEditCall) (word : ℕ) (old new : PlainWorld) (sound : IsSound old) where
  abbrev E : PlainEdit
  E = edit_of e

  abbrev es : List PlainEdit
  es = of_cell e.cell old.counted

  cached_is : old.memory.cached (place.Head e.cell) ≡ head_after_all es
  cached_is = (sound.words (place.Head e.cell)).last

  small_es : Small es
  small_es = small_of_cell e.cell old.counted (small_counted old sound.of_sheet)

  head_small : head_after_all es < 2 ^ 64
  head_small =
      let high = head_high es small_es in
      let few = of_cell_few old sound e.cell in
      omega arith

  pub step_load_head : old.situation e.process ≡ Editing (on e LoadHead) → (fits : EditFits old e.process (on e LoadHead)) → StepsAt e LoadHead word old new → Keeps e.process old new
  step_load_head at fits t =
      let m : SameMemory old.memory new.memory = t.memory.1 in
      let seen : word ≡ head_after_all es = t.memory.0 ∙ cached_is in
      let plain : IsPlainStep e LoadHead word = record { goes_on = refl; counts = refl; pends = λ i. refl } in
      let counted : new.counted ≡ old.counted = (turn e LoadHead word old new t at (is_within e LoadHead old fits) refl).counted in
      let empty : new.memory.buffer e.process ≡ [] = m.buffer e.process ∙ fits.buffer in
      let processes : old.layout.processes ≡ e.processes = fits.sheet.processes in
      let when : IsWhen new fits.since (length new.counted) = record { late = (let i = fits.issued in let l = ap length counted in omega arith); there = omega arith } in
      let all : of_cell_when new e.cell (length new.counted) ≡ es = when_now new e.cell ∙ ap (λ xs. of_cell e.cell xs) counted in
      loads e LoadHead word old new sound at fits t plain (rw seen head_small) (λ head o. absurd o) (λ x k o. absurd o) m
      (λ known. elim (last_cases es) [
        | inl none ↦ (
            let z : word ≡ 0 = seen ∙ no_head es none in
            let found : head_of e.processes word ≡ None = ap (λ x. head_of e.processes x) z in
            subst (λ (o : Option Head). Known_on new e fits.since (help_from word o)) (sym found)
            (knows_head new e fits.since nothing (bit_back word) known (record {
              count = length new.counted;
              when = when;
              is = seen ∙ ap head_after_all (sym all);
              back = omega arith;
              done = λ before by parts. (
                  let l : length (before ++ by ∷ []) ≡ 0 = ap length (sym parts ∙ all ∙ none) in
                  absurd (omega (arith, length-append before (by ∷ []))));
            })))
        | inr last ↦ (
            let h : Head = record { stamp = length last.0 + 1; process = last.1.process; number = last.1.number } in
            let found : head_of e.processes word ≡ Some h = ap (λ x. head_of e.processes x) seen ∙ ap (λ p. head_of p (head_after_all es)) (sym processes) ∙ head_reads old sound e.cell last.0 last.1 last.2 in
            subst (λ (o : Option Head). Known_on new e fits.since (help_from word o)) (sym found)
            (knows_head new e fits.since nothing (head_noted h) known (record {
              count = length new.counted;
              when = when;
              before = last.0;
              by = last.1;
              parts = all ∙ last.2;
              process = refl;
              number = refl;
              word = sym (head_push last.0 last.1);
            })))
      ])
      (holds_help (head_of e.processes word) empty)
    where
      holds_help : (o : Option Head) → new.memory.buffer e.process ≡ [] → Holds_on new e (help_from word o)
      holds_help None h = h
      holds_help (Some head) h = h

  pub step_flush_noted : (head : Head) → old.situation e.process ≡ Editing (on e (FlushNoted head)) → (fits : EditFits old e.process (on e (FlushNoted head))) → StepsAt e (FlushNoted head) word old new → Keeps e.process old new
  step_flush_noted head at fits t =
      let m : FlushesAt e.process (place.Head e.cell) (class_of (place.Head e.cell)) old.memory new.memory = t.memory.1 in
      let noted : IsNoted old E fits.since head = fits.knows.head in
      let counted : new.counted ≡ old.counted = (turn e (FlushNoted head) word old new t at (is_within e (FlushNoted head) old fits) refl).counted in
      let from : IsHeadFrom old e.cell (head_word head) (old.memory.cached (place.Head e.cell)) = head_now old sound E (head_word head) noted.by (noted_by old E fits.since head noted) in
      flushes e (FlushNoted head) word old new sound at fits t (record { goes_on = refl; counts = refl; pends = λ i. refl }) (rw t.memory.0 (omega arith)) (λ h o. absurd o) (λ x k o. absurd o) (place.Head e.cell) m fits.buffer
      (λ known. known)
      (λ alone. record {
        value = old.memory.cached (place.Head e.cell);
        alone = alone;
        is = record {
          enough = from.enough;
          by = from.by;
          head = subst (λ (xs : List PlainEdit). IsHeadBy (of_cell e.cell xs) (old.memory.cached (place.Head e.cell)) from.by) (sym counted) from.head;
        };
      })

  pub step_back_noted : (head : Head) → old.situation e.process ≡ Editing (on e (BackNoted head)) → (fits : EditFits old e.process (on e (BackNoted head))) → StepsAt e (BackNoted head) word old new → Keeps e.process old new
  step_back_noted head at fits t =
      let one : HasOne old e.process (place.Head e.cell) (IsHeadFrom old e.cell (head_word head)) = fits.buffer in
      backs e (BackNoted head) word old new sound at fits t (record { goes_on = refl; counts = refl; pends = λ i. refl }) (rw t.memory.0 (omega arith)) (λ h o. absurd o) (λ x k o. absurd o) (place.Head e.cell) one.value one.alone (one.is.by, one.is.head) (λ o. absurd o) t.memory.1
      (λ known now. knows_head new e fits.since (head_noted head) (head_back head) known (known.head, (let enough = one.is.enough in omega arith)))
      (λ empty. empty)

  pub step_or_done : (head : Head) → old.situation e.process ≡ Editing (on e (OrDone head)) → (fits : EditFits old e.process (on e (OrDone head))) → StepsAt e (OrDone head) word old new → Keeps e.process old new
  step_or_done head at fits t =
      let noted : IsNoted old E fits.since head = fits.knows.head.0 in
      let by : IsHeadBy es (head_word head) noted.by = noted_by old E fits.since head noted in
      let its : noted.by.cell ≡ e.cell = cell_of-middle e.cell old.counted by.before noted.by by.after by.parts in
      let back : head_word head ≤ old.memory.persisted (place.Head e.cell) = fits.knows.head.1 in
      let kept : IsKept old head.process head.number = record {
        edit = noted.by;
        process_is = sym noted.process;
        number_is = sym noted.number;
        safe = record {
          own = head_word head;
          head = subst (λ (cell : ℕ). IsHeadBy (of_cell cell old.counted) (head_word head) noted.by) (sym its) by;
          persisted = subst (λ (cell : ℕ). head_word head ≤ old.memory.persisted (place.Head cell)) (sym its) back;
        };
      } in
      let there : Place = done_place head.process head.number in
      ors e (OrDone head) word old new sound at fits t (record { goes_on = refl; counts = refl; pends = λ i. refl }) (rw t.memory.0 (omega arith)) (λ h o. absurd o) (λ x k o. absurd o) there (bit_of head.number)
      (record_no_done e.edition e.process e.number head.process (head.number / 64)) (λ same. cc) (λ same. cc)
      (IsSubset-or_left (old.memory.cached there) (bit_of head.number), IsSubset-same (old.memory.persisted there))
      (λ moves. done_or_fits new head.process head.number (old.memory.cached there) (old.memory.persisted there) (kept_stable e.process there old new moves (turn e _ word old new t at (is_within e _ old fits) refl).counted head.process head.number kept)
      (word_bears e.process there old new moves (turn e _ word old new t at (is_within e _ old fits) refl).counted there (old.memory.cached there) (old.memory.persisted there) (λ cell is. cc) (λ cell is a. elim is [ inl x ↦ cc | inr x ↦ cc ]) (λ edition q n part is. cc) (sound.words there)))
      (λ c is. cc) (λ c is k. cc) (λ c is k. cc)
      t.memory.1
      (λ known now. knows_head new e fits.since (head_back head) (bit_set head) known (known.head.0, known.head.1, rw now (HasBit-or_bit (old.memory.cached there) head.number)))
      (λ same. same ∙ fits.buffer)

  pub step_flush_done : (head : Head) → old.situation e.process ≡ Editing (on e (FlushDone head)) → (fits : EditFits old e.process (on e (FlushDone head))) → StepsAt e (FlushDone head) word old new → Keeps e.process old new
  step_flush_done head at fits t =
      let there : Place = done_place head.process head.number in
      let m : FlushesAt e.process there (class_of there) old.memory new.memory = t.memory.1 in
      flushes e (FlushDone head) word old new sound at fits t (record { goes_on = refl; counts = refl; pends = λ i. refl }) (rw t.memory.0 (omega arith)) (λ h o. absurd o) (λ x k o. absurd o) there m fits.buffer
      (λ known. known)
      (λ alone. record {
        value = old.memory.cached there;
        alone = alone;
        is = record { has = fits.knows.head.2; subset = subst (λ (c : ℕ). IsSubset (old.memory.cached there) c) (sym (m.cached there)) (IsSubset-same (old.memory.cached there)) };
      })

  pub step_back_done : (head : Head) → old.situation e.process ≡ Editing (on e (BackDone head)) → (fits : EditFits old e.process (on e (BackDone head))) → StepsAt e (BackDone head) word old new → Keeps e.process old new
  step_back_done head at fits t =
      let there : Place = done_place head.process head.number in
      let one : HasOne old e.process there (IsBits old there head.number) = fits.buffer in
      backs e (BackDone head) word old new sound at fits t (record { goes_on = refl; counts = refl; pends = λ i. refl }) (rw t.memory.0 (omega arith)) (λ h o. absurd o) (λ x k o. absurd o) there one.value one.alone one.is.subset (λ o. absurd o) t.memory.1
      (λ known now. knows_head new e fits.since (bit_set head) (bit_back (head_word head)) known (
      let noted : IsNoted new E fits.since head = known.head.0 in
      let has : HasBit (new.memory.persisted there) head.number = rw now (HasBit-subset one.value (bit_or (old.memory.persisted there) one.value) head.number (IsSubset-or_right (old.memory.persisted there) one.value) one.is.has) in
      record {
        count = noted.count;
        when = noted.when;
        is = noted.word ∙ ap head_after_all (sym noted.parts);
        back = known.head.1;
        done = λ before by parts. (
            let same : by ≡ noted.by = last_same noted.before noted.by before by (sym noted.parts ∙ parts) in
            let its : IsDone new noted.by.process noted.by.number = subst (λ (n : ℕ). IsDone new noted.by.process n) noted.number (subst (λ (p : ℕ). IsDone new p head.number) noted.process has) in
            subst (λ (x : PlainEdit). IsDone new x.process x.number) (sym same) its);
      }))
      (λ empty. empty)

  -- another head came between
  pub step_swap_lost : (noted : ℕ) → old.situation e.process ≡ Editing (on e (Swap noted)) → (fits : EditFits old e.process (on e (Swap noted))) → StepsAt e (Swap noted) word old new
      → word ≡ old.memory.cached (place.Head e.cell) → word ≢ noted → SameMemory old.memory new.memory → Keeps e.process old new
  step_swap_lost noted at fits t seen ne m =
      let f : word == noted ≡ false = elim (eqb_tells word noted) [ inl same ↦ absurd (ne same.1) | inr differs ↦ differs.0 ] in
      let plain : IsPlainStep e (Swap noted) word = record { goes_on = refl; counts = rw f refl; pends = λ i. refl } in
      let next : next_at e (Swap noted) word ≡ StoreOutcome (outcome.Overtaken noted word) = rw f refl in
      let counted : new.counted ≡ old.counted = (turn e (Swap noted) word old new t at (is_within e (Swap noted) old fits) plain.counts).counted in
      loads e (Swap noted) word old new sound at fits t plain (rw (seen ∙ cached_is) head_small) (λ head o. absurd o) (λ x k o. absurd o) m
      (λ known. subst (λ (x : Stage). Known_on new e fits.since x) (sym next) (
      let h : IsHelped new E fits.since noted = known.head in
      let now : word ≡ head_after_all (of_cell e.cell new.counted) = seen ∙ cached_is ∙ ap (λ xs. head_after_all (of_cell e.cell xs)) (sym counted) in
      let rest = when_rest new e.cell h.count in
      let small : Small (of_cell e.cell new.counted) = subst (λ (xs : List PlainEdit). Small (of_cell e.cell xs)) (sym counted) small_es in
      let le = when_most (of_cell_when new e.cell h.count) _ (subst (λ (xs : List PlainEdit). Small xs) rest small) in
      let all = ap head_after_all rest in
      let is = h.is in
      let greater : noted < word = omega arith in
      let last : (before : List PlainEdit) × (by : PlainEdit) × (of_cell e.cell new.counted ≡ before ++ by ∷ []) = elim (last_cases (of_cell e.cell new.counted)) [
        | inl none ↦ absurd (let z = no_head (of_cell e.cell new.counted) none in omega arith)
        | inr found ↦ found
      ] in
      let late : IsLate new E fits.since noted word = record {
        count = h.count;
        when = h.when;
        is = h.is;
        greater = greater;
        by = last.1;
        head = ends (of_cell e.cell new.counted) word last.0 last.1 last.2 now;
      } in
      record {
        standing = known.standing;
        recorded = known.recorded;
        announced = known.announced;
        indexed = known.indexed;
        ored = known.ored;
        head = late;
      }))
      (subst (λ (x : Stage). Holds_on new e x) (sym next) (m.buffer e.process ∙ fits.buffer))
