-- Where every mark of the sheet is clean and no announcement is pending, the values are those of the linearized edits,
-- from scratch.
use Rattle.std.proofs.Common.{ℕ, ◌≡◌, ◌<◌, ◌≤◌, ◌+◌, ◌⊎◌, List, [], ◌∷◌, ◌++◌, refl, ap, sym, ◌∙◌, subst, arith, append_assoc, inl, inr, Some, None, length, map}
use Rattle.std.specs.Prelude.{Option}
use Rattle.std.specs.List.{range_with_len}
use Rattle.std.proofs.lemmas.Bool.{cases_lt}
use Rattle.std.proofs.lemmas.Option.{slice_get-get_or}
use Rattle.std.proofs.lemmas.List.FromFn.{length-map-range_with_len, get_or-map-range_with_len}
use Rattle.ds_formula.specs.Cells.{IsInside, index_of}
use Rattle.ds_formula.specs.declared.cells.Cell.{Cell}
use Rattle.ds_formula.specs.declared.cells.Shape.{Shape}
use Rattle.ds_formula.specs.Plain.{PlainContent, Empty}
use Rattle.ds_formula.specs.Refs.{Refers}
use Rattle.ds_formula.specs.Grammar.{Reads}
use Rattle.ds_eval.specs.declared.inputs.Entry as entries
use Rattle.ds_eval.specs.declared.value.Value as values
use Rattle.ds_eval.specs.Local.{local}
use Rattle.ds_eval.specs.Scratch.{at, or_blank}
use Rattle.ds_eval.proofs.Neighbours as neighbours
use Rattle.ds_eval.proofs.FixedPoint.{fixed_point}
use Rattle.ds_eval.proofs.Walks.{index_below}
use Rattle.ds_layout.specs.declared.announcement.Phase.TheVariants as phase
use Rattle.ds_layout.specs.Places.{cells_of}
use Rattle.ds_layout.specs.declared.place.Place.TheVariants.{Head, Value, Kind, Announce}
use Rattle.ds_layout.specs.declared.place.TheConstants.{RECORDS}
use Rattle.ds_layout.proofs.Packed.{announcement_of-announcement_word}
use Rattle.ds_state.specs.World.{PlainEdit, PlainIssue, edit_of, PlainWorld, of_cell, head_after_all, head_by, announcement}
use Rattle.ds_state.specs.Owing.{IsPending, IsExcused}
use Rattle.ds_state.specs.Standing.{cached_side, entry_on, shown_entry, value_for, HasContent}
use Rattle.ds_state.specs.CallsFit.{CallFits, DoubtFits}
use Rattle.ds_state.specs.KnownShow.{IsPendingWord, moment_of, values_of, IsRight, IsStill}
use Rattle.ds_state.specs.Shown.{last_text}
use Rattle.ds_formula.proofs.Whole.{blank_read}
use Rattle.ds_state.specs.Sound.{IsSound}
use Rattle.ds_state.specs.declared.situation.Situation.{Situation}
use Rattle.ds_state.specs.declared.situation.Situation.TheVariants.{Idle, Stopped, Editing, Working, Recovering, Showing, Migrating}
use Rattle.ds_state.proofs.Frames.{clean_free}
use Rattle.ds_state.proofs.Heads.{Small, small_counted, small_of_cell, head_low, head_push, head_grows}
use Rattle.ds_state.proofs.Crashing.{pends_while}
use Rattle.ds_state.specs.Calm.{IsLocalAt}
use Rattle.ds_state.proofs.Shows.{local_back}

-- the number of an issue that is pending is that of a record
issue_number : (w : PlainWorld) (p : ℕ) (s : Situation) (i : PlainIssue) → w.open_edits p ≡ Some i → CallFits w p s → i.edit.number < RECORDS
issue_number w p (Idle next) i is h = absurd (let e : None ≡ Some i = sym h.open_edits ∙ is in cc)
issue_number w p Stopped i is h = (subst (λ (o : Option PlainIssue). DoubtFits w p o) is h.doubt).number
issue_number w p (Editing e) i is h = let same : record { edit = edit_of e; since = h.since } ≡ i = (let both : Some (record { edit = edit_of e; since = h.since }) ≡ Some i = sym h.open_edits ∙ is in cc) in subst (λ (x : PlainIssue). x.edit.number < RECORDS) same h.is.number
issue_number w p (Working e) i is h = absurd (let e : None ≡ Some i = sym h.rest.open_edits ∙ ap w.open_edits h.mine ∙ is in cc)
issue_number w p (Recovering e) i is h = (subst (λ (o : Option PlainIssue). DoubtFits w p o) is h.doubt).number
issue_number w p (Showing e) i is h = absurd (let e : None ≡ Some i = sym h.1.rest.open_edits ∙ ap w.open_edits h.1.mine ∙ is in cc)
issue_number w p (Migrating e) i is h = (subst (λ (o : Option PlainIssue). DoubtFits w p o) is h.doubt).number

-- an announcement of a record's number, as it reads
pub pending_reads : (n : ℕ) → n < RECORDS → IsPendingWord (announcement n phase.Pending)
pending_reads n l = rw (announcement_of-announcement_word (record { number = n; phase = phase.Pending }) l) refl

-- who owes its cell announces that
pub announces : (w : PlainWorld) → IsSound w → (c x : ℕ) → (o : IsExcused w c x) → IsPendingWord (w.memory.cached (Announce o.process))
announces w sound c x o =
    let k : IsPending w o.process c = pends_while w o.process (w.situation o.process) c x (sound.calls o.process o.inside) o.still in
    let n = issue_number w o.process (w.situation o.process) k.issue k.issued (sound.calls o.process o.inside) in
    subst (λ (word : ℕ). IsPendingWord word) (sym k.cached) (pending_reads k.issue.edit.number n)

-- each cell's entry is what its head's content gives
pub still_local : (w : PlainWorld) → IsSound w → IsStill w.layout (moment_of w) → (c : ℕ) → c < cells_of w.layout → IsLocalAt w c
still_local w sound still c l = elim (sound.stand.on_cached c (still.clean c l)) [
  | inl o ↦ absurd (still.settled o.process o.inside (announces w sound c _ o))
  | inr h ↦ (
      let near : (d : Cell) → Refers h.content d → IsInside w.layout.shape d → h.inputs d ≡ entry_on w.layout (cached_side w.memory) (index_of w.layout.shape d) =
      (λ d refers inside. elim (h.near d refers inside) [ inl is ↦ is | inr o ↦ absurd (clean_free _ o.holder (still.clean (index_of w.layout.shape d) (index_below w.layout.shape d inside)) o.held.by) ]) in
      record {
        content = h.content;
        has = h.has;
        is = ap (λ (v : ℕ). shown_entry (cells_of w.layout) v (w.memory.cached (Kind c))) h.on_value
            ∙ ap (λ (k : ℕ). shown_entry (cells_of w.layout) (value_for (local w.layout.shape h.content h.inputs)) k) h.on_kind
            ∙ local_back w (cached_side w.memory) c (w.memory.cached (Head c)) h.content h.inputs h.has near
            ∙ neighbours.local_on w.layout.shape h.content h.inputs (λ d. entry_on w.layout (cached_side w.memory) (index_of w.layout.shape d)) near;
      })
]

-- the content of the head's edit is that of the cell's last edit
last_push : (before : List PlainEdit) (e : PlainEdit) → last_text (before ++ e ∷ []) ≡ e.text
last_push [] e = refl
last_push (x ∷ []) e = refl
last_push (x ∷ y ∷ xs) e = last_push (y ∷ xs) e

none_left : (es : List PlainEdit) → Small es → head_after_all es ≡ 0 → last_text es ≡ []
none_left [] s is = refl
none_left (e ∷ es) s is = absurd (let low = head_low (e ∷ es) s in omega arith)

its_last : (before : List PlainEdit) (by : PlainEdit) (after : List PlainEdit) → Small (before ++ by ∷ after) → head_after_all (before ++ by ∷ after) ≡ head_by (length before + 1) by → last_text (before ++ by ∷ after) ≡ by.text
its_last before by [] s is = last_push before by
its_last before by (x ∷ after) s is =
    let again : (before ++ by ∷ []) ++ x ∷ after ≡ before ++ by ∷ x ∷ after = append_assoc before (by ∷ []) (x ∷ after) in
    let grows = head_grows (before ++ by ∷ []) x after (subst (λ (xs : List PlainEdit). Small xs) (sym again) s) in
    let same = ap head_after_all again in
    let l = head_push before by in
    absurd (omega arith)

module _ (w : PlainWorld) (sound : IsSound w) where
  reads_last : (c : ℕ) (content : PlainContent) → HasContent w c (w.memory.cached (Head c)) content → Reads w.layout.shape (last_text (of_cell c w.counted)) content
  reads_last c content h =
      let small : Small (of_cell c w.counted) = small_of_cell c w.counted (small_counted w sound.of_sheet) in
      let last = (sound.words (Head c)).last in
      elim h [
        | inl none ↦ subst (λ (text : List ℕ). Reads w.layout.shape text content) (sym (none_left (of_cell c w.counted) small (sym last ∙ none.0)))
            (subst (λ (x : PlainContent). Reads w.layout.shape [] x) (sym none.1) (blank_read w.layout.shape [] refl))
        | inr t ↦ subst (λ (text : List ℕ). Reads w.layout.shape text content)
            (sym (ap last_text t.gave.parts ∙ its_last t.gave.before t.by t.gave.after (subst (λ (xs : List PlainEdit). Small xs) t.gave.parts small) (ap head_after_all (sym t.gave.parts) ∙ sym last ∙ t.gave.is)))
            t.reads
      ]

  module _ (local_at : (c : ℕ) → c < cells_of w.layout → IsLocalAt w c) where
    shape : Shape
    shape = w.layout.shape

    content_of : (c : ℕ) → (c < cells_of w.layout) ⊎ (cells_of w.layout ≤ c) → PlainContent
    content_of c (inl l) = (local_at c l).content
    content_of c (inr g) = Empty

    abbrev sheet : Cell → PlainContent
    sheet c = content_of (index_of w.layout.shape c) (cases_lt (index_of w.layout.shape c) (cells_of w.layout))

    abbrev entries_now : Cell → entries.Entry
    entries_now d = entry_on w.layout (cached_side w.memory) (index_of w.layout.shape d)

    found : (c : ℕ) → c < cells_of w.layout → (d : (c < cells_of w.layout) ⊎ (cells_of w.layout ≤ c)) → Reads w.layout.shape (last_text (of_cell c w.counted)) (content_of c d)
    unfolding content_of
    found c l (inl k) = reads_last c (local_at c k).content (local_at c k).has
    found c l (inr g) = absurd (omega arith)

    local_by : (c : ℕ) → c < cells_of w.layout → (d : (c < cells_of w.layout) ⊎ (cells_of w.layout ≤ c)) → entry_on w.layout (cached_side w.memory) c ≡ local w.layout.shape (content_of c d) entries_now
    unfolding content_of
    local_by c l (inl k) = (local_at c k).is
    local_by c l (inr g) = absurd (omega arith)

    shows : (cells : ℕ) (value kind : ℕ → ℕ) (i : ℕ) → i < cells → at (values_of cells value kind) i ≡ (shown_entry cells (value i) (kind i)).value
    shows cells value kind i l =
        let f : ℕ → values.Value = λ c. (shown_entry cells (value c) (kind c)).value in
        ap or_blank (slice_get-get_or (map f (range_with_len 0 cells)) i values.TheVariants.Blank (omega (arith, length-map-range_with_len f 0 cells))
        ∙ ap Some (get_or-map-range_with_len f 0 cells i i values.TheVariants.Blank l (omega arith)))

    pub local_right : IsRight w.layout.shape (moment_of w)
    local_right = record {
      sheet = sheet;
      is = record { each = λ c inside. found (index_of w.layout.shape c) (index_below w.layout.shape c inside) (cases_lt (index_of w.layout.shape c) (cells_of w.layout)) };
      scratch = fixed_point w.layout.shape sheet entries_now (record { each = λ c inside. local_by (index_of w.layout.shape c) (index_below w.layout.shape c inside) (cases_lt (index_of w.layout.shape c) (cells_of w.layout)) })
          (values_of (cells_of w.layout) (λ c. w.memory.cached (Value c)) (λ c. w.memory.cached (Kind c)))
          (record {
            each = length-map-range_with_len (λ c. (shown_entry (cells_of w.layout) (w.memory.cached (Value c)) (w.memory.cached (Kind c))).value) 0 (cells_of w.layout);
            same = λ c inside. shows (cells_of w.layout) (λ c. w.memory.cached (Value c)) (λ c. w.memory.cached (Kind c)) (index_of w.layout.shape c) (index_below w.layout.shape c inside);
          });
    }

-- the moment of a still world is right
pub still_right : (w : PlainWorld) → IsSound w → IsStill w.layout (moment_of w) → IsRight w.layout.shape (moment_of w)
still_right w sound still = local_right w sound (still_local w sound still)
