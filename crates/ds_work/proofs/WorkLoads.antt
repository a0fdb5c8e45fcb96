-- Work loads the head, its record, and what the references show.
use Rattle.std.proofs.Common.{ℕ, ◌≡◌, ◌≢◌, ◌<◌, ◌+◌, ◌-◌, ◌*◌, ◌/◌, ◌%◌, min, Bool, true, false, if◌then◌else◌, nat_lt, List, [], ◌∷◌, ◌++◌, take, Option, Some, None, refl, ap, sym, ◌∙◌, subst, arith, length, inl, inr, get_or-set_same, get_or-set_other}
use Rattle.std.specs.Prelude.{Contains}
use Rattle.std.proofs.Math.ListN.{length-set}
use Rattle.std.proofs.Math.Seq.{take-append-add}
use Rattle.std.proofs.lemmas.List.{take_all, length-take-le}
use Rattle.std.proofs.lemmas.Bool.{cases_eq, cases_lt, ltb-true, ltb-false}
use Rattle.ds_formula.specs.Cells.{index_of}
use Rattle.ds_formula.specs.declared.cells.Cell.{Cell}
use Rattle.ds_eval.specs.declared.inputs.Input.{Input}
use Rattle.ds_eval.specs.Inputs.{cell_in, entry_at, with_entry, no_input}
use Rattle.ds_eval.proofs.Cells.{cell_with, ascending_with}
use Rattle.ds_layout.specs.declared.place.Place.TheVariants.{Value, Kind, Head, Header, Text}
use Rattle.ds_layout.specs.declared.layout.Layout.{Layout}
use Rattle.ds_layout.specs.declared.head.Head as heads
use Rattle.ds_layout.specs.declared.header.Header as headers
use Rattle.ds_layout.specs.Places.{cells_of}
use Rattle.ds_layout.specs.Head.{head_of}
use Rattle.ds_layout.specs.Header.{header_of, header_word}
use Rattle.ds_layout.specs.TextWords.{part_word, bytes_of}
use Rattle.ds_layout.proofs.Packed.{header_of-header_word}
use Rattle.ds_state.specs.Works.{PlainWorkCall}
use Rattle.ds_state.specs.Text.{IsText}
use Rattle.ds_state.specs.World.{PlainEdit, PlainWorld, of_cell, head_after_all, IsHeadBy}
use Rattle.ds_state.specs.Owing.{IsIndexed, CellOwes}
use Rattle.ds_state.specs.Standing.{cached_side, entry_on, shown_entry}
use Rattle.ds_state.specs.KnownWork.{WorkFits, ReadsPart, EntryStands, WordStands, Gathers, row_of}
use Rattle.ds_work.specs.WorkSteps.{StepsAt, head_from, header_from, text_from}
use Rattle.ds_state.specs.Rely.{Keeps}
use Rattle.ds_state.specs.Sound.{IsSound, IsOfSheet}
use Rattle.ds_state.specs.declared.work.WorkStage.{WorkStage}
use Rattle.ds_state.specs.declared.work.WorkStage.TheVariants as works
use Rattle.ds_state.specs.declared.situation.Situation.TheVariants.{Working}
use Rattle.ds_state.proofs.Accesses.{Turn}
use Rattle.ds_state.proofs.Heads.{by_last}
use Rattle.ds_state.proofs.Noted.{last_cases, head_reads, of_sheet_middle}
use Rattle.ds_state.proofs.Found.{gave_counts}
use Rattle.ds_state.proofs.ReadBack.{next_part}
use Rattle.ds_work.proofs.WorkSteps.{on}
use Rattle.ds_work.proofs.WorkFrame as frame
use Rattle.ds_work.proofs.Keeping.{work_goes}
use Rattle.ds_state.specs.Shown.{header_in}
use Rattle.ds_state.specs.Editions.{most_in}
use Rattle.ds_state.proofs.ReadBack.{header_in_some}
use Rattle.ds_work.proofs.Keeping.{noted_of, fits_noted}
use Rattle.std.specs.Prelude.{◌≤◌}

nothing_head : head_after_all [] ≡ 0
unfolding head_after_all
nothing_head = refl

no_head : (processes : ℕ) → head_of processes 0 ≡ None
no_head processes = refl

-- eight bytes more of a text, cut at its end
eight_bytes : (word : ℕ) → length (bytes_of word) ≡ 8
eight_bytes word = refl

joined : (text : List ℕ) (part word : ℕ) → IsText text → word ≡ part_word text part → 8 * part < length text
    → take (length text) (take (8 * part) text ++ bytes_of word) ≡ take (8 * (part + 1)) text
joined text part word h is within =
    let n : ℕ = length text - 8 * part in
    let front : length (take (8 * part) text) ≡ 8 * part = length-take-le (8 * part) text (omega arith) in
    let size : length text ≡ length (take (8 * part) text) + n = omega arith in
    let cut : take n (bytes_of word) ≡ take (min n 8) (bytes_of word) = elim (cases_lt n 8) [
      | inl few ↦ ap (λ (k : ℕ). take k (bytes_of word)) (let k : n ≡ min n 8 = omega arith in k)
      | inr many ↦ take_all n (bytes_of word) (omega (arith, eight_bytes word)) ∙ sym (take_all (min n 8) (bytes_of word) (omega (arith, eight_bytes word)))
    ] in
    ap (λ (k : ℕ). take k (take (8 * part) text ++ bytes_of word)) size
    ∙ take-append-add (take (8 * part) text) (bytes_of word) n
    ∙ ap (λ (xs : List ℕ). take (8 * part) text ++ xs) cut
    ∙ next_part text (take (8 * part) text) part (min n 8) word h is within refl refl

module _ (e : PlainWorkCall) (word : ℕ) (old new : PlainWorld) (sound : IsSound old) (real : e.process < old.layout.processes) where
  turn_of : (s : WorkStage) → old.situation e.process ≡ Working (on e s) → StepsAt e s word old new → Turn e.process old new
  turn_of s was t = record { layout = t.layout; counted = t.counted; situations = t.others; pendings = λ q ne. t.open_edits q; goes = work_goes e s word old new real was t }

  -- ---- the head

  pub load_head : WorkFits old e.process (on e works.LoadHead) → old.situation e.process ≡ Working (on e works.LoadHead) → StepsAt e works.LoadHead word old new → Keeps e.process old new
  load_head fits was t = elim (last_cases (of_cell e.cell old.counted)) [
    | inl empty ↦ (
        let zero' : word ≡ 0 = seen ∙ ap head_after_all empty ∙ nothing_head in
        let none : head_of e.processes word ≡ None = ap (λ (n : ℕ). head_of e.processes n) zero' in
        frame.loads e works.LoadHead (record e { head = word; length = 0; text = []; stage = works.Read }) old new sound real was
        (t.situation ∙ ap (λ (o : Option heads.Head). Working (head_from e word o)) none) (turn_of _ was t) (t.open_edits e.process) fits tt t.memory.1
        (λ c x bit matters o. absurd o) (λ o. absurd o)
        (λ k. record { hold = k.hold; loaded = (λ at. inl here, inl (zero', refl)); own = tt; evaluated = tt }) (λ h. h))
    | inr b ↦ (
        let head : heads.Head = record { stamp = length b.0 + 1; process = b.1.process; number = b.1.number } in
        let some : head_of e.processes word ≡ Some head = ap (λ (n : ℕ). head_of n word) (sym fits.processes) ∙ ap (λ (n : ℕ). head_of old.layout.processes n) seen ∙ head_reads old sound e.cell b.0 b.1 b.2 in
        let by : IsHeadBy (of_cell e.cell old.counted) word b.1 =
        subst (λ (n : ℕ). IsHeadBy (of_cell e.cell old.counted) n b.1) (sym seen) (subst (λ (es : List PlainEdit). IsHeadBy es (head_after_all es) b.1) (sym b.2) (by_last b.0 b.1)) in
        frame.loads e works.LoadHead (record e { head = word; length = 0; text = []; stage = works.LoadHeader }) old new sound real was
        (t.situation ∙ ap (λ (o : Option heads.Head). Working (head_from e word o)) some) (turn_of _ was t) (t.open_edits e.process) fits tt t.memory.1
        (λ c x bit matters o. absurd o) (λ o. absurd o)
        (λ k. record { hold = k.hold; loaded = (λ at. inl here, (b.1, rw t.counted by)); own = tt; evaluated = tt }) (λ h. h))
  ]
    where
      seen : word ≡ head_after_all (of_cell e.cell old.counted)
      seen = t.memory.0 ∙ (sound.words (Head e.cell)).last

      here : new.memory.cached (Head e.cell) ≡ word
      here = t.memory.1.cached (Head e.cell) ∙ sym t.memory.0

  -- ---- its record

  module _ (texts : (by : PlainEdit) → Contains old.counted by → IsText by.text) where
    pub load_header : WorkFits old e.process (on e works.LoadHeader) → old.situation e.process ≡ Working (on e works.LoadHeader) → StepsAt e works.LoadHeader word old new → Keeps e.process old new
    load_header fits was t =
        let by : PlainEdit = fits.knows.loaded.1.0 in
        let gave : IsHeadBy (of_cell e.cell old.counted) e.head by = fits.knows.loaded.1.1 in
        let there : Contains old.counted by = gave_counts old e.cell e.head by gave in
        let sheet : IsOfSheet old by = of_sheet_middle old sound.of_sheet e.cell gave.before by gave.after gave.parts in
        let text : IsText by.text = texts by there in
        let is = gave.is in
        let limited = old.layout.limited in
        let p = sheet.process in
        let n = sheet.number in
        let process : e.head / 256 % 256 ≡ by.process = omega arith in
        let number : e.head % 256 ≡ by.number = omega arith in
        let seen : word ≡ header_word (record { cell = by.cell; length = length by.text }) =
        t.memory.0 ∙ ap (λ (q : ℕ). old.memory.cached (Header q (e.head % 256))) process ∙ ap (λ (q : ℕ). old.memory.cached (Header by.process q)) number
        ∙ ((sound.words (Header by.process by.number)) by there refl refl (omega arith)).0 in
        let cell = sheet.cell in
        let most = old.layout.shape.within.cells_to_1024 in
        let short = text.short in
        let h : headers.Header = record { cell = by.cell; length = length by.text } in
        let some : header_of e.cells word ≡ Some h =
        ap (λ (q : ℕ). header_of q word) (sym fits.cells) ∙ ap (λ (q : ℕ). header_of (cells_of old.layout) q) seen
        ∙ header_of-header_word (cells_of old.layout) h (record { cell = omega arith; length = omega arith }) (record { cell = cell; length = short }) in
        let room : length by.text ≤ most_in e.edition = fits_noted old e.edition by sheet (noted_of e works.LoadHeader old sound real was) in
        let found : header_in e.edition (header_of e.cells word) ≡ Some h = ap (λ (o : Option headers.Header). header_in e.edition o) some ∙ header_in_some e.edition h room in
        by_length by gave (t.situation ∙ ap (λ (o : Option headers.Header). Working (header_from e o)) found) (nat_lt 0 ((length by.text + 7) / 8)) refl
      where
        by_length : (by : PlainEdit) → IsHeadBy (of_cell e.cell old.counted) e.head by → new.situation e.process ≡ Working (text_from (record e { length = length by.text; text = [] }) 0)
            → (b : Bool) → nat_lt 0 ((length by.text + 7) / 8) ≡ b → Keeps e.process old new
        by_length by gave is true some =
            let more = ltb-true 0 ((length by.text + 7) / 8) some in
            frame.loads e works.LoadHeader (record e { length = length by.text; text = []; stage = works.LoadText 0 }) old new sound real was
            (is ∙ ap (λ (b : Bool). Working (if b then record e { length = length by.text; text = []; stage = works.LoadText 0 } else record e { length = length by.text; text = []; stage = works.Read })) some)
            (turn_of _ was t) (t.open_edits e.process) fits (omega arith) t.memory.1
            (λ c x bit matters o. absurd o) (λ o. absurd o)
            (λ k. record { hold = k.hold; loaded = (k.loaded.0, record { by = by; gave = rw t.counted gave; size = refl; start = refl }); own = tt; evaluated = tt }) (λ h. h)
        by_length by gave is false none =
            let few = ltb-false 0 ((length by.text + 7) / 8) none in
            let empty : length by.text ≡ 0 = omega arith in
            frame.loads e works.LoadHeader (record e { length = length by.text; text = []; stage = works.Read }) old new sound real was
            (is ∙ ap (λ (b : Bool). Working (if b then record e { length = length by.text; text = []; stage = works.LoadText 0 } else record e { length = length by.text; text = []; stage = works.Read })) none)
            (turn_of _ was t) (t.open_edits e.process) fits tt t.memory.1
            (λ c x bit matters o. absurd o) (λ o. absurd o)
            (λ k. record { hold = k.hold; loaded = (k.loaded.0, inr (record { by = by; gave = rw t.counted gave; text = sym (nothing by.text empty) })); own = tt; evaluated = tt }) (λ h. h)
          where
            nothing : (xs : List ℕ) → length xs ≡ 0 → xs ≡ []
            nothing [] l = refl
            nothing (x ∷ xs) l = absurd (omega arith)

    pub load_text : (part : ℕ) → WorkFits old e.process (on e (works.LoadText part)) → old.situation e.process ≡ Working (on e (works.LoadText part)) → StepsAt e (works.LoadText part) word old new → Keeps e.process old new
    load_text part fits was t =
        let r : ReadsPart old e.cell e.head e.length e.text part = fits.knows.loaded.1 in
        let by : PlainEdit = r.by in
        let gave : IsHeadBy (of_cell e.cell old.counted) e.head by = r.gave in
        let there : Contains old.counted by = gave_counts old e.cell e.head by gave in
        let sheet : IsOfSheet old by = of_sheet_middle old sound.of_sheet e.cell gave.before by gave.after gave.parts in
        let is = gave.is in
        let limited = old.layout.limited in
        let p = sheet.process in
        let n = sheet.number in
        let size = r.size in
        let inside = fits.at in
        let process : e.head / 256 % 256 ≡ by.process = omega arith in
        let number : e.head % 256 ≡ by.number = omega arith in
        let seen : word ≡ part_word by.text part =
        t.memory.0 ∙ ap (λ (q : ℕ). old.memory.cached (Text e.edition q (e.head % 256) part)) process ∙ ap (λ (q : ℕ). old.memory.cached (Text e.edition by.process q part)) number
        ∙ ((sound.words (Text e.edition by.process by.number part)) (inl (noted_of e (works.LoadText part) old sound real was).cached) by there refl refl (omega arith)).0 in
        let text : take e.length (e.text ++ bytes_of word) ≡ take (8 * (part + 1)) by.text =
        ap (λ (k : ℕ). take k (e.text ++ bytes_of word)) size ∙ ap (λ (xs : List ℕ). take (length by.text) (xs ++ bytes_of word)) r.start ∙ joined by.text part word (texts by there) seen (omega arith) in
        by_length by gave size text (nat_lt (part + 1) ((e.length + 7) / 8)) refl
      where
        by_length : (by : PlainEdit) → IsHeadBy (of_cell e.cell old.counted) e.head by → e.length ≡ length by.text → take e.length (e.text ++ bytes_of word) ≡ take (8 * (part + 1)) by.text
            → (b : Bool) → nat_lt (part + 1) ((e.length + 7) / 8) ≡ b → Keeps e.process old new
        by_length by gave size text true some =
            let more = ltb-true (part + 1) ((e.length + 7) / 8) some in
            frame.loads e (works.LoadText part) (record e { text = take e.length (e.text ++ bytes_of word); stage = works.LoadText (part + 1) }) old new sound real was
            (t.situation ∙ ap (λ (b : Bool). Working (if b then record e { text = take e.length (e.text ++ bytes_of word); stage = works.LoadText (part + 1) } else record e { text = take e.length (e.text ++ bytes_of word); stage = works.Read })) some)
            (turn_of _ was t) (t.open_edits e.process) fits (omega arith) t.memory.1
            (λ c x bit matters o. absurd o) (λ o. absurd o)
            (λ k. record { hold = k.hold; loaded = (k.loaded.0, record { by = by; gave = rw t.counted gave; size = size; start = text }); own = tt; evaluated = tt }) (λ h. h)
        by_length by gave size text false none =
            let few = ltb-false (part + 1) ((e.length + 7) / 8) none in
            frame.loads e (works.LoadText part) (record e { text = take e.length (e.text ++ bytes_of word); stage = works.Read }) old new sound real was
            (t.situation ∙ ap (λ (b : Bool). Working (if b then record e { text = take e.length (e.text ++ bytes_of word); stage = works.LoadText (part + 1) } else record e { text = take e.length (e.text ++ bytes_of word); stage = works.Read })) none)
            (turn_of _ was t) (t.open_edits e.process) fits tt t.memory.1
            (λ c x bit matters o. absurd o) (λ o. absurd o)
            (λ k. record { hold = k.hold; loaded = (k.loaded.0, inr (record { by = by; gave = rw t.counted gave; text = text ∙ take_all (8 * (part + 1)) by.text (omega arith) })); own = tt; evaluated = tt }) (λ h. h)

  -- ---- what the references show

  pub load_value : (i : ℕ) → WorkFits old e.process (on e (works.LoadValue i)) → old.situation e.process ≡ Working (on e (works.LoadValue i)) → StepsAt e (works.LoadValue i) word old new → Keeps e.process old new
  load_value i fits was t = frame.loads e (works.LoadValue i) (on e (works.LoadKind i word)) old new sound real was t.situation (turn_of _ was t) (t.open_edits e.process) fits fits.at t.memory.1
      (λ c x bit matters o. absurd o) (λ o. absurd o)
      (λ k. record {
        hold = k.hold;
        loaded = (
          k.loaded,
          record {
            indexed = k.loaded.rows i fits.at;
            stands = λ at. inl (t.memory.0 ∙ sym (t.memory.1.cached (Value (row_of old e.inputs i))) ∙ ap (λ (l : Layout). new.memory.cached (Value (index_of l.shape (cell_in e.inputs i)))) (sym t.layout));
          },
        );
        own = tt;
        evaluated = tt;
      }) (λ h. h)

  module _ (i value : ℕ) (fits : WorkFits old e.process (on e (works.LoadKind i value))) (was : old.situation e.process ≡ Working (on e (works.LoadKind i value))) (t : StepsAt e (works.LoadKind i value) word old new) where
    abbrev more : List Input
    more = with_entry e.inputs i (shown_entry e.cells value word)

    size : length more ≡ length e.inputs
    size = length-set e.inputs i _

    cells : (j : ℕ) → cell_in more j ≡ cell_in e.inputs j
    cells j = cell_with e.inputs i (shown_entry e.cells value word) j fits.at

    fresh : entry_at more i ≡ shown_entry e.cells value word
    fresh = ap (λ (x : Input). x.entry) (get_or-set_same e.inputs i (let x : Input = record { cell = cell_in e.inputs i; entry = shown_entry e.cells value word } in x) no_input fits.at)

    kept : (j : ℕ) → j ≢ i → entry_at more j ≡ entry_at e.inputs j
    kept j ne = ap (λ (x : Input). x.entry) (get_or-set_other e.inputs i j (let x : Input = record { cell = cell_in e.inputs i; entry = shown_entry e.cells value word } in x) no_input ne)

    row : (j : ℕ) → row_of new more j ≡ row_of new e.inputs j
    row j = ap (λ (c : Cell). index_of new.layout.shape c) (cells j)

    gathers : Gathers new e.cell e.mark e.head e.content e.inputs i → WordStands new e.cell e.mark e.inputs i value → Gathers new e.cell e.mark e.head e.content more (i + 1)
    gathers h v = record {
      head = h.head;
      content = h.content;
      ascending = ascending_with e.inputs i (shown_entry e.cells value word) fits.at h.ascending;
      found = λ d refers inside. let f = h.found d refers inside in (f.0, rw size f.1, cells f.0 ∙ f.2);
      rows = λ j l. subst (λ (r : ℕ). IsIndexed new r e.cell) (sym (row j)) (h.rows j (rw (sym size) l));
      each = λ j l. elim (cases_eq j i) [
        | inl eq ↦ subst (λ (k : ℕ). EntryStands new e.cell e.mark more k) (sym eq) (record {
          indexed = subst (λ (r : ℕ). IsIndexed new r e.cell) (sym (row i)) v.indexed;
          stands = λ at. elim (v.stands at) [
            | inr o ↦ inr (subst (λ (r : ℕ). CellOwes new r e.cell e.mark) (sym (row i)) o)
            | inl is ↦ inl (
                let seen : word ≡ new.memory.cached (Kind (row_of new e.inputs i)) =
                t.memory.0 ∙ sym (t.memory.1.cached (Kind (row_of old e.inputs i))) ∙ ap (λ (l : Layout). new.memory.cached (Kind (index_of l.shape (cell_in e.inputs i)))) (sym t.layout) in
                let here : shown_entry e.cells value word ≡ entry_on new.layout (cached_side new.memory) (row_of new e.inputs i) =
                ap (λ (n : ℕ). shown_entry n value word) (sym fits.cells ∙ ap (λ (l : Layout). cells_of l) (sym t.layout))
                ∙ ap (λ (n : ℕ). shown_entry (cells_of new.layout) n word) is ∙ ap (λ (n : ℕ). shown_entry (cells_of new.layout) (new.memory.cached (Value (row_of new e.inputs i))) n) seen in
                fresh ∙ here ∙ ap (λ (r : ℕ). entry_on new.layout (cached_side new.memory) r) (sym (row i)))
          ];
        })
        | inr ne ↦ (
            let k : EntryStands new e.cell e.mark e.inputs j = h.each j (omega arith) in
            record {
              indexed = subst (λ (r : ℕ). IsIndexed new r e.cell) (sym (row j)) k.indexed;
              stands = λ at. elim (k.stands at) [
                | inr o ↦ inr (subst (λ (r : ℕ). CellOwes new r e.cell e.mark) (sym (row j)) o)
                | inl is ↦ inl (kept j ne ∙ is ∙ ap (λ (r : ℕ). entry_on new.layout (cached_side new.memory) r) (sym (row j)))
              ];
            })
      ];
    }

    go : (b : Bool) → nat_lt (i + 1) (length more) ≡ b → Keeps e.process old new
    go true some = frame.loads e (works.LoadKind i value) (record e { inputs = more; stage = works.LoadValue (i + 1) }) old new sound real was
        (t.situation ∙ ap (λ (b : Bool). Working (if b then record e { inputs = more; stage = works.LoadValue (i + 1) } else record e { inputs = more; stage = works.LoadOwnValue })) some)
        (turn_of _ was t) (t.open_edits e.process) fits (ltb-true (i + 1) (length more) some) t.memory.1
        (λ c x bit matters o. absurd o) (λ o. absurd o)
        (λ k. record { hold = k.hold; loaded = gathers k.loaded.0 k.loaded.1; own = tt; evaluated = tt }) (λ h. h)
    go false none =
        let last = ltb-false (i + 1) (length more) none in
        let all : i + 1 ≡ length more = (let l = fits.at in let s = size in omega arith) in
        frame.loads e (works.LoadKind i value) (record e { inputs = more; stage = works.LoadOwnValue }) old new sound real was
        (t.situation ∙ ap (λ (b : Bool). Working (if b then record e { inputs = more; stage = works.LoadValue (i + 1) } else record e { inputs = more; stage = works.LoadOwnValue })) none)
        (turn_of _ was t) (t.open_edits e.process) fits tt t.memory.1
        (λ c x bit matters o. absurd o) (λ o. absurd o)
        (λ k. record { hold = k.hold; loaded = subst (λ (n : ℕ). Gathers new e.cell e.mark e.head e.content more n) all (gathers k.loaded.0 k.loaded.1); own = tt; evaluated = tt }) (λ h. h)

    pub load_kind : Keeps e.process old new
    load_kind = go (nat_lt (i + 1) (length more)) refl
