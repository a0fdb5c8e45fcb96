-- A place and its number: each gives the other back.
use Rattle.std.proofs.Common.{ℕ, ◌≡◌, ◌+◌, ◌-◌, ◌*◌, ◌/◌, ◌%◌, ◌<◌, ◌≤◌, ap, sym, ◌∙◌, subst, arith, inl, inr, nat_lt, Bool, List, [], ◌∷◌, ◌++◌, length, get_or}
use Rattle.std.proofs.lemmas.List.{length-append, get_or_append_left, get_or_push}
use Rattle.ds_words.specs.declared.access.Class.{Class}
use Rattle.ds_words.specs.declared.access.Class.TheVariants.{Stamped}
use Rattle.std.specs.Prelude.{if◌then◌else◌}
use Rattle.std.proofs.lemmas.Bool.{cases_lt, lt-ltb, le-ltb}
use Rattle.std.proofs.lemmas.Nat.{mul-add-lt, div-mul-add, mod-mul-add, div-add-mod', div_below, mod_below, mul-le}
use Rattle.ds_layout.specs.declared.place.TheConstants.{RECORDS, FIRST_PARTS, SECOND_PARTS, DONE_PARTS}
use Rattle.ds_layout.specs.declared.place.Edition.TheVariants.{First, Second}
use Rattle.ds_layout.specs.declared.place.Place.{Place}
use Rattle.ds_layout.specs.declared.place.Place.TheVariants.{Version, Head, Mark, Value, Kind, Index, Announce, Header, Text, Done}
use Rattle.ds_layout.specs.declared.layout.Starts.{Starts}
use Rattle.ds_layout.specs.declared.layout.Layout.{Layout}
use Rattle.ds_layout.specs.Places.{IsPlaceOf, IsPlace, IsAscending, starts_for, starts_of, words_of, number_by, number_of, place_by, place_of, cells_of, parts_of, first_text, second_text, class_of}

-- the two branches of a test
upto : (n b : ℕ) (x y : Place) → n < b → (if nat_lt n b then x else y) ≡ x
upto n b x y h = ap (λ (t : Bool). if t then x else y) (lt-ltb n b h)

past : (n b : ℕ) (x y : Place) → b ≤ n → (if nat_lt n b then x else y) ≡ y
past n b x y h = ap (λ (t : Bool). if t then x else y) (le-ltb n b h)

-- the place of a number between two starts
at_version : (s : Starts) (parts n : ℕ) → n < s.heads → place_by s parts n ≡ Version
at_version s parts n h = upto n s.heads _ _ h

at_heads : (s : Starts) (parts n : ℕ) → IsAscending s → s.heads ≤ n → n < s.marks → place_by s parts n ≡ Head (n - s.heads)
at_heads s parts n up h k = past n s.heads _ _ (omega arith) ∙ upto n s.marks _ _ k

at_marks : (s : Starts) (parts n : ℕ) → IsAscending s → s.marks ≤ n → n < s.values → place_by s parts n ≡ Mark (n - s.marks)
at_marks s parts n up h k = past n s.heads _ _ (omega arith) ∙ past n s.marks _ _ (omega arith) ∙ upto n s.values _ _ k

at_values : (s : Starts) (parts n : ℕ) → IsAscending s → s.values ≤ n → n < s.kinds → place_by s parts n ≡ Value (n - s.values)
at_values s parts n up h k = past n s.heads _ _ (omega arith) ∙ past n s.marks _ _ (omega arith) ∙ past n s.values _ _ (omega arith) ∙ upto n s.kinds _ _ k

at_kinds : (s : Starts) (parts n : ℕ) → IsAscending s → s.kinds ≤ n → n < s.index → place_by s parts n ≡ Kind (n - s.kinds)
at_kinds s parts n up h k = past n s.heads _ _ (omega arith) ∙ past n s.marks _ _ (omega arith) ∙ past n s.values _ _ (omega arith) ∙ past n s.kinds _ _ (omega arith) ∙ upto n s.index _ _ k

at_index : (s : Starts) (parts n : ℕ) → IsAscending s → s.index ≤ n → n < s.announcements → place_by s parts n ≡ Index ((n - s.index) / parts) ((n - s.index) % parts)
at_index s parts n up h k = past n s.heads _ _ (omega arith) ∙ past n s.marks _ _ (omega arith) ∙ past n s.values _ _ (omega arith) ∙ past n s.kinds _ _ (omega arith) ∙ past n s.index _ _ (omega arith) ∙ upto n s.announcements _ _ k

at_announcements : (s : Starts) (parts n : ℕ) → IsAscending s → s.announcements ≤ n → n < s.headers → place_by s parts n ≡ Announce (n - s.announcements)
at_announcements s parts n up h k = past n s.heads _ _ (omega arith) ∙ past n s.marks _ _ (omega arith) ∙ past n s.values _ _ (omega arith) ∙ past n s.kinds _ _ (omega arith) ∙ past n s.index _ _ (omega arith) ∙ past n s.announcements _ _ (omega arith) ∙ upto n s.headers _ _ k

at_headers : (s : Starts) (parts n : ℕ) → IsAscending s → s.headers ≤ n → n < s.texts → place_by s parts n ≡ Header ((n - s.headers) / RECORDS) ((n - s.headers) % RECORDS)
at_headers s parts n up h k = past n s.heads _ _ (omega arith) ∙ past n s.marks _ _ (omega arith) ∙ past n s.values _ _ (omega arith) ∙ past n s.kinds _ _ (omega arith) ∙ past n s.index _ _ (omega arith) ∙ past n s.announcements _ _ (omega arith) ∙ past n s.headers _ _ (omega arith) ∙ upto n s.texts _ _ k

at_texts : (s : Starts) (parts n : ℕ) → IsAscending s → s.texts ≤ n → n < s.done → place_by s parts n ≡ first_text (n - s.texts)
at_texts s parts n up h k = past n s.heads _ _ (omega arith) ∙ past n s.marks _ _ (omega arith) ∙ past n s.values _ _ (omega arith) ∙ past n s.kinds _ _ (omega arith) ∙ past n s.index _ _ (omega arith) ∙ past n s.announcements _ _ (omega arith) ∙ past n s.headers _ _ (omega arith) ∙ past n s.texts _ _ (omega arith) ∙ upto n s.done _ _ k

at_done : (s : Starts) (parts n : ℕ) → IsAscending s → s.done ≤ n → n < s.second_texts → place_by s parts n ≡ Done ((n - s.done) / DONE_PARTS) ((n - s.done) % DONE_PARTS)
at_done s parts n up h k = past n s.heads _ _ (omega arith) ∙ past n s.marks _ _ (omega arith) ∙ past n s.values _ _ (omega arith) ∙ past n s.kinds _ _ (omega arith) ∙ past n s.index _ _ (omega arith) ∙ past n s.announcements _ _ (omega arith) ∙ past n s.headers _ _ (omega arith) ∙ past n s.texts _ _ (omega arith) ∙ past n s.done _ _ (omega arith) ∙ upto n s.second_texts _ _ k

at_second : (s : Starts) (parts n : ℕ) → IsAscending s → s.second_texts ≤ n → place_by s parts n ≡ second_text (n - s.second_texts)
at_second s parts n up h = past n s.heads _ _ (omega arith) ∙ past n s.marks _ _ (omega arith) ∙ past n s.values _ _ (omega arith) ∙ past n s.kinds _ _ (omega arith) ∙ past n s.index _ _ (omega arith) ∙ past n s.announcements _ _ (omega arith) ∙ past n s.headers _ _ (omega arith) ∙ past n s.texts _ _ (omega arith) ∙ past n s.done _ _ (omega arith) ∙ past n s.second_texts _ _ (omega arith)

-- the starts of a sheet
pub IsAscending-starts_for : (cells parts processes : ℕ) → IsAscending (starts_for cells parts processes)
IsAscending-starts_for cells parts processes = record {
  heads = omega arith;
  marks = omega arith;
  values = omega arith;
  kinds = omega arith;
  index = omega arith;
  announcements = omega arith;
  headers = omega arith;
  texts = omega arith;
  done = omega arith;
  second_texts = omega arith;
}

less : (a b : ℕ) → a + b - a ≡ b
less a b = omega arith

-- the place of a part of a text, by where it stands among all of them
pub first_text_at : (process number part : ℕ) → number < RECORDS → part < FIRST_PARTS → first_text ((process * RECORDS + number) * FIRST_PARTS + part) ≡ Text First process number part
first_text_at process number part few small =
    let record_of : ℕ = process * RECORDS + number in
    ap (λ (x : ℕ). Text First (x / RECORDS) (x % RECORDS) ((record_of * FIRST_PARTS + part) % FIRST_PARTS)) (div-mul-add record_of FIRST_PARTS part small)
    ∙ ap (λ (x : ℕ). Text First (record_of / RECORDS) (record_of % RECORDS) x) (mod-mul-add record_of FIRST_PARTS part small)
    ∙ ap (λ (x : ℕ). Text First x (record_of % RECORDS) part) (div-mul-add process RECORDS number few)
    ∙ ap (λ (x : ℕ). Text First process x part) (mod-mul-add process RECORDS number few)

pub second_text_at : (process number part : ℕ) → number < RECORDS → part < SECOND_PARTS → second_text ((process * RECORDS + number) * SECOND_PARTS + part) ≡ Text Second process number part
second_text_at process number part few small =
    let record_of : ℕ = process * RECORDS + number in
    ap (λ (x : ℕ). Text Second (x / RECORDS) (x % RECORDS) ((record_of * SECOND_PARTS + part) % SECOND_PARTS)) (div-mul-add record_of SECOND_PARTS part small)
    ∙ ap (λ (x : ℕ). Text Second (record_of / RECORDS) (record_of % RECORDS) x) (mod-mul-add record_of SECOND_PARTS part small)
    ∙ ap (λ (x : ℕ). Text Second x (record_of % RECORDS) part) (div-mul-add process RECORDS number few)
    ∙ ap (λ (x : ℕ). Text Second process x part) (mod-mul-add process RECORDS number few)

-- the place of the number of a place
pub place_by-number_by : (cells parts processes : ℕ) (place : Place) → IsPlaceOf cells parts processes place
    → place_by (starts_for cells parts processes) parts (number_by (starts_for cells parts processes) parts place) ≡ place
place_by-number_by cells parts processes Version h = at_version (starts_for cells parts processes) parts 0 (omega arith)
place_by-number_by cells parts processes (Head cell) h =
    let s : Starts = starts_for cells parts processes in
    at_heads s parts (s.heads + cell) (IsAscending-starts_for cells parts processes) (omega arith) (omega arith) ∙ ap (λ (x : ℕ). Head x) (less s.heads cell)
place_by-number_by cells parts processes (Mark cell) h =
    let s : Starts = starts_for cells parts processes in
    at_marks s parts (s.marks + cell) (IsAscending-starts_for cells parts processes) (omega arith) (omega arith) ∙ ap (λ (x : ℕ). Mark x) (less s.marks cell)
place_by-number_by cells parts processes (Value cell) h =
    let s : Starts = starts_for cells parts processes in
    at_values s parts (s.values + cell) (IsAscending-starts_for cells parts processes) (omega arith) (omega arith) ∙ ap (λ (x : ℕ). Value x) (less s.values cell)
place_by-number_by cells parts processes (Kind cell) h =
    let s : Starts = starts_for cells parts processes in
    at_kinds s parts (s.kinds + cell) (IsAscending-starts_for cells parts processes) (omega arith) (omega arith) ∙ ap (λ (x : ℕ). Kind x) (less s.kinds cell)
place_by-number_by cells parts processes (Index row part) h =
    let s : Starts = starts_for cells parts processes in
    let below : row * parts + part < parts * cells = mul-add-lt row parts part cells h.0 h.1 in
    at_index s parts (s.index + (row * parts + part)) (IsAscending-starts_for cells parts processes) (omega arith) (omega arith)
    ∙ ap (λ (x : ℕ). Index (x / parts) (x % parts)) (less s.index (row * parts + part))
    ∙ ap (λ (x : ℕ). Index x ((row * parts + part) % parts)) (div-mul-add row parts part h.1)
    ∙ ap (λ (x : ℕ). Index row x) (mod-mul-add row parts part h.1)
place_by-number_by cells parts processes (Announce process) h =
    let s : Starts = starts_for cells parts processes in
    at_announcements s parts (s.announcements + process) (IsAscending-starts_for cells parts processes) (omega arith) (omega arith) ∙ ap (λ (x : ℕ). Announce x) (less s.announcements process)
place_by-number_by cells parts processes (Header process number) h =
    let s : Starts = starts_for cells parts processes in
    at_headers s parts (s.headers + (process * RECORDS + number)) (IsAscending-starts_for cells parts processes) (omega arith) (omega arith)
    ∙ ap (λ (x : ℕ). Header (x / RECORDS) (x % RECORDS)) (less s.headers (process * RECORDS + number))
    ∙ ap (λ (x : ℕ). Header x ((process * RECORDS + number) % RECORDS)) (div-mul-add process RECORDS number h.1)
    ∙ ap (λ (x : ℕ). Header process x) (mod-mul-add process RECORDS number h.1)
place_by-number_by cells parts processes (Text First process number part) h =
    let s : Starts = starts_for cells parts processes in
    let at : ℕ = (process * RECORDS + number) * FIRST_PARTS + part in
    at_texts s parts (s.texts + at) (IsAscending-starts_for cells parts processes) (omega arith) (omega arith)
    ∙ ap (λ (x : ℕ). first_text x) (less s.texts at) ∙ first_text_at process number part h.1 h.2
place_by-number_by cells parts processes (Text Second process number part) h =
    let s : Starts = starts_for cells parts processes in
    let at : ℕ = (process * RECORDS + number) * SECOND_PARTS + part in
    at_second s parts (s.second_texts + at) (IsAscending-starts_for cells parts processes) (omega arith)
    ∙ ap (λ (x : ℕ). second_text x) (less s.second_texts at) ∙ second_text_at process number part h.1 h.2
place_by-number_by cells parts processes (Done process part) h =
    let s : Starts = starts_for cells parts processes in
    at_done s parts (s.done + (process * DONE_PARTS + part)) (IsAscending-starts_for cells parts processes) (omega arith) (omega arith)
    ∙ ap (λ (x : ℕ). Done (x / DONE_PARTS) (x % DONE_PARTS)) (less s.done (process * DONE_PARTS + part))
    ∙ ap (λ (x : ℕ). Done x ((process * DONE_PARTS + part) % DONE_PARTS)) (div-mul-add process DONE_PARTS part h.1)
    ∙ ap (λ (x : ℕ). Done process x) (mod-mul-add process DONE_PARTS part h.1)

-- the number of a place of the sheet is that of a word
pub number_by_below : (cells parts processes : ℕ) (place : Place) → IsPlaceOf cells parts processes place
    → number_by (starts_for cells parts processes) parts place < (starts_for cells parts processes).words
number_by_below cells parts processes Version h = omega arith
number_by_below cells parts processes (Head cell) h = omega arith
number_by_below cells parts processes (Mark cell) h = omega arith
number_by_below cells parts processes (Value cell) h = omega arith
number_by_below cells parts processes (Kind cell) h = omega arith
number_by_below cells parts processes (Index row part) h = omega (arith, mul-add-lt row parts part cells h.0 h.1)
number_by_below cells parts processes (Announce process) h = omega arith
number_by_below cells parts processes (Header process number) h = omega arith
number_by_below cells parts processes (Text First process number part) h = omega arith
number_by_below cells parts processes (Text Second process number part) h = omega arith
number_by_below cells parts processes (Done process part) h = omega arith

-- the number of the place of a number
pub number_by-place_by : (cells parts processes n : ℕ) → number_by (starts_for cells parts processes) parts (place_by (starts_for cells parts processes) parts n) ≡ n
number_by-place_by cells parts processes n =
    let s : Starts = starts_for cells parts processes in
    let up : IsAscending s = IsAscending-starts_for cells parts processes in
    elim (cases_lt n s.heads) [
      | inl lt ↦ subst (λ (x : Place). number_by s parts x ≡ n) (sym (at_version s parts n lt)) (omega arith)
      | inr ge ↦ elim (cases_lt n s.marks) [
        | inl lt ↦ subst (λ (x : Place). number_by s parts x ≡ n) (sym (at_heads s parts n up (omega arith) lt)) (omega arith)
        | inr ge ↦ elim (cases_lt n s.values) [
          | inl lt ↦ subst (λ (x : Place). number_by s parts x ≡ n) (sym (at_marks s parts n up (omega arith) lt)) (omega arith)
          | inr ge ↦ elim (cases_lt n s.kinds) [
            | inl lt ↦ subst (λ (x : Place). number_by s parts x ≡ n) (sym (at_values s parts n up (omega arith) lt)) (omega arith)
            | inr ge ↦ elim (cases_lt n s.index) [
              | inl lt ↦ subst (λ (x : Place). number_by s parts x ≡ n) (sym (at_kinds s parts n up (omega arith) lt)) (omega arith)
              | inr ge ↦ elim (cases_lt n s.announcements) [
                | inl lt ↦ subst (λ (x : Place). number_by s parts x ≡ n) (sym (at_index s parts n up (omega arith) lt)) (omega (arith, div-add-mod' (n - s.index) parts))
                | inr ge ↦ elim (cases_lt n s.headers) [
                  | inl lt ↦ subst (λ (x : Place). number_by s parts x ≡ n) (sym (at_announcements s parts n up (omega arith) lt)) (omega arith)
                  | inr ge ↦ elim (cases_lt n s.texts) [
                    | inl lt ↦ subst (λ (x : Place). number_by s parts x ≡ n) (sym (at_headers s parts n up (omega arith) lt)) (omega arith)
                    | inr ge ↦ elim (cases_lt n s.done) [
                      | inl lt ↦ subst (λ (x : Place). number_by s parts x ≡ n) (sym (at_texts s parts n up (omega arith) lt)) (omega arith)
                      | inr ge ↦ elim (cases_lt n s.second_texts) [
                        | inl lt ↦ subst (λ (x : Place). number_by s parts x ≡ n) (sym (at_done s parts n up (omega arith) lt)) (omega arith)
                        | inr ge ↦ subst (λ (x : Place). number_by s parts x ≡ n) (sym (at_second s parts n up (omega arith))) (omega arith)
                      ]
                    ]
                  ]
                ]
              ]
            ]
          ]
        ]
      ]
    ]

-- the place of the number of a word is one of the sheet
pub IsPlaceOf-place_by : (cells parts processes n : ℕ) → 0 < parts → n < (starts_for cells parts processes).words → IsPlaceOf cells parts processes (place_by (starts_for cells parts processes) parts n)
IsPlaceOf-place_by cells parts processes n some below =
    let s : Starts = starts_for cells parts processes in
    let up : IsAscending s = IsAscending-starts_for cells parts processes in
    elim (cases_lt n s.heads) [
      | inl lt ↦ subst (λ (x : Place). IsPlaceOf cells parts processes x) (sym (at_version s parts n lt)) tt
      | inr ge ↦ elim (cases_lt n s.marks) [
        | inl lt ↦ subst (λ (x : Place). IsPlaceOf cells parts processes x) (sym (at_heads s parts n up (omega arith) lt)) (omega arith)
        | inr ge ↦ elim (cases_lt n s.values) [
          | inl lt ↦ subst (λ (x : Place). IsPlaceOf cells parts processes x) (sym (at_marks s parts n up (omega arith) lt)) (omega arith)
          | inr ge ↦ elim (cases_lt n s.kinds) [
            | inl lt ↦ subst (λ (x : Place). IsPlaceOf cells parts processes x) (sym (at_values s parts n up (omega arith) lt)) (omega arith)
            | inr ge ↦ elim (cases_lt n s.index) [
              | inl lt ↦ subst (λ (x : Place). IsPlaceOf cells parts processes x) (sym (at_kinds s parts n up (omega arith) lt)) (omega arith)
              | inr ge ↦ elim (cases_lt n s.announcements) [
                | inl lt ↦ subst (λ (x : Place). IsPlaceOf cells parts processes x) (sym (at_index s parts n up (omega arith) lt)) ((div_below (n - s.index) parts cells some (omega arith), mod_below (n - s.index) parts some))
                | inr ge ↦ elim (cases_lt n s.headers) [
                  | inl lt ↦ subst (λ (x : Place). IsPlaceOf cells parts processes x) (sym (at_announcements s parts n up (omega arith) lt)) (omega arith)
                  | inr ge ↦ elim (cases_lt n s.texts) [
                    | inl lt ↦ subst (λ (x : Place). IsPlaceOf cells parts processes x) (sym (at_headers s parts n up (omega arith) lt)) ((omega arith, omega arith))
                    | inr ge ↦ elim (cases_lt n s.done) [
                      | inl lt ↦ subst (λ (x : Place). IsPlaceOf cells parts processes x) (sym (at_texts s parts n up (omega arith) lt)) ((omega arith, omega arith, omega arith))
                      | inr ge ↦ elim (cases_lt n s.second_texts) [
                        | inl lt ↦ subst (λ (x : Place). IsPlaceOf cells parts processes x) (sym (at_done s parts n up (omega arith) lt)) ((omega arith, omega arith))
                        | inr ge ↦ subst (λ (x : Place). IsPlaceOf cells parts processes x) (sym (at_second s parts n up (omega arith))) ((omega arith, omega arith, omega arith))
                      ]
                    ]
                  ]
                ]
              ]
            ]
          ]
        ]
      ]
    ]

-- and so for the sheet
pub place_of-number_of : (layout : Layout) (place : Place) → IsPlace layout place → place_of layout (number_of layout place) ≡ place
unfolding place_of number_of starts_of
place_of-number_of layout place h = place_by-number_by (cells_of layout) (parts_of layout) layout.processes place h

-- the number of a place of the sheet is below that of its words
pub number_of_below : (layout : Layout) (place : Place) → IsPlace layout place → number_of layout place < words_of layout
unfolding number_of starts_of
number_of_below layout place h = number_by_below (cells_of layout) (parts_of layout) layout.processes place h

-- the place with a number has that number
pub number_of-place_of : (layout : Layout) (n : ℕ) → number_of layout (place_of layout n) ≡ n
unfolding place_of number_of starts_of
number_of-place_of layout n = number_by-place_by (cells_of layout) (parts_of layout) layout.processes n

some_parts : (layout : Layout) → 0 < parts_of layout
some_parts layout =
    let w = layout.shape.within in
    let some : 1 * 1 ≤ layout.shape.columns * layout.shape.rows = mul-le 1 1 layout.shape.columns layout.shape.rows w.some_columns w.some_rows in
    omega arith

-- the place with a number below that of the sheet's words is one of the sheet
pub IsPlace-place_of : (layout : Layout) (n : ℕ) → n < words_of layout → IsPlace layout (place_of layout n)
unfolding place_of starts_of
IsPlace-place_of layout n h = IsPlaceOf-place_by (cells_of layout) (parts_of layout) layout.processes n (some_parts layout) h

-- two places of the sheet with one number are one place
pub number_of_alone : (layout : Layout) (r place : Place) → IsPlace layout r → IsPlace layout place → number_of layout r ≡ number_of layout place → r ≡ place
number_of_alone layout r place h k e = sym (place_of-number_of layout r h) ∙ ap (place_of layout) e ∙ place_of-number_of layout place k

-- one more class after those of the words before
pub record AreClasses (layout : Layout) (classes : List Class) (n : ℕ) : Type 0 where
  pub count : length classes ≡ n
  pub each : (k : ℕ) → k < n → get_or classes k Stamped ≡ class_of (place_of layout k)

-- the next place's class, after those of the words before
pub one_more_class : (layout : Layout) (classes longer : List Class) (n : ℕ) (c : Class) (r : Place) → AreClasses layout classes n → longer ≡ classes ++ c ∷ [] → c ≡ class_of r → r ≡ place_of layout n
    → AreClasses layout longer (n + 1)
one_more_class layout classes longer n c r h more is at = record {
  count = ap (λ (xs : List Class). length xs) more ∙ length-push classes c n h.count;
  each = λ k l. ap (λ (xs : List Class). get_or xs k Stamped) more ∙ elim (cases_lt k n) [
    | inl lt ↦ get_or_append_left classes (c ∷ []) Stamped k (subst (λ (m : ℕ). k < m) (sym h.count) lt) ∙ h.each k lt
    | inr ge ↦ get_or_push classes c Stamped k (let same = h.count in omega arith) ∙ is ∙ ap class_of at ∙ ap (λ (m : ℕ). class_of (place_of layout m)) (omega arith)
  ];
}
  where
    length-push : (xs : List Class) (x : Class) (m : ℕ) → length xs ≡ m → length (xs ++ x ∷ []) ≡ m + 1
    length-push xs x m same = length-append xs (x ∷ []) ∙ ap (λ (y : ℕ). y + 1) same
