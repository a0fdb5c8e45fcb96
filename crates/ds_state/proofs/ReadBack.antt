-- What is read back of an edit's record.
use Rattle.std.proofs.Common.{ℕ, ◌≡◌, ◌<◌, ◌≤◌, ◌+◌, ◌-◌, ◌*◌, ◌++◌, List, length, take, drop, get_or, refl, ap, sym, ◌∙◌, subst, arith, min, inl, inr, zero, suc}
use Rattle.std.proofs.Math.Seq.{take-add}
use Rattle.std.proofs.lemmas.Bool.{cases_lt, le-leb, leb-true}
use Rattle.std.proofs.lemmas.List.{take_all, get_or_past}
use Rattle.ds_layout.specs.TextWords.{part_word, bytes_of}
use Rattle.ds_layout.proofs.Packed.{bytes_of-part_word, part_of-take}
use Rattle.std.specs.Prelude.{Option, Some, None, Bool, true, false, nat_le, if◌then◌else◌, []}
use Rattle.ds_layout.specs.declared.place.Edition.TheVariants.{First, Second}
use Rattle.ds_state.specs.Editions.{most_in}
use Rattle.ds_words.specs.Memory.{Memory}
use Rattle.ds_layout.specs.declared.header.Header.{Header}
use Rattle.ds_layout.specs.declared.layout.Layout.{Layout}
use Rattle.ds_layout.specs.declared.place.Place.{Place}
use Rattle.ds_layout.specs.declared.place.Place.TheVariants as place
use Rattle.ds_layout.specs.Header.{header_of}
use Rattle.ds_layout.specs.Places.{cells_of}
use Rattle.ds_layout.proofs.Packed.{header_of-header_word}
use Rattle.ds_state.specs.Edits.{text_parts}
use Rattle.ds_state.specs.Shown.{header_in, HasParts, HasRecord, parts_at, headed_at, record_at}
use Rattle.ds_state.specs.Text.{IsText}
use Rattle.ds_layout.specs.declared.place.Edition.{Edition}

small_bytes : (text : List ℕ) → IsText text → (i : ℕ) → get_or text i 0 < 256
small_bytes text h i = elim (cases_lt i (length text)) [
  | inl within ↦ h.bytes i 0 within
  | inr past ↦ rw (get_or_past text i 0 past) (omega arith)
]

-- n bytes of a text, and the first of its next part
pub next_part : (text bytes : List ℕ) (part count word : ℕ) → IsText text → word ≡ part_word text part → 8 * part < length text → count ≡ min (length text - 8 * part) 8
    → bytes ≡ take (8 * part) text → bytes ++ take count (bytes_of word) ≡ take (8 * (part + 1)) text
next_part text bytes part count word h is within c before =
    let eight : count ≤ 8 = omega arith in
    let fits : 8 * part + count ≤ length text = omega arith in
    let read : take count (bytes_of word) ≡ take count (drop (8 * part) text) =
    ap (λ (n : ℕ). take count (bytes_of n)) is ∙ ap (λ xs. take count xs) (bytes_of-part_word text part (small_bytes text h)) ∙ part_of-take text part count eight fits in
    ap (λ xs. xs ++ take count (bytes_of word)) before ∙ ap (λ xs. take (8 * part) text ++ xs) read ∙ sym (take-add (8 * part) count text) ∙ elim (cases_lt count 8) [
      | inl last ↦ take_all (8 * part + count) text (omega arith) ∙ sym (take_all (8 * (part + 1)) text (omega arith))
      | inr whole ↦ ap (λ (n : ℕ). take n text) (omega arith)
    ]

-- one part more of what is read
pub parts_more : (m : Memory Place) (edition : Edition) (process number count part : ℕ) → parts_at m edition process number count (part + 1) ≡ parts_at m edition process number count part ++ take (min (count - 8 * part) 8) (bytes_of (m.cached (place.Text edition process number part)))
parts_more m edition process number count part =
    let same : part + 1 ≡ suc part = omega arith in
    ap (λ (k : ℕ). parts_at m edition process number count k) same

-- the bytes of the next part, after those read so far: one part more of the record's text
pub next_read : (m : Memory Place) (edition : Edition) (process number count part rest word : ℕ) (before bytes after : List ℕ) → before ≡ parts_at m edition process number count part → rest ≡ min (count - 8 * part) 8
    → word ≡ m.cached (place.Text edition process number part) → bytes ≡ bytes_of word → after ≡ before ++ take rest bytes → after ≡ parts_at m edition process number count (part + 1)
next_read m edition process number count part rest word before bytes after prior few is read added =
    added
    ∙ ap (λ (xs : List ℕ). before ++ take rest xs) read
    ∙ ap (λ (n : ℕ). before ++ take n (bytes_of word)) few
    ∙ ap (λ (n : ℕ). before ++ take (min (count - 8 * part) 8) (bytes_of n)) is
    ∙ ap (λ (xs : List ℕ). xs ++ take (min (count - 8 * part) 8) (bytes_of (m.cached (place.Text edition process number part)))) prior
    ∙ sym (parts_more m edition process number count part)

one_more : (part : ℕ) → part + 1 ≡ suc part
one_more part = omega arith

parts_read : (m : Memory Place) (edition : Edition) (process number : ℕ) (text : List ℕ) → HasParts m edition process number text → (part : ℕ) → part ≤ text_parts text → parts_at m edition process number (length text) part ≡ take (8 * part) text
parts_read m edition process number text h zero l = refl
parts_read m edition process number text h (suc part) l =
    next_part text (parts_at m edition process number (length text) part) part (min (length text - 8 * part) 8) (m.cached (place.Text edition process number part)) h.is (h.each part (omega arith)) (omega arith) refl (parts_read m edition process number text h part (omega arith))
    ∙ ap (λ (k : ℕ). take (8 * k) text) (one_more part)

-- what is read of a record is its text
pub record_read : (layout : Layout) (m : Memory Place) (edition : Edition) (process number cell : ℕ) (text : List ℕ) → cell < cells_of layout → HasRecord m edition process number cell text → record_at layout m edition process number ≡ text
record_read layout m edition process number cell text within h =
    let header : Header = record { cell = cell; length = length text } in
    let most = layout.shape.within.cells_to_1024 in
    let short = h.parts.is.short in
    let found : header_of (cells_of layout) (m.cached (place.Header process number)) ≡ Some header =
    ap (λ (word : ℕ). header_of (cells_of layout) word) h.header ∙ header_of-header_word (cells_of layout) header (record { cell = omega arith; length = omega arith }) (record { cell = within; length = short }) in
    ap (λ (o : Option Header). headed_at m edition process number o) found
    ∙ ap (λ (b : Bool). if b then parts_at m edition process number (length text) (text_parts text) else []) (le-leb (length text) (most_in edition) h.parts.fits)
    ∙ parts_read m edition process number text h.parts (text_parts text) (omega arith)
    ∙ take_all (8 * text_parts text) text (omega arith)

-- a header that the layout has room for
pub header_in_some : (edition : Edition) (header : Header) → header.length ≤ most_in edition → header_in edition (Some header) ≡ Some header
header_in_some edition header fits = ap (λ (b : Bool). if b then Some header else None) (le-leb header.length (most_in edition) fits)

-- a header that a layout takes says no more bytes than a text of the layout may have
pub header_in_fits : (edition : Edition) (o : Option Header) (header : Header) → header_in edition o ≡ Some header → header.length ≤ most_in edition
header_in_fits edition None header is = absurd (cc)
header_in_fits edition (Some h) header is = by (nat_le h.length (most_in edition)) refl is
  where
    by : (b : Bool) → nat_le h.length (most_in edition) ≡ b → (if b then Some h else None) ≡ Some header → header.length ≤ most_in edition
    by true le same = let one : h ≡ header = cc in subst (λ (x : Header). x.length ≤ most_in edition) one (leb-true h.length (most_in edition) le)
    by false le same = absurd (cc)

-- a text has at most 240 bytes in either layout
pub most_small : (edition : Edition) → most_in edition ≤ 240
most_small First = omega arith
most_small Second = omega arith
