-- Packed forms read back their parts, as equations of plain values.
use Rattle.std.proofs.Common.{ℕ, ℤ, ◌≡◌, ◌≢◌, ◌+◌, ◌-◌, ◌*◌, ◌/◌, ◌%◌, ◌^◌, ◌<◌, ◌≤◌, Bool, true, false, cond, Option, Some, None, nat_lt, ◌&&◌, ◌||◌, ◌==◌, List, length, get_or, take, drop, refl, ap, sym, ◌∙◌, subst, arith, suc, zero, inl, inr, pos}
use Rattle.std.specs.Prelude.{if◌then◌else◌, bit_or, FitsSigned, nat_le, map}
use Rattle.std.specs.Int.{w64, cast_signed, cast_unsigned}
use Rattle.std.specs.List.{range_with_len}
use Rattle.std.proofs.lemmas.Bool.{cases_lt, ltb-true, ltb-false, lt-ltb, le-ltb, le-leb, leb-true, ne_eqb, eqb-true, eqb-false, false≢true}
use Rattle.std.proofs.lemmas.List.{get_or_past, ext_get_or, get_or-take, get_or-drop, length-drop, length-take-le}
use Rattle.std.proofs.lemmas.Int.{to_z-of_z}
use Rattle.std.proofs.lemmas.Nat.{le_bytes_8, or_block, or_comm}
use Rattle.std.proofs.lemmas.List.FromFn.{length-map-range_with_len, get_or-map-range_with_len}
use Rattle.ds_layout.specs.declared.place.TheConstants.{RECORDS}
use Rattle.ds_formula.specs.Limits.{TEXT_MOST}
use Rattle.ds_layout.specs.declared.head.Head.{Head}
use Rattle.ds_layout.specs.declared.mark.Mark.{Mark}
use Rattle.ds_layout.specs.declared.stored.Kind.{Kind}
use Rattle.ds_layout.specs.declared.stored.Kind.TheVariants.{Blank, Number, DivZero, Num, Circular}
use Rattle.ds_layout.specs.declared.stored.Stored.{Stored}
use Rattle.ds_layout.specs.declared.announcement.Phase.{Phase}
use Rattle.ds_layout.specs.declared.announcement.Phase.TheVariants.{Pending, Done, NotDone}
use Rattle.ds_layout.specs.declared.announcement.Announcement.{Announcement}
use Rattle.ds_layout.specs.declared.header.Header.{Header}
use Rattle.ds_layout.specs.Head as heads
use Rattle.ds_layout.specs.Head.{IsHead, head_word, head_of}
use Rattle.ds_layout.specs.Mark as marks
use Rattle.ds_layout.specs.Mark.{mark_word, parts_of, present, mark_of, holder_code, holder_of, dirty_bit}
use Rattle.ds_layout.specs.Stored.{Goes, IsStored, kind_word, value_word, stored_of, stored_by, kind_code}
use Rattle.ds_layout.specs.Announcement.{IsAnnouncement, announcement_word, announcement_of, announcement_with, phase_code}
use Rattle.ds_layout.specs.Header as headers
use Rattle.ds_layout.specs.Header.{IsHeader, header_word, header_of}
use Rattle.ds_layout.specs.TextWords.{part_of, part_word, bytes_of}

both : (a b : Bool) → a ≡ true → b ≡ true → (a && b) ≡ true
both a b e f = ap (λ t. t && b) e ∙ f

-- heads
head_with : ℕ → ℕ → ℕ → Head
head_with stamp process number = record { stamp = stamp; process = process; number = number }

-- the word of a head is that head
pub head_of-head_word : (processes : ℕ) (h : Head) → IsHead processes h → head_of processes (head_word h) ≡ Some h
unfolding head_with
head_of-head_word processes h k =
    let c : heads.CanPack h = k.packs in
    let stamp : head_word h / 65536 ≡ h.stamp = omega arith in
    let process : head_word h / 256 % 256 ≡ h.process = omega arith in
    let number : head_word h % 256 ≡ h.number = omega arith in
    let pick : Head → Option Head = λ x. if nat_lt 0 x.stamp && nat_lt x.process processes then Some x else None in
    let same : head_with (head_word h / 65536) (head_word h / 256 % 256) (head_word h % 256) ≡ h =
    ap (λ s. head_with s (head_word h / 256 % 256) (head_word h % 256)) stamp ∙ ap (λ p. head_with h.stamp p (head_word h % 256)) process ∙ ap (λ n. head_with h.stamp h.process n) number in
    ap pick same ∙ ap (λ (b : Bool). if b then Some h else None) (both (nat_lt 0 h.stamp) (nat_lt h.process processes) (lt-ltb 0 h.stamp k.counted) (lt-ltb h.process processes k.process))

-- what a head's word reads as is a head, and its word is that word
some_if : (b : Bool) (x h : Head) → (if b then Some x else None) ≡ Some h → (b ≡ true) × (x ≡ h)
some_if true x h e = (refl, cc)
some_if false x h e = cc

left : (a b : Bool) → (a && b) ≡ true → a ≡ true
left true b e = refl
left false b e = e

right : (a b : Bool) → (a && b) ≡ true → b ≡ true
right true b e = e
right false b e = absurd (false≢true e)

-- a word of 64 bits that is a head is the word of it, and its process is one of the sheet
pub IsHead-head_of : (processes word : ℕ) (h : Head) → word < 2 ^ 64 → head_of processes word ≡ Some h → IsHead processes h × (head_word h ≡ word)
unfolding head_with
IsHead-head_of processes word h small e =
    let x : Head = head_with (word / 65536) (word / 256 % 256) (word % 256) in
    let r = some_if (nat_lt 0 x.stamp && nat_lt x.process processes) x h e in
    let counted : 0 < x.stamp = ltb-true 0 x.stamp (left (nat_lt 0 x.stamp) (nat_lt x.process processes) r.0) in
    let process : x.process < processes = ltb-true x.process processes (right (nat_lt 0 x.stamp) (nat_lt x.process processes) r.0) in
    let packs : heads.CanPack x = record { stamp = omega arith; process = omega arith; number = omega arith } in
    let is : IsHead processes x = record { counted = counted; packs = packs; process = process } in
    (subst (λ (y : Head). IsHead processes y) r.1 is, ap head_word (sym r.1) ∙ (omega arith))

-- marks
dirty_small : (d : Bool) → dirty_bit d ≤ 1
dirty_small false = omega arith
dirty_small true = omega arith

holder_of-holder_code : (h : Option ℕ) → holder_of (holder_code h) ≡ h
holder_of-holder_code None = refl
holder_of-holder_code (Some p) =
    ap (λ (b : Bool). if b then None else Some (p + 1 - 1)) (ne_eqb (p + 1) 0 (λ e. absurd (omega arith))) ∙ ap (λ (n : ℕ). Some n) (omega arith)

holder_code-holder_of : (c : ℕ) → holder_code (holder_of c) ≡ c
holder_code-holder_of zero = refl
holder_code-holder_of (suc c) =
    ap (λ (b : Bool). holder_code (if b then None else Some (suc c - 1))) (ne_eqb (suc c) 0 (λ e. absurd (omega arith))) ∙ (omega arith)

dirty_of-dirty_bit : (d : Bool) → (dirty_bit d == 1) ≡ d
dirty_of-dirty_bit false = refl
dirty_of-dirty_bit true = refl

dirty_bit-dirty_of : (n : ℕ) → n < 2 → dirty_bit (n == 1) ≡ n
dirty_bit-dirty_of zero h = refl
dirty_bit-dirty_of (suc zero) h = refl
dirty_bit-dirty_of (suc (suc n)) h = absurd (omega arith)

mark_with : ℕ → Option ℕ → Bool → Mark
mark_with generation holder dirty = record { generation = generation; holder = holder; dirty = dirty }

pub parts_of-mark_word : (m : Mark) → marks.CanPack m → parts_of (mark_word m) ≡ m
unfolding mark_with
parts_of-mark_word m c =
    let code : ℕ = holder_code m.holder in
    let bit : ℕ = dirty_bit m.dirty in
    let small : bit ≤ 1 = dirty_small m.dirty in
    let fits : code < 16 = c.holder in
    let word : ℕ = m.generation * 32 + code * 2 + bit in
    let generation : word / 32 ≡ m.generation = omega arith in
    let holder : word / 2 % 16 ≡ code = omega arith in
    let dirty : word % 2 ≡ bit = omega arith in
    ap (λ g. mark_with g (holder_of (word / 2 % 16)) (word % 2 == 1)) generation
    ∙ ap (λ h. mark_with m.generation h (word % 2 == 1)) (ap holder_of holder ∙ holder_of-holder_code m.holder)
    ∙ ap (λ d. mark_with m.generation m.holder d) (ap (λ (n : ℕ). n == 1) dirty ∙ dirty_of-dirty_bit m.dirty)

pub mark_word-parts_of : (word : ℕ) → mark_word (parts_of word) ≡ word
mark_word-parts_of word =
    let holder : holder_code (holder_of (word / 2 % 16)) ≡ word / 2 % 16 = holder_code-holder_of (word / 2 % 16) in
    let dirty : dirty_bit (word % 2 == 1) ≡ word % 2 = dirty_bit-dirty_of (word % 2) (omega arith) in
    ap (λ (c : ℕ). word / 32 * 32 + c * 2 + dirty_bit (word % 2 == 1)) holder ∙ ap (λ (b : ℕ). word / 32 * 32 + word / 2 % 16 * 2 + b) dirty ∙ (omega arith)

one_added : (d : Bool) → bit_or (dirty_bit d) 1 ≡ 1
one_added false = refl
one_added true = refl

bit_fits : (d : Bool) → dirty_bit d < 2 ^ 1
bit_fits false = omega arith
bit_fits true = omega arith

-- the bit added to the word makes the mark dirty
pub mark_word-dirtied : (m : Mark) → mark_word (record m { dirty = true }) ≡ bit_or (mark_word m) 1
mark_word-dirtied m =
    let g : ℕ = m.generation in
    let h : ℕ = holder_code m.holder in
    let d : Bool = m.dirty in
    let rest : ℕ = g * 16 + h in
    let parts : g * 32 + h * 2 + dirty_bit d ≡ rest * 2 ^ 1 + dirty_bit d = omega arith in
    let none : bit_or rest 0 ≡ rest = or_comm rest 0 in
    let joined : bit_or (rest * 2 ^ 1 + dirty_bit d) 1 ≡ bit_or rest 0 * 2 ^ 1 + bit_or (dirty_bit d) 1 = or_block 1 rest 0 (dirty_bit d) 1 (bit_fits d) (omega arith) in
    let one : bit_or (dirty_bit d) 1 ≡ 1 = one_added d in
    sym (ap (λ (x : ℕ). bit_or x 1) parts ∙ joined ∙ ap (λ (x : ℕ). x * 2 ^ 1 + bit_or (dirty_bit d) 1) none ∙ ap (λ (x : ℕ). rest * 2 ^ 1 + x) one ∙ (omega arith))

pub CanPack-parts_of : (word : ℕ) → word < 2 ^ 64 → marks.CanPack (parts_of word)
CanPack-parts_of word small =
    let holder : holder_code (holder_of (word / 2 % 16)) ≡ word / 2 % 16 = holder_code-holder_of (word / 2 % 16) in
    record { generation = omega arith; holder = subst (λ (n : ℕ). n < 16) (sym holder) (omega arith) }

pub parts_of-or_dirty : (word : ℕ) → word < 2 ^ 64 → parts_of (bit_or word 1) ≡ record (parts_of word) { dirty = true }
parts_of-or_dirty word small =
    let m : Mark = parts_of word in
    let c : marks.CanPack m = CanPack-parts_of word small in
    let dirty : Mark = record m { dirty = true } in
    let d : marks.CanPack dirty = record { generation = c.generation; holder = c.holder } in
    ap (λ (w : ℕ). parts_of (bit_or w 1)) (sym (mark_word-parts_of word)) ∙ ap parts_of (sym (mark_word-dirtied m)) ∙ parts_of-mark_word dirty d

-- a process of the sheet is there
present-within : (processes : ℕ) (holder : Option ℕ) → holder_code holder ≤ processes → present processes holder ≡ holder
present-within processes None h = refl
present-within processes (Some process) h = ap (λ (b : Bool). cond b (Some process) None) (lt-ltb process processes (omega (arith, h)))

absent-within : (processes : ℕ) (holder : Option ℕ) → holder_code (present processes holder) ≤ processes
absent-within processes None = omega arith
absent-within processes (Some process) = by_test (nat_lt process processes) (ltb-true process processes)
  where
    by_test : (b : Bool) → (b ≡ true → process < processes) → holder_code (cond b (Some process) None) ≤ processes
    by_test true below = let b : process < processes = below refl in omega arith
    by_test false below = omega arith

seen_in : ℕ → Mark → Mark
seen_in processes m = mark_with m.generation (present processes m.holder) m.dirty

pub mark_of-mark_word : (processes : ℕ) (m : Mark) → marks.CanPack m → holder_code m.holder ≤ processes → mark_of processes (mark_word m) ≡ m
unfolding mark_with seen_in
mark_of-mark_word processes m c h =
    ap (seen_in processes) (parts_of-mark_word m c) ∙ ap (λ (o : Option ℕ). mark_with m.generation o m.dirty) (present-within processes m.holder h)

pub mark_word-mark_of : (processes word : ℕ) → word / 2 % 16 ≤ processes → mark_word (mark_of processes word) ≡ word
mark_word-mark_of processes word h =
    let code : holder_code (holder_of (word / 2 % 16)) ≡ word / 2 % 16 = holder_code-holder_of (word / 2 % 16) in
    ap (λ (o : Option ℕ). word / 32 * 32 + holder_code o * 2 + dirty_bit (word % 2 == 1)) (present-within processes (holder_of (word / 2 % 16)) (omega (arith, code, h)))
    ∙ mark_word-parts_of word

pub CanPack-mark_of : (processes word : ℕ) → processes < 16 → word < 2 ^ 64 → marks.CanPack (mark_of processes word)
CanPack-mark_of processes word few small =
    let within = absent-within processes (holder_of (word / 2 % 16)) in
    record { generation = omega arith; holder = omega (arith, within, few) }

pub holder-mark_of : (processes word : ℕ) → holder_code (mark_of processes word).holder ≤ processes
holder-mark_of processes word = absent-within processes (holder_of (word / 2 % 16))

pub mark_of-or_dirty : (processes word : ℕ) → word < 2 ^ 64 → mark_of processes (bit_or word 1) ≡ record (mark_of processes word) { dirty = true }
unfolding mark_with seen_in
mark_of-or_dirty processes word small = ap (seen_in processes) (parts_of-or_dirty word small)

-- a mark's word lies with its generation
pub mark_word_within : (m : Mark) → marks.CanPack m → (m.generation * 32 ≤ mark_word m) × (mark_word m < (m.generation + 1) * 32)
mark_word_within m c =
    let holder : holder_code m.holder < 16 = c.holder in
    let dirty : dirty_bit m.dirty ≤ 1 = dirty_small m.dirty in
    (omega arith, omega arith)

pub mark_word_grows : (m k : Mark) → marks.CanPack m → marks.CanPack k → m.generation < k.generation → mark_word m < mark_word k
mark_word_grows m k c d lt =
    let a = mark_word_within m c in
    let b = mark_word_within k d in
    omega arith

-- a head's word lies with its stamp
pub head_word_within : (h : Head) → heads.CanPack h → (h.stamp * 65536 ≤ head_word h) × (head_word h < (h.stamp + 1) * 65536)
head_word_within h c = (omega arith, omega arith)

pub head_word_grows : (h k : Head) → heads.CanPack h → heads.CanPack k → h.stamp < k.stamp → head_word h < head_word k
head_word_grows h k c d lt =
    let a = head_word_within h c in
    let b = head_word_within k d in
    omega arith

-- announcements
announced : (number : ℕ) (phase : Phase) → announcement_with number (phase_code phase) ≡ Some (record { number = number; phase = phase })
announced number Pending = refl
announced number Done = refl
announced number NotDone = refl

code_small : (phase : Phase) → phase_code phase < 4
code_small Pending = omega arith
code_small Done = omega arith
code_small NotDone = omega arith

-- the word of an announcement is that announcement
pub announcement_of-announcement_word : (a : Announcement) → IsAnnouncement a → announcement_of (announcement_word a) ≡ Some a
announcement_of-announcement_word a k =
    let code : ℕ = phase_code a.phase in
    let small : code < 4 = code_small a.phase in
    let word : ℕ = (a.number + 1) * 4 + code in
    let first : word / 4 - 1 ≡ a.number = omega arith in
    let phase : word % 4 ≡ code = omega arith in
    let some : (word / 4 == 0) ≡ false = ne_eqb (word / 4) 0 (λ e. absurd (omega arith)) in
    let below : nat_lt RECORDS (word / 4) ≡ false = le-ltb RECORDS (word / 4) (omega arith) in
    ap (λ (b : Bool). if b || nat_lt RECORDS (word / 4) then None else announcement_with (word / 4 - 1) (word % 4)) some
    ∙ ap (λ (b : Bool). if b then None else announcement_with (word / 4 - 1) (word % 4)) below
    ∙ ap (λ (n : ℕ). announcement_with n (word % 4)) first
    ∙ ap (λ (c : ℕ). announcement_with a.number c) phase
    ∙ announced a.number a.phase

-- headers
header_with : ℕ → ℕ → Header
header_with cell length = record { cell = cell; length = length }

-- the word of a header is that header
pub header_of-header_word : (cells : ℕ) (h : Header) → headers.CanPack h → IsHeader cells h → header_of cells (header_word h) ≡ Some h
unfolding header_with
header_of-header_word cells h c k =
    let small : h.length < 256 = c.length in
    let cell : header_word h / 256 ≡ h.cell = omega arith in
    let length_is : header_word h % 256 ≡ h.length = omega arith in
    let pick : Header → Option Header = λ x. if nat_lt x.cell cells && nat_le x.length TEXT_MOST then Some x else None in
    ap pick (ap (λ n. header_with n (header_word h % 256)) cell ∙ ap (λ n. header_with h.cell n) length_is)
    ∙ ap (λ (b : Bool). if b then Some h else None) (both (nat_lt h.cell cells) (nat_le h.length TEXT_MOST) (lt-ltb h.cell cells k.cell) (le-leb h.length TEXT_MOST k.length))

-- what a cell shows
shown_with : Kind → ℕ → ℤ → Stored
shown_with kind height value = record { kind = kind; height = height; value = value }

shown_below : (cells value word height code : ℕ) → word / 8 ≡ height → word % 8 ≡ code → height < cells → stored_of cells value word ≡ stored_by cells height code (cast_signed w64 value)
shown_below cells value word height code h c lt =
    ap (λ (b : Bool). if b then stored_by cells (word / 8) (word % 8) (cast_signed w64 value) else record { kind = Circular; height = cells; value = pos 0 }) (lt-ltb (word / 8) cells (omega arith))
    ∙ ap (λ (n : ℕ). stored_by cells n (word % 8) (cast_signed w64 value)) h
    ∙ ap (λ (n : ℕ). stored_by cells height n (cast_signed w64 value)) c

shown_past : (cells value word : ℕ) → cells ≤ word / 8 → stored_of cells value word ≡ shown_with Circular cells (pos 0)
unfolding shown_with
shown_past cells value word h =
    ap (λ (b : Bool). if b then stored_by cells (word / 8) (word % 8) (cast_signed w64 value) else record { kind = Circular; height = cells; value = pos 0 }) (le-ltb (word / 8) cells h)

shown : (cells : ℕ) (kind : Kind) (height : ℕ) (value : ℤ) → FitsSigned w64 value → Goes cells kind height value → stored_of cells (cast_unsigned w64 value) (height * 8 + kind_code kind) ≡ shown_with kind height value
unfolding shown_with
shown cells Blank height value fits k =
    shown_below cells (cast_unsigned w64 value) (height * 8 + 0) height 0 (omega arith) (omega arith) k.0 ∙ ap (λ z. shown_with Blank height z) (sym k.1)
shown cells Number height value fits k =
    shown_below cells (cast_unsigned w64 value) (height * 8 + 1) height 1 (omega arith) (omega arith) k ∙ ap (λ z. shown_with Number height z) (to_z-of_z w64 value fits)
shown cells DivZero height value fits k =
    shown_below cells (cast_unsigned w64 value) (height * 8 + 2) height 2 (omega arith) (omega arith) k.0 ∙ ap (λ z. shown_with DivZero height z) (sym k.1)
shown cells Num height value fits k =
    shown_below cells (cast_unsigned w64 value) (height * 8 + 3) height 3 (omega arith) (omega arith) k.0 ∙ ap (λ z. shown_with Num height z) (sym k.1)
shown cells Circular height value fits k =
    let at : height ≡ cells = k.0 in
    shown_past cells (cast_unsigned w64 value) (height * 8 + 4) (omega arith) ∙ ap (λ n. shown_with Circular n (pos 0)) (sym k.0) ∙ ap (λ z. shown_with Circular height z) (sym k.1)

-- the two words of what a cell can show say just that
pub stored_of-words : (cells : ℕ) (s : Stored) → FitsSigned w64 s.value → IsStored cells s → stored_of cells (value_word s) (kind_word s) ≡ s
unfolding shown_with
stored_of-words cells s fits k = shown cells s.kind s.height s.value fits k

-- texts
pub bytes_of-part_word : (text : List ℕ) (part : ℕ) → ((i : ℕ) → get_or text i 0 < 256) → bytes_of (part_word text part) ≡ part_of text part
bytes_of-part_word text part small =
    let f : ℕ → ℕ = λ k. get_or text (8 * part + k) 0 in
    le_bytes_8 (part_of text part) (part_word text part) (length-map-range_with_len f 0 8)
    (λ i. elim (cases_lt i 8) [
      | inl lt ↦ subst (λ (n : ℕ). n < 256) (sym (get_or-map-range_with_len f 0 8 i i 0 lt (omega arith))) (small (8 * part + i))
      | inr ge ↦ subst (λ (n : ℕ). n < 256) (sym (get_or_past (part_of text part) i 0 (subst (λ (n : ℕ). n ≤ i) (sym (length-map-range_with_len f 0 8)) ge))) (omega arith)
    ])
    refl

-- the bytes of a part within the text are those of the text
pub part_of-take : (text : List ℕ) (part n : ℕ) → n ≤ 8 → 8 * part + n ≤ length text → take n (part_of text part) ≡ take n (drop (8 * part) text)
part_of-take text part n eight within =
    let f : ℕ → ℕ = λ k. get_or text (8 * part + k) 0 in
    let bytes : List ℕ = map f (range_with_len 0 8) in
    let rest : List ℕ = drop (8 * part) text in
    let has : length bytes ≡ 8 = length-map-range_with_len f 0 8 in
    let left_over : length rest ≡ length text - 8 * part = length-drop (8 * part) text in
    let first : length (take n bytes) ≡ n = length-take-le n bytes (omega arith) in
    let second : length (take n rest) ≡ n = length-take-le n rest (omega arith) in
    ext_get_or 0 (take n bytes) (take n rest) (first ∙ sym second)
    (λ i h.
    let lt : i < n = omega arith in
    get_or-take n bytes i 0 lt
    ∙ get_or-map-range_with_len f 0 8 i i 0 (omega arith) (omega arith)
    ∙ sym (get_or-drop (8 * part) text i 0)
    ∙ sym (get_or-take n rest i 0 lt))

-- what is read is in range, and its word is the word that was read
pub IsHeader-header_of : (cells word : ℕ) (h : Header) → header_of cells word ≡ Some h → IsHeader cells h × (header_word h ≡ word)
unfolding header_with
IsHeader-header_of cells word h e =
    let x : Header = header_with (word / 256) (word % 256) in
    let r = header_if (nat_lt x.cell cells && nat_le x.length TEXT_MOST) x h e in
    let is : IsHeader cells x = record {
      cell = ltb-true x.cell cells (left (nat_lt x.cell cells) (nat_le x.length TEXT_MOST) r.0);
      length = leb-true x.length TEXT_MOST (right (nat_lt x.cell cells) (nat_le x.length TEXT_MOST) r.0);
    } in
    (subst (λ (y : Header). IsHeader cells y) r.1 is, ap header_word (sym r.1) ∙ (omega arith))
  where
    header_if : (b : Bool) (x h : Header) → (if b then Some x else None) ≡ Some h → (b ≡ true) × (x ≡ h)
    header_if true x h e = (refl, cc)
    header_if false x h e = cc

announced_of : (number code : ℕ) (a : Announcement) → announcement_with number code ≡ Some a → (a.number ≡ number) × (phase_code a.phase ≡ code)
announced_of number code a e = first (code == 1) (eqb-true code 1) e
  where
    third : (b : Bool) → (b ≡ true → code ≡ 3) → (if b then Some (let x : Announcement = record { number = number; phase = NotDone } in x) else None) ≡ Some a → (a.number ≡ number) × (phase_code a.phase ≡ code)
    third true t e =
        let same : (let x : Announcement = record { number = number; phase = NotDone } in x) ≡ a = cc in
        (ap (λ (x : Announcement). x.number) (sym same), ap (λ (x : Announcement). phase_code x.phase) (sym same) ∙ sym (t refl))
    third false t e = cc

    second : (b : Bool) → (b ≡ true → code ≡ 2) → (if b then Some (let x : Announcement = record { number = number; phase = Done } in x) else (if code == 3 then Some (let x : Announcement = record { number = number; phase = NotDone } in x) else None)) ≡ Some a → (a.number ≡ number) × (phase_code a.phase ≡ code)
    second true t e =
        let same : (let x : Announcement = record { number = number; phase = Done } in x) ≡ a = cc in
        (ap (λ (x : Announcement). x.number) (sym same), ap (λ (x : Announcement). phase_code x.phase) (sym same) ∙ sym (t refl))
    second false t e = third (code == 3) (eqb-true code 3) e

    first : (b : Bool) → (b ≡ true → code ≡ 1) → (if b then Some (let x : Announcement = record { number = number; phase = Pending } in x) else (if code == 2 then Some (let x : Announcement = record { number = number; phase = Done } in x) else (if code == 3 then Some (let x : Announcement = record { number = number; phase = NotDone } in x) else None))) ≡ Some a → (a.number ≡ number) × (phase_code a.phase ≡ code)
    first true t e =
        let same : (let x : Announcement = record { number = number; phase = Pending } in x) ≡ a = cc in
        (ap (λ (x : Announcement). x.number) (sym same), ap (λ (x : Announcement). phase_code x.phase) (sym same) ∙ sym (t refl))
    first false t e = second (code == 2) (eqb-true code 2) e

-- a word that is an announcement is the word of it, and its number is that of a record
pub IsAnnouncement-announcement_of : (word : ℕ) (a : Announcement) → announcement_of word ≡ Some a → IsAnnouncement a × (announcement_word a ≡ word)
IsAnnouncement-announcement_of word a e = none (word / 4 == 0) (nat_lt RECORDS (word / 4)) (eqb-false (word / 4) 0) (ltb-false RECORDS (word / 4)) e
  where
    none : (b c : Bool) → (b ≡ false → word / 4 ≡ 0 → ⊥) → (c ≡ false → word / 4 ≤ RECORDS) → (if b || c then None else announcement_with (word / 4 - 1) (word % 4)) ≡ Some a → IsAnnouncement a × (announcement_word a ≡ word)
    none true c f g e = cc
    none false true f g e = cc
    none false false f g e =
        let r = announced_of (word / 4 - 1) (word % 4) a e in
        let some : word / 4 ≢ 0 = f refl in
        let within : word / 4 ≤ RECORDS = g refl in
        let number : a.number ≡ word / 4 - 1 = r.0 in
        let code : phase_code a.phase ≡ word % 4 = r.1 in
        (omega arith, omega arith)

stored_by_is : (cells height code : ℕ) (value : ℤ) → height < cells → IsStored cells (stored_by cells height code value)
stored_by_is cells height code value h = first (code == 0)
  where
    fourth : (b : Bool) → IsStored cells (if b then (let s : Stored = record { kind = Num; height = height; value = pos 0 } in s) else (let s : Stored = record { kind = Circular; height = cells; value = pos 0 } in s))
    fourth true = (h, refl)
    fourth false = (refl, refl)

    third : (b : Bool) → IsStored cells (if b then (let s : Stored = record { kind = DivZero; height = height; value = pos 0 } in s) else (if code == 3 then (let s : Stored = record { kind = Num; height = height; value = pos 0 } in s) else (let s : Stored = record { kind = Circular; height = cells; value = pos 0 } in s)))
    third true = (h, refl)
    third false = fourth (code == 3)

    second : (b : Bool) → IsStored cells (if b then (let s : Stored = record { kind = Number; height = height; value = value } in s) else (if code == 2 then (let s : Stored = record { kind = DivZero; height = height; value = pos 0 } in s) else (if code == 3 then (let s : Stored = record { kind = Num; height = height; value = pos 0 } in s) else (let s : Stored = record { kind = Circular; height = cells; value = pos 0 } in s))))
    second true = h
    second false = third (code == 2)

    first : (b : Bool) → IsStored cells (if b then (let s : Stored = record { kind = Blank; height = height; value = pos 0 } in s) else (if code == 1 then (let s : Stored = record { kind = Number; height = height; value = value } in s) else (if code == 2 then (let s : Stored = record { kind = DivZero; height = height; value = pos 0 } in s) else (if code == 3 then (let s : Stored = record { kind = Num; height = height; value = pos 0 } in s) else (let s : Stored = record { kind = Circular; height = cells; value = pos 0 } in s)))))
    first true = (h, refl)
    first false = second (code == 1)

-- whatever two words say, a cell can show it
pub IsStored-stored_of : (cells value kind : ℕ) → IsStored cells (stored_of cells value kind)
IsStored-stored_of cells value kind = by_test (nat_lt (kind / 8) cells) (ltb-true (kind / 8) cells)
  where
    by_test : (b : Bool) → (b ≡ true → kind / 8 < cells) → IsStored cells (if b then stored_by cells (kind / 8) (kind % 8) (cast_signed w64 value) else (let s : Stored = record { kind = Circular; height = cells; value = pos 0 } in s))
    by_test true t = stored_by_is cells (kind / 8) (kind % 8) (cast_signed w64 value) (t refl)
    by_test false t = (refl, refl)
