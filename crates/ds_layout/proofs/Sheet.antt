-- Each event of the words is the same event of the places.
use Rattle.std.proofs.Common.{ℕ, ◌≡◌, ◌≢◌, ◌<◌, List, [], ◌∷◌, ◌++◌, refl, ap, sym, ◌∙◌, subst, inl, inr, Bool, true, false, nat_lt, map, ◌&&◌, length}
use Rattle.std.specs.Prelude.{if◌then◌else◌, bit_or}
use Rattle.std.proofs.lemmas.Bool.{ltb-true, lt-ltb, false≢true}
use Rattle.std.proofs.lemmas.List.{map-append, length-map, length-replicate}
use Rattle.ds_words.specs.declared.access.Class.{Class}
use Rattle.ds_words.specs.declared.access.BufferEntry.{BufferEntry}
use Rattle.ds_words.specs.declared.access.Access.{Access}
use Rattle.ds_words.specs.declared.access.Access.TheVariants.{Nothing, Load, Store, Or, SwapIf, Flush, Back}
use Rattle.ds_words.specs.Memory.{Memory, newer, IsFresh, SameMemory, StoresAt, OrsAt, SwapsAt, FlushesAt, WritesBack, BacksFirst, EvictsAt, Crashes, StopsAt, Performs}
use Rattle.ds_words.specs.Words.{WordsValue, memory_of, class_at, buffer_of, SameShape, fresh_words, zero_word}
use Rattle.ds_words.specs.Words as words
use Rattle.ds_words.specs.declared.words.TheConstants.{BUFFER_ENTRIES}
use Rattle.ds_layout.specs.declared.place.TheConstants.{RECORDS, DONE_PARTS}
use Rattle.ds_layout.specs.declared.place.Place.{Place}
use Rattle.ds_layout.specs.declared.place.Place.TheVariants.{Version, Head, Mark, Value, Kind, Index, Announce, Header, Text, Done}
use Rattle.ds_layout.specs.declared.layout.Layout.{Layout}
use Rattle.ds_layout.specs.Places.{cells_of, parts_of, parts_in, class_of, IsPlaceOf, IsPlace, number_of, place_of, words_of}
use Rattle.ds_layout.specs.SheetMemory.{is_place_of, is_place, side_at, entry_at, memory_at, access_at, HasEntry, CanPerform, HasClasses, IsLaidOut, SheetValue, memory, PerformsAt}
use Rattle.ds_layout.proofs.Places.{place_of-number_of, number_of-place_of, number_of_alone, number_of_below}

and-true : (a b : Bool) → a ≡ true → b ≡ true → (a && b) ≡ true
and-true a b e f = ap (λ t. t && b) e ∙ f

and-left : (a b : Bool) → (a && b) ≡ true → a ≡ true
and-left true b e = refl
and-left false b e = e

and-right : (a b : Bool) → (a && b) ≡ true → b ≡ true
and-right true b e = e
and-right false b e = absurd (false≢true e)

pub is_place_of-true : (cells parts processes : ℕ) (place : Place) → IsPlaceOf cells parts processes place → is_place_of cells parts processes place ≡ true
is_place_of-true cells parts processes Version h = refl
is_place_of-true cells parts processes (Head cell) h = lt-ltb cell cells h
is_place_of-true cells parts processes (Mark cell) h = lt-ltb cell cells h
is_place_of-true cells parts processes (Value cell) h = lt-ltb cell cells h
is_place_of-true cells parts processes (Kind cell) h = lt-ltb cell cells h
is_place_of-true cells parts processes (Index row part) h = and-true (nat_lt row cells) (nat_lt part parts) (lt-ltb row cells h.0) (lt-ltb part parts h.1)
is_place_of-true cells parts processes (Announce process) h = lt-ltb process processes h
is_place_of-true cells parts processes (Header process number) h = and-true (nat_lt process processes) (nat_lt number RECORDS) (lt-ltb process processes h.0) (lt-ltb number RECORDS h.1)
is_place_of-true cells parts processes (Text edition process number part) h =
    and-true (nat_lt process processes) (nat_lt number RECORDS && nat_lt part (parts_in edition)) (lt-ltb process processes h.0) (and-true (nat_lt number RECORDS) (nat_lt part (parts_in edition)) (lt-ltb number RECORDS h.1) (lt-ltb part (parts_in edition) h.2))
is_place_of-true cells parts processes (Done process part) h = and-true (nat_lt process processes) (nat_lt part DONE_PARTS) (lt-ltb process processes h.0) (lt-ltb part DONE_PARTS h.1)

-- a place that the test takes for one of the sheet is one
pub IsPlaceOf-is_place_of : (cells parts processes : ℕ) (place : Place) → is_place_of cells parts processes place ≡ true → IsPlaceOf cells parts processes place
IsPlaceOf-is_place_of cells parts processes Version e = tt
IsPlaceOf-is_place_of cells parts processes (Head cell) e = ltb-true cell cells e
IsPlaceOf-is_place_of cells parts processes (Mark cell) e = ltb-true cell cells e
IsPlaceOf-is_place_of cells parts processes (Value cell) e = ltb-true cell cells e
IsPlaceOf-is_place_of cells parts processes (Kind cell) e = ltb-true cell cells e
IsPlaceOf-is_place_of cells parts processes (Index row part) e =
    (ltb-true row cells (and-left (nat_lt row cells) (nat_lt part parts) e), ltb-true part parts (and-right (nat_lt row cells) (nat_lt part parts) e))
IsPlaceOf-is_place_of cells parts processes (Announce process) e = ltb-true process processes e
IsPlaceOf-is_place_of cells parts processes (Header process number) e =
    (ltb-true process processes (and-left (nat_lt process processes) (nat_lt number RECORDS) e), ltb-true number RECORDS (and-right (nat_lt process processes) (nat_lt number RECORDS) e))
IsPlaceOf-is_place_of cells parts processes (Text edition process number part) e =
    let r : (nat_lt number RECORDS && nat_lt part (parts_in edition)) ≡ true = and-right (nat_lt process processes) (nat_lt number RECORDS && nat_lt part (parts_in edition)) e in
    (ltb-true process processes (and-left (nat_lt process processes) (nat_lt number RECORDS && nat_lt part (parts_in edition)) e), ltb-true number RECORDS (and-left (nat_lt number RECORDS) (nat_lt part (parts_in edition)) r), ltb-true part (parts_in edition) (and-right (nat_lt number RECORDS) (nat_lt part (parts_in edition)) r))
IsPlaceOf-is_place_of cells parts processes (Done process part) e =
    (ltb-true process processes (and-left (nat_lt process processes) (nat_lt part DONE_PARTS) e), ltb-true part DONE_PARTS (and-right (nat_lt process processes) (nat_lt part DONE_PARTS) e))

pub IsPlace-is_place : (layout : Layout) (place : Place) → is_place layout place ≡ true → IsPlace layout place
IsPlace-is_place layout place e = IsPlaceOf-is_place_of (cells_of layout) (parts_of layout) layout.processes place e

pub is_place-true : (layout : Layout) (place : Place) → IsPlace layout place → is_place layout place ≡ true
is_place-true layout place h = is_place_of-true (cells_of layout) (parts_of layout) layout.processes place h

-- a choice of 0 on one side of a test
same_if : (b : Bool) (x y : ℕ) → (b ≡ true → x ≡ y) → (if b then x else 0) ≡ (if b then y else 0)
same_if true x y h = h refl
same_if false x y h = refl

-- a side of the words at a place of the sheet
pub side_at_place : (layout : Layout) (side : ℕ → ℕ) (place : Place) → IsPlace layout place → side_at layout side place ≡ side (number_of layout place)
unfolding side_at
side_at_place layout side place h = ap (λ (b : Bool). if b then side (number_of layout place) else 0) (is_place-true layout place h)

-- a side that is the same at each word is the same at each place
pub side_same : (layout : Layout) (f g : ℕ → ℕ) → ((n : ℕ) → f n ≡ g n) → (r : Place) → side_at layout f r ≡ side_at layout g r
unfolding side_at
side_same layout f g h r = same_if (is_place layout r) (f (number_of layout r)) (g (number_of layout r)) (λ e. h (number_of layout r))

-- a side that changes at one word alone changes at that word's place alone
pub side_other : (layout : Layout) (f g : ℕ → ℕ) (place : Place) → IsPlace layout place → ((n : ℕ) → n ≢ number_of layout place → f n ≡ g n) → (r : Place) → r ≢ place → side_at layout f r ≡ side_at layout g r
unfolding side_at
side_other layout f g place k h r ne =
    same_if (is_place layout r) (f (number_of layout r)) (g (number_of layout r))
    (λ e. h (number_of layout r) (λ same. ne (number_of_alone layout r place (IsPlace-is_place layout r e) k same)))

-- a side that is 0 at each word is 0 at each place
pub side_zero : (layout : Layout) (f : ℕ → ℕ) → ((n : ℕ) → f n ≡ 0) → (r : Place) → side_at layout f r ≡ 0
unfolding side_at
side_zero layout f h r = same_if (is_place layout r) (f (number_of layout r)) 0 (λ e. h (number_of layout r)) ∙ zero_if (is_place layout r)
  where
    zero_if : (b : Bool) → ◌≡◌ {A = ℕ} (if b then 0 else 0) 0
    zero_if true = refl
    zero_if false = refl

-- an entry for a place of the sheet is one for a word of it
word_there : (layout : Layout) (x : BufferEntry ℕ) → IsPlace layout (entry_at layout x).place → x.place < words_of layout
unfolding entry_at
word_there layout x k = subst (λ (n : ℕ). n < words_of layout) (number_of-place_of layout x.place) (number_of_below layout (place_of layout x.place) k)

module _ (layout : Layout) (old new : Memory ℕ) where
  pub same_at : SameMemory old new → SameMemory (memory_at layout old) (memory_at layout new)
  same_at h = record {
    cached = side_same layout new.cached old.cached h.cached;
    persisted = side_same layout new.persisted old.persisted h.persisted;
    buffer = λ q. ap (map (entry_at layout)) (h.buffer q);
  }

  pub stores_at : (place : Place) (value : ℕ) → IsPlace layout place → StoresAt (number_of layout place) value old new → StoresAt place value (memory_at layout old) (memory_at layout new)
  stores_at place value k h = record {
    there = side_at_place layout new.cached place k ∙ h.there;
    elsewhere = side_other layout new.cached old.cached place k h.elsewhere;
    persisted = side_same layout new.persisted old.persisted h.persisted;
    buffer = λ q. ap (map (entry_at layout)) (h.buffer q);
  }

  pub ors_at : (place : Place) (bits : ℕ) → IsPlace layout place → OrsAt (number_of layout place) bits old new → OrsAt place bits (memory_at layout old) (memory_at layout new)
  ors_at place bits k h =
      subst (λ (x : ℕ). StoresAt place (bit_or x bits) (memory_at layout old) (memory_at layout new)) (sym (side_at_place layout old.cached place k))
      (stores_at place (bit_or (old.cached (number_of layout place)) bits) k h)

  pub swaps_at : (place : Place) (expected value seen : ℕ) → IsPlace layout place → SwapsAt (number_of layout place) expected value seen old new → SwapsAt place expected value seen (memory_at layout old) (memory_at layout new)
  swaps_at place expected value seen k h = (
    h.0 ∙ sym (side_at_place layout old.cached place k),
    elim h.1 [
      | inl s ↦ inl (s.0, stores_at place value k s.1)
      | inr s ↦ inr (s.0, same_at s.1)
    ],
  )

  pub flushes_at : (p : ℕ) (place : Place) (class : Class) → IsPlace layout place → FlushesAt p (number_of layout place) class old new → FlushesAt p place class (memory_at layout old) (memory_at layout new)
  unfolding entry_at
  flushes_at p place class k h = record {
    cached = side_same layout new.cached old.cached h.cached;
    persisted = side_same layout new.persisted old.persisted h.persisted;
    mine =
        ap (map (entry_at layout)) h.mine
        ∙ map-append (entry_at layout) (old.buffer p) _
        ∙ ap (λ (r : Place). map (entry_at layout) (old.buffer p) ++ (let e : BufferEntry Place = record { place = r; class = class; value = old.cached (number_of layout place) } in e) ∷ []) (place_of-number_of layout place k)
        ∙ ap (λ (x : ℕ). map (entry_at layout) (old.buffer p) ++ (let e : BufferEntry Place = record { place = place; class = class; value = x } in e) ∷ []) (sym (side_at_place layout old.cached place k));
    others = λ q ne. ap (map (entry_at layout)) (h.others q ne);
  }

  pub writes_back_at : (p : ℕ) (entry : BufferEntry ℕ) (rest : List (BufferEntry ℕ)) → IsPlace layout (entry_at layout entry).place → WritesBack p entry rest old new
      → WritesBack p (entry_at layout entry) (map (entry_at layout) rest) (memory_at layout old) (memory_at layout new)
  unfolding entry_at
  writes_back_at p entry rest k h =
      let back : number_of layout (place_of layout entry.place) ≡ entry.place = number_of-place_of layout entry.place in
      record {
        oldest = ap (map (entry_at layout)) h.oldest;
        cached = side_same layout new.cached old.cached h.cached;
        there =
            side_at_place layout new.persisted (place_of layout entry.place) k
            ∙ ap new.persisted back
            ∙ h.there
            ∙ ap (λ (x : ℕ). newer entry.class x entry.value) (sym (side_at_place layout old.persisted (place_of layout entry.place) k ∙ ap old.persisted back));
        elsewhere = side_other layout new.persisted old.persisted (place_of layout entry.place) k (λ n ne. h.elsewhere n (λ e. ne (e ∙ sym back)));
        mine = ap (map (entry_at layout)) h.mine;
        others = λ q ne. ap (map (entry_at layout)) (h.others q ne);
      }

  pub backs_at : (p : ℕ) → HasEntry layout (memory_at layout old) p → BacksFirst p old new → BacksFirst p (memory_at layout old) (memory_at layout new)
  backs_at p has h =
      let both : has.entry ∷ has.rest ≡ entry_at layout h.0 ∷ map (entry_at layout) h.1 = sym has.oldest ∙ ap (map (entry_at layout)) h.2.oldest in
      let one : has.entry ≡ entry_at layout h.0 = cc in
      (entry_at layout h.0, map (entry_at layout) h.1, writes_back_at p h.0 h.1 (subst (λ (x : BufferEntry Place). IsPlace layout x.place) one has.there) h.2)

  pub evicts_at : (place : Place) → IsPlace layout place → EvictsAt (number_of layout place) old new → EvictsAt place (memory_at layout old) (memory_at layout new)
  evicts_at place k h = record {
    cached = side_same layout new.cached old.cached h.cached;
    there = side_at_place layout new.persisted place k ∙ h.there ∙ sym (side_at_place layout old.cached place k);
    elsewhere = side_other layout new.persisted old.persisted place k h.elsewhere;
    buffer = λ q. ap (map (entry_at layout)) (h.buffer q);
  }

  pub crashes_at : Crashes old new → Crashes (memory_at layout old) (memory_at layout new)
  crashes_at h = record {
    cached = side_same layout new.cached old.persisted h.cached;
    persisted = side_same layout new.persisted old.persisted h.persisted;
    buffer = λ q. ap (map (entry_at layout)) (h.buffer q);
  }

  pub stops_at : (p : ℕ) → StopsAt p old new → StopsAt p (memory_at layout old) (memory_at layout new)
  stops_at p h = record {
    cached = side_same layout new.cached old.cached h.cached;
    persisted = side_same layout new.persisted old.persisted h.persisted;
    mine = ap (map (entry_at layout)) h.mine;
    others = λ q ne. ap (map (entry_at layout)) (h.others q ne);
  }

  -- an access at the number of a place, in words whose classes are those of their places
  pub performs_at : (classes : ℕ → Class) → ((place : Place) → IsPlace layout place → classes (number_of layout place) ≡ class_of place)
      → (access : Access Place) (p answer : ℕ) → CanPerform layout (memory_at layout old) p access
      → Performs classes (access_at layout access) p old new answer → Performs class_of access p (memory_at layout old) (memory_at layout new) answer
  performs_at classes fit Nothing p answer k h = (h.0, same_at h.1)
  performs_at classes fit (Load place) p answer k h = (h.0 ∙ sym (side_at_place layout old.cached place k.0), same_at h.1)
  performs_at classes fit (Store place value) p answer k h = (h.0, stores_at place value k.0 h.1)
  performs_at classes fit (Or place bits) p answer k h = (h.0, ors_at place bits k.0 h.1)
  performs_at classes fit (SwapIf place expected value) p answer k h = swaps_at place expected value answer k.0 h
  performs_at classes fit (Flush place) p answer k h = (
    h.0,
    subst (λ (c : Class). FlushesAt p place c (memory_at layout old) (memory_at layout new)) (fit place k.0) (flushes_at p place (classes (number_of layout place)) k.0 h.1),
  )
  performs_at classes fit Back p answer k h = (h.0, backs_at p k.1.1 h.1)

-- a fresh memory of words is a fresh memory of places
pub fresh_at : (layout : Layout) (m : Memory ℕ) → IsFresh m → IsFresh (memory_at layout m)
fresh_at layout m h = record {
  cached = side_zero layout m.cached h.cached;
  persisted = side_zero layout m.persisted h.persisted;
  buffer = λ q. ap (map (entry_at layout)) (h.buffer q);
}

-- the class of the word at a place
pub class_there : (layout : Layout) (v : WordsValue) → IsLaidOut layout v → (place : Place) → IsPlace layout place → class_at v (number_of layout place) ≡ class_of place
unfolding class_at
class_there layout v h place k = h.classes.each (number_of layout place) (number_of_below layout place k) ∙ ap class_of (place_of-number_of layout place k)

-- words of the same shape are laid out as well
pub IsLaidOut-shape : (layout : Layout) (u v : WordsValue) → SameShape u v → IsLaidOut layout u → IsLaidOut layout v
IsLaidOut-shape layout u v s h = record {
  classes = subst (λ (cs : List Class). HasClasses layout cs) (sym s.classes) h.classes;
  words = s.words ∙ h.words;
  processes = s.buffers ∙ h.processes;
}

pub IsLaidOut-fresh : (layout : Layout) (classes : List Class) → HasClasses layout classes → IsLaidOut layout (fresh_words classes layout.processes)
IsLaidOut-fresh layout classes h = record {
  classes = h;
  words = length-replicate (length classes) zero_word ∙ h.count;
  processes = length-replicate layout.processes _;
}

-- what the words ask of an access holds where the places ask it
pub can_perform : (layout : Layout) (v : WordsValue) → IsLaidOut layout v → (p : ℕ) (access : Access Place) → CanPerform layout (memory_at layout (memory_of v)) p access → words.CanPerform v p (access_at layout access)
can_perform layout v h p Nothing k = tt
can_perform layout v h p (Load place) k = subst (λ (n : ℕ). number_of layout place < n) (sym h.words) (number_of_below layout place k.0)
can_perform layout v h p (Store place value) k = subst (λ (n : ℕ). number_of layout place < n) (sym h.words) (number_of_below layout place k.0)
can_perform layout v h p (Or place bits) k = subst (λ (n : ℕ). number_of layout place < n) (sym h.words) (number_of_below layout place k.0)
can_perform layout v h p (SwapIf place expected value) k = subst (λ (n : ℕ). number_of layout place < n) (sym h.words) (number_of_below layout place k.0)
can_perform layout v h p (Flush place) k = (
  subst (λ (n : ℕ). number_of layout place < n) (sym h.words) (number_of_below layout place k.0),
  subst (λ (n : ℕ). p < n) (sym h.processes) k.1.0,
  subst (λ (n : ℕ). n < BUFFER_ENTRIES) (length-map (buffer_of v p) (entry_at layout)) k.1.1,
)
can_perform layout v h p Back k = has_entry (buffer_of v p) refl
  where
    has_entry : (es : List (BufferEntry ℕ)) → buffer_of v p ≡ es → words.HasEntry v p
    has_entry [] e =
        let bad : [] ≡ k.1.1.entry ∷ k.1.1.rest = sym (ap (map (entry_at layout)) e) ∙ k.1.1.oldest in
        cc
    has_entry (x ∷ xs) e =
        let both : entry_at layout x ∷ map (entry_at layout) xs ≡ k.1.1.entry ∷ k.1.1.rest = sym (ap (map (entry_at layout)) e) ∙ k.1.1.oldest in
        let one : k.1.1.entry ≡ entry_at layout x = cc in
        record {
          process = subst (λ (n : ℕ). p < n) (sym h.processes) k.1.0;
          entry = x;
          rest = xs;
          oldest = e;
          there = subst (λ (n : ℕ). x.place < n) (sym h.words) (word_there layout x (subst (λ (y : BufferEntry Place). IsPlace layout y.place) one k.1.1.there));
        }

-- the same, as the words of a sheet are kept
pub can_perform_in : (layout : Layout) (v : WordsValue) (s : SheetValue) → (let made : SheetValue = record { layout = layout; words = v } in made) ≡ s → IsLaidOut layout v → (p : ℕ) (access : Access Place) (given : Access ℕ)
    → given ≡ access_at layout access → CanPerform s.layout (memory s) p access → words.CanPerform v p given
can_perform_in layout v s e h p access given is k =
    subst (λ (a : Access ℕ). words.CanPerform v p a) (sym is)
    (can_perform layout v h p access (subst (λ (x : SheetValue). CanPerform x.layout (memory x) p access) (sym e) k))

-- what an access does to the words it does to the places
pub performs_in : (layout : Layout) (v u : WordsValue) (s : SheetValue) → (let made : SheetValue = record { layout = layout; words = v } in made) ≡ s → IsLaidOut layout v → (p : ℕ) (access : Access Place) (given : Access ℕ) (answer : ℕ)
    → given ≡ access_at layout access → CanPerform s.layout (memory s) p access → Performs (class_at v) given p (memory_of v) (memory_of u) answer
    → PerformsAt access p (memory s) (memory_at layout (memory_of u)) answer
performs_in layout v u s e h p access given answer is k does =
    let can : CanPerform layout (memory_at layout (memory_of v)) p access = subst (λ (x : SheetValue). CanPerform x.layout (memory x) p access) (sym e) k in
    subst (λ (x : SheetValue). PerformsAt access p (memory x) (memory_at layout (memory_of u)) answer) e
    (performs_at layout (memory_of v) (memory_of u) (class_at v) (class_there layout v h) access p answer can (subst (λ (a : Access ℕ). Performs (class_at v) a p (memory_of v) (memory_of u) answer) is does))
