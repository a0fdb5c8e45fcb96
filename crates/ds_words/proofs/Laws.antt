-- How reads see writes.
use Rattle.std.proofs.Common.{ℕ, ◌≡◌, ◌≢◌, ◌<◌, List, [], ◌∷◌, ◌++◌, refl, ap, sym, ◌∙◌, subst, arith, length, get_or, set, drop, take, inl, inr, suc, zero, replicate, true, false, ◌==◌, nat_lt, IsTrue}
use Rattle.std.proofs.lemmas.Bool.{cases_eq, ltb-true, lt-ltb, eqb-true}
use Rattle.std.proofs.lemmas.List.{get_or-set_same, get_or-set_other, get_or-map, map-set, length-map}
use Rattle.std.proofs.Math.ListN.{length-set, get_or-map as map-read}
use Rattle.std.specs.Prelude.{map}
use Rattle.ds_words.specs.declared.access.BufferEntry.{BufferEntry}
use Rattle.ds_words.specs.declared.words.Word.{Word}
use Rattle.ds_words.specs.Memory.{IsFresh, StoresAt, FlushesAt, WritesBack, BacksFirst, StopsAt, EvictsAt, Crashes, newer}
use Rattle.ds_words.specs.declared.access.Class.{Class}
use Rattle.ds_words.specs.Words.{fresh_words, WordsValue, memory_of, word_at, with_word, class_at, buffer_of, with_buffer, HasWord, HasProcess, HasEntry, SameShape, zero_word, crashed}

pub word_at-with_same : (v : WordsValue) (n : ℕ) (w : Word) → HasWord v n → word_at (with_word v n w) n ≡ w
unfolding word_at with_word
word_at-with_same v n w h = get_or-set_same v.words n w zero_word h

pub word_at-with_other : (v : WordsValue) (n : ℕ) (w : Word) (r : ℕ) → r ≢ n → word_at (with_word v n w) r ≡ word_at v r
unfolding word_at with_word
word_at-with_other v n w r ne = get_or-set_other v.words n r w zero_word ne

-- a change of a word leaves each buffer as it is
pub buffer_of-with_word : (v : WordsValue) (n : ℕ) (w : Word) (p : ℕ) → buffer_of (with_word v n w) p ≡ buffer_of v p
unfolding buffer_of with_word
buffer_of-with_word v n w p = refl

-- the changed buffer is read back, of a process that is there
pub buffer_of-with_same : (v : WordsValue) (p : ℕ) (entries : List (BufferEntry ℕ)) → HasProcess v p → buffer_of (with_buffer v p entries) p ≡ entries
unfolding buffer_of with_buffer
buffer_of-with_same v p entries h = get_or-set_same v.buffers p entries [] h

-- a change of one process's buffer leaves those of the others
pub buffer_of-with_other : (v : WordsValue) (p q : ℕ) (entries : List (BufferEntry ℕ)) → q ≢ p → buffer_of (with_buffer v p entries) q ≡ buffer_of v q
unfolding buffer_of with_buffer
buffer_of-with_other v p q entries ne = get_or-set_other v.buffers p q entries [] ne

pub word_at-with_buffer : (v : WordsValue) (p : ℕ) (entries : List (BufferEntry ℕ)) (r : ℕ) → word_at (with_buffer v p entries) r ≡ word_at v r
unfolding word_at with_buffer
word_at-with_buffer v p entries r = refl

-- a change of a word leaves the classes and how many words and buffers there are
pub SameShape-with_word : (v : WordsValue) (n : ℕ) (w : Word) → SameShape v (with_word v n w)
unfolding with_word
SameShape-with_word v n w = record { classes = refl; words = length-set v.words n w; buffers = refl }

-- a change of a buffer leaves the classes and how many words and buffers there are
pub SameShape-with_buffer : (v : WordsValue) (p : ℕ) (entries : List (BufferEntry ℕ)) → SameShape v (with_buffer v p entries)
unfolding with_buffer
SameShape-with_buffer v p entries = record { classes = refl; words = refl; buffers = length-set v.buffers p entries }

pub SameShape-both : (u v w : WordsValue) → SameShape u v → SameShape v w → SameShape u w
SameShape-both u v w a b = record { classes = b.classes ∙ a.classes; words = b.words ∙ a.words; buffers = b.buffers ∙ a.buffers }

-- a write that keeps one side
cached_kept : (v : WordsValue) (n : ℕ) (w : Word) → HasWord v n → w.cached ≡ (word_at v n).cached → (r : ℕ) → (word_at (with_word v n w) r).cached ≡ (word_at v r).cached
cached_kept v n w h same r = elim (cases_eq r n) [
  | inl e ↦ rw e (ap (λ (x : Word). x.cached) (word_at-with_same v n w h) ∙ same)
  | inr ne ↦ ap (λ (x : Word). x.cached) (word_at-with_other v n w r ne)
]

persisted_kept : (v : WordsValue) (n : ℕ) (w : Word) → HasWord v n → w.persisted ≡ (word_at v n).persisted → (r : ℕ) → (word_at (with_word v n w) r).persisted ≡ (word_at v r).persisted
persisted_kept v n w h same r = elim (cases_eq r n) [
  | inl e ↦ rw e (ap (λ (x : Word). x.persisted) (word_at-with_same v n w h) ∙ same)
  | inr ne ↦ ap (λ (x : Word). x.persisted) (word_at-with_other v n w r ne)
]

-- a word with a new cached side and its old persisted one: a store
pub stores-with : (v : WordsValue) (n value : ℕ) → HasWord v n
    → StoresAt n value (memory_of v) (memory_of (with_word v n (record { cached = value; persisted = (word_at v n).persisted })))
stores-with v n value h =
    let w : Word = record { cached = value; persisted = (word_at v n).persisted } in
    record {
      there = ap (λ (x : Word). x.cached) (word_at-with_same v n w h);
      elsewhere = λ r ne. ap (λ (x : Word). x.cached) (word_at-with_other v n w r ne);
      persisted = persisted_kept v n w h refl;
      buffer = buffer_of-with_word v n w;
    }

-- a word whose persisted side is its cached one: an eviction
pub evicts-with : (v : WordsValue) (n : ℕ) → HasWord v n
    → EvictsAt n (memory_of v) (memory_of (with_word v n (record { cached = (word_at v n).cached; persisted = (word_at v n).cached })))
evicts-with v n h =
    let w : Word = record { cached = (word_at v n).cached; persisted = (word_at v n).cached } in
    record {
      cached = cached_kept v n w h refl;
      there = ap (λ (x : Word). x.persisted) (word_at-with_same v n w h);
      elsewhere = λ r ne. ap (λ (x : Word). x.persisted) (word_at-with_other v n w r ne);
      buffer = buffer_of-with_word v n w;
    }

-- the word's cached side after the last entry of the process: a flush
pub flushes-with : (v : WordsValue) (p n : ℕ) → HasProcess v p
    → FlushesAt p n (class_at v n) (memory_of v) (memory_of (with_buffer v p (buffer_of v p ++ record { place = n; class = class_at v n; value = (word_at v n).cached } ∷ [])))
flushes-with v p n h =
    let entries : List (BufferEntry ℕ) = buffer_of v p ++ record { place = n; class = class_at v n; value = (word_at v n).cached } ∷ [] in
    record {
      cached = λ r. ap (λ (x : Word). x.cached) (word_at-with_buffer v p entries r);
      persisted = λ r. ap (λ (x : Word). x.persisted) (word_at-with_buffer v p entries r);
      mine = buffer_of-with_same v p entries h;
      others = λ q ne. buffer_of-with_other v p q entries ne;
    }

-- a process that is there, with an empty buffer: a stop
pub stops-with : (v : WordsValue) (p : ℕ) → HasProcess v p → StopsAt p (memory_of v) (memory_of (with_buffer v p []))
stops-with v p h = record {
  cached = λ r. ap (λ (x : Word). x.cached) (word_at-with_buffer v p [] r);
  persisted = λ r. ap (λ (x : Word). x.persisted) (word_at-with_buffer v p [] r);
  mine = buffer_of-with_same v p [] h;
  others = λ q ne. buffer_of-with_other v p q [] ne;
}

pub writes_back : (v : WordsValue) (p : ℕ) (entry : BufferEntry ℕ) (rest : List (BufferEntry ℕ)) (w : Word) → HasProcess v p → buffer_of v p ≡ entry ∷ rest → HasWord v entry.place
    → w.cached ≡ (word_at v entry.place).cached → w.persisted ≡ newer entry.class (word_at v entry.place).persisted entry.value
    → WritesBack p entry rest (memory_of v) (memory_of (with_word (with_buffer v p rest) entry.place w))
unfolding with_buffer
writes_back v p entry rest w h oldest there c d =
    let u : WordsValue = with_buffer v p rest in
    record {
      oldest = oldest;
      cached = λ r. cached_kept u entry.place w there (c ∙ ap (λ (x : Word). x.cached) (sym (word_at-with_buffer v p rest entry.place))) r ∙ ap (λ (x : Word). x.cached) (word_at-with_buffer v p rest r);
      there = ap (λ (x : Word). x.persisted) (word_at-with_same u entry.place w there) ∙ d;
      elsewhere = λ r ne. ap (λ (x : Word). x.persisted) (word_at-with_other u entry.place w r ne ∙ word_at-with_buffer v p rest r);
      mine = buffer_of-with_word u entry.place w p ∙ buffer_of-with_same v p rest h;
      others = λ q ne. buffer_of-with_word u entry.place w q ∙ buffer_of-with_other v p q rest ne;
    }

-- the buffers as they are kept, each under f
pub nested_read : {X : Type 0} (f : X → List (BufferEntry ℕ)) (xs : List X) (p : ℕ) (x : X) (ys : List (List (BufferEntry ℕ))) → map f xs ≡ ys → p < length ys → x ≡ get_or xs p x → f x ≡ get_or ys p []
nested_read f xs p x ys e lt is =
    let l : length ys ≡ length xs = ap length (sym e) ∙ length-map xs f in
    ap f is ∙ sym (get_or-map f xs p x [] (omega arith)) ∙ ap (λ zs. get_or zs p []) e

-- one kept buffer set to another: the words with the buffer of that process changed
pub nested_write : {X : Type 0} (f : X → List (BufferEntry ℕ)) (v u : WordsValue) (xs : List X) (p : ℕ) (y : X) (entries : List (BufferEntry ℕ))
    → u.classes ≡ v.classes → u.words ≡ v.words → u.buffers ≡ map f (set xs p y) → map f xs ≡ v.buffers → f y ≡ entries → u ≡ with_buffer v p entries
unfolding with_buffer
nested_write f v u xs p y entries c w b e is =
    let s : u.buffers ≡ set v.buffers p entries = b ∙ map-set f xs p y ∙ ap (λ (zs : List (List (BufferEntry ℕ))). set zs p (f y)) e ∙ ap (λ (z : List (BufferEntry ℕ)). set v.buffers p z) is in
    let made : (cs : List _) → (ws : List Word) → List (List (BufferEntry ℕ)) → WordsValue = λ cs ws bs. record { classes = cs; words = ws; buffers = bs } in
    ap (λ cs. made cs u.words u.buffers) c ∙ ap (λ ws. made v.classes ws u.buffers) w ∙ ap (λ bs. made v.classes v.words bs) s

pub first_rest : (es : List (BufferEntry ℕ)) (x : BufferEntry ℕ) → 0 < length es → x ≡ get_or es 0 x → es ≡ x ∷ drop 1 es
first_rest [] x lt is = absurd (omega arith)
first_rest (y ∷ ys) x lt is = ap (λ z. z ∷ ys) (sym is)

-- one more of the mapped elements is known to be y
pub map_two_more : {X Y : Type 0} (g f : X → Y) (xs : List X) (zs : List Y) (i : ℕ) (y : Y) → i < length xs → ((x : X) → g x ≡ y)
    → zs ≡ map g (take i xs) ++ map f (drop i xs) → set zs i y ≡ map g (take (suc i) xs) ++ map f (drop (suc i) xs)
map_two_more g f [] zs i y lt const e = absurd (omega arith)
map_two_more g f (x ∷ xs) zs zero y lt const e = ap (λ ws. set ws 0 y) e ∙ ap (λ z. z ∷ map f xs) (sym (const x))
map_two_more g f (x ∷ xs) zs (suc i) y lt const e =
    ap (λ ws. set ws (suc i) y) e ∙ ap (λ ws. g x ∷ ws) (map_two_more g f xs (map g (take i xs) ++ map f (drop i xs)) i y (omega arith) const refl)

none_of : {X : Type 0} (xs : List X) (q : ℕ) → get_or (map (λ (x : X). let e : List (BufferEntry ℕ) = [] in e) xs) q [] ≡ []
none_of [] q = refl
none_of (x ∷ xs) zero = refl
none_of (x ∷ xs) (suc q) = none_of xs q

-- a crash, with the buffers as they are kept
pub crashes-with : {X : Type 0} (v u : WordsValue) (olds : List X)
    → u.words ≡ map crashed v.words → u.buffers ≡ map (λ (b : X). let e : List (BufferEntry ℕ) = [] in e) olds
    → Crashes (memory_of v) (memory_of u)
unfolding buffer_of word_at
crashes-with v u olds w b =
    let at : (r : ℕ) → word_at u r ≡ crashed (word_at v r) = λ r. ap (λ ws. get_or ws r zero_word) w ∙ map-read crashed v.words r zero_word in
    record {
      cached = λ r. ap (λ (x : Word). x.cached) (at r);
      persisted = λ r. ap (λ (x : Word). x.persisted) (at r);
      buffer = λ q. ap (λ xs. get_or xs q []) b ∙ none_of olds q;
    }

-- the first entry is the one that was known to be there
first_there : (v : WordsValue) (p : ℕ) (entry : BufferEntry ℕ) (rest : List (BufferEntry ℕ)) → HasEntry v p → buffer_of v p ≡ entry ∷ rest → HasWord v entry.place
first_there v p entry rest h oldest =
    let both : h.entry ∷ h.rest ≡ entry ∷ rest = sym h.oldest ∙ oldest in
    let one : h.entry ≡ entry = cc in
    subst (λ (x : BufferEntry ℕ). HasWord v x.place) one h.there

-- with the oldest entry taken out, its word is still there
pub taken_there : (v u : WordsValue) (p : ℕ) (entry : BufferEntry ℕ) (rest : List (BufferEntry ℕ)) → HasEntry v p → buffer_of v p ≡ entry ∷ rest → u ≡ with_buffer v p rest → HasWord u entry.place
unfolding with_buffer
taken_there v u p entry rest h oldest e =
    subst (λ (w : WordsValue). HasWord w entry.place) (sym e) (first_there v p entry rest h oldest)

-- an entry taken out, and then written
pub backs_first : (v u w : WordsValue) (p : ℕ) (entry : BufferEntry ℕ) (rest : List (BufferEntry ℕ)) (read : Word) (persisted : ℕ) → HasEntry v p → buffer_of v p ≡ entry ∷ rest → u ≡ with_buffer v p rest
    → read ≡ word_at u entry.place → persisted ≡ newer entry.class read.persisted entry.value
    → w ≡ with_word u entry.place (record { cached = read.cached; persisted = persisted }) → BacksFirst p (memory_of v) (memory_of w)
backs_first v u w p entry rest read persisted h oldest taken is new set =
    let seen : read ≡ word_at v entry.place = is ∙ ap (λ (x : WordsValue). word_at x entry.place) taken ∙ word_at-with_buffer v p rest entry.place in
    let there : HasWord v entry.place = first_there v p entry rest h oldest in
    let x : Word = record { cached = read.cached; persisted = persisted } in
    let e : w ≡ with_word (with_buffer v p rest) entry.place x = set ∙ ap (λ (y : WordsValue). with_word y entry.place x) taken in (
      entry,
      rest,
      subst (λ (y : WordsValue). WritesBack p entry rest (memory_of v) (memory_of y)) (sym e)
          (writes_back v p entry rest x h.process oldest there (ap (λ (y : Word). y.cached) seen) (new ∙ ap (λ (y : Word). newer entry.class y.persisted entry.value) seen)),
    )

-- an entry taken out and its word written leave the classes and how many words and buffers there are
pub backs_shape : (v u w : WordsValue) (p n : ℕ) (rest : List (BufferEntry ℕ)) (x : Word) → u ≡ with_buffer v p rest → w ≡ with_word u n x → SameShape v w
backs_shape v u w p n rest x e f =
    let first : SameShape v u = subst (λ y. SameShape v y) (sym e) (SameShape-with_buffer v p rest) in
    let second : SameShape u w = subst (λ y. SameShape u y) (sym f) (SameShape-with_word u n x) in
    SameShape-both v u w first second

-- what the test of the oldest entry says
pub HasEntry-tested : (v : WordsValue) (p : ℕ) (es : List (BufferEntry ℕ)) (d : BufferEntry ℕ) (n : ℕ) → HasProcess v p → es ≡ buffer_of v p → (length es == 0) ≡ false → n ≡ length v.words
    → (IsTrue (nat_lt (get_or es 0 d).place n) → HasEntry v p) × (HasEntry v p → IsTrue (nat_lt (get_or es 0 d).place n))
HasEntry-tested v p [] d n h e some words = cc
HasEntry-tested v p (x ∷ xs) d n h e some words = (
  λ t. record {
    process = h;
    entry = x;
    rest = xs;
    oldest = sym e;
    there = subst (λ k. x.place < k) words (ltb-true x.place n t);
  },
  λ has. lt-ltb x.place n (subst (λ k. x.place < k) (sym words) (first_there v p x xs has (sym e))),
)

-- a process that has an entry to write back has a buffer that isn't empty
pub HasEntry-some : (v : WordsValue) (p : ℕ) (es : List (BufferEntry ℕ)) → es ≡ buffer_of v p → HasEntry v p → (length es == 0) ≡ true → ⊥
HasEntry-some v p [] e h t =
    let bad : [] ≡ h.entry ∷ h.rest = e ∙ h.oldest in
    cc
HasEntry-some v p (x ∷ xs) e h t =
    let z : suc (length xs) ≡ 0 = eqb-true (suc (length xs)) 0 t in
    absurd (omega arith)

same_all : {X : Type 0} (n k : ℕ) (x : X) → get_or (replicate n x) k x ≡ x
same_all zero k x = refl
same_all (suc n) zero x = refl
same_all (suc n) (suc k) x = same_all n k x

-- fresh words are a fresh memory
pub IsFresh-fresh_words : (classes : List Class) (processes : ℕ) → IsFresh (memory_of (fresh_words classes processes))
unfolding word_at buffer_of
IsFresh-fresh_words classes processes = record {
  cached = λ r. ap (λ (x : Word). x.cached) (same_all (length classes) r zero_word);
  persisted = λ r. ap (λ (x : Word). x.persisted) (same_all (length classes) r zero_word);
  buffer = λ q. same_all processes q [];
}
