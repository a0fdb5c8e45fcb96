-- An access is one step on one word of the table.
use Rattle.std.proofs.Common.{ℕ, Bool, ◌≡◌, ◌+◌, ◌<◌, eqb, List, [], ◌∷◌, ◌++◌, length, get_or, set, refl, sym, ap, subst, ◌∙◌, inl, inr, arith, bit_or, eq-eqb, ne_eqb}
use Rattle.std.proofs.lemmas.List.{get_or-set_same, get_or-set_other, set-get_or}
use mathlib.Core.Logic.{dite}
use native.Mathlib.Decide.{ℕ_discrete}
use prog.Atomic.{either}
use Rattle.ds_words.specs.declared.access.Class.{Class}
use Rattle.ds_words.specs.declared.access.BufferEntry.{BufferEntry}
use Rattle.ds_words.specs.declared.access.Access.{Access}
use Rattle.ds_words.specs.declared.access.Access.TheVariants.{Nothing, Load, Store, Or, SwapIf, Flush, Back}
use Rattle.ds_words.specs.Memory.{Memory, Performs, SameMemory, StoresAt, SwapsAt}
use Rattle.pm_board.specs.Table.{two_sided, cached_at, persisted_at, word_of, change, answer, reported, oldest_of, buffer_after}
use Rattle.pm_base.specs.Structures.{put}
use Rattle.pm_board.proofs.Sides.{same_cached, no_sides}
use Rattle.pm_base.proofs.Puts.{put_here, put_else, put_same}

-- the table has the word that the access takes, and a write-back has an entry
abbrev pub IsThere : ℕ → List ℕ → Access ℕ → List (BufferEntry ℕ) → Type 0
IsThere apart words Nothing b = Unit {0}
IsThere apart words (Load n) b = persisted_at apart n < length words
IsThere apart words (Store n v) b = persisted_at apart n < length words
IsThere apart words (Or n k) b = persisted_at apart n < length words
IsThere apart words (SwapIf n o v) b = persisted_at apart n < length words
IsThere apart words (Flush n) b = persisted_at apart n < length words
IsThere apart words Back [] = ⊥
IsThere apart words Back (x ∷ b) = persisted_at apart x.place < length words

-- what the step tells gives the same answer and the same buffer
pub answer_reported : (a : Access ℕ) (b : List (BufferEntry ℕ)) (n : ℕ) → answer a (reported a (oldest_of b) n) ≡ answer a n
answer_reported Nothing b n = refl
answer_reported (Load w) b n = refl
answer_reported (Store w v) b n = refl
answer_reported (Or w k) b n = refl
answer_reported (SwapIf w o v) b n = refl
answer_reported (Flush w) b n = refl
answer_reported Back b n = refl

-- the buffer after an access is the same by what the table answers and by the word
pub buffer_reported : (classes : ℕ → Class) (a : Access ℕ) (b : List (BufferEntry ℕ)) (n : ℕ) → buffer_after classes a b (reported a (oldest_of b) n) ≡ buffer_after classes a b n
buffer_reported classes Nothing b n = refl
buffer_reported classes (Load w) b n = refl
buffer_reported classes (Store w v) b n = refl
buffer_reported classes (Or w k) b n = refl
buffer_reported classes (SwapIf w o v) b n = refl
buffer_reported classes (Flush w) b n = refl
buffer_reported classes Back b n = refl

module _ (apart : ℕ) (classes : ℕ → Class) (p : ℕ) (words : List ℕ) (buffers : ℕ → List (BufferEntry ℕ)) where
  abbrev pub now : Access ℕ → List (BufferEntry ℕ) → ℕ
  now a b = get_or words (word_of apart a (oldest_of b)) 0

  abbrev pub new_words : Access ℕ → List (BufferEntry ℕ) → List ℕ
  new_words a b = set words (word_of apart a (oldest_of b)) (change a (oldest_of b) (now a b))

  abbrev pub new_memory : Access ℕ → List (BufferEntry ℕ) → Memory ℕ
  new_memory a b = two_sided apart (new_words a b) (put buffers p (buffer_after classes a b (now a b)))

  old_memory : Memory ℕ
  old_memory = two_sided apart words buffers

  -- the words stay, and the buffer too
  same_words : (i : ℕ) (b : List (BufferEntry ℕ)) → buffers p ≡ b → SameMemory (two_sided apart words buffers) (two_sided apart (set words i (get_or words i 0)) (put buffers p b))
  same_words i b same = record {
    cached = λ r. ap (λ (ws : List ℕ). get_or ws (cached_at apart r) 0) (set-get_or words i 0);
    persisted = λ r. ap (λ (ws : List ℕ). get_or ws (persisted_at apart r) 0) (set-get_or words i 0);
    buffer = put_same buffers p b same;
  }

  -- a cached side becomes the value
  stores : (n v : ℕ) (b : List (BufferEntry ℕ)) → persisted_at apart n < length words → buffers p ≡ b → StoresAt n v (two_sided apart words buffers) (two_sided apart (set words (cached_at apart n) v) (put buffers p b))
  stores n v b there same = record {
    there = get_or-set_same words (cached_at apart n) v 0 (omega arith);
    elsewhere = λ r ne. get_or-set_other words (cached_at apart n) (cached_at apart r) v 0 (λ e. ne (same_cached apart r n e));
    persisted = λ r. get_or-set_other words (cached_at apart n) (persisted_at apart r) v 0 (λ e. no_sides apart n r (sym e));
    buffer = put_same buffers p b same;
  }

  swaps : (n o v : ℕ) (b : List (BufferEntry ℕ)) → persisted_at apart n < length words → buffers p ≡ b
      → SwapsAt n o v (get_or words (cached_at apart n) 0) (two_sided apart words buffers) (two_sided apart (set words (cached_at apart n) (either (eqb (get_or words (cached_at apart n) 0) o) v (get_or words (cached_at apart n) 0))) (put buffers p b))
  swaps n o v b there same = (
    refl,
    dite (ℕ_discrete (get_or words (cached_at apart n) 0) o)
        (λ e. inl (e, subst (λ (t : Bool). StoresAt n v (two_sided apart words buffers) (two_sided apart (set words (cached_at apart n) (either t v (get_or words (cached_at apart n) 0))) (put buffers p b))) (sym (eq-eqb (get_or words (cached_at apart n) 0) o e)) (stores n v b there same)))
        (λ ne. inr (ne, subst (λ (t : Bool). SameMemory (two_sided apart words buffers) (two_sided apart (set words (cached_at apart n) (either t v (get_or words (cached_at apart n) 0))) (put buffers p b))) (sym (ne_eqb (get_or words (cached_at apart n) 0) o ne)) (same_words (cached_at apart n) b same))),
  )

  pub performs : (a : Access ℕ) (b : List (BufferEntry ℕ)) → buffers p ≡ b → IsThere apart words a b → Performs classes a p (two_sided apart words buffers) (new_memory a b) (answer a (now a b))
  performs Nothing b same there = (refl, same_words 0 b same)
  performs (Load n) b same there = (refl, same_words (cached_at apart n) b same)
  performs (Store n v) b same there = (refl, stores n v b there same)
  performs (Or n k) b same there = (refl, stores n (bit_or (get_or words (cached_at apart n) 0) k) b there same)
  performs (SwapIf n o v) b same there = swaps n o v b there same
  performs (Flush n) b same there = (
    refl,
    record {
      cached = λ r. ap (λ (ws : List ℕ). get_or ws (cached_at apart r) 0) (set-get_or words (cached_at apart n) 0);
      persisted = λ r. ap (λ (ws : List ℕ). get_or ws (persisted_at apart r) 0) (set-get_or words (cached_at apart n) 0);
      mine = put_here buffers p _ p refl ∙ ap (λ (l : List (BufferEntry ℕ)). l ++ (let x : BufferEntry ℕ = record { place = n; class = classes n; value = get_or words (cached_at apart n) 0 } in x) ∷ []) (sym same);
      others = λ q ne. put_else buffers p _ q ne;
    },
  )
  performs Back [] same there = absurd there
  performs Back (x ∷ b) same there = (
    refl,
    (
      x,
      b,
      record {
        oldest = same;
        cached = λ r. get_or-set_other words (persisted_at apart x.place) (cached_at apart r) _ 0 (λ e. no_sides apart r x.place e);
        there = get_or-set_same words (persisted_at apart x.place) _ 0 there;
        elsewhere = λ r ne. get_or-set_other words (persisted_at apart x.place) (persisted_at apart r) _ 0 (λ e. ne (same_cached apart r x.place (omega (arith, e))));
        mine = put_here buffers p b p refl;
        others = λ q ne. put_else buffers p b q ne;
      },
    ),
  )
