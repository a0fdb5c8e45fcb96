-- The words of an access lie on the table; fuses.
use Rattle.std.proofs.Common.{ℕ, ◌≡◌, ◌+◌, ◌<◌, List, [], ◌∷◌, length, arith, subst}
use Rattle.ds_words.specs.declared.access.BufferEntry.{BufferEntry}
use Rattle.ds_words.specs.declared.access.Access.{Access}
use Rattle.ds_words.specs.declared.access.Access.TheVariants.{Nothing, Load, Store, Or, SwapIf, Flush, Back}
use Rattle.pm_base.specs.Structures.{Serves}
use Rattle.pm_board.specs.Fuses.{Asked}
use Rattle.pm_board.specs.Table.{cached_at, word_of, oldest_of, HasRoom}
use Rattle.pm_board.proofs.Sides.{before, positive}
use Rattle.pm_board.proofs.Words.{IsThere}

-- where an access is served, the table has its words
pub there : (apart : ℕ) (words : List ℕ) (count : ℕ) (a : Access ℕ) (x : List (BufferEntry ℕ)) → length words ≡ cached_at apart count → Serves count a x → IsThere apart words a x
there apart words count Nothing x long h = tt
there apart words count (Load r) x long h = (let b = before apart r count h in omega arith)
there apart words count (Store r v) x long h = (let b = before apart r count h in omega arith)
there apart words count (Or r k) x long h = (let b = before apart r count h in omega arith)
there apart words count (SwapIf r o v) x long h = (let b = before apart r count h in omega arith)
there apart words count (Flush r) x long h = (let b = before apart r count h.0 in omega arith)
there apart words count Back [] long h = absurd h
there apart words count Back (y ∷ x) long h = (let b = before apart y.place count h in omega arith)

pub within : (apart words count : ℕ) (a : Access ℕ) (x : List (BufferEntry ℕ)) → 0 < words → Serves words a x → count ≡ cached_at apart words → word_of apart a (oldest_of x) < count
within apart words count Nothing x some s is = (let b = positive apart words some in omega arith)
within apart words count (Load n) x some s is = (let b = before apart n words s in omega arith)
within apart words count (Store n v) x some s is = (let b = before apart n words s in omega arith)
within apart words count (Or n k) x some s is = (let b = before apart n words s in omega arith)
within apart words count (SwapIf n o v) x some s is = (let b = before apart n words s in omega arith)
within apart words count (Flush n) x some s is = (let b = before apart n words s.0 in omega arith)
within apart words count Back [] some s is = absurd s
within apart words count Back (y ∷ x) some s is = (let b = before apart y.place words s in omega arith)

pub room : (words : ℕ) (a : Access ℕ) (x : List (BufferEntry ℕ)) → Serves words a x → HasRoom a x
room words Nothing x s = tt
room words (Load n) x s = tt
room words (Store n v) x s = tt
room words (Or n k) x s = tt
room words (SwapIf n o v) x s = tt
room words (Flush n) x s = s.1
room words Back x s = tt

-- ---- fuses

-- a fuse that was not asked has said nothing more
pub asked_none : {F : Type 0} (said : F → F → ℕ → ℕ → Type 0) (f : F) → Asked said f f 0 0
asked_none said f first y n h = let a : y ≡ y + 0 = omega arith in let b : n ≡ n + 0 = omega arith in subst (λ (z : ℕ × ℕ). said first f z.0 z.1) (λ i. (a i, b i)) h

-- what a fuse was asked in two stretches adds up
pub asked_also : {F : Type 0} (said : F → F → ℕ → ℕ → Type 0) (f g h : F) (a b c d : ℕ) → Asked said f g a b → Asked said g h c d → Asked said f h (a + c) (b + d)
asked_also said f g h a b c d one two first y n k = let p : y + a + c ≡ y + (a + c) = omega arith in let q : n + b + d ≡ n + (b + d) = omega arith in subst (λ (z : ℕ × ℕ). said first h z.0 z.1) (λ i. (p i, q i)) (two first (y + a) (n + b) (one first y n k))

-- a fuse that said yes n times, and then no once, has said just that
pub asked_stop : {F : Type 0} (said : F → F → ℕ → ℕ → Type 0) (f g h : F) (n : ℕ) → Asked said f g n 0 → Asked said g h 0 1 → Asked said f h n 1
asked_stop said f g h n one two first y m k = let p : y + n + 0 ≡ y + n = omega arith in let q : m + 0 + 1 ≡ m + 1 = omega arith in subst (λ (z : ℕ × ℕ). said first h z.0 z.1) (λ i. (p i, q i)) (two first (y + n) (m + 0) (one first y m k))
