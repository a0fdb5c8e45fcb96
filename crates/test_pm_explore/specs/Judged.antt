-- What is so of a queue at each position: its answers are right by the words, and values are taken in their order.
use Rattle.std.specs.Prelude.{ℕ, ◌+◌, ◌*◌, ◌%◌, ◌/◌, ◌≡◌, ◌≢◌, ◌⊎◌, List}
use Rattle.ds_words.specs.declared.words.Word.{Word}
use Rattle.pm_base.specs.Structures.{In}
use Rattle.pm_explore.specs.Lists.{IsAt, slot}
use Rattle.pm_explore.specs.declared.position.Position.{Position}
use Rattle.pm_explore.specs.declared.position.Told.{Told}
use Rattle.pq.specs.declared.calls.Doing.{Doing}
use Rattle.pq.specs.declared.calls.Response.{Response}
use Rattle.pq.specs.declared.calls.Response.TheVariants.{Enqueued, Got, Empty, WasEnqueued, NotEnqueued, NotDequeued}

module _ (window : List ℕ) (words : List Word) where
  -- a word of the window
  pub record IsWord (k n : ℕ) (w : Word) : Type 0 where
    pub number : IsAt window k n
    pub word : IsAt words k w

  -- a link to the node of this operation is persisted
  pub record IsLinked (operation : ℕ) : Type 0 where
    pub k : ℕ
    pub n : ℕ
    pub w : Word
    pub word : IsWord k n w
    pub next : n % 8 ≡ 0
    pub names : w.persisted ≡ operation

  -- the operation's claim on a node with this value is persisted, and so is the value
  pub record HasTaken (operation value : ℕ) : Type 0 where
    pub k : ℕ
    pub n : ℕ
    pub w : Word
    pub v : Word
    pub word : IsWord k n w
    pub taker : n % 8 ≡ 1
    pub names : w.persisted ≡ operation
    pub after : IsWord (k + 1) (n + 1) v
    pub holds : v.persisted ≡ value

  -- no link (part 0), or no taker (part 1), names the operation
  abbrev pub IsNamedByNone : ℕ → ℕ → Type 0
  IsNamedByNone part operation = (k n : ℕ) (w : Word) → IsWord k n w → n % 8 ≡ part → w.cached ≢ operation

  -- what a process was answered is so, and no crash takes it back
  abbrev pub IsRightAnswer : Response → Type 0
  IsRightAnswer (Enqueued i x) = IsLinked i
  IsRightAnswer (WasEnqueued i) = IsLinked i
  IsRightAnswer (NotEnqueued i) = IsNamedByNone 0 i
  IsRightAnswer (Got i x) = HasTaken i x
  IsRightAnswer (Empty i) = IsNamedByNone 1 i
  IsRightAnswer (NotDequeued i) = IsNamedByNone 1 i

  -- an operation has claimed the node
  pub record IsTaken (node : ℕ) : Type 0 where
    pub w : Word
    pub word : IsAt words (slot window (8 * node + 1)) w
    pub some : w.cached ≢ 0

  -- where the node after a node is taken, that one is the first of all or was taken too: what is taken is a beginning of
  -- what is linked
  abbrev pub AreTakenInOrder : Type 0
  AreTakenInOrder = (k n : ℕ) (w : Word) → IsWord k n w → n % 8 ≡ 0 → w.cached ≢ 0 → IsTaken w.cached → (n ≡ 0) ⊎ IsTaken (n / 8)

-- the position is right
pub record IsRight (window : List ℕ) (x : Position Doing Response) : Type 0 where
  pub answers : (t : Told Response) → In x.told.items t → IsRightAnswer window x.cells.words.items t.response
  pub order : AreTakenInOrder window x.cells.words.items
