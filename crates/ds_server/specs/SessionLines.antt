-- Lines of a session, read one byte after another.
use Rattle.std.specs.Prelude.{◌≡◌, ◌≢◌, ℕ, ◌+◌, ◌<◌, ◌≤◌, Bool, true, List, [], ◌∷◌, ◌++◌, length, Option}
use Rattle.std.specs.Io.KnownBytes.{Consumes, Keeps, IsAtEnd}
use Rattle.ds_server.specs.declared.line.NextByte.{NextByte}
use Rattle.ds_server.specs.declared.line.NextByte.TheVariants as next
use Rattle.ds_server.specs.declared.line.LineEnd.{LineEnd}
use Rattle.ds_server.specs.declared.line.LineEnd.TheVariants.{Line, Long, Ended, Failed, Over}

-- what a read of one byte did: what is left of the reader and how much it gave, each before and after; whether it has
-- ended, and whether a read failed; and what it gave
abbrev pub Gives : Option (List ℕ) → Option (List ℕ) → ℕ → ℕ → Bool → Bool → NextByte → Type 0
Gives before now given_before given_now ended failed (next.Byte byte) = Consumes before now (byte ∷ []) × (given_now ≤ given_before + 1)
Gives before now given_before given_now ended failed next.Ended = Consumes before now [] × IsAtEnd now × (ended ≡ true) × (given_now ≤ given_before)
Gives before now given_before given_now ended failed next.Failed = Keeps before now × (failed ≡ true) × (given_now ≤ given_before)

-- none of the bytes is a line feed
abbrev pub HasNoFeed : List ℕ → Type 0
HasNoFeed [] = Unit {0}
HasNoFeed (byte ∷ bytes) = (byte ≢ 10) × HasNoFeed bytes

-- the bytes are this line and its line feed
pub record IsLine (bytes line : List ℕ) : Type 0 where
  pub no_feed : HasNoFeed line
  pub is : bytes ≡ line ++ 10 ∷ []

-- the bytes are a line of at most `most` bytes; `left` bytes could come before it was read, and `rest` can after it
pub record ReadsLine (most left : ℕ) (bytes line : List ℕ) (rest : ℕ) : Type 0 where
  pub is_line : IsLine bytes line
  pub short : length line ≤ most
  pub counted : length bytes + rest ≡ left

-- the bytes are a line of more than `most` bytes; `left` bytes could come before it was read, and `rest` can after it
pub record ReadsLong (most left : ℕ) (bytes : List ℕ) (rest : ℕ) : Type 0 where
  pub whole : List ℕ
  pub is_line : IsLine bytes whole
  pub long : most < length whole
  pub counted : length bytes + rest ≡ left

-- the bytes have no line feed, and are no more than could come
pub record ReadsPart (left : ℕ) (bytes : List ℕ) : Type 0 where
  pub no_feed : HasNoFeed bytes
  pub within : length bytes ≤ left

-- the bytes are one more than could come, and no line feed stands before the last one
pub record ReadsOver (left : ℕ) (bytes : List ℕ) : Type 0 where
  pub front : List ℕ
  pub last : ℕ
  pub no_feed : HasNoFeed front
  pub is : bytes ≡ front ++ last ∷ []
  pub at : length front ≡ left

-- what was read, by where reading stopped: a line is too long over `most` bytes; `left` bytes could come before these
-- were read, and `rest` can after them; `line` is what was kept
abbrev pub Reads : ℕ → ℕ → List ℕ → List ℕ → ℕ → LineEnd → Type 0
Reads most left bytes line rest Line = ReadsLine most left bytes line rest
Reads most left bytes line rest Long = ReadsLong most left bytes rest
Reads most left bytes line rest Ended = ReadsPart left bytes
Reads most left bytes line rest Failed = ReadsPart left bytes
Reads most left bytes line rest Over = ReadsOver left bytes
