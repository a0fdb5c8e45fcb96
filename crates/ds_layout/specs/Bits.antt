-- One bit for each of many numbers, 64 in a word.
use Rattle.std.specs.Prelude.{ℕ, ◌≡◌, ◌<◌, ◌≤◌, ◌+◌, ◌/◌, ◌%◌, ◌^◌, List, slice_index_or}
use Rattle.std.specs.Int.{bit_at}

-- the part, a word, in which the bit of a number stands
abbrev pub part_with : ℕ → ℕ
part_with number = number / 64

-- how many words the bits of that number of numbers take
abbrev pub parts_for : ℕ → ℕ
parts_for numbers = (numbers + 63) / 64

-- the bit of the number in the word of its part: 0 or 1
abbrev pub bit_in : ℕ → ℕ → ℕ
bit_in word number = bit_at word (number % 64)

-- the word has the bit of the number
abbrev pub HasBit : ℕ → ℕ → Type 0
HasBit word number = bit_in word number ≡ 1

-- the words have the bit of the number; a word that is not there has none
abbrev pub HaveBit : List ℕ → ℕ → Type 0
HaveBit words number = HasBit (slice_index_or words (part_with number) 0) number

-- the words have no bit of a number from the first on and below the second
abbrev pub HaveNoBit : List ℕ → ℕ → ℕ → Type 0
HaveNoBit words start end = (number : ℕ) → start ≤ number → number < end → HaveBit words number → ⊥

-- the first number from this one on whose bit the words have
pub record IsFirstBit (words : List ℕ) (start first : ℕ) : Type 0 where
  pub from : start ≤ first
  pub has : HaveBit words first
  pub none : HaveNoBit words start first

-- the word that has the bit of the number alone
abbrev pub bit_of : ℕ → ℕ
bit_of number = 2 ^ (number % 64)

-- the bits of the first word are bits of the second
abbrev pub IsSubset : ℕ → ℕ → Type 0
IsSubset a b = (i : ℕ) → bit_at a i ≤ bit_at b i
