-- The sums of a journal's lines.
use Rattle.std.specs.Prelude.{ℕ, ◌≡◌, ◌==◌, ◌++◌, ◌∷◌, [], List, Bool, false, codes}
use Rattle.std.specs.List.{starts_with}
use Rattle.sha2.specs.Sha256.{sha256}
use Rattle.hex.specs.Hex.{encode_lower}
use Rattle.ds_store_sums.specs.declared.sums.Tail.{Tail}
use Rattle.ds_store_sums.specs.declared.sums.Tail.TheVariants.{NoSum, Summed, Loose}

-- the bytes of lines, each with its line feed
unfoldable pub bytes_of : List (List ℕ) → List ℕ
bytes_of [] = []
bytes_of (line ∷ lines) = (line ++ 10 ∷ []) ++ bytes_of lines

-- the line with the sum of these lines: `# sum ` and the SHA-256 of their bytes (FIPS 180-4), in hexadecimal digits
abbrev pub sum_of : List (List ℕ) → List ℕ
sum_of lines = codes "# sum " ++ encode_lower (sha256 (bytes_of lines))

-- whether a line is one with a sum
abbrev pub is_sum : List ℕ → Bool
is_sum line = starts_with (λ a b. a == b) line (codes "# sum ")

-- what the lines end with after one more that has no sum
abbrev pub loosened : Tail → Tail
loosened NoSum = NoSum
loosened Summed = Loose
loosened Loose = Loose

-- each of these lines that is one with a sum has that of the lines before it; and they end with this
pub data AreSummed : List (List ℕ) → Tail → Type 0 where
  none : AreSummed [] NoSum
  plain : (lines : List (List ℕ)) (line : List ℕ) (tail : Tail) → AreSummed lines tail → is_sum line ≡ false → AreSummed (lines ++ line ∷ []) (loosened tail)
  summed : (lines : List (List ℕ)) (line : List ℕ) (tail : Tail) → AreSummed lines tail → line ≡ sum_of lines → AreSummed (lines ++ line ∷ []) Summed
