-- The keys that a client gives its edits.
use Rattle.std.specs.Prelude.{ℕ, List, ◌∷◌, ◌++◌}
use Rattle.std.specs.Fmt.{decimal}

-- the most characters of a prefix of keys: `-` and a number of 64 bits, which has at most 20 digits, are after it
abbrev pub PREFIX_MOST : ℕ
PREFIX_MOST = 43

-- the key of the edit of this number: the prefix, `-`, and the number
abbrev pub drawn_key : List ℕ → ℕ → List ℕ
drawn_key prefix number = prefix ++ 45 ∷ decimal number
