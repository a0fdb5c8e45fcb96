-- The prefix of the keys that `dsheet connect` gives its edits: the key of the edit of number N is the prefix, `-`, and N.
use Rattle.std.specs.Prelude.{◌≡◌, ℕ, List, Bool, true, false, ◌&&◌, nat_le, length, Option, Some, None, codes}
use Rattle.clap.specs.Words.{Row, first_of}
use Rattle.ds_key.specs.Keys.{is_key}

-- the most characters of a prefix: a key has 64, of which one is `-` and at most 20 are those of a number of 64 bits
abbrev pub PREFIX_MOST : ℕ
PREFIX_MOST = 43

-- whether a text is a prefix: 1 to 43 visible characters of ASCII
abbrev pub is_prefix : List ℕ → Bool
is_prefix text = is_key text && nat_le (length text) PREFIX_MOST

-- the option `--key` has this prefix, or is not there
abbrev pub IsPrefixOf : List Row → Option (List ℕ) → Type 0
IsPrefixOf rows None = first_of (codes "key") rows ≡ None
IsPrefixOf rows (Some prefix) = (first_of (codes "key") rows ≡ Some prefix) × (is_prefix prefix ≡ true)

-- the option `--key` has a text that is no prefix
pub record HasNoPrefix (rows : List Row) : Type 0 where
  pub text : List ℕ
  pub has : first_of (codes "key") rows ≡ Some text
  pub no : is_prefix text ≡ false
