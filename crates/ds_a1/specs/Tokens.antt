-- A text in A1 notation as words and marks.
use Rattle.std.specs.Prelude.{ℕ, Bool, true, false, ◌||◌, ◌&&◌, ◌==◌, not, nat_le, List, [], ◌∷◌, if◌then◌else◌}
use Rattle.std.specs.Char.{is_ascii_alphabetic, is_ascii_digit}
use Rattle.ds_formula.specs.Tokens.{is_name_byte}
use Rattle.ds_formula.specs.References.{without_dollar}

-- a word, or one byte that is none of a word
pub data Token : Type 0 where
  Word : List ℕ → Token
  Mark : ℕ → Token

-- whether a byte is one of a word: a letter, a digit, `.`, `_` or `$`
abbrev pub is_word_byte : ℕ → Bool
is_word_byte b = is_name_byte b || b == 36

-- a byte of a word before tokens: the first byte of the word that they begin with, or a word of its own
abbrev pub joined : ℕ → List Token → List Token
joined b [] = Word (b ∷ []) ∷ []
joined b (Word w ∷ ts) = Word (b ∷ w) ∷ ts
joined b (Mark m ∷ ts) = Word (b ∷ []) ∷ Mark m ∷ ts

-- the tokens of a text: its words, each as long as can be, and the bytes between them
unfoldable pub tokens : List ℕ → List Token
tokens [] = []
tokens (b ∷ bs) = if is_word_byte b then joined b (tokens bs) else Mark b ∷ tokens bs

-- whether these are digits alone
abbrev pub are_digits : List ℕ → Bool
are_digits [] = true
are_digits (b ∷ bs) = is_ascii_digit b && are_digits bs

-- whether this is the number of a row: digits, of which the first isn't 0
abbrev pub is_row : List ℕ → Bool
is_row [] = false
is_row (b ∷ bs) = nat_le 49 b && nat_le b 57 && are_digits bs

-- what is after the letters at the front
abbrev pub after_letters : List ℕ → List ℕ
after_letters [] = []
after_letters (b ∷ bs) = if is_ascii_alphabetic b then after_letters bs else b ∷ bs

-- whether this is a column and a row: letters, at least one, and a number, with a `$` before it or without
abbrev pub is_column_and_row : List ℕ → Bool
is_column_and_row [] = false
is_column_and_row (b ∷ bs) = is_ascii_alphabetic b && is_row (without_dollar (after_letters bs))

-- whether a word is the name of a cell, as A1 or $A$1
unfoldable pub is_cell : List ℕ → Bool
is_cell w = is_column_and_row (without_dollar w)

-- whether this mark is at the front
abbrev pub begins_mark : ℕ → List Token → Bool
begins_mark m [] = false
begins_mark m (Word w ∷ ts) = false
begins_mark m (Mark b ∷ ts) = b == m

-- whether a reference is at the front: the name of a cell, and no `(` after it, which makes it a function's
abbrev pub begins_reference : List Token → Bool
begins_reference [] = false
begins_reference (Mark b ∷ ts) = false
begins_reference (Word w ∷ ts) = is_cell w && not (begins_mark 40 ts)

-- whether a reference goes on as a range: a colon is at the front, and another reference after it
abbrev pub goes_on : List Token → Bool
goes_on [] = false
goes_on (Word w ∷ ts) = false
goes_on (Mark b ∷ ts) = b == 58 && begins_reference ts
