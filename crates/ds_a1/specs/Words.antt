-- The word at the front of a text.
use Rattle.std.specs.Prelude.{ℕ, suc, List, [], ◌∷◌, if◌then◌else◌}
use Rattle.ds_a1.specs.Tokens.{is_word_byte}

-- how many bytes of a word are at the front
abbrev pub word_length : List ℕ → ℕ
word_length [] = 0
word_length (b ∷ bs) = if is_word_byte b then suc (word_length bs) else 0
