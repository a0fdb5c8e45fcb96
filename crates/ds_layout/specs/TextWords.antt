-- The words of a text.
use Rattle.std.specs.Prelude.{ℕ, ◌+◌, ◌-◌, ◌*◌, ◌/◌, List, map, min, slice_index}
use Rattle.std.specs.List.{range_with_len}
use Rattle.std.specs.Int.{w64, to_le_bytes, from_le_bytes}

-- how many words a text of n bytes takes, eight bytes in each
abbrev pub parts_for : ℕ → ℕ
parts_for bytes = (bytes + 7) / 8

-- how many bytes of a text come before the part
abbrev pub start_of : ℕ → ℕ
start_of part = 8 * part

-- how many bytes of a text of n bytes the part has
abbrev pub length_in : ℕ → ℕ → ℕ
length_in bytes part = min (bytes - start_of part) 8

-- eight bytes of the text, 0 past its end
abbrev pub part_of : List ℕ → ℕ → List ℕ
part_of text part = map (λ k. slice_index text (start_of part + k)) (range_with_len 0 8)

-- the word of a part of the text: its eight bytes, the first in the lowest eight bits
abbrev pub part_word : List ℕ → ℕ → ℕ
part_word text part = from_le_bytes w64 (part_of text part)

-- the eight bytes of a word
abbrev pub bytes_of : ℕ → List ℕ
bytes_of word = to_le_bytes w64 word
