-- Lines of a script, and words of a line (our own rules).
use Rattle.std.specs.Prelude.{ℕ, ◌+◌, ◌-◌, Bool, true, false, ◌==◌, nat_lt, List, [], ◌∷◌, length, take, drop, get_or, Option, Some, None, option_map, position, if◌then◌else◌}
use Rattle.std.specs.Borrow.{Bor}
use Rattle.ds_formula.specs.Limits.{LINE_MOST}
use Rattle.ds_script_io.specs.declared.line.NextLine.{NextLine}
use Rattle.ds_script_io.specs.declared.line.NextLine.TheVariants as lines

-- what stands at the front of a script: no line, a line and what is after it, or a line that is too long
pub data AtFront : Type 0 where
  NoLine : AtFront
  ALine : List ℕ → List ℕ → AtFront
  LongLine : AtFront

-- what stands at the front of a script, by what the search for a line answered
abbrev pub next_view : NextLine → AtFront
next_view lines.Nothing = NoLine
next_view (lines.Line line rest) = ALine line.now rest.now
next_view lines.TooLong = LongLine

-- a line and what is after it; a line of more bytes than its limit, without its end, is too long
abbrev pub checked : List ℕ → List ℕ → AtFront
checked line rest = if nat_lt LINE_MOST (length line) then LongLine else ALine line rest

-- the bytes without a carriage return at their end
abbrev pub dropped_return : List ℕ → List ℕ
dropped_return line = if get_or line (length line - 1) 0 == 13 then take (length line - 1) line else line

-- bytes without a line feed: a last line, or the cut front of one
abbrev pub last_of : Bool → List ℕ → AtFront
last_of whole [] = NoLine
last_of true (b ∷ bytes) = checked (b ∷ bytes) []
last_of false (b ∷ bytes) = if nat_lt LINE_MOST (length (dropped_return (b ∷ bytes))) then LongLine else NoLine

-- what stands at the front of bytes whose first line feed is here, or that have none
abbrev pub next_by : Option ℕ → Bool → List ℕ → AtFront
next_by (Some at) whole bytes = checked (dropped_return (take at bytes)) (drop (at + 1) bytes)
next_by None whole bytes = last_of whole bytes

-- what stands at the front of a script, whose first line ends at the first line feed
abbrev pub next_of : Bool → List ℕ → AtFront
next_of whole bytes = next_by (position (λ b. b == 10) bytes) whole bytes

-- the bytes before this space, and those after it; without a space all of them
abbrev pub word_by : Option ℕ → List ℕ → List ℕ × Option (List ℕ)
word_by (Some at) bytes = (take at bytes, Some (drop (at + 1) bytes))
word_by None bytes = (bytes, None)

-- the bytes before the first space, and those after it if there is one
abbrev pub word_of : List ℕ → List ℕ × Option (List ℕ)
word_of bytes = word_by (position (λ b. b == 32) bytes) bytes

-- a word and what is after it, as plain bytes
abbrev pub word_view : Bor (List ℕ) × Option (Bor (List ℕ)) → List ℕ × Option (List ℕ)
word_view w = (w.0.now, option_map (λ r. r.now) w.1)
