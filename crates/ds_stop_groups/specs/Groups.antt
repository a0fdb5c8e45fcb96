-- The blocks of stops, in short.
use Rattle.std.specs.Prelude.{ℕ, zero, suc, ◌≡◌, ◌≢◌, ◌≤◌, ◌+◌, ◌^◌, ◌==◌, ◌⊎◌, List, [], ◌∷◌, ◌++◌, length, take, drop, Option, Some, None, codes, if◌then◌else◌}
use Rattle.std.specs.Fmt.{decimal}
use Rattle.ds_script_stops.specs.StopBlocks.{stop_text}

-- the blocks of this stop and of some more after it, by their number, which all say this: the line of each stop, and that
abbrev pub blocks_text : ℕ → ℕ → List ℕ → List ℕ
blocks_text first zero answers = stop_text first ++ answers
blocks_text first (suc more) answers = blocks_text first more answers ++ (stop_text (first + suc more) ++ answers)

-- the text is whole lines: it is empty, or its last byte ends a line
abbrev pub AreLines : List ℕ → Type 0
AreLines text = (text ≡ []) ⊎ ((front : List ℕ) × (text ≡ front ++ codes "\n"))

-- the text begins with this one
abbrev pub BeginsWith : List ℕ → List ℕ → Type 0
BeginsWith text front = (rest : List ℕ) × (text ≡ front ++ rest)

-- at this place of the text a line begins, and it is this one
pub record IsLineAt (text line : List ℕ) (place : ℕ) : Type 0 where
  pub begins : AreLines (take place text)
  pub is : BeginsWith (drop place text) line

-- no line of the text is this one
abbrev pub LacksLine : List ℕ → List ℕ → Type 0
LacksLine text line = (place : ℕ) → IsLineAt text line place → ⊥

-- after a block comes nothing; or it is whole lines, and the block of this stop comes
abbrev pub ComesNext : List ℕ → List ℕ → ℕ → Type 0
ComesNext answers after next = (after ≡ []) ⊎ (AreLines answers × BeginsWith after (stop_text next))

-- the block of this stop, at the front of a text, says this: its answers go up to the line of the next stop
pub record IsBlockOf (text : List ℕ) (stop : ℕ) (answers after : List ℕ) : Type 0 where
  pub is : text ≡ stop_text stop ++ (answers ++ after)
  pub lacks : LacksLine answers (stop_text (stop + 1))
  pub next : ComesNext answers after (stop + 1)

-- the blocks of this stop and of some more after it, which all say this, go up to the line of the next stop: none has that
-- line, and each but the last one is whole lines
pub record GoUpToNext (first more : ℕ) (answers : List ℕ) : Type 0 where
  pub lacks : (k : ℕ) → k ≤ more → LacksLine answers (stop_text (first + k + 1))
  pub lines : 1 ≤ more → AreLines answers

-- what stands for the end of a line: a bar, unless it is the last end
abbrev pub bar : List ℕ → List ℕ
bar [] = []
bar (byte ∷ rest) = codes " | "

-- the lines of an answer as one
abbrev pub one_line : List ℕ → List ℕ
one_line [] = []
one_line (byte ∷ rest) = (if byte == 10 then bar rest else byte ∷ []) ++ one_line rest

-- which stops the blocks are of: one, or a range
abbrev pub stops_text : ℕ → ℕ → List ℕ
stops_text first zero = codes "stop " ++ (decimal first ++ codes ": ")
stops_text first (suc more) = codes "stops " ++ (decimal first ++ (codes "-" ++ (decimal (first + suc more) ++ codes ": ")))

-- the line of a group
abbrev pub group_line : ℕ → ℕ → List ℕ → List ℕ
group_line first more answers = stops_text first more ++ (one_line answers ++ codes "\n")

-- the group before, if there is one, says something else
abbrev pub Differs : Option (List ℕ) → List ℕ → Type 0
Differs None answers = Unit {0}
Differs (Some before) answers = before ≢ answers

-- the lines are those of the blocks that make up a text, from this stop on up to before the next one: a line for all
-- those that follow each other and say the same, the first of which begins a line; and what the last group says
pub data Groups (start : ℕ) : List ℕ → List ℕ → Option (List ℕ) → ℕ → Type 0 where
  no_group : Groups start [] [] None start
  one_group_more : (text lines answers : List ℕ) (before : Option (List ℕ)) (first more : ℕ) → Groups start text lines before first → AreLines text
      → Differs before answers → GoUpToNext first more answers
      → Groups start (text ++ blocks_text first more answers) (lines ++ group_line first more answers) (Some answers) (first + more + 1)

-- the lines are those of all groups of the text
pub record IsGrouped (start : ℕ) (text lines : List ℕ) : Type 0 where
  pub last : Option (List ℕ)
  pub next : ℕ
  pub groups : Groups start text lines last next

-- the text is no blocks of stops from this one on: it does not begin with that stop's line; or the numbers may not fit
-- 64 bits
abbrev pub HasNoBlocks : ℕ → List ℕ → Type 0
HasNoBlocks start text = (BeginsWith text (stop_text start) → ⊥) ⊎ (2 ^ 64 ≤ start + length text)
