-- Which of some things a word names.
use Rattle.std.specs.Prelude.{ℕ, List, [], ◌∷◌, Option, Some, None, if◌then◌else◌}
use Rattle.std.specs.Str.{bytes_eq}

-- the first of these things whose name the word is
abbrev pub named_in : {X : Type 0} → (X → List ℕ) → List X → List ℕ → Option X
named_in name [] word = None
named_in name (x ∷ xs) word = if bytes_eq word (name x) then Some x else named_in name xs word
