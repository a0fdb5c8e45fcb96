-- The calls of a desk.
use Rattle.std.specs.Prelude.{ℕ, List, Option}
use Rattle.ds_formula.specs.declared.cells.Cell.{Cell}

-- the calls of a desk, each with its process: the session takes it, or any that nobody has; an edit of a cell to a text;
-- an edit of a cell to the text before its last edit; a settle and a report; a recovery; the session gives it back. And
-- those that need none, by the process that the session has joined, if any: a settle and a report; what a cell is, and
-- by which edit; a number of the edits at most, from a place of their order on; what became of the edit with a key. A set
-- that has a key, after its text, counts once at most
pub data Call : Type 0 where
  Join : ℕ → Call
  JoinAny : Call
  Set : ℕ → Cell → List ℕ → Call
  SetOnce : ℕ → Cell → List ℕ → List ℕ → Call
  Undo : ℕ → Cell → Call
  Report : ℕ → Call
  View : Option ℕ → Call
  Get : Option ℕ → Cell → Call
  Listing : ℕ → ℕ → Call
  Resolve : List ℕ → Call
  Last : ℕ → Call
  Leave : ℕ → Call
