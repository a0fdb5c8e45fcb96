-- What a seat learns by a look at the table, which changes nothing.
use Rattle.std.specs.Prelude.{◌≡◌, ◌++◌, List, [], Some, map}
use Rattle.pm_base.specs.Structures.{In}
use Rattle.pm_base.specs.Runs.{deeds_by}
use Rattle.pm_base.specs.declared.history.Entry.{Entry}
use Rattle.pm_board.specs.declared.board.Seated.{Seated}
use Rattle.pm_board.specs.declared.board.View.{View}
use Rattle.pm_board.specs.Views.{seated}

-- the first history begins with the second one: the entries that came later stand in front
abbrev pub Extends : {S T : Type 0} → List (Entry S T) → List (Entry S T) → Type 0
Extends {S} {T} new old = (late : List (Entry S T)) × (new ≡ late ++ old)

-- the process, which has then seen this history
abbrev pub looking : {S T : Type 0} → List (Entry S T) → Seated S T → Seated S T
looking seen e = seated e.process e.now e.buffer (record { done = e.deeds.done; steps = e.deeds.steps; seen = Some seen })

-- the processes, each of which has then seen it
abbrev pub looked : {S T : Type 0} → List (Entry S T) → List (Seated S T) → List (Seated S T)
looked seen es = map (looking seen) es

-- the history begins with what each of these processes had seen
abbrev pub BeginsWithAll : {S T : Type 0} → List (Entry S T) → List (Seated S T) → Type 0
BeginsWithAll {S} {T} seen es = (e : Seated S T) → In es e → (xs : List (Entry S T)) → e.deeds.seen ≡ Some xs → Extends seen xs

-- the seat has looked, and remembers these others: each of its processes has then seen all that has happened. That begins
-- with what each of them had seen before, since when none began a call or was answered anything; and with what each other
-- process had seen that the seat remembers
pub record Looks {S T : Type 0} (old : View S T) (kept : List (Seated S T)) (new : View S T) : Type 0 where
  pub seen : List (Entry S T)
  pub at : new ≡ record { entries = looked seen old.entries; past = kept }
  pub own : (e : Seated S T) → In old.entries e → (xs : List (Entry S T)) → e.deeds.seen ≡ Some xs → (late : List (Entry S T)) × (seen ≡ late ++ xs) × (deeds_by e.process late ≡ [])
  pub others : BeginsWithAll seen old.past
