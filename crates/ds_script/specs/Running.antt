-- What carrying lines out leaves.
use Rattle.std.specs.Prelude.{◌≡◌, ◌⊎◌, ℕ, Bool, true, List, [], Option, Some, None, Result, Ok, Err}
use Rattle.std.specs.Io.KnownBytes.{Appends}
use Rattle.ds_state.specs.Value.{WorldValue}
use Rattle.ds_script_io.specs.declared.ending.ScriptEnd.{ScriptEnd}
use Rattle.ds_script_io.specs.declared.ending.ScriptEnd.TheVariants as ends
use Rattle.ds_script.specs.declared.order.Begun.{Begun}
use Rattle.ds_script.specs.declared.order.Begun.TheVariants as begun
use Rattle.ds_script.specs.declared.script.Hindrance.{Hindrance}
use Rattle.ds_script.specs.declared.script.Hindrance.TheVariants as hindrances
use Rattle.ds_script.specs.declared.script.Break.{Break}
use Rattle.ds_script.specs.declared.script.Break.TheVariants as breaks
use Rattle.ds_script.specs.Orders.{Order, Make, Does, order_of}
use Rattle.ds_script.specs.Doing.{IsOrderOf, plan}
use Rattle.ds_script.specs.Plays.{Played}
use Rattle.ds_script.specs.Script.{IsMade, Finishes, Breaks, Lacks}

-- an order is carried out: a new sheet is made, or the deed is played to its end with this answer
abbrev pub Obeys : WorldValue → Order → List ℕ → WorldValue → Type 0
Obeys old (Make first columns rows processes edition) answer new = (answer ≡ []) × IsMade columns rows processes edition new
Obeys old (Does deed) answer new = (order : List ℕ) × IsOrderOf old deed order × Played (plan old order deed) old answer new

-- how a script has begun once it has carried an order out: with a sheet alone, or with another command
abbrev pub after : Order → Begun
after (Make first columns rows processes edition) = first
after (Does deed) = begun.Command

-- the line is skipped: the world stays, and what was written stays
pub record Skipped (first : Begun) (old : WorldValue) (line : List ℕ) (now : Begun) (new : WorldValue) (before then : Option (List ℕ)) : Type 0 where
  pub asks : order_of first old line ≡ Ok None
  pub still : now ≡ first
  pub same : new ≡ old
  pub nothing : then ≡ before

-- the line is carried out, and its answer is written after what was written before
pub record Answered (first : Begun) (old : WorldValue) (line : List ℕ) (now : Begun) (new : WorldValue) (before then : Option (List ℕ)) : Type 0 where
  pub order : Order
  pub asks : order_of first old line ≡ Ok (Some order)
  pub answer : List ℕ
  pub obeys : Obeys old order answer new
  pub begun_is : now ≡ after order
  pub written : Appends before then answer

-- the line is skipped, or carried out
abbrev pub Obeyed : Begun → WorldValue → List ℕ → Begun → WorldValue → Option (List ℕ) → Option (List ℕ) → Type 0
Obeyed first old line now new before then = Skipped first old line now new before then ⊎ Answered first old line now new before then

-- why a line stops a script: by its fault, by a failed allocation, or by a write that failed
abbrev pub Stopped : Begun → WorldValue → List ℕ → Option (List ℕ) → Option (List ℕ) → Bool → Hindrance → Type 0
Stopped first w line before then failed (hindrances.Fault kind) = (order_of first w line ≡ Err kind) × (then ≡ before)
Stopped first w line before then failed hindrances.NoMemory = then ≡ before
Stopped first w line before then failed hindrances.WriteFailed = failed ≡ true

-- where and why a script breaks off, by what stops it at this line
abbrev pub break_of : ℕ → Hindrance → Break
break_of line (hindrances.Fault kind) = breaks.Fault line kind
break_of line hindrances.NoMemory = breaks.NoMemory
break_of line hindrances.WriteFailed = breaks.WriteFailed

-- the lines of a script are carried out to its end, or to the first that stops it
abbrev pub RanLines : Bool → List ℕ → Option (List ℕ) → Option (List ℕ) → Bool → Result (Unit {0}) Break → Type 0
RanLines whole script before now failed (Ok done) = (out : List ℕ) × Appends before now out × Finishes whole script out
RanLines whole script before now failed (Err (breaks.Fault line kind)) = (out : List ℕ) × Appends before now out × Breaks whole script out line kind
RanLines whole script before now failed (Err breaks.NoMemory) = (out : List ℕ) × Appends before now out × Lacks whole script out
RanLines whole script before now failed (Err breaks.WriteFailed) = failed ≡ true

-- no write of the lines failed, but for one that breaks the script off
abbrev pub HidesNone : Result (Unit {0}) Break → Bool → Bool → Type 0
HidesNone (Ok done) before now = now ≡ before
HidesNone (Err (breaks.Fault line kind)) before now = now ≡ before
HidesNone (Err breaks.NoMemory) before now = now ≡ before
HidesNone (Err breaks.WriteFailed) before now = Unit {0}

-- how a script ends: as its lines break off, else as its reading ended
abbrev pub ending_of : Result (Unit {0}) Break → ScriptEnd → ScriptEnd
ending_of (Ok done) end = end
ending_of (Err (breaks.Fault line kind)) end = ends.Fault line kind
ending_of (Err breaks.NoMemory) end = ends.NoMemory
ending_of (Err breaks.WriteFailed) end = ends.WriteFailed
