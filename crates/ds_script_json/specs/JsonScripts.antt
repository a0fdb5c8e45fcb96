-- What a script is answered in JSON, line by line.
use Rattle.std.specs.Prelude.{◌≡◌, ◌⊎◌, ℕ, suc, Bool, true, List, [], ◌++◌, Option, Some, None, Result, Ok, Err}
use Rattle.std.specs.Io.KnownBytes.{Appends}
use Rattle.ds_layout.specs.declared.place.Edition.{Edition}
use Rattle.ds_layout.specs.declared.place.Edition.TheVariants.{Second}
use Rattle.ds_state.specs.Value.{WorldValue}
use Rattle.ds_core.specs.declared.event.Event.{Event}
use Rattle.ds_core.specs.declared.reply.Reply.{Reply}
use Rattle.ds_script_io.specs.declared.ending.ScriptEnd.{ScriptEnd}
use Rattle.ds_script_io.specs.declared.ending.ScriptEnd.TheVariants as ends
use Rattle.ds_script_io.specs.ScriptLines.{ALine, next_of}
use Rattle.ds_script.specs.declared.order.Begun.{Begun}
use Rattle.ds_script.specs.declared.order.Begun.TheVariants as begun
use Rattle.ds_script.specs.Orders.{Order, Make, Does, Deed, order_of}
use Rattle.ds_script.specs.Doing.{Says, IsOrderOf, plan}
use Rattle.ds_script.specs.Plays.{Plays}
use Rattle.ds_script.specs.Running.{Skipped, after}
use Rattle.ds_script.specs.Script.{Progress, IsMade, begins_at, goes_on, Asks, Finishes, Breaks, Lacks}
use Rattle.ds_script_json.specs.declared.carry.CommandEnd.{CommandEnd}
use Rattle.ds_script_json.specs.CommandEnds.{Obeys, text_of}
use Rattle.ds_script_json.specs.JsonAnswers.{line_of}

-- ---- at a point of a script

-- the first lines of a script, this many, are carried out, as `Carried` says; they led to this point, were answered with
-- this text, and left this rest of the script. The JSON is, line by line, that of how each command has ended whose text
-- is its answer
pub data InJson (whole : Bool) (script : List ℕ) : ℕ → Progress → List ℕ → List ℕ → List ℕ → Type 0 where
  begins : (w : WorldValue) → IsMade 2 2 2 Second w → InJson whole script 0 (begins_at begun.Nothing w) [] [] script
  skips : (lines : ℕ) (p : Progress) (out json rest line behind : List ℕ)
      → InJson whole script lines p out json rest → next_of whole rest ≡ ALine line behind → Asks p line None
      → InJson whole script (suc lines) p out json behind
  makes : (lines : ℕ) (p : Progress) (out json rest line behind : List ℕ) (first : Begun) (columns rows processes : ℕ) (edition : Edition) (w : WorldValue)
      → InJson whole script lines p out json rest → next_of whole rest ≡ ALine line behind → Asks p line (Some (Make first columns rows processes edition)) → IsMade columns rows processes edition w
      → InJson whole script (suc lines) (begins_at first w) out json behind
  obeys : (lines : ℕ) (p : Progress) (out json rest line behind : List ℕ) (deed : Deed) (order : List ℕ) (events : List Event) (replies : List Reply) (end : CommandEnd) (new : WorldValue)
      → InJson whole script lines p out json rest → next_of whole rest ≡ ALine line behind → Asks p line (Some (Does deed))
      → IsOrderOf p.world deed order → Plays (plan p.world order deed) p.world events replies (Says (text_of new end)) new
      → InJson whole script (suc lines) (goes_on p events replies new) (out ++ text_of new end) (json ++ line_of new end) behind

-- some of the first lines of a script were answered with this text, and this is the JSON of that, line by line
pub record IsJsonOf (whole : Bool) (script out json : List ℕ) : Type 0 where
  pub lines : ℕ
  pub progress : Progress
  pub rest : List ℕ
  pub answered : InJson whole script lines progress out json rest

-- the same, or nothing was answered at all
abbrev pub SaysInJson : Bool → List ℕ → List ℕ → List ℕ → Type 0
SaysInJson whole script out json = IsJsonOf whole script out json ⊎ ((out ≡ []) × (json ≡ []))

-- ---- one line

-- the line is carried out, and the JSON of how its command has ended is written after what was written before
pub record Answered (first : Begun) (old : WorldValue) (line : List ℕ) (now : Begun) (new : WorldValue) (before then : Option (List ℕ)) : Type 0 where
  pub order : Order
  pub asks : order_of first old line ≡ Ok (Some order)
  pub end : CommandEnd
  pub obeys : Obeys old order end new
  pub begun_is : now ≡ after order
  pub written : Appends before then (line_of new end)

-- the line is skipped, or carried out
abbrev pub Obeyed : Begun → WorldValue → List ℕ → Begun → WorldValue → Option (List ℕ) → Option (List ℕ) → Type 0
Obeyed first old line now new before then = Skipped first old line now new before then ⊎ Answered first old line now new before then

-- why the line of this number ends a script: by its fault, by a failed allocation, or by a write that failed
abbrev pub StoppedAt : ℕ → Begun → WorldValue → List ℕ → Option (List ℕ) → Option (List ℕ) → Bool → ScriptEnd → Type 0
StoppedAt number first w line before then failed (ends.Fault at kind) = (at ≡ number) × (order_of first w line ≡ Err kind) × (then ≡ before)
StoppedAt number first w line before then failed ends.NoMemory = then ≡ before
StoppedAt number first w line before then failed ends.WriteFailed = failed ≡ true
StoppedAt number first w line before then failed end = ⊥

-- ---- how it ends

-- these lines were carried out to their end, as `Finishes` says, or to the first that stops them, with this JSON of the
-- answers
pub record Said (whole : Bool) (script : List ℕ) (before now : Option (List ℕ)) (Ends : List ℕ → Type 0) : Type 0 where
  pub out : List ℕ
  pub json : List ℕ
  pub written : Appends before now json
  pub is_end : Ends out
  pub says : SaysInJson whole script out json

-- the lines of a script are carried out to its end, or to the first that stops it
abbrev pub RanInJson : Bool → List ℕ → Option (List ℕ) → Option (List ℕ) → Bool → Result (Unit {0}) ScriptEnd → Type 0
RanInJson whole script before now failed (Ok done) = Said whole script before now (Finishes whole script)
RanInJson whole script before now failed (Err (ends.Fault line kind)) = Said whole script before now (λ out. Breaks whole script out line kind)
RanInJson whole script before now failed (Err ends.NoMemory) = Said whole script before now (Lacks whole script)
RanInJson whole script before now failed (Err ends.WriteFailed) = failed ≡ true
RanInJson whole script before now failed (Err end) = ⊥

-- how a script ends: as its lines break off, else as its reading ended
abbrev pub ending_of : Result (Unit {0}) ScriptEnd → ScriptEnd → ScriptEnd
ending_of (Ok done) end = end
ending_of (Err broken) end = broken
