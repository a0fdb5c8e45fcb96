-- The recording of a script.
use Rattle.std.specs.Prelude.{ℕ, ◌≡◌, ◌≢◌, ◌≤◌, ◌⊎◌, ◌↔◌, Bool, List, Option, Some, None, Ok, Err, IfSome, AllPairs, Contains, filter_map, length, map, take}
use Rattle.ds_words.specs.declared.words.Word.{Word}
use Rattle.ds_words.specs.declared.access.Access.{Access}
use Rattle.ds_words.specs.declared.access.Access.TheVariants as accesses
use Rattle.ds_layout.specs.declared.place.Place.{Place}
use Rattle.ds_state.specs.Value.{WorldValue}
use Rattle.ds_script_io.specs.ScriptLines.{NoLine, ALine, next_of}
use Rattle.ds_script.specs.declared.order.Begun.{Begun}
use Rattle.ds_script.specs.Orders.{Order, Does, Deed, order_of}
use Rattle.ds_script.specs.Doing.{IsOrderOf, plan}
use Rattle.ds_script.specs.Running.{after}
use Rattle.ds_script.specs.Script.{Progress, Carried, Breaks}
use Rattle.ds_trace.specs.declared.row.TraceRow.{TraceRow}
use Rattle.ds_trace.specs.declared.row.Trace.{Trace}
use Rattle.ds_trace.specs.declared.row.Happening.{Happening}
use Rattle.ds_trace.specs.declared.row.Happening.TheVariants.{Begins, Steps, TakesEntry, Evicts, Stops, Crashes}
use Rattle.ds_trace.specs.declared.turn.NoTrace.TheVariants.{TooManyEvents, NoMemory}
use Rattle.ds_trace.specs.declared.record.Hindrance.{Hindrance}
use Rattle.ds_trace.specs.declared.record.Hindrance.TheVariants as hindrances
use Rattle.ds_trace.specs.declared.record.Untraced.{Untraced}
use Rattle.ds_trace.specs.declared.record.Untraced.TheVariants as untraced
use Rattle.ds_trace.specs.Rows.{sides_of}
use Rattle.ds_trace.specs.Trails.{AreRows, Hinders, ObeysBy, Overflows}

-- the lines of a script are carried out to the last one, which leads to this world; and the rows are those of the events,
-- from the new sheet on that it begins with, with the words at these places, which the new sheet has so
pub record IsRecord (whole : Bool) (script : List ℕ) (places : List Place) (start : List Word) (w : WorldValue) (rows : List TraceRow) : Type 0 where
  pub lines : ℕ
  pub progress : Progress
  pub out : List ℕ
  pub rest : List ℕ
  pub carried : Carried whole script lines progress out rest
  pub none : next_of whole rest ≡ NoLine
  pub world_is : progress.world ≡ w
  pub starts : start ≡ map (sides_of progress.start) places
  pub are : AreRows places progress.start progress.events progress.replies rows progress.world

-- the recording is that of a script, which leads to a world of its layout
pub record IsTraceOf (whole : Bool) (script : List ℕ) (trace : Trace) : Type 0 where
  pub world : WorldValue
  pub record_is : IsRecord whole script trace.places.items trace.start.items world trace.rows.items
  pub layout : trace.layout ≡ world.sheet.layout

-- a run of the script has more events than a recording has room for: its lines are carried out up to one whose command
-- wants one too many
pub record IsTooLong (whole : Bool) (script : List ℕ) : Type 0 where
  pub lines : ℕ
  pub progress : Progress
  pub out : List ℕ
  pub rest : List ℕ
  pub line : List ℕ
  pub behind : List ℕ
  pub deed : Deed
  pub carried : Carried whole script lines progress out rest
  pub next : next_of whole rest ≡ ALine line behind
  pub asks : order_of progress.begun progress.world line ≡ Ok (Some (Does deed))
  pub order : List ℕ
  pub order_is : IsOrderOf progress.world deed order
  pub overflows : Overflows (plan progress.world order deed) progress.world (length progress.events)

-- why a script has no recording: a line of it has a fault, which a run of it meets there; it is too long; or memory ran
-- out
abbrev pub IsUntraced : Bool → List ℕ → Untraced → Type 0
IsUntraced whole script (untraced.Fault line kind) = (out : List ℕ) × Breaks whole script out line kind
IsUntraced whole script untraced.TooManyEvents = IsTooLong whole script
IsUntraced whole script untraced.NoMemory = Unit {0}

-- ---- a line

-- the line is skipped: all stays
pub record SkipsLine (first : Begun) (old : WorldValue) (line : List ℕ) (now : Begun) (new : WorldValue) (before rows : List TraceRow) : Type 0 where
  pub asks : order_of first old line ≡ Ok None
  pub still : now ≡ first
  pub same : new ≡ old
  pub no_row : rows ≡ before

-- the line is carried out
pub record CarriesLine (places : List Place) (first : Begun) (old : WorldValue) (line : List ℕ) (now : Begun) (new : WorldValue) (before rows : List TraceRow) : Type 0 where
  pub order : Order
  pub asks : order_of first old line ≡ Ok (Some order)
  pub obeys : ObeysBy places old order new before rows
  pub begun_is : now ≡ after order

-- the line is skipped or carried out
abbrev pub PassesLine : List Place → Begun → WorldValue → List ℕ → Begun → WorldValue → List TraceRow → List TraceRow → Type 0
PassesLine places first old line now new before rows = SkipsLine first old line now new before rows ⊎ CarriesLine places first old line now new before rows

-- why no further line is carried out after these rows: by its fault, or for want of room
abbrev pub StopsLine : Begun → WorldValue → List ℕ → List TraceRow → Hindrance → Type 0
StopsLine first old line before (hindrances.Fault kind) = order_of first old line ≡ Err kind
StopsLine first old line before (hindrances.NoTrace why) = (order : Order) × (order_of first old line ≡ Ok (Some order)) × Hinders old order before why

-- why a script has no recording that is stopped at this line
abbrev pub why_not : ℕ → Hindrance → Untraced
why_not line (hindrances.Fault kind) = untraced.Fault line kind
why_not line (hindrances.NoTrace TooManyEvents) = untraced.TooManyEvents
why_not line (hindrances.NoTrace NoMemory) = untraced.NoMemory

-- ---- the words that are looked at

-- the place that an access names, if it names one
abbrev pub place_in : Access Place → Option Place
place_in accesses.Nothing = None
place_in (accesses.Load r) = Some r
place_in (accesses.Store r value) = Some r
place_in (accesses.Or r bits) = Some r
place_in (accesses.SwapIf r expected value) = Some r
place_in (accesses.Flush r) = Some r
place_in accesses.Back = None

-- the place that an event names, if it names one: that of its step's access, or of its eviction
abbrev pub place_named : Happening → Option Place
place_named (Begins p begin) = None
place_named (Steps p access) = place_in access
place_named (TakesEntry p) = None
place_named (Evicts r) = Some r
place_named (Stops p) = None
place_named Crashes = None

-- the event names one of these places, or none
abbrev pub NamesWithin : List Place → Happening → Type 0
NamesWithin places what = IfSome (place_named what) (λ place. Contains places place)

-- the places that the events name, one after the other
abbrev pub names_of : List TraceRow → List Place
names_of rows = filter_map (λ row. place_named row.what) rows

-- the places are those that are named, each once, in the order in which they are named first: the first places are just those
-- that come first among the names
pub record AreFirsts (names places : List Place) : Type 0 where
  pub once : AllPairs (λ place other. place ≢ other) places
  pub each : (place : Place) → Contains names place → Contains places place
  pub in_order : (n : ℕ) → n ≤ length places → (k : ℕ) × (k ≤ length names) × ((place : Place) → Contains (take n places) place ↔ Contains (take k names) place)
