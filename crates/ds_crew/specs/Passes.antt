-- What passes hold, and how they stand to a world.
use Rattle.std.specs.Prelude.{ℕ, zero, suc, ◌≡◌, ◌≢◌, ◌⊎◌, ◌<◌, List, [], ◌∷◌, length, ◌++◌, Option, Some, None, slice_index_or, sum_by, All}
use Rattle.ds_eval.specs.declared.value.Value.{Value}
use Rattle.ds_state.specs.Reports.{PlainReports}
use Rattle.ds_state.specs.Value.{WorldValue}
use Rattle.ds_core.specs.declared.event.Event.{Event}
use Rattle.ds_core.specs.declared.reply.Reply.{Reply}
use Rattle.ds_formula.specs.declared.cells.Shape.{Shape}
use Rattle.ds_crew.specs.Kept.{HasUsed, report_of}
use Rattle.ds_crew.specs.Trails.{Trail, HasGoneRounds}

-- a process, the values of its last settled show, its shares of the counts of Done and of Settled answers, the edits,
-- reports and recoveries that the pass was used for, in order: of each the event that began it, and its last reply;
-- and all that was asked of the sheet by the pass
pub record PlainPass : Type 0 where
  pub process : ℕ
  pub last : List Value
  pub dones : ℕ
  pub settleds : ℕ
  pub calls : List (Event × Reply)
  pub trail : Trail

-- the pass with this trail
abbrev pub with_trail : PlainPass → Trail → PlainPass
with_trail pass trail = record pass { trail = trail }

-- the pass, once it was used for one call more, which this event began, and which had this as its last reply
abbrev pub asked : PlainPass → Event → Reply → PlainPass
asked pass begin reply = record pass { calls = pass.calls ++ (begin, reply) ∷ [] }

-- each call that the list remembers was one of this process, that began and ended so
abbrev pub HaveHappened : ℕ → List (Event × Reply) → Type 0
HaveHappened process calls = All (λ call. HasUsed process call.0 call.1) calls

-- the Done answers that all passes have counted
abbrev pub dones_of : List PlainPass → ℕ
dones_of passes = sum_by (λ p. p.dones) passes

-- the Settled answers that all passes have counted
abbrev pub settleds_of : List PlainPass → ℕ
settleds_of passes = sum_by (λ p. p.settleds) passes

-- the count that the pass of a process begins with: the first one's is what the world has counted, the others' is 0
abbrev pub first_count : ℕ → ℕ → ℕ
first_count count zero = count
first_count count (suc n) = 0

-- the pass of a process at its making
abbrev pub first_pass : WorldValue → ℕ → PlainPass
first_pass w process = record {
  process = process;
  last = report_of w.reports process;
  dones = first_count w.done process;
  settleds = first_count w.settled process;
  calls = [];
  trail = [];
}

-- these are the values of each process's last settled show
pub record AreLasts (w : WorldValue) (lasts : List (List Value)) : Type 0 where
  pub count : length lasts ≡ w.sheet.layout.processes
  pub each : (process : ℕ) → process < length lasts → slice_index_or lasts process [] ≡ report_of w.reports process

-- the pass was lent to a worker of a sheet of this shape for that many rounds: its trail goes on by these, and all else
-- stays
pub record HasServed (shape : Shape) (rounds : ℕ) (old new : PlainPass) : Type 0 where
  pub is : new ≡ with_trail old new.trail
  pub gone : HasGoneRounds shape old.process rounds old.trail new.trail

-- each pass of a list was lent so; the lists are equally long
pub record HaveServed (shape : Shape) (rounds : ℕ) (old new : List PlainPass) : Type 0 where
  pub count : length new ≡ length old
  pub each : (place : ℕ) (d : PlainPass) → place < length old → HasServed shape rounds (slice_index_or old place d) (slice_index_or new place d)

-- the passes of a world at their making: one for each process
pub record AreFirstPasses (w : WorldValue) (passes : List PlainPass) : Type 0 where
  pub count : length passes ≡ w.sheet.layout.processes
  pub each : (process : ℕ) (d : PlainPass) → process < length passes → slice_index_or passes process d ≡ first_pass w process

-- the pass keeps other values than these reports
abbrev pub IsStray : PlainReports → PlainPass → Type 0
IsStray reports pass = report_of reports pass.process ≢ pass.last

-- the process of the first pass of the list that keeps other values than these reports, if one does
abbrev pub FirstStray : PlainReports → List PlainPass → Option ℕ → Type 0
FirstStray reports [] stray = stray ≡ None
FirstStray reports (pass ∷ passes) stray =
    (IsStray reports pass × (stray ≡ Some pass.process)) ⊎ ((report_of reports pass.process ≡ pass.last) × FirstStray reports passes stray)
