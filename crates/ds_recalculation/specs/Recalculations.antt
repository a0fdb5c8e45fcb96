-- Recalculations: whole works in an order of the cells, then a settle.
use Rattle.std.proofs.Common.{inl, inr}
use Rattle.std.specs.Prelude.{ℕ, ◌≡◌, ◌⊎◌, List, [], ◌∷◌, true, false, Option, Some, None, Result, Ok, Err}
use Rattle.ds_formula.specs.Cells.{cell_at}
use Rattle.ds_state.specs.Value.{WorldValue, world_of}
use Rattle.ds_state.specs.declared.refusal.Refusal.{Refusal}
use Rattle.ds_state.specs.declared.answer.Answer.TheVariants.{Work}
use Rattle.ds_state.specs.declared.work.WorkEnd.{WorkEnd}
use Rattle.ds_state.specs.declared.work.WorkEnd.TheVariants as work_ends
use Rattle.ds_core.specs.declared.event.Event.TheVariants.{BeginWork}
use Rattle.ds_recalculation.specs.Plans.{IsPlan}
use Rattle.ds_calls.specs.declared.settle.SettleEnd.{SettleEnd}
use Rattle.ds_calls.specs.declared.settle.SettleEnd.TheVariants.{Refused, NoMemory}
use Rattle.ds_calls.specs.declared.settle.SettleStage.TheVariants.{Ends}
use Rattle.ds_calls.specs.Marked.{state_at, is_marked}
use Rattle.ds_calls.specs.Whole.{Whole, KeepsFree}
use Rattle.ds_calls.specs.Settling.{Settling}
use Rattle.ds_calls.specs.Traces.{Trace, no_trace, both, call_trace, settle_trace}

-- how a recalculation ends by a work that ended so: where the begin was refused or an allocation failed; else it goes on
abbrev pub stop_of : Result WorkEnd Refusal → Option SettleEnd
stop_of (Err why) = Some (Refused why)
stop_of (Ok work_ends.NoMemory) = Some NoMemory
stop_of (Ok end) = None

-- a whole work of the process on the cell, and how the recalculation ends by it, if it does
pub record WorksOn (p cell : ℕ) (old : WorldValue) (stop : Option SettleEnd) (new : WorldValue) : Type 0 where
  pub result : Result WorkEnd Refusal
  pub whole : Whole Work p (BeginWork p (cell_at old.sheet.layout.shape cell)) old result new
  pub stop_is : stop ≡ stop_of result
  pub layout : new.sheet.layout ≡ old.sheet.layout
  pub free : KeepsFree p old new

-- what a recalculation does with a cell in its turn: it passes a cell that is not marked, and works on one that is
pub data TakesTurn (p cell : ℕ) (old : WorldValue) : Option SettleEnd → WorldValue → Type 0 where
  passes_it : is_marked (state_at (world_of old) cell) ≡ false → TakesTurn p cell old None old
  works_on_it : (stop : Option SettleEnd) (new : WorldValue) → is_marked (state_at (world_of old) cell) ≡ true → WorksOn p cell old stop new → TakesTurn p cell old stop new

-- a recalculation by the process in this order has come so far, with these cells left of the order: it has worked on each
-- of the others that was marked in its turn
pub data Ordered (p : ℕ) (order : List ℕ) (first : WorldValue) : List ℕ → WorldValue → Type 0 where
  begins : Ordered p order first order first
  passes : (cell : ℕ) (rest : List ℕ) (w : WorldValue) → Ordered p order first (cell ∷ rest) w
      → is_marked (state_at (world_of w) cell) ≡ false → Ordered p order first rest w
  works : (cell : ℕ) (rest : List ℕ) (old : WorldValue) (result : Result WorkEnd Refusal) (new : WorldValue) → Ordered p order first (cell ∷ rest) old
      → is_marked (state_at (world_of old) cell) ≡ true → Whole Work p (BeginWork p (cell_at old.sheet.layout.shape cell)) old result new
      → stop_of result ≡ None → Ordered p order first rest new

-- a work of a recalculation in this order has ended it so
pub record Stops (p : ℕ) (order : List ℕ) (first : WorldValue) (end : SettleEnd) (new : WorldValue) : Type 0 where
  pub cell : ℕ
  pub rest : List ℕ
  pub old : WorldValue
  pub so_far : Ordered p order first (cell ∷ rest) old
  pub marked : is_marked (state_at (world_of old) cell) ≡ true
  pub result : Result WorkEnd Refusal
  pub whole : Whole Work p (BeginWork p (cell_at old.sheet.layout.shape cell)) old result new
  pub stop_is : stop_of result ≡ Some end

-- a recalculation in this order has come to its end and has settled so
pub record Settles (p : ℕ) (order : List ℕ) (first : WorldValue) (end : SettleEnd) (new : WorldValue) : Type 0 where
  pub mid : WorldValue
  pub all : Ordered p order first [] mid
  pub settling : Settling p mid (Ends end) new

-- a recalculation by the process in this order ends so: by a work, or by its settle
abbrev pub EndsInOrder : ℕ → List ℕ → WorldValue → SettleEnd → WorldValue → Type 0
EndsInOrder p order first end new = Stops p order first end new ⊎ Settles p order first end new

-- a recalculation by the process ends so: it lacks the memory for its order, and has done nothing; or it has worked in an
-- order that goes along the references
pub data Recalculates (p : ℕ) (first : WorldValue) : SettleEnd → WorldValue → Type 0 where
  lacks_order : Recalculates p first NoMemory first
  recalculates : (order : List ℕ) (end : SettleEnd) (new : WorldValue) → IsPlan first order → EndsInOrder p order first end new
      → Recalculates p first end new

-- ---- its events

-- the events of the works of a recalculation
abbrev pub order_trace : (p : ℕ) (order : List ℕ) (first : WorldValue) (rest : List ℕ) (new : WorldValue) → Ordered p order first rest new → Trace
order_trace p order first rest new begins = no_trace
order_trace p order first rest new (passes cell r w so_far clean) = order_trace p order first (cell ∷ rest) new so_far
order_trace p order first rest new (works cell r old result n so_far marked whole on) =
    both (order_trace p order first (cell ∷ rest) old so_far) (call_trace _ p _ old result new whole)

-- the events of a recalculation: of its works, and of the work that ended it or of its settle
abbrev pub recalculation_trace : (p : ℕ) (order : List ℕ) (first : WorldValue) (end : SettleEnd) (new : WorldValue) → EndsInOrder p order first end new → Trace
recalculation_trace p order first end new (inl s) = both (order_trace p order first (s.cell ∷ s.rest) s.old s.so_far) (call_trace _ p _ s.old s.result new s.whole)
recalculation_trace p order first end new (inr s) = both (order_trace p order first [] s.mid s.all) (settle_trace p s.mid (Ends end) new s.settling)

-- the same, whether it had an order or not
abbrev pub trace_of : (p : ℕ) (first : WorldValue) (end : SettleEnd) (new : WorldValue) → Recalculates p first end new → Trace
trace_of p first end new lacks_order = no_trace
trace_of p first end new (recalculates order e n is ends) = recalculation_trace p order first end new ends
