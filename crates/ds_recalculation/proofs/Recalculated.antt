-- Recalculations as runs, and where nobody disturbs them.
use Rattle.std.proofs.Common.{ℕ, suc, add-one, drop, drop-cons, drop_of_length-le, ◌≡◌, ◌≢◌, ◌<◌, ◌≤◌, ◌+◌, ◌*◌, List, [], ◌∷◌, length, All, slice_index_or, Some, None, true, refl, sym, ap, ◌∙◌, subst, arith, inl, inr}
use Rattle.std.specs.Prelude.{Option, Result, Ok}
use Rattle.std.proofs.lemmas.Bool.{cases_eq}
use Rattle.ds_formula.specs.Cells.{cell_at}
use Rattle.ds_layout.specs.Places.{cells_of}
use Rattle.ds_layout.specs.Mark.{generation_of}
use Rattle.ds_layout.specs.declared.layout.Layout.{Layout}
use Rattle.ds_layout.specs.declared.place.Place.TheVariants.{Mark}
use Rattle.ds_state.specs.Value.{WorldValue, world_of, IsGood}
use Rattle.ds_state.specs.Works.{SEEN_MOST}
use Rattle.ds_state.specs.declared.answer.Answer.TheVariants.{Work}
use Rattle.ds_state.specs.declared.refusal.Refusal.{Refusal}
use Rattle.ds_state.specs.declared.work.WorkEnd.{WorkEnd}
use Rattle.ds_state.specs.declared.work.WorkEnd.TheVariants as ends
use Rattle.ds_core.specs.declared.event.Event.TheVariants.{BeginWork}
use Rattle.ds_calls.specs.declared.settle.SettleEnd.{SettleEnd}
use Rattle.ds_calls.specs.declared.settle.SettleEnd.TheVariants.{Refused}
use Rattle.ds_calls.specs.declared.settle.SettleEnd.TheVariants as settle_ends
use Rattle.ds_calls.specs.declared.settle.SettleStage.TheVariants.{Ends}
use Rattle.ds_calls.specs.Settling.{Settling}
use Rattle.ds_state.specs.declared.refusal.Refusal.TheVariants.{NoMemory}
use Rattle.ds_calls.specs.Marked.{state_at, is_marked}
use Rattle.ds_calls.specs.Whole.{Whole, HasProcess, KeepsFree}
use Rattle.ds_calls.specs.Lone.{AreIdle, AreYoung, EndsClean}
use Rattle.ds_calls.specs.Traces.{Leads, call_trace, settle_trace}
use Rattle.ds_calls.proofs.Runs.{both_lead, call_leads, settle_leads, whole_runs, run_keeps_layout}
use Rattle.ds_calls.proofs.LoneFacts.{CallLeft, wanted, lacked, worked_so, whole_left}
use Rattle.ds_calls.proofs.LoneSettles.{settles_clean}
use Rattle.ds_recalculation.specs.Plans.{IsPlan}
use Rattle.ds_recalculation.specs.Recalculations.{Ordered, begins, passes, works, TakesTurn, passes_it, works_on_it, Stops, stop_of, EndsInOrder, Recalculates, lacks_order, recalculates, order_trace, recalculation_trace, trace_of}

-- ---- runs

order_leads : (p : ℕ) (order : List ℕ) (first : WorldValue) (rest : List ℕ) (new : WorldValue) → (h : Ordered p order first rest new) → Leads first (order_trace p order first rest new h) new
order_leads p order first rest new begins = refl
order_leads p order first rest new (passes cell r w so_far clean) = order_leads p order first (cell ∷ rest) new so_far
order_leads p order first rest new (works cell r old result n so_far marked whole on) =
    both_lead (order_trace p order first (cell ∷ rest) old so_far) (call_trace _ p _ old result new whole) first old new
    (order_leads p order first (cell ∷ rest) old so_far) (call_leads _ p _ old result new whole)

-- the events of a recalculation lead from its first world to its last
pub recalculation_leads : (p : ℕ) (order : List ℕ) (first : WorldValue) (end : SettleEnd) (new : WorldValue) → (h : EndsInOrder p order first end new) → Leads first (recalculation_trace p order first end new h) new
recalculation_leads p order first end new (inl s) =
    both_lead (order_trace p order first (s.cell ∷ s.rest) s.old s.so_far) (call_trace _ p _ s.old s.result new s.whole) first s.old new
    (order_leads p order first (s.cell ∷ s.rest) s.old s.so_far) (call_leads _ p _ s.old s.result new s.whole)
recalculation_leads p order first end new (inr s) =
    both_lead (order_trace p order first [] s.mid s.all) (settle_trace p s.mid (Ends end) new s.settling) first s.mid new
    (order_leads p order first [] s.mid s.all) (settle_leads p s.mid (Ends end) new s.settling)

-- so do they where it may have lacked its order
pub recalculates_lead : (p : ℕ) (first : WorldValue) (end : SettleEnd) (new : WorldValue) → (h : Recalculates p first end new) → Leads first (trace_of p first end new h) new
recalculates_lead p first end new lacks_order = refl
recalculates_lead p first end new (recalculates order e n is ends) = recalculation_leads p order first end new ends

-- a whole work keeps the layout
pub work_keeps_layout : (p cell : ℕ) (old : WorldValue) (result : Result WorkEnd Refusal) (new : WorldValue) → Whole Work p (BeginWork p (cell_at old.sheet.layout.shape cell)) old result new
    → new.sheet.layout ≡ old.sheet.layout
work_keeps_layout p cell old result new h = run_keeps_layout old new (whole_runs _ _ p (BeginWork p (cell_at old.sheet.layout.shape cell)) old result new h)

-- ---- the cells of an order

module _ (p : ℕ) (order : List ℕ) (first : WorldValue) (place cell : ℕ) (low : place < length order) (is : slice_index_or order place 0 ≡ cell) (w : WorldValue) (so_far : Ordered p order first (drop place order) w) where
  -- this cell is left, and those after it
  at_cell : Ordered p order first (cell ∷ drop (suc place) order) w
  at_cell = subst (λ (rest : List ℕ). Ordered p order first rest w) (drop-cons order place 0 low ∙ ap (λ (c : ℕ). c ∷ drop (suc place) order) is) so_far

  turned : (new : WorldValue) → TakesTurn p cell w None new → Ordered p order first (drop (suc place) order) new
  turned new (passes_it clean) = passes cell (drop (suc place) order) w at_cell clean
  turned new (works_on_it stop n marked o) = works cell (drop (suc place) order) w o.result new at_cell marked o.whole (sym o.stop_is)

  -- a turn leads on
  pub turn_goes : (new : WorldValue) → TakesTurn p cell w None new → Ordered p order first (drop (place + 1) order) new
  turn_goes new t = subst (λ (n : ℕ). Ordered p order first (drop n order) new) (sym (add-one place)) (turned new t)

  -- a turn ends the recalculation
  pub turn_stops : (end : SettleEnd) (new : WorldValue) → TakesTurn p cell w (Some end) new → Stops p order first end new
  turn_stops end new (works_on_it stop n marked o) = record {
    cell = cell;
    rest = drop (suc place) order;
    old = w;
    so_far = at_cell;
    marked = marked;
    result = o.result;
    whole = o.whole;
    stop_is = sym o.stop_is;
  }

-- a turn keeps the layout
pub turn_layout : (p cell : ℕ) (old : WorldValue) (stop : Option SettleEnd) (new : WorldValue) → TakesTurn p cell old stop new → new.sheet.layout ≡ old.sheet.layout
turn_layout p cell old stop new (passes_it clean) = refl
turn_layout p cell old stop new (works_on_it s n marked o) = o.layout

-- and leaves a free process free
pub turn_free : (p cell : ℕ) (old : WorldValue) (stop : Option SettleEnd) (new : WorldValue) → TakesTurn p cell old stop new → KeepsFree p old new
turn_free p cell old stop new (passes_it clean) = λ h. h
turn_free p cell old stop new (works_on_it s n marked o) = o.free

-- no cell is left after the last place
pub none_left : (p : ℕ) (order : List ℕ) (first w : WorldValue) (place : ℕ) → length order ≤ place → Ordered p order first (drop place order) w → Ordered p order first [] w
none_left p order first w place high h = subst (λ (rest : List ℕ). Ordered p order first rest w) (drop_of_length-le order high) h

-- ---- where nobody disturbs it

goes_on : (end : WorkEnd) → end ≢ ends.NoMemory → stop_of (Ok end) ≡ None
goes_on ends.NoMemory not = absurd (not refl)
goes_on _ not = refl

-- a recalculation with these cells left of its order has so far left each process idle
record Alone (N : ℕ) (layout : Layout) (rest : List ℕ) (w : WorldValue) : Type 0 where
  good : IsGood w
  layout_is : w.sheet.layout ≡ layout
  idle : AreIdle (world_of w)
  young : (c : ℕ) → c < N → generation_of ((world_of w).memory.cached (Mark c)) + 2 * (N + 2 + length rest) ≤ SEEN_MOST
  inside : All (λ c. c < N) rest

module _ (p : ℕ) (first : WorldValue) (good : IsGood first) (there : HasProcess first p) where
  abbrev N : ℕ
  N = cells_of first.sheet.layout

  abbrev Lone : List ℕ → WorldValue → Type 0
  Lone rest w = Alone (cells_of first.sheet.layout) first.sheet.layout rest w

  passed : (cell : ℕ) (rest : List ℕ) (w : WorldValue) → Lone (cell ∷ rest) w → Lone rest w
  passed cell rest w h = record {
    good = h.good;
    layout_is = h.layout_is;
    idle = h.idle;
    young = λ c l. (let y = h.young c l in omega (arith, y));
    inside = λ k d l. h.inside (suc k) d (omega (arith, l));
  }

  left_of : (cell : ℕ) (rest : List ℕ) (old : WorldValue) (result : Result WorkEnd Refusal) (new : WorldValue) → Lone (cell ∷ rest) old → is_marked (state_at (world_of old) cell) ≡ true
      → Whole Work p (BeginWork p (cell_at old.sheet.layout.shape cell)) old result new → CallLeft old p cell result new
  left_of cell rest old result new h marked whole =
      let low : cell < N = h.inside 0 0 (omega arith) in
      let inside : cell < cells_of old.sheet.layout = subst (λ (y : Layout). cell < cells_of y) (sym h.layout_is) low in
      let here : p < old.sheet.layout.processes = subst (λ (y : Layout). p < y.processes) (sym h.layout_is) there in
      let y = h.young cell low in
      whole_left old p cell h.good h.idle inside here marked (omega (arith, y)) result new whole

  worked : (cell : ℕ) (rest : List ℕ) (old : WorldValue) (result : Result WorkEnd Refusal) (new : WorldValue) → Lone (cell ∷ rest) old → CallLeft old p cell result new → stop_of result ≡ None → Lone rest new
  worked cell rest old result new h (wanted n) on = cc
  worked cell rest old result new h (lacked n) on = cc
  worked cell rest old result new h (worked_so end n not good left) on = record {
    good = good;
    layout_is = left.since.layout ∙ h.layout_is;
    idle = left.idle;
    young = λ c l. (let y = h.young c l in elim (cases_eq c cell) [
      | inl same ↦ (let older = left.older in let z : generation_of ((world_of new).memory.cached (Mark cell)) + 2 * (N + 2 + length rest) ≤ SEEN_MOST = (let y' = h.young cell (subst (λ x. x < N) same l) in omega (arith, y', older)) in subst (λ x. generation_of ((world_of new).memory.cached (Mark x)) + 2 * (N + 2 + length rest) ≤ SEEN_MOST) (sym same) z)
      | inr other ↦ (let age = left.since.ages c other in omega (arith, y, age))
    ]);
    inside = λ k d l. h.inside (suc k) d (omega (arith, l));
  }

  alone : (order rest : List ℕ) (w : WorldValue) → Lone order first → Ordered p order first rest w → Lone rest w
  alone order rest w h begins = h
  alone order rest w h (passes cell r v so_far clean) = passed cell rest w (alone order (cell ∷ rest) w h so_far)
  alone order rest w h (works cell r old result n so_far marked whole on) =
      let a : Lone (cell ∷ rest) old = alone order (cell ∷ rest) old h so_far in
      worked cell rest old result w a (left_of cell rest old result w a marked whole) on

  stops_clean : (cell : ℕ) (old : WorldValue) (result : Result WorkEnd Refusal) (end : SettleEnd) (new : WorldValue) → CallLeft old p cell result new → stop_of result ≡ Some end → EndsClean (world_of new) end
  stops_clean cell old result end new (wanted n) is = (let e : Refused NoMemory ≡ end = cc in subst (λ (x : SettleEnd). EndsClean (world_of new) x) e refl)
  stops_clean cell old result end new (lacked n) is = (let e : settle_ends.NoMemory ≡ end = cc in subst (λ (x : SettleEnd). EndsClean (world_of new) x) e tt)
  stops_clean cell old result end new (worked_so e n not good left) is = absurd (let bad : Some end ≡ None = sym is ∙ goes_on e not in cc)

  settles_alone : (end : SettleEnd) (mid new : WorldValue) → Lone [] mid → Settling p mid (Ends end) new → EndsClean (world_of new) end
  settles_alone end mid new h settling =
      settles_clean p mid h.good h.idle
      (record { each = λ c l. (let y = h.young c (subst (λ (x : Layout). c < cells_of x) h.layout_is l) in let same = ap cells_of h.layout_is in omega (arith, y, same)) })
      (subst (λ (y : Layout). p < y.processes) (sym h.layout_is) there) end new settling

  ends_clean : (order : List ℕ) (end : SettleEnd) (new : WorldValue) → Lone order first → EndsInOrder p order first end new → EndsClean (world_of new) end
  ends_clean order end new h (inl s) =
      stops_clean s.cell s.old s.result end new (left_of s.cell s.rest s.old s.result new (alone order (s.cell ∷ s.rest) s.old h s.so_far) s.marked s.whole) s.stop_is
  ends_clean order end new h (inr s) = settles_alone end s.mid new (alone order [] s.mid h s.all) s.settling

  begins_alone : AreIdle (world_of first) → AreYoung (world_of first) (2 * cells_of first.sheet.layout + 2) → (order : List ℕ) → IsPlan first order → Lone order first
  begins_alone idle young order o = record {
    good = good;
    layout_is = refl;
    idle = idle;
    young = λ c l. (let y = young.each c l in let n = o.once.count in omega (arith, y, n));
    inside = o.once.below;
  }

-- a recalculation in an order, where each process is idle and marks are young, ends clean, or out of memory
pub ends_in_order_clean : (p : ℕ) (order : List ℕ) (old : WorldValue) (end : SettleEnd) (new : WorldValue) → IsGood old → HasProcess old p → AreIdle (world_of old) → AreYoung (world_of old) (2 * cells_of old.sheet.layout + 2)
    → IsPlan old order → EndsInOrder p order old end new → EndsClean (world_of new) end
ends_in_order_clean p order old end new good there idle young is ends = ends_clean p old good there order end new (begins_alone p old good there idle young order is) ends

-- so does any
pub recalculates_clean : (p : ℕ) (old : WorldValue) (end : SettleEnd) (new : WorldValue) → IsGood old → HasProcess old p → AreIdle (world_of old) → AreYoung (world_of old) (2 * cells_of old.sheet.layout + 2)
    → Recalculates p old end new → EndsClean (world_of new) end
recalculates_clean p old end new good there idle young lacks_order = tt
recalculates_clean p old end new good there idle young (recalculates order e n is ends) = ends_in_order_clean p order old end new good there idle young is ends
