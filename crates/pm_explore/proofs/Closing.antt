-- Positions that nothing leads out of.
use Rattle.std.proofs.Common.{ℕ, suc, zero, ◌+◌, ◌≡◌, ◌<◌, ◌≤◌, ◌⊎◌, ◌++◌, List, [], ◌∷◌, refl, sym, ap, ◌∙◌, subst, arith, length, inl, inr, ⊎_elim, eq-eqb, ne_eqb, IsTrue}
use Rattle.std.specs.Prelude.{Option, Some, None, IfSome, is_some}
use Rattle.std.proofs.lemmas.List.{same_from_push}
use Rattle.std.proofs.lemmas.Bool.{cases_lt}
use mathlib.Core.Logic.{dite}
use native.Mathlib.Decide.{ℕ_discrete}
use Rattle.pm_base.specs.Structures.{In, World, Structure}
use Rattle.pm_explore.specs.Changes.{Agrees}
use Rattle.pm_explore.specs.Closed.{IsShown, LeadsInto, StaysIn, at_first, goes_on, AreAll, ShowRuns, RunsBy, not_yet, one_more}
use Rattle.pm_explore.specs.Lists.{IsAt, slot}
use Rattle.pm_explore.specs.Positions.{Point, Passes, Shows}
use Rattle.pm_explore.specs.Tables.{IsFound}
use Rattle.pm_explore.specs.declared.position.Position.{Position}
use Rattle.pm_explore.specs.declared.setting.Setting.{Setting}
use Rattle.pm_explore.specs.declared.setting.Move.{Move}
use Rattle.pm_explore.specs.declared.setting.Move.TheVariants.{Begin, Step, Stop, Evict, Crash}
use Rattle.pm_explore.proofs.Leading.{like_cells}
use Rattle.pm_explore.proofs.Lists.{in_at}
use Rattle.pm_explore.proofs.Showing.{evicted_outside}

-- the same position shows the same points
pub alike_shows : {S T H : Type 0} (window : List ℕ) (f x : Position S T) (point : Point S T H) → Agrees f x → Shows window x point → Shows window f point
alike_shows window f x point same shows = record {
  cells = like_cells window x.cells f.cells point.world.memory (record { words = sym same.cells.words; buffers = sym same.cells.buffers }) shows.cells;
  doing = rw (sym same.doing) shows.doing;
  begun = rw (sym same.begun) shows.begun;
  told = rw (sym same.told) shows.told;
}

pub shown_by : {K S T : Type 0} (s : Structure K S T) (setting : Setting K S) (xs : List (Position S T)) (x : Position S T) (i : ℕ) (point : Point S T s.Hidden) → IsFound xs x i → Shows setting.window.items x point → IsShown s setting xs point
shown_by s setting xs x i point is shows = record { position = is.found; inside = in_at xs i is.found is.at.low (sym is.at.is); shows = alike_shows setting.window.items is.found x point is.same shows }

-- something was found
pub some_found : (P : ℕ → Type 0) (o : Option ℕ) → IfSome o P → IsTrue (is_some o) → (i : ℕ) × P i
some_found P None is found = cc
some_found P (Some i) is found = (i, is)

-- where a number stands in a window
pub slot_is : (window : List ℕ) (n : ℕ) → slot window n < length window → IsAt window (slot window n) n
slot_is [] n low = absurd (omega (arith, low))
slot_is (m ∷ ms) n low = dite (ℕ_discrete n m)
    (λ same. rw (eq-eqb n m same) (record { low = omega arith; is = sym same }))
    (λ other.
    let l : suc (slot ms n) < suc (length ms) = rw (ne_eqb n m other) at low in
    let r = slot_is ms n (omega (arith, l)) in
    let k = r.low in
    rw (ne_eqb n m other) (record { low = omega (arith, k); is = r.is }))

-- what stands in a list with one thing more
pub at_pushed : {X : Type 0} (xs : List X) (y : X) (k : ℕ) (x : X) → IsAt (xs ++ y ∷ []) k x → IsAt xs k x ⊎ ((k ≡ length xs) × (x ≡ y))
at_pushed [] y zero x at = inr (refl, sym at.is)
at_pushed [] y (suc k) x at = absurd (let low = at.low in omega (arith, low))
at_pushed (z ∷ zs) y zero x at = inl (record { low = omega arith; is = at.is })
at_pushed (z ∷ zs) y (suc k) x at =
    let low = at.low in
    ⊎_elim (λ (i : IsAt zs k x). let l = i.low in inl (record { low = omega (arith, l); is = i.is })) (λ last. inr (ap suc last.0, last.1)) (at_pushed zs y k x (record { low = omega (arith, low); is = at.is }))

-- what stands in a list stands at a place
pub at_in : {X : Type 0} (xs : List X) (x : X) → In xs x → (k : ℕ) × IsAt xs k x
at_in [] x none = absurd none
at_in (y ∷ ys) x (inl is) = (0, record { low = omega arith; is = is })
at_in (y ∷ ys) x (inr later) = let r = at_in ys x later in let l = r.1.low in (suc r.0, record { low = omega (arith, l); is = r.1.is })

module _ {K S T : Type 0} (s : Structure K S T) (setting : Setting K S) (xs : List (Position S T)) (x : Position S T) where
  -- all that may happen leads into the positions, if what the search tries does
  pub all_lead : In xs x → ((i : ℕ) → i < length setting.calls.items → LeadsInto s setting xs x (Begin i)) → ((p : ℕ) → p < s.processes setting.key → LeadsInto s setting xs x (Step p))
      → ((p : ℕ) → p < s.processes setting.key → LeadsInto s setting xs x (Stop p)) → ((k n : ℕ) → IsAt setting.window.items k n → LeadsInto s setting xs x (Evict n)) → LeadsInto s setting xs x Crash → StaysIn s setting xs x
  all_lead inside begins steps stops evicts crash (Begin i) old new says shows passes = begins i passes.1.low old new says shows passes
  all_lead inside begins steps stops evicts crash (Step p) old new says shows passes = steps p passes.0.low old new says shows passes
  all_lead inside begins steps stops evicts crash (Stop p) old new says shows passes = stops p passes.1.0 old new says shows passes
  all_lead inside begins steps stops evicts crash (Evict n) old new says shows passes = ⊎_elim
      (λ (low : slot setting.window.items n < length setting.window.items). evicts (slot setting.window.items n) n (slot_is setting.window.items n low) old new says shows passes)
      (λ (out : length setting.window.items ≤ slot setting.window.items n).
      let fits = shows.cells.fits in record {
        position = x;
        inside = inside;
        shows = record {
          cells = evicted_outside setting.window.items x.cells old.world.memory new.world.memory n (omega (arith, fits, out)) shows.cells passes.1.1;
          doing = λ q d at. ap (λ (w : World S s.Hidden). w.situation q) passes.1.2 ∙ shows.doing q d at;
          begun = rw passes.2 shows.begun;
          told = rw passes.3 shows.told;
        };
      })
      (cases_lt (slot setting.window.items n) (length setting.window.items))
  all_lead inside begins steps stops evicts crash Crash old new says shows passes = crash old new says shows passes

-- one number more
pub more_below : (P : ℕ → Type 0) (i : ℕ) → ((k : ℕ) → k < i → P k) → P i → (k : ℕ) → k < i + 1 → P k
more_below P i below here k low = dite (ℕ_discrete k i) (λ same. subst P (sym same) here) (λ other. below k (omega (arith, low, other)))

-- where the positions are all, no run leaves them
pub runs_stay : {K S T : Type 0} (s : Structure K S T) (setting : Setting K S) (xs : List (Position S T)) → AreAll s setting xs → ShowRuns s setting xs
runs_stay s setting xs all first last start at_first = all.start first start
runs_stay s setting xs all first last start (goes_on point next happens says run passes) =
    let k = runs_stay s setting xs all first point start run in all.closed k.position k.inside happens point next says k.shows passes

no_push : {X : Type 0} (xs : List X) (x : X) → [] ≡ xs ++ x ∷ [] → ⊥
no_push [] x e = cc
no_push (y ∷ ys) x e = cc

-- a run by a schedule of nothing has not begun
pub not_begun : {K S T : Type 0} (s : Structure K S T) (setting : Setting K S) (first last : Point S T s.Hidden) (ms : List Move) → RunsBy s setting first ms last → ms ≡ [] → last ≡ first
not_begun s setting first last ms not_yet e = refl
not_begun s setting first last ms (one_more schedule point next happens says run passes) e = absurd (no_push schedule happens (sym e))

-- the last thing of a schedule
pub record LastOf {K S T : Type 0} (s : Structure K S T) (setting : Setting K S) (first last : Point S T s.Hidden) (xs : List Move) (m : Move) : Type 0 where
  pub point : Point S T s.Hidden
  pub says : List T
  pub run : RunsBy s setting first xs point
  pub passes : Passes s setting point m says last

pub last_of : {K S T : Type 0} (s : Structure K S T) (setting : Setting K S) (first last : Point S T s.Hidden) (ms xs : List Move) (m : Move) → RunsBy s setting first ms last → ms ≡ xs ++ m ∷ [] → LastOf s setting first last xs m
last_of s setting first last ms xs m not_yet e = absurd (no_push xs m e)
last_of s setting first last ms xs m (one_more schedule point next happens says run passes) e =
    let k = same_from_push schedule xs happens m e in record {
      point = point;
      says = says;
      run = subst (λ (z : List Move). RunsBy s setting first z point) k.0 run;
      passes = subst (λ (z : Move). Passes s setting point z says next) k.1 passes;
    }
