-- Where what may happen leads.
use Rattle.std.proofs.Common.{ℕ, ◌≡◌, ◌<◌, ◌++◌, List, ◌∷◌, refl, sym, ap, ◌∙◌, subst, length, set, replicate, inl, inr, ⊎_elim, get_or}
use Rattle.std.specs.Prelude.{◌↔◌, Option, Some, None}
use Rattle.std.proofs.lemmas.List.{get_or-replicate, length-replicate, get_or_default}
use mathlib.Core.Logic.{dite}
use native.Mathlib.Decide.{ℕ_discrete}
use Rattle.ds_words.specs.declared.access.Access.{Access}
use Rattle.ds_words.specs.declared.access.Class.{Class}
use Rattle.ds_words.specs.Memory.{Memory, Performs}
use Rattle.pm_base.specs.Structures.{In, put, World, Structure}
use Rattle.pm_base.specs.Runs.{Moves}
use Rattle.pm_base.specs.declared.history.Event.TheVariants as event
use Rattle.pm_base.proofs.Puts.{put_here, put_else, put_same}
use Rattle.pm_explore.specs.Lists.{IsAt}
use Rattle.pm_explore.specs.Cells.{ShowsCells, IsFlushedAs}
use Rattle.pm_explore.specs.Changes.{SameCells, HasSaid, HasBegun, HasPerformed, HasLanded, HasStopped, HasEvicted, HasCrashed, begun_by}
use Rattle.pm_explore.specs.Explored.{AsksFor, LandsAt, list_of}
use Rattle.pm_explore.specs.Positions.{Point, Shows, Leads}
use Rattle.pm_explore.specs.declared.cells.Cells.{Cells}
use Rattle.pm_explore.specs.declared.cells.Seen.TheVariants.{Answer, Never}
use Rattle.pm_explore.specs.declared.explored.Landed.{Landed}
use Rattle.pm_explore.specs.declared.position.Position.{Position}
use Rattle.pm_explore.specs.declared.position.Told.{Told}
use Rattle.pm_explore.specs.declared.setting.Setting.{Setting}
use Rattle.pm_explore.specs.declared.setting.Planned.{Planned}
use Rattle.pm_explore.specs.declared.setting.Move.TheVariants.{Begin, Step, Stop, Evict, Crash}
use Rattle.pm_explore.proofs.Lists.{at_changed, at_other, at_one}

-- the same cells show the same memories
pub like_cells : (window : List ℕ) (c c' : Cells) (m : Memory ℕ) → SameCells c c' → ShowsCells window c m → ShowsCells window c' m
like_cells window c c' m same shows = record {
  fits = rw same.words shows.fits;
  words = rw same.words shows.words;
  buffers = rw same.buffers shows.buffers;
}

-- what a list says of a function, where both change at one place
put_at : {X : Type 0} (f g : ℕ → X) (xs : List X) (p : ℕ) (v : X) → ((q : ℕ) (d : X) → IsAt xs q d → f q ≡ d) → ((q : ℕ) → g q ≡ put f p v q) → (q : ℕ) (d : X) → IsAt (set xs p v) q d → g q ≡ d
put_at f g xs p v says is q d at = dite (ℕ_discrete q p)
    (λ same. is q ∙ (put_here f p v q same ∙ sym (at_changed xs p v d (subst (λ (z : ℕ). IsAt (set xs p v) z d) same at))))
    (λ other. is q ∙ (put_else f p v q other ∙ says q d (at_other xs p q v d other at)))

-- ... and where all of it becomes the same
pub all_at : {X : Type 0} (n : ℕ) (v : X) (q : ℕ) (d : X) → IsAt (replicate n v) q d → d ≡ v
all_at n v q d at = let low : q < n = subst (λ (z : ℕ). q < z) (length-replicate n v) at.low in sym at.is ∙ get_or-replicate n q v d low

module _ {K S T : Type 0} (s : Structure K S T) (setting : Setting K S) (x y : Position S T) where
  -- what was told stays
  same_told : (old new : Point S T s.Hidden) → Shows setting.window.items x old → y.told.items ≡ x.told.items → new.told ≡ old.told → (q : ℕ) (t : T) → In (new.told q) t ↔ In y.told.items (record { process = q; response = t })
  same_told old new shows same is q t = rw (same, is) (shows.told q t)

  pub stops_lead : (p : ℕ) → HasStopped p s.stopped x y → Leads s setting x (Stop p) y
  stops_lead p h old new says shows passes = record {
    cells = h.cells setting.window.items old.world.memory new.world.memory shows.cells passes.1.1;
    doing = rw h.doing (put_at old.world.situation new.world.situation x.doing.items p s.stopped shows.doing (λ q. ap (λ (w : World S s.Hidden). w.situation q) passes.1.2));
    begun = rw (h.begun, passes.2) shows.begun;
    told = same_told old new shows h.told passes.3;
  }

  pub evicts_lead : (n : ℕ) → HasEvicted setting.window.items n x y → Leads s setting x (Evict n) y
  evicts_lead n h old new says shows passes = record {
    cells = h.cells old.world.memory new.world.memory shows.cells passes.1.1;
    doing = rw h.doing (λ q d at. ap (λ (w : World S s.Hidden). w.situation q) passes.1.2 ∙ shows.doing q d at);
    begun = rw (h.begun, passes.2) shows.begun;
    told = same_told old new shows h.told passes.3;
  }

  pub crashes_lead : HasCrashed s.stopped x y → Leads s setting x Crash y
  crashes_lead h old new says shows passes = record {
    cells = h.cells setting.window.items old.world.memory new.world.memory shows.cells passes.1.0;
    doing = rw h.doing (λ q d at. ap (λ (w : World S s.Hidden). w.situation q) passes.1.1 ∙ sym (all_at (length x.doing.items) s.stopped q d at));
    begun = rw (h.begun, passes.2) shows.begun;
    told = same_told old new shows h.told passes.3;
  }

  pub begins_lead : (i : ℕ) (c : Planned S) → IsAt setting.calls.items i c → c.process < length x.begun.items → HasBegun c.process c.call c.turn x y → Leads s setting x (Begin i) y
  begins_lead i c at low h old new says shows (d, there, turn, moves, begun, told) =
      let same : d ≡ c = at_one setting.calls.items i d c there at in
      let p : ℕ = c.process in
      let n : ℕ = get_or x.begun.items p 0 in
      let m : Moves s setting.key old.world (event.Begin p c.call) says new.world = subst (λ (z : Planned S). Moves s setting.key old.world (event.Begin z.process z.call) says new.world) same moves in
      let was : old.begun p ≡ n = shows.begun p n (record { low = low; is = get_or_default x.begun.items p n 0 low }) in
      let b : new.begun ≡ put old.begun p (begun_by c.turn n) = begun ∙ (ap (λ (z : Planned S). put old.begun z.process (begun_by z.turn (old.begun z.process))) same ∙ ap (λ (z : ℕ). put old.begun p (begun_by c.turn z)) was) in record {
        cells = like_cells setting.window.items x.cells y.cells new.world.memory h.cells (rw (ap (λ (w : World S s.Hidden). w.memory) m.2) shows.cells);
        doing = rw h.doing (put_at old.world.situation new.world.situation x.doing.items p c.call shows.doing (λ q. ap (λ (w : World S s.Hidden). w.situation q) m.2));
        begun = rw h.begun (put_at old.begun new.begun x.begun.items p (begun_by c.turn n) shows.begun (λ q. ap (λ (f : ℕ → ℕ). f q) b));
        told = same_told old new shows h.told told;
      }

-- what was told where a process was answered something, or nothing
told_of : {T : Type 0} (p : ℕ) (says : Option T) (before after : List (Told T)) (old new : ℕ → List T) → HasSaid p says before after → (new ≡ put old p (list_of says ++ old p))
    → ((q : ℕ) (t : T) → In (old q) t ↔ In before (record { process = q; response = t })) → (q : ℕ) (t : T) → In (new q) t ↔ In after (record { process = q; response = t })
told_of {T} p None before after old new said is was q t =
    let same : new q ≡ old q = ap (λ (f : ℕ → List T). f q) is ∙ put_same old p (old p) refl q in
    rw (said, same) (was q t)
told_of {T} p (Some r) before after old new said is was q t = dite (ℕ_discrete q p)
    (λ here.
    let there : new q ≡ r ∷ old q = ap (λ (f : ℕ → List T). f q) is ∙ (put_here old p (r ∷ old p) q here ∙ ap (λ (z : ℕ). r ∷ old z) (sym here)) in
    rw there (
      λ inside. (said (record { process = q; response = t })).1 (⊎_elim (λ e. inr (let k : r ≡ t = e in cc)) (λ older. inl ((was q t).0 older)) inside),
      λ inside. ⊎_elim (λ older. inr ((was q t).1 older)) (λ e. inl (sym (ap (λ (z : Told T). z.response) e))) ((said (record { process = q; response = t })).0 inside),
    ))
    (λ other.
    let there : new q ≡ old q = ap (λ (f : ℕ → List T). f q) is ∙ put_else old p (r ∷ old p) q other in
    rw there (
      λ inside. (said (record { process = q; response = t })).1 (inl ((was q t).0 inside)),
      λ inside. ⊎_elim (λ older. (was q t).1 older) (λ e. absurd (other (ap (λ (z : Told T). z.process) e))) ((said (record { process = q; response = t })).0 inside),
    ))

module _ {K S T : Type 0} (s : Structure K S T) (setting : Setting K S) (x z y : Position S T) (p word : ℕ) (now : S) (asked : Access ℕ) (class : Class) (landed : Landed S T) where
  pub steps_lead : IsAt x.doing.items p now → AsksFor s setting.key p now asked → IsFlushedAs (s.class_in setting.key) asked class → HasPerformed setting.window.items class asked p x (Answer word) z
      → LandsAt s setting.key p now word landed → HasLanded p landed z y → Leads s setting x (Step p) y
  steps_lead at asks flushes did lands h old new says shows passes =
      let m = passes.0 in
      let is : old.world.situation p ≡ now = shows.doing p now at in
      let takes = subst (λ (d : S). s.steps setting.key p d m.access m.answer m.now says) is m.takes in
      let wanted : m.access ≡ asked = asks m.access m.answer m.now says takes in
      let follows = did.cells (s.class_in setting.key) old.world.memory new.world.memory m.answer flushes shows.cells (subst (λ a. Performs (s.class_in setting.key) a p old.world.memory new.world.memory m.answer) wanted m.performs) in
      let to = lands m.access m.now says (subst (λ (a : ℕ). s.steps setting.key p now m.access a m.now says) follows.0 takes) in
      record {
        cells = rw h.cells follows.1;
        doing = rw (h.doing, did.doing) (put_at old.world.situation new.world.situation x.doing.items p landed.doing shows.doing (λ q. ap (λ (w : World S s.Hidden). w.situation q) m.lands ∙ ap (λ (d : S). put old.world.situation p d q) to.0));
        begun = rw (h.begun, did.begun, passes.1) shows.begun;
        told = told_of p landed.says x.told.items y.told.items old.told new.told (rw (← did.told) h.told) (passes.2 ∙ ap (λ (l : List T). put old.told p (l ++ old.told p)) to.1) shows.told;
      }

  -- an access that cannot be made leads nowhere
  pub never_leads : IsAt x.doing.items p now → AsksFor s setting.key p now asked → HasPerformed setting.window.items class asked p x Never z → Leads s setting x (Step p) y
  never_leads at asks did old new says shows passes =
      let m = passes.0 in
      let takes = subst (λ (d : S). s.steps setting.key p d m.access m.answer m.now says) (shows.doing p now at) m.takes in
      absurd (did.cells (s.class_in setting.key) old.world.memory new.world.memory m.answer shows.cells (subst (λ a. Performs (s.class_in setting.key) a p old.world.memory new.world.memory m.answer) (asks m.access m.answer m.now says takes) m.performs))
