-- Runs of a structure: what is so of every one.
use Rattle.std.proofs.Common.{ap, refl, ℕ, ◌≡◌, List, [], ◌∷◌, ◌++◌, sym, subst, inl, inr, ⊎_elim, eq-eqb, ne_eqb, Bool, true, false}
use Rattle.std.specs.Prelude.{◌==◌, if◌then◌else◌, map}
use mathlib.Core.Logic.{dite}
use native.Mathlib.Decide.{ℕ_discrete}
use Rattle.pm_base.specs.Structures.{In, World, Structure, IsStructure, Keeps, after_step}
use Rattle.pm_base.specs.Runs.{Happened, Run, deeds_of, deeds_by, Moves, history_of, RunsHold}
use Rattle.pm_base.specs.declared.history.Deed.{Deed}
use Rattle.pm_base.specs.declared.history.Deed.TheVariants.{Began, Response}
use Rattle.pm_base.specs.declared.history.Event.{Event}
use Rattle.pm_base.specs.declared.history.Event.TheVariants.{Begin, Step, Evict, Stop, Crash}
use Rattle.pm_base.proofs.Lists.{in_append}

answered_in : {T : Type 0} (S : Type 0) (says : List T) (t : T) → In {X = Deed S T} (map Response says) (Response t) → In says t
answered_in S [] t none = absurd none
answered_in S (u ∷ says) t (inl is) = inl (cc)
answered_in S (u ∷ says) t (inr later) = inr (answered_in S says t later)

-- a begin tells nothing
begin_tells : {S T : Type 0} (same : Bool) (call : S) (t : T) → In {X = Deed S T} (if same then Began call ∷ [] else []) (Response t) → ⊥
begin_tells true call t (inl is) = cc
begin_tells true call t (inr none) = none
begin_tells false call t none = none

-- a step tells its own process
step_tells : {T : Type 0} (S : Type 0) (p q : ℕ) (says : List T) (t : T) → In {X = Deed S T} (if q == p then map Response says else []) (Response t) → (q ≡ p) × In says t
step_tells {T} S p q says t inside = dite (ℕ_discrete q p)
    (λ same. (same, answered_in S says t (subst (λ (b : Bool). In {X = Deed S T} (if b then map Response says else []) (Response t)) (eq-eqb q p same) inside)))
    (λ other. absurd (subst (λ (b : Bool). In {X = Deed S T} (if b then map Response says else []) (Response t)) (ne_eqb q p other) inside))

module _ {K S T : Type 0} (s : Structure K S T) (key : K) (structure : IsStructure s key) where
  -- an event leads to a sound world, keeps what was answered true, and answers what is true
  pub record Led (w : World S s.Hidden) (event : Event S) (says : List T) (w' : World S s.Hidden) : Type 0 where
    pub sound : s.sound key w'
    pub keeps : Keeps s key w w'
    pub tells : (p : ℕ) (t : T) → In (deeds_of p event says) (Response t) → s.is_right key w' p t

  pub leads : (w : World S s.Hidden) (event : Event S) (says : List T) (w' : World S s.Hidden) → s.sound key w → Moves s key w event says w' → Led w event says w'
  leads w (Begin q call) says w' sound m =
      let g = structure.begins w q call sound m.0 m.1 in
      subst (λ (z : World S s.Hidden). Led w (Begin q call) says z) (sym m.2) (record { sound = g.sound; keeps = g.keeps; tells = λ p t inside. absurd (begin_tells (q == p) call t inside) })
  leads w (Step q) says w' sound m =
      let g = structure.steps w q m.access m.answer m.now says w'.memory sound m.low m.takes m.performs in
      subst (λ (z : World S s.Hidden). Led w (Step q) says z) (sym m.lands) (record {
        sound = g.sound;
        keeps = g.keeps;
        tells = λ p t inside. let k = step_tells S p q says t inside in subst (λ (z : ℕ). s.is_right key (after_step s key w q m.now w'.memory) z t) k.0 (g.tells t k.1);
      })
  leads w (Evict n) says w' sound m =
      let g = structure.evicts w n w'.memory sound m.0 m.1 in
      subst (λ (z : World S s.Hidden). Led w (Evict n) says z) (sym m.2) (record { sound = g.sound; keeps = g.keeps; tells = λ p t inside. absurd inside })
  leads w (Stop q) says w' sound m =
      let g = structure.stops w q w'.memory sound m.0 m.1 in
      subst (λ (z : World S s.Hidden). Led w (Stop q) says z) (sym m.2) (record { sound = g.sound; keeps = g.keeps; tells = λ p t inside. absurd inside })
  leads w Crash says w' sound m =
      let g = structure.crashes w w'.memory sound m.0 in
      subst (λ (z : World S s.Hidden). Led w Crash says z) (sym m.1) (record { sound = g.sound; keeps = g.keeps; tells = λ p t inside. absurd inside })

  pub runs : RunsHold s key
  runs first last [] new run = record {
    sound = subst (s.sound key) (sym run) (subst (s.sound key) (sym new.is) (structure.opens first.memory new.memory));
    responses = λ p t none. absurd none;
  }
  runs first last (h ∷ hs) new run =
      let r = runs first h.before hs new run.1 in
      let l = leads h.before h.entry.event h.entry.responses last r.sound run.0 in record {
        sound = l.sound;
        responses = λ p t inside. ⊎_elim (λ now. l.tells p t now) (λ older. l.keeps p t (r.responses p t older)) (in_append (deeds_of p h.entry.event h.entry.responses) (deeds_by p (history_of s key hs)) (Response t) inside);
      }

-- ---- where a process was answered something

-- by its own step alone
deed_at : {S T : Type 0} (p : ℕ) (event : Event S) (says : List T) (t : T) → In (deeds_of p event says) (Response t) → (event ≡ Step p) × In says t
deed_at p (Begin q call) says t inside = absurd (begin_tells (q == p) call t inside)
deed_at {S} {T} p (Step q) says t inside = let k = step_tells S p q says t inside in (ap (λ (z : ℕ). (let e : Event S = Step z in e)) k.0, k.1)
deed_at p (Evict n) says t inside = absurd inside
deed_at p (Stop q) says t inside = absurd inside
deed_at p Crash says t inside = absurd inside

-- a step of the process that answered it, in what happened
pub record AnsweredAt {K S T : Type 0} (s : Structure K S T) (key : K) (p : ℕ) (hs : List (Happened s key)) (t : T) : Type 0 where
  pub later : List (Happened s key)
  pub answer : Happened s key
  pub before : List (Happened s key)
  pub parts : hs ≡ later ++ (answer ∷ before)
  pub steps : answer.entry.event ≡ Step p
  pub tells : In answer.entry.responses t

pub answered_at : {K S T : Type 0} (s : Structure K S T) (key : K) (p : ℕ) (hs : List (Happened s key)) (t : T) → In (deeds_by p (history_of s key hs)) (Response t) → AnsweredAt s key p hs t
answered_at s key p [] t inside = absurd inside
answered_at {K} {S} {T} s key p (h ∷ hs) t inside = ⊎_elim
    (λ now. let k = deed_at p h.entry.event h.entry.responses t now in record { later = []; answer = h; before = hs; parts = refl; steps = k.0; tells = k.1 })
    (λ older. let r = answered_at s key p hs t older in record { later = h ∷ r.later; answer = r.answer; before = r.before; parts = ap (λ (l : List (Happened s key)). h ∷ l) r.parts; steps = r.steps; tells = r.tells })
    (in_append (deeds_of p h.entry.event h.entry.responses) (deeds_by p (history_of s key hs)) (Response t) inside)

-- a run up to a moment of a run
pub run_until : {K S T : Type 0} (s : Structure K S T) (key : K) (first last : World S s.Hidden) (later xs : List (Happened s key)) → Run s key first (later ++ xs) last → (mid : World S s.Hidden) × Run s key first xs mid
run_until s key first last [] xs run = (last, run)
run_until s key first last (h ∷ hs) xs run = run_until s key first h.before hs xs run.1
