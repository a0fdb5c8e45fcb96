-- What lasts, and the middles of shows while others step.
use Rattle.std.proofs.Common.{ℕ, ◌≡◌, ◌≢◌, ◌<◌, ◌++◌, List, [], refl, ap, sym, ◌∙◌, subst, arith, append_assoc, inl, inr, suc}
use Rattle.std.specs.Prelude.{Contains}
use Rattle.std.proofs.lemmas.Bool.{cases_eq}
use Rattle.std.proofs.lemmas.Bool.Decides.{eqb_tells}
use Rattle.std.proofs.lemmas.List.{append-nil}
use Rattle.std.proofs.lemmas.List.Elements.{All-contains, Contains-append_cases, Contains-append_left}
use Rattle.ds_layout.specs.declared.layout.Layout.{Layout}
use Rattle.ds_layout.specs.declared.place.Place.{Place}
use Rattle.ds_layout.specs.declared.place.Place.TheVariants.{Version, Mark, Value, Kind, Announce}
use Rattle.ds_layout.specs.Mark.{IsClean}
use Rattle.ds_state.specs.Works.{PlainShowCall}
use Rattle.ds_state.specs.World.{PlainEdit, PlainWorld}
use Rattle.ds_state.specs.Rely.{Grows, Rely, Keeps}
use Rattle.ds_state.specs.Events.{Evicts}
use Rattle.ds_state.specs.Crashes.{StopsIn, CrashesTo}
use Rattle.ds_state.specs.Fresh.{IsNew}
use Rattle.ds_state.specs.Lasts.{Lasts}
use Rattle.ds_state.specs.Sound.{IsSound}
use Rattle.ds_state.specs.Middles.{Middle, Middles, but_for}
use Rattle.ds_state.specs.KnownShow.{moment_of}
use Rattle.ds_state.specs.declared.situation.Situation.TheVariants.{Idle, Stopped, Showing}
use Rattle.ds_state.proofs.Lasting.{at_most}
use Rattle.ds_state.proofs.Accesses.{evict_sound}
use Rattle.ds_state.proofs.Buffers.{buffered}
use Rattle.ds_state.proofs.StableShow.{show_goes}
use Rattle.ds_state.proofs.Stopping.{stop_keeps}

-- what some process may rely on lasts
pub lasts_of : (q : ℕ) (but : Place) (old new : PlainWorld) → Grows q but old new → Lasts old new
lasts_of q but old new g = record {
  layout = g.layout;
  marks = g.marks_cached;
  announcements = g.announces_cached;
  values = λ cell clean same. g.values cell clean;
  added = g.added;
  counted = g.counted;
}

-- whatever a process does
pub lasts_kept : (p : ℕ) (old new : PlainWorld) → Keeps p old new → Lasts old new
lasts_kept p old new k = lasts_of (suc p) Version old new ((k.others (suc p) (λ same. omega arith)).grows Version)

-- all lasts where nothing happens
pub lasts_same : (w : PlainWorld) → Lasts w w
lasts_same w = record {
  layout = refl;
  marks = λ cell. omega arith;
  announcements = λ p. omega arith;
  values = λ cell clean same. (refl, refl);
  added = [];
  counted = sym (append-nil w.counted);
}

-- what lasts from a first world to a second and from there to a third lasts from the first to the third
pub lasts_on : (old mid new : PlainWorld) → Lasts old mid → Lasts mid new → Lasts old new
lasts_on old mid new a b = record {
  layout = b.layout ∙ a.layout;
  marks = λ cell. at_most (a.marks cell) (b.marks cell);
  announcements = λ p. at_most (a.announcements p) (b.announcements p);
  values = λ cell clean same.
      let up = a.marks cell in
      let on = b.marks cell in
      let early : mid.memory.cached (Mark cell) ≡ old.memory.cached (Mark cell) = omega arith in
      let late : new.memory.cached (Mark cell) ≡ mid.memory.cached (Mark cell) = omega arith in
      let x = a.values cell clean early in
      let y = b.values cell (subst (λ (m : ℕ). IsClean m) (sym early) clean) late in
      (y.0 ∙ x.0, y.1 ∙ x.1);
  added = a.added ++ b.added;
  counted = b.counted ∙ ap (λ (es : List PlainEdit). es ++ b.added) a.counted ∙ append_assoc old.counted a.added b.added;
}

-- a linearized edit stays linearized
pub lasts_counts : (old new : PlainWorld) → Lasts old new → (d : PlainEdit) → Contains old.counted d → Contains new.counted d
lasts_counts old new l d h = subst (λ (es : List PlainEdit). Contains es d) (sym l.counted) (Contains-append_left old.counted l.added d h)

-- an eviction moves no cached side
pub lasts_evicted : (place : Place) (old new : PlainWorld) → Evicts place old new → Lasts old new
lasts_evicted place old new v = record {
  layout = v.layout;
  marks = λ cell. (let same = v.memory.cached (Mark cell) in omega arith);
  announcements = λ p. (let same = v.memory.cached (Announce p) in omega arith);
  values = λ cell clean same. (v.memory.cached (Value cell), v.memory.cached (Kind cell));
  added = [];
  counted = v.counted ∙ sym (append-nil old.counted);
}

-- ---- one world in place of another

-- the process that is changed has the new world
pub but_here : (worlds : ℕ → PlainWorld) (p q : ℕ) (w : PlainWorld) → q ≡ p → but_for worlds p w q ≡ w
but_here worlds p q w same = elim (eqb_tells q p) [
  | inl is ↦ rw is.0 refl
  | inr differs ↦ absurd (differs.1 same)
]

-- each other process has the world that it had
pub but_there : (worlds : ℕ → PlainWorld) (p q : ℕ) (w : PlainWorld) → q ≢ p → but_for worlds p w q ≡ worlds q
but_there worlds p q w ne = elim (eqb_tells q p) [
  | inl is ↦ absurd (ne is.1)
  | inr differs ↦ rw differs.0 refl
]

-- ---- the middle of one show

-- while its process may rely on all that it may
pub middle_goes : (p : ℕ) (first old new : PlainWorld) (e : PlainShowCall) (mid : PlainWorld) → Rely p old new → Middle first old p e mid → Middle first new p e mid
middle_goes p first old new e mid r h =
    let g : Grows p Version old new = r.grows Version in
    let mine : (d : PlainEdit) → d.process ≡ p → Contains new.counted d → Contains old.counted d =
    (λ d own here. elim (Contains-append_cases old.counted g.added d (subst (λ (es : List PlainEdit). Contains es d) g.counted here)) [
      | inl was ↦ was
      | inr came ↦ absurd (All-contains (λ (x : PlainEdit). x.process ≢ p) g.added d g.foreign came own)
    ]) in
    record {
      sound = h.sound;
      since = h.since;
      lasts = lasts_on mid old new h.lasts (lasts_of p Version old new g);
      own = λ d own here. h.own d own (mine d own here);
      fits = show_goes old new p e (moment_of mid) g r.open_edits r.buffer h.fits;
    }

-- ---- the middles of all

module _ (firsts mids : ℕ → PlainWorld) (old new : PlainWorld) (h : Middles firsts mids old) where
  pub others_go : (q : ℕ) → Rely q old new → q < new.layout.processes → (e : PlainShowCall) → new.situation q ≡ Showing e → Middle (firsts q) new q e (mids q)
  others_go q r low e is =
      let l : new.layout ≡ old.layout = (r.grows Version).layout in
      middle_goes q (firsts q) old new e (mids q) r (h q (let same = ap (λ (x : Layout). x.processes) l in omega arith) e (sym r.situation ∙ is))

  -- a process that does not show the sheet does what it may
  pub middles_kept : (p : ℕ) → Keeps p old new → ((e : PlainShowCall) → new.situation p ≡ Showing e → ⊥) → Middles firsts mids new
  middles_kept p k none q low e is = elim (cases_eq q p) [
    | inl eq ↦ absurd (none e (ap new.situation (sym eq) ∙ is))
    | inr ne ↦ others_go q (k.others q ne) low e is
  ]

  pub middles_stopped : (p : ℕ) → IsSound old → p < old.layout.processes → StopsIn p old new → Middles firsts mids new
  middles_stopped p sound low stop = middles_kept p (stop_keeps p old new sound low stop) (λ e is. let both : Showing e ≡ Stopped = sym is ∙ stop.situation in cc)

  pub middles_evicted : (place : Place) → IsSound old → Evicts place old new → Middles firsts mids new
  middles_evicted place sound v q low e is =
      others_go q ((evict_sound place old new sound (buffered old sound) v).1 q (let same = ap (λ (x : Layout). x.processes) v.layout in omega arith)) low e is

-- where no show is under way
middles_none : (firsts mids : ℕ → PlainWorld) (w : PlainWorld) → ((p : ℕ) → p < w.layout.processes → (e : PlainShowCall) → w.situation p ≡ Showing e → ⊥) → Middles firsts mids w
middles_none firsts mids w none p low e is = absurd (none p low e is)

-- in a new world no show needs a middle
pub middles_new : (firsts mids : ℕ → PlainWorld) (w : PlainWorld) → IsNew w → Middles firsts mids w
middles_new firsts mids w new = middles_none firsts mids w (λ p low e is. let both : Idle (record { number = 0; edition = new.edition }) ≡ Showing e = sym (new.situation p low) ∙ is in cc)

-- where every process is stopped no show needs a middle
pub middles_at_rest : (firsts mids : ℕ → PlainWorld) (w : PlainWorld) → ((p : ℕ) → p < w.layout.processes → w.situation p ≡ Stopped) → Middles firsts mids w
middles_at_rest firsts mids w rest = middles_none firsts mids w (λ p low e is. let both : Stopped ≡ Showing e = sym (rest p low) ∙ is in cc)

-- after a crash no show needs a middle
pub middles_crashed : (firsts mids : ℕ → PlainWorld) (old new : PlainWorld) → CrashesTo old new → Middles firsts mids new
middles_crashed firsts mids old new crash = middles_at_rest firsts mids new (λ p low. crash.situation p (let same = ap (λ (x : Layout). x.processes) crash.layout in omega arith))
