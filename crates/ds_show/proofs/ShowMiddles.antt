-- The middle of a show: how it comes to be, what it goes through with the show's own steps, and what it is at the end.
use Rattle.std.proofs.Common.{ℕ, ◌≡◌, ◌<◌, ◌≤◌, List, refl, ap, sym, ◌∙◌, subst, arith, inl, inr}
use Rattle.std.specs.Prelude.{Contains}
use Rattle.std.proofs.lemmas.Bool.{cases_eq}
use Rattle.ds_layout.specs.declared.place.Place.TheVariants.{Mark}
use Rattle.ds_layout.specs.Mark.{IsClean}
use Rattle.ds_layout.specs.Places.{cells_of}
use Rattle.ds_state.specs.Works.{PlainShowCall}
use Rattle.ds_state.specs.World.{PlainEdit, PlainWorld}
use Rattle.ds_state.specs.Rely.{Keeps}
use Rattle.ds_state.specs.Sound.{IsSound}
use Rattle.ds_state.specs.Lasts.{Lasts}
use Rattle.ds_state.specs.Middles.{Middle, Middles, HaveMiddles, but_for, IsMiddle}
use Rattle.ds_state.specs.Leaves.{Leaves}
use Rattle.ds_state.specs.KnownShow.{noted, Moment, moment_of, Seen, middle, seen_at, SeenFits, SawAgain, ShowFitsAt}
use Rattle.ds_state.specs.ShowStages.{IsStage, HaveNoted}
use Rattle.ds_state.specs.declared.show.ShowEnd.TheVariants.{Settled, Unsettled}
use Rattle.ds_state.specs.declared.show.ShowStage.{ShowStage}
use Rattle.ds_state.specs.declared.show.ShowStage.TheVariants.{LoadAnnounce, LoadMark, LoadValue, LoadKind, AgainMark, AgainAnnounce, Answer}
use Rattle.ds_state.specs.declared.situation.Rest.{Rest}
use Rattle.ds_state.specs.declared.situation.Situation.TheVariants.{Showing}
use Rattle.ds_state.proofs.Leaves.{leaves_same}
use Rattle.ds_state.proofs.Middles.{lasts_kept, lasts_same, lasts_on, lasts_counts, but_here, but_there, others_go}
use Rattle.ds_show.specs.ShowSteps.{Steps, Begins, fresh, got_at}
use Rattle.ds_show.specs.ShowMiddles.{middle_after, WasSettled, IsToldShow}
use Rattle.ds_show.proofs.ShowSteps.{moment_after}
use Rattle.ds_show.proofs.ShowKeeps.{known_next, begin_known, begin_keeps}
use Rattle.ds_show.proofs.ShowLaws.{steps}
use Rattle.ds_show.proofs.ShowRuns.{goes_to, showing_inj}
use Rattle.ds_show.proofs.ShowTruth.{IsSettled, settled_true}

-- ---- it comes to be at the begin

module _ (p : ℕ) (next : Rest) (old new : PlainWorld) (sound : IsSound old) (real : p < old.layout.processes) (b : Begins p next old new) where
  pub middle_begins : Middle new new p (fresh p next (cells_of old.layout) old.layout.processes) new
  middle_begins = record {
    sound = (begin_keeps p next old new sound real b).sound;
    since = lasts_same new;
    lasts = lasts_same new;
    own = λ d own here. here;
    fits = begin_known p next old new sound real b;
  }

-- ---- its own steps

middle_is : (w mid : PlainWorld) (s : ShowStage) → moment_after w (moment_of mid) s ≡ moment_of (middle_after w mid s)
middle_is w mid (LoadAnnounce i) = refl
middle_is w mid (LoadMark i) = refl
middle_is w mid (LoadValue i) = refl
middle_is w mid (LoadKind i) = refl
middle_is w mid (AgainMark i) = refl
middle_is w mid (AgainAnnounce i) = refl
middle_is w mid (Answer end) = refl

-- what holds of the middle and of the world before the step holds of the middle after it
either : (P : PlainWorld → Type 0) (w mid : PlainWorld) (s : ShowStage) → P w → P mid → P (middle_after w mid s)
either P w mid (LoadAnnounce i) x y = y
either P w mid (LoadMark i) x y = y
either P w mid (LoadValue i) x y = y
either P w mid (LoadKind i) x y = x
either P w mid (AgainMark i) x y = y
either P w mid (AgainAnnounce i) x y = y
either P w mid (Answer end) x y = y

module _ (e : PlainShowCall) (word : ℕ) (old new : PlainWorld) (sound : IsSound old) (real : e.process < old.layout.processes) (was : old.situation e.process ≡ Showing e) (t : Steps e word old new) where
  kept : Keeps e.process old new
  kept = steps e word old new sound real was t

  lasts : Lasts old new
  lasts = lasts_kept e.process old new kept

  pub middle_steps : (first mid : PlainWorld) → Middle first old e.process e mid → Middle first new e.process (got_at e word) (middle_after old mid e.stage)
  middle_steps first mid h =
      let counts : (d : PlainEdit) → Contains new.counted d → Contains old.counted d = (λ d here. subst (λ (es : List PlainEdit). Contains es d) t.counted here) in
      record {
        sound = either IsSound old mid e.stage sound h.sound;
        since = either (Lasts first) old mid e.stage (lasts_on first mid old h.since h.lasts) h.since;
        lasts = either (λ x. Lasts x new) old mid e.stage lasts (lasts_on mid old new h.lasts lasts);
        own = λ d own here. either (λ x. Contains x.counted d) old mid e.stage (counts d here) (h.own d own (counts d here));
        fits = subst (λ (m : Moment). ShowFitsAt new e.process (got_at e word) m) (middle_is old mid e.stage) (known_next e e.stage word old new sound was t (moment_of mid) h.fits);
      }

-- ---- the middles of all

module _ (firsts mids : ℕ → PlainWorld) (old new : PlainWorld) (h : Middles firsts mids old) where
  pub middles_begin : (p : ℕ) (next : Rest) → IsSound old → p < old.layout.processes → Begins p next old new → Middles (but_for firsts p new) (but_for mids p new) new
  middles_begin p next sound real b q low e is = elim (cases_eq q p) [
    | inl eq ↦ (
        let same : fresh p next (cells_of old.layout) old.layout.processes ≡ e = showing_inj (new.situation p) _ e b.situation (ap new.situation (sym eq) ∙ is) in
        let here : Middle new new p e new = subst (λ (x : PlainShowCall). Middle new new p x new) same (middle_begins p next old new sound real b) in
        let there : Middle new new q e new = subst (λ (x : ℕ). Middle new new x e new) (sym eq) here in
        subst (λ (x : PlainWorld). Middle x new q e (but_for mids p new q)) (sym (but_here firsts p q new eq))
        (subst (λ (x : PlainWorld). Middle new new q e x) (sym (but_here mids p q new eq)) there))
    | inr ne ↦ (
        let there : Middle (firsts q) new q e (mids q) = others_go firsts mids old new h q ((begin_keeps p next old new sound real b).others q ne) low e is in
        subst (λ (x : PlainWorld). Middle x new q e (but_for mids p new q)) (sym (but_there firsts p q new ne))
        (subst (λ (x : PlainWorld). Middle (firsts q) new q e x) (sym (but_there mids p q new ne)) there))
  ]

  pub middles_step : (f : PlainShowCall) (word : ℕ) → IsSound old → f.process < old.layout.processes → old.situation f.process ≡ Showing f → Steps f word old new
      → Middles firsts (but_for mids f.process (middle_after old (mids f.process) f.stage)) new
  middles_step f word sound real was t q low e is = elim (cases_eq q f.process) [
    | inl eq ↦ (
        let same : got_at f word ≡ e = goes_to f e f.stage word (sym t.situation ∙ ap new.situation (sym eq) ∙ is) in
        let mid : PlainWorld = middle_after old (mids f.process) f.stage in
        let here : Middle (firsts f.process) new f.process e mid = subst (λ (x : PlainShowCall). Middle (firsts f.process) new f.process x mid) same
        (middle_steps f word old new sound real was t (firsts f.process) (mids f.process) (h f.process real f was)) in
        let there : Middle (firsts q) new q e mid = subst (λ (x : ℕ). Middle (firsts x) new x e mid) (sym eq) here in
        subst (λ (x : PlainWorld). Middle (firsts q) new q e x) (sym (but_here mids f.process q mid eq)) there)
    | inr ne ↦ (
        let there : Middle (firsts q) new q e (mids q) = others_go firsts mids old new h q ((steps f word old new sound real was t).others q ne) low e is in
        subst (λ (x : PlainWorld). Middle (firsts q) new q e x) (sym (but_there mids f.process q _ ne)) there)
  ]

-- ---- what it is

-- a show that is past its first collect has noted all, and has seen no more again than there is
record IsPast (e : PlainShowCall) (i j : ℕ) : Type 0 where
  have : HaveNoted e.announcements e.marks e.values e.kinds e.processes e.cells e.cells e.cells
  marks : i ≤ e.cells
  announcements : j ≤ e.processes

past : (e : PlainShowCall) (s : ShowStage) (i j : ℕ) → IsStage e s → seen_at e.cells e.processes s ≡ middle i j → IsPast e i j
past e (LoadAnnounce k) i j is at = absurd (cc)
past e (LoadMark k) i j is at = absurd (cc)
past e (LoadValue k) i j is at = absurd (cc)
past e (LoadKind k) i j is at = absurd (cc)
past e (AgainMark k) i j is at =
    let a : k ≡ i = cc in
    let b : 0 ≡ j = cc in
    let l = is.0 in
    record { have = is.1; marks = omega arith; announcements = omega arith }
past e (AgainAnnounce k) i j is at =
    let a : e.cells ≡ i = cc in
    let b : k ≡ j = cc in
    let l = is.0 in
    record { have = is.1; marks = omega arith; announcements = omega arith }
past e (Answer Settled) i j is at =
    let a : e.cells ≡ i = cc in
    let b : e.processes ≡ j = cc in
    record { have = is; marks = omega arith; announcements = omega arith }
past e (Answer (Unsettled place word)) i j is at = absurd (cc)

-- the middle of a show past its first collect has all that the show has seen again
pub middle_says : (first w : PlainWorld) (p : ℕ) (e : PlainShowCall) (mid : PlainWorld) (i j : ℕ) → Middle first w p e mid → seen_at e.cells e.processes e.stage ≡ middle i j → IsMiddle first w p e i j mid
middle_says first w p e mid i j h at =
    let saw : SawAgain w e.announcements e.marks e.values e.kinds (moment_of mid) i j = subst (λ (s : Seen). SeenFits w e.announcements e.marks e.values e.kinds (moment_of mid) s) at h.fits.seen in
    let g : IsPast e i j = past e e.stage i j h.fits.is.stage at in
    let n = g.have.marks in
    let a = g.have.announcements in
    let v = g.have.values in
    let k = g.have.kinds in
    let most = g.marks in
    record {
      sound = h.sound;
      layout = sym h.lasts.layout;
      marks_from = λ c l. saw.moment.marks_from c (omega arith);
      marks_to = saw.moment.marks_to;
      announced_from = λ q l. saw.moment.announced_from q (omega arith);
      announced_to = saw.moment.announced_to;
      values = λ c l same.
          let from = saw.moment.marks_from c (omega arith) in
          let to = saw.moment.marks_to c in
          let there : mid.memory.cached (Mark c) ≡ noted e.marks c = omega arith in
          let clean : IsClean (mid.memory.cached (Mark c)) = subst (λ (x : ℕ). IsClean x) (sym there) (h.fits.noted.clean c (omega arith)) in
          let both = h.lasts.values c clean (same ∙ sym there) in
          (sym both.0, sym both.1);
      mark = saw.mark;
      value = λ c l. saw.moment.values c (omega arith) (saw.mark c l);
      kind = λ c l. saw.moment.kinds c (omega arith) (saw.mark c l);
      announcement = saw.announcement;
      more = h.lasts.added;
      counted = h.lasts.counted;
      begun = lasts_counts first mid h.since;
      own = h.own;
    }

-- the middle of a show that is to answer Settled is that of a settled one
pub middle_settles : (first w : PlainWorld) (p : ℕ) (e : PlainShowCall) (mid : PlainWorld) → Middle first w p e mid → e.stage ≡ Answer Settled → WasSettled first w p e mid
middle_settles first w p e mid h at =
    let s : IsSettled w e (moment_of mid) = settled_true w p e (moment_of mid) h.fits at in
    let layout : mid.layout ≡ w.layout = sym h.lasts.layout in
    record {
      since = h.since;
      lasts = h.lasts;
      says = middle_says first w p e mid e.cells e.processes h (ap (λ (x : ShowStage). seen_at e.cells e.processes x) at);
      still = rw layout s.still;
      right = rw layout s.right;
    }

-- ---- in the form of a rule: what a show leaves the others, and what its seat keeps of it

-- what a step of a show leaves is what a process's doing leaves
pub step_leaves : (e : PlainShowCall) (word : ℕ) (old new : PlainWorld) → IsSound old → e.process < old.layout.processes → old.situation e.process ≡ Showing e → Steps e word old new → Leaves e.process old new
step_leaves e word old new sound real was t = leaves_same e.process old new (steps e word old new sound real was t) t.counted
    (λ h. (h.0, but_for h.1 e.process (middle_after old (h.1 e.process) e.stage), middles_step h.0 h.1 old new h.2 e word sound real was t))

-- what the begin of a show leaves is what a process's doing leaves
pub begin_leaves : (p : ℕ) (next : Rest) (old new : PlainWorld) → IsSound old → p < old.layout.processes → Begins p next old new → Leaves p old new
begin_leaves p next old new sound real b = leaves_same p old new (begin_keeps p next old new sound real b) b.counted
    (λ h. (but_for h.0 p new, but_for h.1 p new, middles_begin h.0 h.1 old new h.2 p next sound real b))

-- a show that is to answer Settled was settled, and its middle had each of its process's linearized edits
pub show_settled : (w : PlainWorld) (p : ℕ) (e : PlainShowCall) (held : List PlainEdit) → HaveMiddles w → p < w.layout.processes → w.situation p ≡ Showing e → e.stage ≡ Answer Settled
    → ((d : PlainEdit) → Contains held d → (d.process ≡ p) × Contains w.counted d) → IsToldShow w p e held
show_settled w p e held h low is at own =
    let m : Middle (h.0 p) w p e (h.1 p) = h.2 p low e is in
    record {
      begun = h.0 p;
      ended = w;
      mid = h.1 p;
      was = middle_settles (h.0 p) w p e (h.1 p) m at;
      lasts = lasts_same w;
      holds = λ d here. let o = own d here in m.own d o.0 o.1;
    }

-- that a show was settled stays, while the sheet lasts
pub show_stays : (old new : PlainWorld) (p : ℕ) (e : PlainShowCall) (held : List PlainEdit) → Lasts old new → IsToldShow old p e held → IsToldShow new p e held
show_stays old new p e held l r = record { begun = r.begun; ended = r.ended; mid = r.mid; was = r.was; lasts = lasts_on r.ended old new r.lasts l; holds = r.holds }
