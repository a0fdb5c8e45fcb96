-- A crash takes no edit whose number is spent, and what was answered stays true.
use Rattle.std.proofs.Common.{ℕ, ◌≡◌, ◌≢◌, ◌+◌, ◌*◌, ◌%◌, ◌==◌, ◌<◌, List, [], ◌∷◌, ◌++◌, refl, ap, sym, ◌∙◌, subst, arith, inl, inr, zero, suc, length, Bool, true, false, cond, Some}
use Rattle.std.specs.Prelude.{Contains, filter, if◌then◌else◌}
use Rattle.std.proofs.lemmas.Bool.{eq-eqb}
use Rattle.std.proofs.lemmas.Bool.Decides.{eqb_tells}
use Rattle.std.proofs.lemmas.List.Elements.{All-contains, Contains-append_right}
use Rattle.ds_words.specs.Memory.{Memory}
use Rattle.ds_layout.specs.declared.layout.Layout.{Layout}
use Rattle.ds_layout.specs.declared.place.Place.{Place}
use Rattle.ds_layout.specs.declared.place.Place.TheVariants.{Head, Announce}
use Rattle.ds_state.specs.World.{PlainEdit, PlainIssue, PlainWorld, edit_of, of_cell, head_after_all, head_by}
use Rattle.ds_state.specs.WordsFit.{IsOnItsWay}
use Rattle.ds_state.specs.Owing.{IsPending, Splits}
use Rattle.ds_state.specs.Crashes.{is_lost, survivors, CrashesTo, StopsIn}
use Rattle.ds_state.specs.Spent.{IsSpent}
use Rattle.ds_state.specs.Sound.{IsSound, IsOfSheet, Increasing}
use Rattle.ds_state.specs.declared.recovery.RecoveryEnd.TheVariants.{Last, Nothing}
use Rattle.ds_state.specs.declared.show.ShowEnd.TheVariants.{Settled, Unsettled}
use Rattle.ds_state.specs.declared.situation.Situation.{Situation}
use Rattle.ds_state.specs.declared.situation.Situation.TheVariants.{Idle, Stopped, Editing, Working, Recovering, Showing, Migrating}
use Rattle.ds_state.specs.declared.stage.Outcome.{Outcome}
use Rattle.ds_state.specs.declared.stage.Outcome.TheVariants.{Done, Overtaken}
use Rattle.ds_state.proofs.Heads.{IsSmall, Small, small_counted, small_of_cell, head_push}
use Rattle.ds_state.proofs.Leaves.{stop_leaves}
use Rattle.ds_state.proofs.Losing.{increasing_cell}
use Rattle.ds_state.proofs.Spent.{spent_crashed}
use Rattle.ds_show.specs.ShowSteps.{answered}
use Rattle.pm_base.specs.Structures.{put}
use Rattle.pm_base.proofs.Puts.{put_here, put_else}
use Rattle.ds_structure.specs.Sheet.{IsTrueOutcome, CountsAs, WasFront, WereScratch, IsTrue}
use Rattle.ds_structure.specs.declared.response.Response.{Response}
use Rattle.ds_structure.specs.declared.response.Response.TheVariants.{Edited, Worked, Shown, Recovered}

-- ---- lists

deeper : {A : Type 0} (x : A) (xs : List A) (e : A) → Contains xs e → Contains (x ∷ xs) e
deeper x xs e (k, l, is) = (suc k, (omega arith), is)

to_filter : {A : Type 0} (p : A → Bool) (xs : List A) (e : A) → Contains xs e → p e ≡ true → Contains (filter p xs) e
to_filter p [] e (k, lt, is) keep = absurd (omega arith)
to_filter p (x ∷ xs) e (zero, lt, is) keep = subst (λ b. Contains (cond b (x ∷ filter p xs) (filter p xs)) e) (sym (ap p is ∙ keep)) (zero, (omega arith), is)
to_filter p (x ∷ xs) e (suc k, lt, is) keep = by (p x) (to_filter p xs e (k, (omega arith), is) keep)
  where
    by : (b : Bool) → Contains (filter p xs) e → Contains (cond b (x ∷ filter p xs) (filter p xs)) e
    by true rest = deeper x (filter p xs) e rest
    by false rest = rest

from_filter : {A : Type 0} (p : A → Bool) (xs : List A) (e : A) → Contains (filter p xs) e → Contains xs e
from_filter p [] e (k, lt, is) = absurd (omega arith)
from_filter p (x ∷ xs) e h = by (from_filter p xs e) (p x) h
  where
    by : (Contains (filter p xs) e → Contains xs e) → (b : Bool) → Contains (cond b (x ∷ filter p xs) (filter p xs)) e → Contains (x ∷ xs) e
    by again true (zero, lt, is) = (zero, (omega arith), is)
    by again true (suc k, lt, is) = deeper x xs e (again (k, (omega arith), is))
    by again false rest = deeper x xs e (again rest)

-- ---- what is lost

abbrev keep : Memory Place → PlainEdit → Bool
keep m e = if is_lost m e then false else true

-- what is lost differs on its sides, and is the cached head
record LostHead (m : Memory Place) (e : PlainEdit) : Type 0 where
  differ : m.cached (Head e.cell) ≢ m.persisted (Head e.cell)
  its : m.cached (Head e.cell) % 65536 ≡ e.process * 256 + e.number

lost_head : (m : Memory Place) (e : PlainEdit) → keep m e ≡ false → LostHead m e
lost_head m e lost = elim (eqb_tells (m.cached (Head e.cell)) (m.persisted (Head e.cell))) [
  | inl same ↦ absurd (let kept : keep m e ≡ true = rw same.0 refl in let bad : true ≡ false = sym kept ∙ lost in cc)
  | inr differ ↦ elim (eqb_tells (m.cached (Head e.cell) % 65536) (e.process * 256 + e.number)) [
    | inl its ↦ record { differ = differ.1; its = its.1 }
    | inr other ↦ absurd (let kept : keep m e ≡ true = rw (differ.0, other.0) refl in let bad : true ≡ false = sym kept ∙ lost in cc)
  ]
]

in_cell : (es : List PlainEdit) (e : PlainEdit) → Contains es e → Contains (of_cell e.cell es) e
unfolding of_cell
in_cell es e there = to_filter (λ (f : PlainEdit). f.cell == e.cell) es e there (eq-eqb e.cell e.cell refl)

module _ (w : PlainWorld) (sound : IsSound w) (e : PlainEdit) (there : Contains w.counted e) (at : w.situation e.process ≡ Stopped) (spent : IsSpent w e.process e.number) where
  on_its_way : LostHead w.memory e → IsOnItsWay w (of_cell e.cell w.counted) (w.memory.persisted (Head e.cell)) → ⊥
  on_its_way lost b =
      let small : Small (b.before ++ b.last ∷ []) = subst (λ (xs : List PlainEdit). Small xs) b.parts (small_of_cell e.cell w.counted (small_counted w sound.of_sheet)) in
      let increasing : Increasing (b.before ++ b.last ∷ []) = subst (λ (xs : List PlainEdit). Increasing xs) b.parts (increasing_cell e.cell w.counted sound.increasing) in
      let mine : Contains (b.before ++ b.last ∷ []) e = subst (λ (xs : List PlainEdit). Contains xs e) b.parts (in_cell w.counted e there) in
      let tiny : IsSmall b.last = All-contains (λ (f : PlainEdit). IsSmall f) (b.before ++ b.last ∷ []) b.last small (Contains-append_right b.before (b.last ∷ []) b.last (zero, omega arith, refl)) in
      let own : IsSmall e = All-contains (λ (f : PlainEdit). IsSmall f) (b.before ++ b.last ∷ []) e small mine in
      let cached : w.memory.cached (Head e.cell) ≡ head_by (length b.before + 1) b.last = (sound.words (Head e.cell)).last ∙ ap head_after_all b.parts ∙ head_push b.before b.last in
      let its = lost.its in
      let p = tiny.process in
      let n = tiny.number in
      let p' = own.process in
      let n' = own.number in
      let process : b.last.process ≡ e.process = omega arith in
      let number : b.last.number ≡ e.number = omega arith in
      let is : w.situation b.last.process ≡ Stopped = ap w.situation process ∙ at in
      let k : IsPending w b.last.process b.last.cell = subst (λ (s : Situation). Splits w b.last.process s b.last.cell (head_after_all (of_cell e.cell w.counted))) is b.owes in
      let one : Some k.issue ≡ Some b.issue = sym k.issued ∙ b.open_edits in
      let issue : k.issue ≡ b.issue = cc in
      let same : k.issue.edit.number ≡ e.number = ap (λ (i : PlainIssue). i.edit.number) issue ∙ (ap (λ (f : PlainEdit). f.number) b.same ∙ number) in
      let word = k.persisted in
      let place : w.memory.persisted (Announce b.last.process) ≡ w.memory.persisted (Announce e.process) = ap (λ (q : ℕ). w.memory.persisted (Announce q)) process in
      omega (arith, word, place, same, spent)

  pub never_lost : keep w.memory e ≡ true
  never_lost = by (keep w.memory e) refl
    where
      by : (b : Bool) → keep w.memory e ≡ b → keep w.memory e ≡ true
      by true is = is
      by false is = elim (sound.words (Head e.cell)).sides [
        | inl same ↦ absurd ((lost_head w.memory e is).differ (sym same))
        | inr b ↦ absurd (on_its_way (lost_head w.memory e is) b)
      ]

-- ---- one process stops

-- the world in which it has stopped
abbrev pub halted : PlainWorld → ℕ → PlainWorld
halted w p = record w { situation = put w.situation p Stopped; memory = record { cached = w.memory.cached; persisted = w.memory.persisted; buffer = put w.memory.buffer p [] } }

halts : (w : PlainWorld) (p : ℕ) → w.situation p ≢ Stopped → StopsIn p w (halted w p)
halts w p runs = record {
  runs = runs;
  layout = refl;
  memory = record { cached = λ r. refl; persisted = λ r. refl; mine = put_here w.memory.buffer p [] p refl; others = λ q n. put_else w.memory.buffer p [] q n };
  situation = put_here w.situation p Stopped p refl;
  others = λ q n. put_else w.situation p Stopped q n;
  counted = refl;
  open_edits = λ q. refl;
}

-- a linearized edit with a spent number is not lost, whatever its process does
module _ (w : PlainWorld) (sound : IsSound w) (e : PlainEdit) (there : Contains w.counted e) (low : e.process < w.layout.processes) (spent : IsSpent w e.process e.number) where
  runs_on : w.situation e.process ≢ Stopped → keep w.memory e ≡ true
  runs_on runs = never_lost (halted w e.process) (stop_leaves e.process w (halted w e.process) sound low (halts w e.process runs)).sound e there (put_here w.situation e.process Stopped e.process refl) spent

  pub safe_now : keep w.memory e ≡ true
  safe_now = by (w.situation e.process) refl
    where
      by : (s : Situation) → w.situation e.process ≡ s → keep w.memory e ≡ true
      by Stopped at = never_lost w sound e there at spent
      by (Idle n) at = runs_on (λ is. cc)
      by (Editing c) at = runs_on (λ is. cc)
      by (Working c) at = runs_on (λ is. cc)
      by (Recovering c) at = runs_on (λ is. cc)
      by (Showing c) at = runs_on (λ is. cc)
      by (Migrating c) at = runs_on (λ is. cc)

-- ---- what was answered stays true

module _ (old new : PlainWorld) (sound : IsSound old) (crash : CrashesTo old new) where
  fewer : (d : PlainEdit) → Contains new.counted d → Contains old.counted d
  unfolding survivors
  fewer d h = from_filter (keep old.memory) old.counted d (subst (λ (l : List PlainEdit). Contains l d) crash.counted h)

  safe : (d : PlainEdit) → Contains old.counted d → IsSpent old d.process d.number → Contains new.counted d
  unfolding survivors
  safe d h spent =
      let of : IsOfSheet old d = All-contains (λ (f : PlainEdit). IsOfSheet old f) old.counted d sound.of_sheet h in
      subst (λ (l : List PlainEdit). Contains l d) (sym crash.counted) (to_filter (keep old.memory) old.counted d h (safe_now old sound d h of.process spent))

  stays : (d : PlainEdit) (how : Outcome) → IsSpent old d.process d.number → IsTrueOutcome old.counted d how → IsTrueOutcome new.counted d how
  stays d Done spent there = safe d there spent
  stays d (Overtaken noted seen) spent out = λ h. out (fewer d h)

  counts : (q n : ℕ) (how : Bool) → IsSpent old q n → CountsAs old.counted q n how → CountsAs new.counted q n how
  counts q n true spent h = (h.0, safe h.0 h.1 (subst (λ (z : ℕ × ℕ). IsSpent old z.0 z.1) (λ i. (sym h.2 i, sym h.3 i)) spent), h.2, h.3)
  counts q n false spent out = λ d there own is. out d (fewer d there) own is

  -- the first edits of now were the first ones right before the crash
  was_front : (before : List (List PlainEdit)) (front : List PlainEdit) → WasFront old.counted before front → WasFront new.counted (old.counted ∷ before) front
  was_front before front (inl h) = inr (old.counted, inl refl, h)
  was_front before front (inr h) = inr (h.0, inr h.1, h.2)

  pub true_crashed : (before : List (List PlainEdit)) (q : ℕ) (t : Response) → IsTrue old before q t → IsTrue new (old.counted ∷ before) q t
  true_crashed before q (Edited e how) h = record {
    own = h.own;
    spent = spent_crashed old new crash q e.number h.spent;
    holds = stays (edit_of e) how (subst (λ (z : ℕ). IsSpent old z e.number) (sym h.own) h.spent) h.holds;
  }
  true_crashed before q (Worked e end) h = tt
  true_crashed before q (Recovered e Nothing) h = tt
  true_crashed before q (Recovered e (Last resolved)) h = record { spent = spent_crashed old new crash q resolved.number h.spent; holds = counts q resolved.number resolved.counts h.spent h.holds }
  true_crashed before q (Shown e Settled) h = subst (λ (l : Layout). WereScratch l.shape new.counted (old.counted ∷ before) (answered e)) (sym crash.layout) (record { front = h.front; was = was_front before h.front h.was; right = h.right })
  true_crashed before q (Shown e (Unsettled r word)) h = tt
