-- What a show knows after each of its loads.
use Rattle.std.proofs.Common.{ℕ, ◌≡◌, ◌<◌, ◌≤◌, ◌+◌, ◌==◌, List, [], ◌∷◌, ◌++◌, refl, ap, sym, ◌∙◌, subst, arith, length, length-append, inl, inr, zero, suc, true, false, nat_lt}
use Rattle.std.specs.Prelude.{Bool, if◌then◌else◌}
use Rattle.std.proofs.lemmas.Bool.{ltb-true, ltb-false, eqb-true, eqb-false, cases_eq, false≢true}
use Rattle.std.proofs.lemmas.List.{append-nil}
use Rattle.ds_layout.specs.declared.place.Place.TheVariants.{Mark, Value, Kind, Announce}
use Rattle.ds_state.specs.Works.{PlainShowCall}
use Rattle.ds_state.specs.World.{PlainWorld}
use Rattle.ds_state.specs.Owing.{IsMark}
use Rattle.ds_layout.specs.Mark.{IsClean}
use Rattle.ds_state.specs.KnownShow.{noted, reads_clean, reads_pending, IsPendingWord, Moment, moment_of, HasNoted, SawAgain, seen_at, SeenFits, ShowFitsAt}
use Rattle.ds_state.specs.ShowStages.{IsStage}
use Rattle.ds_show.specs.ShowSteps.{next_at}
use Rattle.ds_state.specs.Sound.{IsSound}
use Rattle.ds_state.specs.declared.show.ShowEnd.TheVariants.{Settled, Unsettled}
use Rattle.ds_state.specs.declared.show.ShowStage.{ShowStage}
use Rattle.ds_state.specs.declared.show.ShowStage.TheVariants.{LoadAnnounce, LoadMark, LoadValue, LoadKind, AgainMark, AgainAnnounce, Answer}
use Rattle.ds_state.proofs.CleanRead.{clean_read, dirty_read}
use Rattle.ds_state.proofs.StillRight.{still_right}

-- ---- lists with one more

-- what holds of both branches holds of an `if`
pub branches : (P : PlainShowCall → Type 0) (b : Bool) (x y : PlainShowCall) → (b ≡ true → P x) → (b ≡ false → P y) → P (if b then x else y)
branches P true x y h k = h refl
branches P false x y h k = k refl

noted_left : (xs ys : List ℕ) (i : ℕ) → i < length xs → noted (xs ++ ys) i ≡ noted xs i
noted_left [] ys i l = absurd (omega arith)
noted_left (x ∷ xs) ys zero l = refl
noted_left (x ∷ xs) ys (suc i) l = noted_left xs ys i (omega arith)

noted_last : (xs : List ℕ) (x : ℕ) → noted (xs ++ x ∷ []) (length xs) ≡ x
noted_last [] x = refl
noted_last (y ∷ xs) x = noted_last xs x

longer : (xs : List ℕ) (x : ℕ) → length (xs ++ x ∷ []) ≡ length xs + 1
longer xs x = omega (arith, length-append xs (x ∷ []))

-- what holds of each word noted, and of one more
pub each_push : (P : ℕ → ℕ → Type 0) (xs : List ℕ) (x : ℕ) → ((i : ℕ) → i < length xs → P i (noted xs i)) → P (length xs) x → (i : ℕ) → i < length (xs ++ x ∷ []) → P i (noted (xs ++ x ∷ []) i)
each_push P xs x h k i l = elim (cases_eq i (length xs)) [
  | inl is ↦ subst (λ (j : ℕ). P j (noted (xs ++ x ∷ []) j)) (sym is) (subst (λ (y : ℕ). P (length xs) y) (sym (noted_last xs x)) k)
  | inr ne ↦ (let m = longer xs x in let small : i < length xs = omega arith in subst (λ (y : ℕ). P i y) (sym (noted_left xs (x ∷ []) i small)) (h i small))
]

-- ---- what is noted, with one more word

module _ (w : PlainWorld) (qs ms vs ks : List ℕ) (h : HasNoted w qs ms vs ks) (word : ℕ) where
  with_a_q : word ≡ w.memory.cached (Announce (length qs)) → (IsPendingWord word → ⊥) → HasNoted w (qs ++ word ∷ []) ms vs ks
  with_a_q is calm = record {
    announcements = each_push (λ q v. v ≤ w.memory.cached (Announce q)) qs word h.announcements (omega arith);
    marks = h.marks;
    clean = h.clean;
    calm = each_push (λ q v. IsPendingWord v → ⊥) qs word h.calm calm;
    values = h.values;
    kinds = h.kinds;
    fewer = h.fewer;
  }

  with_an_m : length vs ≡ 0 → word ≡ w.memory.cached (Mark (length ms)) → IsClean word → HasNoted w qs (ms ++ word ∷ []) vs ks
  with_an_m none is clean = record {
    announcements = h.announcements;
    marks = each_push (λ c v. v ≤ w.memory.cached (Mark c)) ms word h.marks (omega arith);
    clean = each_push (λ c v. IsClean v) ms word h.clean clean;
    calm = h.calm;
    values = λ c l. absurd (omega arith);
    kinds = λ c l. absurd (let f = h.fewer.0 in omega arith);
    fewer = (h.fewer.0, let f = h.fewer.1 in let m = longer ms word in omega arith);
  }

  with_a_v : length vs < length ms → word ≡ w.memory.cached (Value (length vs)) → HasNoted w qs ms (vs ++ word ∷ []) ks
  with_a_v more is = record {
    announcements = h.announcements;
    marks = h.marks;
    clean = h.clean;
    calm = h.calm;
    values = each_push (λ c v. w.memory.cached (Mark c) ≡ noted ms c → w.memory.cached (Value c) ≡ v) vs word h.values (λ at. sym is);
    kinds = h.kinds;
    fewer = (let f = h.fewer.0 in let m = longer vs word in omega arith, let m = longer vs word in omega arith);
  }

  with_a_k : length ks < length vs → word ≡ w.memory.cached (Kind (length ks)) → HasNoted w qs ms vs (ks ++ word ∷ [])
  with_a_k more is = record {
    announcements = h.announcements;
    marks = h.marks;
    clean = h.clean;
    calm = h.calm;
    values = h.values;
    kinds = each_push (λ c v. w.memory.cached (Mark c) ≡ noted ms c → w.memory.cached (Kind c) ≡ v) ks word h.kinds (λ at. sym is);
    fewer = (let m = longer ks word in omega arith, h.fewer.1);
  }

-- the moment is made: now
pub moment_made : (w : PlainWorld) (qs ms vs ks : List ℕ) → IsSound w → HasNoted w qs ms vs ks → SawAgain w qs ms vs ks (moment_of w) 0 0
moment_made w qs ms vs ks sound h = record {
  moment = record {
    marks_to = λ c. omega arith;
    announced_to = λ q. omega arith;
    marks_from = h.marks;
    announced_from = h.announcements;
    values = h.values;
    kinds = h.kinds;
    more = [];
    counted = sym (append-nil w.counted);
    right = λ still. still_right w sound still;
  };
  mark = λ c l. absurd (omega arith);
  announcement = λ q l. absurd (omega arith);
}

-- one more mark, and one more announcement, is the noted one: so it was at the moment
mark_again : (w : PlainWorld) (qs ms vs ks : List ℕ) (m : Moment) (i : ℕ) → SawAgain w qs ms vs ks m i 0 → i < length ms → w.memory.cached (Mark i) ≡ noted ms i → SawAgain w qs ms vs ks m (i + 1) 0
mark_again w qs ms vs ks m i h l is = record {
  moment = h.moment;
  mark = λ c k. elim (cases_eq c i) [
    | inl eq ↦ subst (λ (x : ℕ). m.marks x ≡ noted ms x) (sym eq) (let a = h.moment.marks_from i l in let b = h.moment.marks_to i in omega arith)
    | inr ne ↦ h.mark c (omega arith)
  ];
  announcement = h.announcement;
}

announce_again : (w : PlainWorld) (qs ms vs ks : List ℕ) (m : Moment) (n i : ℕ) → SawAgain w qs ms vs ks m n i → i < length qs → w.memory.cached (Announce i) ≡ noted qs i → SawAgain w qs ms vs ks m n (i + 1)
announce_again w qs ms vs ks m n i h l is = record {
  moment = h.moment;
  mark = h.mark;
  announcement = λ q k. elim (cases_eq q i) [
    | inl eq ↦ subst (λ (x : ℕ). m.announced x ≡ noted qs x) (sym eq) (let a = h.moment.announced_from i l in let b = h.moment.announced_to i in omega arith)
    | inr ne ↦ h.announcement q (omega arith)
  ];
}

-- ---- the stages

-- the word that the access of a stage answers
abbrev pub Sees : PlainWorld → ShowStage → ℕ → Type 0
Sees w (LoadAnnounce i) word = word ≡ w.memory.cached (Announce i)
Sees w (LoadMark i) word = word ≡ w.memory.cached (Mark i)
Sees w (LoadValue i) word = word ≡ w.memory.cached (Value i)
Sees w (LoadKind i) word = word ≡ w.memory.cached (Kind i)
Sees w (AgainMark i) word = word ≡ w.memory.cached (Mark i)
Sees w (AgainAnnounce i) word = word ≡ w.memory.cached (Announce i)
Sees w (Answer end) word = Unit {0}

-- the last kind makes the moment
abbrev pub moment_after : PlainWorld → Moment → ShowStage → Moment
moment_after w m (LoadKind i) = moment_of w
moment_after w m _ = m

-- the show at this stage
abbrev pub on : PlainShowCall → ShowStage → PlainShowCall
on e s = record e { stage = s }

abbrev to : PlainShowCall → List ℕ → List ℕ → List ℕ → List ℕ → ShowStage → PlainShowCall
to e qs ms vs ks s = record e { announcements = qs; marks = ms; values = vs; kinds = ks; stage = s }

module _ (w : PlainWorld) (p : ℕ) (sound : IsSound w) (e : PlainShowCall) (m : Moment) where
  refit : (s : ShowStage) (qs ms vs ks : List ℕ) (s' : ShowStage) (m' : Moment) → ShowFitsAt w p (on e s) m
      → IsStage (to e qs ms vs ks s') s' → HasNoted w qs ms vs ks → SeenFits w qs ms vs ks m' (seen_at e.cells e.processes s') → ShowFitsAt w p (to e qs ms vs ks s') m'
  refit s qs ms vs ks s' m' fits is h seen = record {
    mine = fits.mine;
    is = record { cells = fits.is.cells; processes = fits.is.processes; stage = is };
    cells = fits.cells;
    processes = fits.processes;
    rest = fits.rest;
    holds_none = fits.holds_none;
    buffer = fits.buffer;
    noted = h;
    seen = seen;
  }

  pub advance : (s : ShowStage) (word : ℕ) → Sees w s word → ShowFitsAt w p (on e s) m → ShowFitsAt w p (next_at (on e s) s word) (moment_after w m s)
  advance (LoadAnnounce i) word sees fits =
      let is = fits.is.stage in
      let l = is.1.announcements in
      branches (λ x. ShowFitsAt w p x m) (reads_pending word) _ _
      (λ b. refit (LoadAnnounce i) e.announcements e.marks e.values e.kinds (Answer (Unsettled (Announce i) word)) m fits is.0 fits.noted (record { had = omega arith; off = inl b }))
      (λ b. (
      let more = longer e.announcements word in
      let h : HasNoted w (e.announcements ++ word ∷ []) e.marks e.values e.kinds = with_a_q w e.announcements e.marks e.values e.kinds fits.noted word (sees ∙ ap (λ (j : ℕ). w.memory.cached (Announce j)) (sym l)) (λ c. false≢true (sym b ∙ c)) in
      branches (λ x. ShowFitsAt w p x m) (nat_lt (i + 1) e.processes) _ _
      (λ t. refit (LoadAnnounce i) (e.announcements ++ word ∷ []) e.marks e.values e.kinds (LoadAnnounce (i + 1)) m fits
      (ltb-true (i + 1) e.processes t, record { announcements = omega arith; marks = is.1.marks; values = is.1.values; kinds = is.1.kinds }) h tt)
      (λ f. refit (LoadAnnounce i) (e.announcements ++ word ∷ []) e.marks e.values e.kinds (LoadMark 0) m fits
      (fits.is.cells, record { announcements = (let g = ltb-false (i + 1) e.processes f in let k = is.0 in omega arith); marks = is.1.marks; values = is.1.values; kinds = is.1.kinds }) h tt)))
  advance (LoadMark i) word sees fits =
      let is = fits.is.stage in
      let l = is.1.marks in
      branches (λ x. ShowFitsAt w p x m) (reads_clean e.processes word) _ _
      (λ b. (
      let more = longer e.marks word in
      let clean : IsClean word = clean_read w i word (subst (λ (x : ℕ). IsMark w.layout i x) (sym sees) (sound.words (Mark i)).holder) (ap (λ (n : ℕ). reads_clean n word) fits.processes ∙ b) in
      let h : HasNoted w e.announcements (e.marks ++ word ∷ []) e.values e.kinds = with_an_m w e.announcements e.marks e.values e.kinds fits.noted word is.1.values (sees ∙ ap (λ (j : ℕ). w.memory.cached (Mark j)) (sym l)) clean in
      branches (λ x. ShowFitsAt w p x m) (nat_lt (i + 1) e.cells) _ _
      (λ t. refit (LoadMark i) e.announcements (e.marks ++ word ∷ []) e.values e.kinds (LoadMark (i + 1)) m fits
      (ltb-true (i + 1) e.cells t, record { announcements = is.1.announcements; marks = omega arith; values = is.1.values; kinds = is.1.kinds }) h tt)
      (λ f. refit (LoadMark i) e.announcements (e.marks ++ word ∷ []) e.values e.kinds (LoadValue 0) m fits
      (fits.is.cells, record { announcements = is.1.announcements; marks = (let g = ltb-false (i + 1) e.cells f in let k = is.0 in omega arith); values = is.1.values; kinds = is.1.kinds }) h tt)))
      (λ b. refit (LoadMark i) e.announcements e.marks e.values e.kinds (Answer (Unsettled (Mark i) word)) m fits is.0 fits.noted (record { had = omega arith; off = inl (dirty_read e.processes word b) }))
  advance (LoadValue i) word sees fits =
      let is = fits.is.stage in
      let l = is.1.values in
      let n = is.1.marks in
      let k = is.0 in
      let more = longer e.values word in
      refit (LoadValue i) e.announcements e.marks (e.values ++ word ∷ []) e.kinds (LoadKind i) m fits
      (is.0, record { announcements = is.1.announcements; marks = is.1.marks; values = omega arith; kinds = is.1.kinds })
      (with_a_v w e.announcements e.marks e.values e.kinds fits.noted word (omega arith) (sees ∙ ap (λ (j : ℕ). w.memory.cached (Value j)) (sym l))) tt
  advance (LoadKind i) word sees fits =
      let is = fits.is.stage in
      let l = is.1.kinds in
      let n = is.1.values in
      let k = is.0 in
      let more = longer e.kinds word in
      let h : HasNoted w e.announcements e.marks e.values (e.kinds ++ word ∷ []) = with_a_k w e.announcements e.marks e.values e.kinds fits.noted word (omega arith) (sees ∙ ap (λ (j : ℕ). w.memory.cached (Kind j)) (sym l)) in
      branches (λ x. ShowFitsAt w p x (moment_of w)) (nat_lt (i + 1) e.cells) _ _
      (λ t. refit (LoadKind i) e.announcements e.marks e.values (e.kinds ++ word ∷ []) (LoadValue (i + 1)) (moment_of w) fits
      (ltb-true (i + 1) e.cells t, record { announcements = is.1.announcements; marks = is.1.marks; values = is.1.values; kinds = omega arith }) h tt)
      (λ f. (let g = ltb-false (i + 1) e.cells f in
      refit (LoadKind i) e.announcements e.marks e.values (e.kinds ++ word ∷ []) (AgainMark 0) (moment_of w) fits
      (fits.is.cells, record { announcements = is.1.announcements; marks = is.1.marks; values = omega arith; kinds = omega arith }) h
      (moment_made w e.announcements e.marks e.values (e.kinds ++ word ∷ []) sound h)))
  advance (AgainMark i) word sees fits =
      let is = fits.is.stage in
      let k = is.0 in
      let l = is.1.marks in
      branches (λ x. ShowFitsAt w p x m) (word == noted e.marks i) _ _
      (λ b. (
      let seen : SawAgain w e.announcements e.marks e.values e.kinds m (i + 1) 0 = mark_again w e.announcements e.marks e.values e.kinds m i fits.seen (omega arith) (sym sees ∙ eqb-true word (noted e.marks i) b) in
      branches (λ x. ShowFitsAt w p x m) (nat_lt (i + 1) e.cells) _ _
      (λ t. refit (AgainMark i) e.announcements e.marks e.values e.kinds (AgainMark (i + 1)) m fits (ltb-true (i + 1) e.cells t, is.1) fits.noted seen)
      (λ f. (let g = ltb-false (i + 1) e.cells f in
      refit (AgainMark i) e.announcements e.marks e.values e.kinds (AgainAnnounce 0) m fits (fits.is.processes, is.1) fits.noted
      (subst (λ (n : ℕ). SawAgain w e.announcements e.marks e.values e.kinds m n 0) (let same : i + 1 ≡ e.cells = omega arith in same) seen)))))
      (λ b. refit (AgainMark i) e.announcements e.marks e.values e.kinds (Answer (Unsettled (Mark i) word)) m fits is.0 fits.noted (record { had = omega arith; off = inr (omega arith, eqb-false word (noted e.marks i) b) }))
  advance (AgainAnnounce i) word sees fits =
      let is = fits.is.stage in
      let k = is.0 in
      let l = is.1.announcements in
      branches (λ x. ShowFitsAt w p x m) (word == noted e.announcements i) _ _
      (λ b. (
      let seen : SawAgain w e.announcements e.marks e.values e.kinds m e.cells (i + 1) = announce_again w e.announcements e.marks e.values e.kinds m e.cells i fits.seen (omega arith) (sym sees ∙ eqb-true word (noted e.announcements i) b) in
      branches (λ x. ShowFitsAt w p x m) (nat_lt (i + 1) e.processes) _ _
      (λ t. refit (AgainAnnounce i) e.announcements e.marks e.values e.kinds (AgainAnnounce (i + 1)) m fits (ltb-true (i + 1) e.processes t, is.1) fits.noted seen)
      (λ f. (let g = ltb-false (i + 1) e.processes f in
      refit (AgainAnnounce i) e.announcements e.marks e.values e.kinds (Answer Settled) m fits is.1 fits.noted
      (subst (λ (n : ℕ). SawAgain w e.announcements e.marks e.values e.kinds m e.cells n) (let same : i + 1 ≡ e.processes = omega arith in same) seen)))))
      (λ b. refit (AgainAnnounce i) e.announcements e.marks e.values e.kinds (Answer (Unsettled (Announce i) word)) m fits is.0 fits.noted (record { had = omega arith; off = inr (omega arith, eqb-false word (noted e.announcements i) b) }))
  advance (Answer end) word sees fits = fits
