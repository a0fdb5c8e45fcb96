-- What happened, one after the other.
use Rattle.std.proofs.Common.{ℕ, ◌≡◌, ◌≢◌, ◌+◌, List, [], ◌∷◌, ◌++◌, refl, sym, ap, subst, ◌∙◌, eq-eqb, ne_eqb, arith}
use Rattle.std.proofs.lemmas.List.{append_assoc, append-nil}
use Rattle.std.specs.Prelude.{Some, ◌==◌, if◌then◌else◌}
use Rattle.pm_base.specs.Structures.{World, Structure, IsStructure}
use Rattle.pm_base.specs.Runs.{Happened, Run, deeds_of, deeds_by, history_of, RunHolds}
use Rattle.pm_base.specs.declared.history.Deed.{Deed}
use Rattle.pm_base.specs.declared.history.Entry.{Entry}
use Rattle.pm_base.proofs.Running.{runs}
use Rattle.pm_board.specs.declared.board.Deeds.{Deeds}
use Rattle.pm_board.specs.declared.board.Seated.{Seated}
use Rattle.pm_board.specs.Machines.{Grows}
use Rattle.pm_board.specs.Rule.{Origin, IsOrigin, IsBeginning, HasSeen, DidSo}
use Rattle.pm_board.specs.Views.{seen_so_far}

pub deeds_both : {S T : Type 0} (p : ℕ) (ys xs : List (Entry S T)) → deeds_by p (ys ++ xs) ≡ deeds_by p ys ++ deeds_by p xs
deeds_both p [] xs = refl
deeds_both {S} {T} p (y ∷ ys) xs = ap (λ (z : List (Deed S T)). deeds_of p y.event y.responses ++ z) (deeds_both p ys xs) ∙ sym (append_assoc (deeds_of p y.event y.responses) (deeds_by p ys) (deeds_by p xs))

-- a deed is its own process's alone
pub deed_own : {A : Type 0} (p : ℕ) (ts : List A) → (if p == p then ts else []) ≡ ts
deed_own p ts = rw (eq-eqb p p refl) refl

pub deed_else : {A : Type 0} (p q : ℕ) (ts : List A) → q ≢ p → (if p == q then ts else []) ≡ []
deed_else p q ts ne = rw (ne_eqb p q (λ e. ne (sym e))) refl

module _ {K S T : Type 0} (s : Structure K S T) (key : K) where
  pub run_both : (a b c : World S s.Hidden) (xs ys : List (Happened s key)) → Run s key a xs b → Run s key b ys c → Run s key a (ys ++ xs) c
  run_both a b c xs [] r e = subst (λ (w : World S s.Hidden). Run s key a xs w) (sym e) r
  run_both a b c xs (y ∷ ys) r t = (t.0, run_both a b y.before xs ys r t.1)

  pub history_both : (ys xs : List (Happened s key)) → history_of s key (ys ++ xs) ≡ history_of s key ys ++ history_of s key xs
  history_both [] xs = refl
  history_both (y ∷ ys) xs = ap (λ (z : List (Entry S T)). y.entry ∷ z) (history_both ys xs)

  -- what a process did in two stretches
  pub did_both : (p : ℕ) (ys xs : List (Happened s key)) → deeds_by p (history_of s key (ys ++ xs)) ≡ deeds_by p (history_of s key ys) ++ deeds_by p (history_of s key xs)
  did_both p ys xs = ap (deeds_by p) (history_both ys xs) ∙ deeds_both p (history_of s key ys) (history_of s key xs)

  -- what was seen is still a beginning of what happened, and more
  abbrev pub begins_still : (more all all' : List (Happened s key)) (seen : List (Entry S T)) → all' ≡ more ++ all → IsBeginning s key all seen → IsBeginning s key all' seen
  begins_still more all all' seen is h = record {
    since = more ++ h.since;
    until = h.until;
    parts = is ∙ (ap (λ (z : List (Happened s key)). more ++ z) h.parts ∙ sym (append_assoc more h.since h.until));
    is = h.is;
  }

  -- and a process that did nothing in the further events has still done nothing since
  pub seen_still : (more all all' : List (Happened s key)) (p : ℕ) (seen : List (Entry S T)) → all' ≡ more ++ all → deeds_by p (history_of s key more) ≡ [] → HasSeen s key all p seen → HasSeen s key all' p seen
  seen_still more all all' p seen is none h = record {
    begins = begins_still more all all' seen is h.begins;
    quiet = did_both p more h.begins.since ∙ (λ i. none i ++ h.quiet i);
  }

  -- who has seen all that happened has seen just that
  pub seen_all : (all : List (Happened s key)) (p : ℕ) → HasSeen s key all p (history_of s key all)
  seen_all all p = record { begins = record { since = []; until = all; parts = refl; is = refl }; quiet = refl }

  -- what was done in a stretch was done in one of more
  pub was_further : (more all all' : List (Happened s key)) (e : Seated S T) → all' ≡ more ++ all → DidSo s key all e → DidSo s key all' e
  was_further more all all' e is h = record {
    since = more ++ h.since;
    stretch = h.stretch;
    before = h.before;
    parts = is ∙ (ap (λ (z : List (Happened s key)). more ++ z) h.parts ∙ sym (append_assoc more h.since (h.stretch ++ h.before)));
    done = h.done;
  }

  -- a run from where a table comes from is one from a new structure
  pub run_all : (o : Origin s key) (happened : List (Happened s key)) (w : World S s.Hidden) → IsOrigin s key o → Run s key o.opened happened w → Run s key o.first (happened ++ o.older) w
  run_all o happened w from run = run_both o.first o.opened w o.older happened from.run run

  pub holds_all : IsStructure s key → (o : Origin s key) (happened : List (Happened s key)) (w : World S s.Hidden) → IsOrigin s key o → Run s key o.opened happened w → RunHolds s key (happened ++ o.older) w
  holds_all structure o happened w from run = runs s key structure o.first w (happened ++ o.older) from.new (run_all o happened w from run)

-- ---- growing

pub grows_none : {S T : Type 0} (p : ℕ) (d : Deeds S T) (seen : List (Entry S T)) → d.seen ≡ Some seen → Grows p d d 0
grows_none p d seen is = record { late = []; seen = is ∙ ap Some (sym (ap seen_so_far is)); done = refl; steps = (let e : d.steps ≡ d.steps + 0 = omega arith in e) }

pub grows_both : {S T : Type 0} (p : ℕ) (a b c : Deeds S T) (n m : ℕ) → Grows p a b n → Grows p b c m → Grows p a c (n + m)
grows_both {S} {T} p a b c n m f g = record {
  late = g.late ++ f.late;
  seen = g.seen ∙ (ap (λ (z : List (Entry S T)). Some (g.late ++ z)) (ap seen_so_far f.seen) ∙ ap Some (sym (append_assoc g.late f.late (seen_so_far a.seen))));
  done = g.done ∙ (ap (λ (z : List (Deed S T)). deeds_by p g.late ++ z) f.done ∙ (sym (append_assoc (deeds_by p g.late) (deeds_by p f.late) a.done) ∙ ap (λ (z : List (Deed S T)). z ++ a.done) (sym (deeds_both p g.late f.late))));
  steps = (let x = f.steps in let y = g.steps in omega (arith, x, y));
}

-- what grew by these events, where the process has seen all until now
pub grown : {K S T : Type 0} (s : Structure K S T) (key : K) (p : ℕ) (old new : Deeds S T) (more all all' : List (Happened s key)) (ts : List (Deed S T)) (seen : List (Entry S T)) (n : ℕ) → old.seen ≡ Some seen → HasSeen s key all p seen → all' ≡ more ++ all → deeds_by p (history_of s key more) ≡ ts
    → new.seen ≡ Some (history_of s key all') → new.done ≡ ts ++ old.done → new.steps ≡ old.steps + n → Grows p old new n
grown {K} {S} {T} s key p old new more all all' ts seen n was has is tells now done steps = record {
  late = history_of s key (more ++ has.begins.since);
  seen =
      let parts : all' ≡ (more ++ has.begins.since) ++ has.begins.until = is ∙ (ap (λ (z : List (Happened s key)). more ++ z) has.begins.parts ∙ sym (append_assoc more has.begins.since has.begins.until)) in
      let split : history_of s key all' ≡ history_of s key (more ++ has.begins.since) ++ history_of s key has.begins.until = ap (history_of s key) parts ∙ history_both s key (more ++ has.begins.since) has.begins.until in
      let last : history_of s key has.begins.until ≡ seen_so_far old.seen = sym has.begins.is ∙ sym (ap seen_so_far was) in
      now ∙ ap Some (split ∙ ap (λ (z : List (Entry S T)). history_of s key (more ++ has.begins.since) ++ z) last);
  done =
      let here : deeds_by p (history_of s key (more ++ has.begins.since)) ≡ ts = did_both s key p more has.begins.since ∙ ((λ i. tells i ++ has.quiet i) ∙ append-nil ts) in
      done ∙ ap (λ (z : List (Deed S T)). z ++ old.done) (sym here);
  steps = steps;
}
