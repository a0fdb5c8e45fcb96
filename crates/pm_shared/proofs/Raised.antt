-- What a raise is answered.
use Rattle.std.proofs.Common.{ℕ, ◌≡◌, ◌∙◌, List, [], ◌∷◌, ◌++◌, refl, sym, ap, subst, Bool, arith}
use Rattle.std.proofs.lemmas.List.{append-nil}
use Rattle.atomic_table.specs.Table.{Me}
use Rattle.pm_base.specs.declared.history.Deed.{Deed}
use Rattle.pm_base.specs.declared.history.Deed.TheVariants as deed
use Rattle.pm_board.specs.declared.board.View.{View}
use Rattle.pm_board.specs.Machines.{answered_so, Grows, Ran, still, steps, Breaks, Settles}
use Rattle.pm_board.specs.Views.{deeds_at}
use Rattle.pm_mark.specs.Marks.{mark, raises, raise_doing, raise_says, RaiseGoes, RaiseEnds}
use Rattle.pm_mark.specs.declared.mark.Raise.{Raise}
use Rattle.pm_mark.specs.declared.mark.Stage.{Stage}
use Rattle.pm_mark.specs.declared.mark.Stage.TheVariants as stage
use Rattle.pm_mark.specs.declared.mark.Doing.{Doing}
use Rattle.pm_mark.specs.declared.mark.Doing.TheVariants.{Idle, Raising}
use Rattle.pm_shared.specs.Raises.{first_raise, says_up, BreaksRaise, IsRaised}
use Rattle.std.specs.Prelude.{Option, Some, None, MatchOption}
use Rattle.pm_board.specs.Views.{RunsOne}
use Rattle.pm_shared.proofs.Sitting.{sits_at, runs_on}

quiet : (value : ℕ) (s : Stage) → RaiseGoes s → raise_says value s ≡ []
quiet value stage.Load go = refl
quiet value (stage.Swap seen) go = refl
quiet value stage.Flush go = refl
quiet value stage.Back go = refl
quiet value stage.Done go = absurd go
quiet value stage.Lost go = absurd go

pub ran_raise : (process value : ℕ) (c : Raise) (ts : List ℕ) (n : ℕ) → Ran raises (first_raise process value) c ts n → (c.process ≡ process) × (c.value ≡ value) × (ts ≡ raise_says c.value c.stage)
ran_raise process value c ts n still = (refl, refl, refl)
ran_raise process value c us m (steps d ts n word ran go) =
    let r = ran_raise process value d ts n ran in (
      r.0,
      r.1,
      ap (λ (l : List ℕ). raise_says d.value (raises.next d word).stage ++ l) (r.2 ∙ quiet d.value d.stage go) ∙ append-nil (raise_says d.value (raises.next d word).stage),
    )

-- how it ended, and what it answered
ended : (c : Raise) (s : Stage) (up : Bool) → RaiseEnds s up → (raise_doing c s ≡ Idle) × (answered_so {S = Doing} (raise_says c.value s) ≡ says_up c.value up)
ended c stage.Done up is = (refl, ap (says_up c.value) (sym is))
ended c stage.Lost up is = (refl, ap (says_up c.value) (sym is))
ended c stage.Load up is = absurd is
ended c (stage.Swap seen) up is = absurd is
ended c stage.Flush up is = absurd is
ended c stage.Back up is = absurd is

pub raised : (n process value : ℕ) (old me : Me ℕ (View Doing ℕ)) (c : Raise) (up : Bool) (k : ℕ) → Settles mark raises n (first_raise process value) old me c up k → IsRaised old me process value up k
raised n process value old me c up k h =
    let r = ran_raise process value c h.is.responses k h.is.ran in
    let e = ended c c.stage up h.ends in
    let answered : answered_so {S = Doing} h.is.responses ≡ says_up value up = ap (λ (l : List ℕ). answered_so {S = Doing} l) r.2 ∙ (e.1 ∙ ap (λ (v : ℕ). says_up v up) r.1) in record {
      sits = sits_at me c.process process (raises.doing c) Idle h.buffer h.is.held _ h.is.at h.is.grows.seen r.0 e.0;
      done = ap (λ d. d.done) (ap deeds_at h.is.at) ∙ (h.is.done ∙ ap (λ (l : List (Deed Doing ℕ)). l ++ (deed.Began (Raising (first_raise process value)) ∷ (deeds_at old).done)) answered);
      grows = subst (λ d. Grows process (deeds_at old) d k) (sym (ap deeds_at h.is.at)) h.is.grows;
      few = (let most = h.few in omega (arith, most));
    }

-- how a raise comes out, by what its fuse was asked
pub raise_out : (A B : ℕ → Type 0) (n process value : ℕ) (old me : Me ℕ (View Doing ℕ)) (c : Raise) (r : Option Bool) → RunsOne old process
    → MatchOption r ((k : ℕ) × A k × Breaks mark raises n (first_raise process value) old me c k) (λ end. (k : ℕ) × B k × Settles mark raises n (first_raise process value) old me c end k)
    → MatchOption r ((k : ℕ) × A k × BreaksRaise n old me process value k) (λ up. (k : ℕ) × B k × IsRaised old me process value up k)
raise_out A B n process value old me c None runs h = (h.0, h.1, (c, h.2))
raise_out A B n process value old me c (Some up) runs h = (h.0, h.1, raised n process value old me c up h.0 h.2)

-- whatever came of it, the seat runs its process alone
pub raise_runs : (A B : ℕ → Type 0) (n : ℕ) (old me : Me ℕ (View Doing ℕ)) (process value : ℕ) (r : Option Bool) → RunsOne old process → MatchOption r ((k : ℕ) × A k × BreaksRaise n old me process value k) (λ up. (k : ℕ) × B k × IsRaised old me process value up k) → RunsOne me process
raise_runs A B n old me process value None runs h = runs_on mark raises n (first_raise process value) old me h.2.0 h.0 process runs (λ d ts x k m is. (ran_raise process value d is.responses k is.ran).0) h.2.1
raise_runs A B n old me process value (Some up) runs h = h.2.sits.runs
