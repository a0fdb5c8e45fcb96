-- A board comes to rest: every process stops.
use Rattle.std.proofs.Common.{ℕ, ◌≡◌, ◌<◌, ◌≤◌, List, [], zero, suc, refl, sym, ap, subst, ◌∷◌, ◌++◌, ◌∙◌, ⊎_elim, arith, le_refl}
use Rattle.std.proofs.lemmas.List.{append_assoc}
use mathlib.Core.Logic.{dite}
use native.Mathlib.Decide.{ℕ_discrete}
use Rattle.pm_base.specs.Structures.{Structure, put}
use Rattle.pm_base.specs.Runs.{Happened, Run, Moves}
use Rattle.pm_base.specs.declared.history.Event.{Event}
use Rattle.pm_base.specs.declared.history.Event.TheVariants.{Stop}
use Rattle.pm_base.proofs.Lists.{in_append}
use Rattle.pm_base.proofs.Puts.{put_here, put_else}
use Rattle.pm_board.specs.declared.board.Seated.{Seated}
use Rattle.pm_board.specs.Table.{two_sided}
use Rattle.pm_board.specs.Rule.{Witness, world_on, all_of, IsOrigin, IsPast, After, AtRest, GoesOnBy, IsStop}
use Rattle.pm_board.proofs.Histories.{was_further, begins_still}

module _ {K S T : Type 0} (s : Structure K S T) (key : K) where
  -- all that happened goes on by these events
  pub all_on : (b b' : Witness s key) (more : List (Happened s key)) → b'.origin ≡ b.origin → b'.happened ≡ more ++ b.happened → all_of s key b' ≡ more ++ all_of s key b
  all_on b b' more origin happened = (λ i. happened i ++ (origin i).older) ∙ append_assoc more b.happened b.origin.older

  -- what was done before stays so
  pub past_on : (b b' : Witness s key) (more : List (Happened s key)) → b'.origin ≡ b.origin → b'.happened ≡ more ++ b.happened → (e : Seated S T) → IsPast s key b e → IsPast s key b' e
  past_on b b' more origin happened e h =
      let on = all_on b b' more origin happened in record {
        was = was_further s key more (all_of s key b) (all_of s key b') e on h.was;
        saw = λ seen is. begins_still s key more (all_of s key b) (all_of s key b') seen on (h.saw seen is);
      }

  -- the world comes from itself by nothing
  pub goes_nowhere : (Allowed : Event S → Type 0) (b : Witness s key) → GoesOnBy s key Allowed b b
  goes_nowhere allowed b = record { origin = refl; more = []; happened = refl; allowed = λ h none. absurd none }

  pub goes_further : (Allowed : Event S → Type 0) (a b c : Witness s key) → GoesOnBy s key Allowed a b → GoesOnBy s key Allowed b c → GoesOnBy s key Allowed a c
  goes_further allowed a b c f g = record {
    origin = g.origin ∙ f.origin;
    more = g.more ++ f.more;
    happened = g.happened ∙ (ap (λ (z : List (Happened s key)). g.more ++ z) f.happened ∙ sym (append_assoc g.more f.more a.happened));
    allowed = λ h inside. ⊎_elim (λ x. g.allowed h x) (λ y. f.allowed h y) (in_append g.more f.more h inside);
  }

  module _ (words : List ℕ) where
    -- what happened where the process stops
    abbrev pub stop_of : Witness s key → ℕ → Happened s key
    stop_of b p = record { before = world_on s key words b; entry = record { event = Stop p; responses = [] } }

    -- the process stops
    abbrev pub stopped : Witness s key → ℕ → Witness s key
    stopped b p = record {
      situation = put b.situation p s.stopped;
      buffer = put b.buffer p [];
      hidden = s.hidden_after key (world_on s key words b) (Stop p) (two_sided (s.apart key) words (put b.buffer p []));
      origin = b.origin;
      happened = stop_of b p ∷ b.happened;
    }

    pub stop_moves : (b : Witness s key) (p : ℕ) → p < s.processes key → Moves s key (world_on s key words b) (Stop p) [] (world_on s key words (stopped b p))
    stop_moves b p low = (low, record { cached = λ r. refl; persisted = λ r. refl; mine = put_here b.buffer p [] p refl; others = λ q ne. put_else b.buffer p [] q ne }, refl, refl)

    pub stops : (b : Witness s key) (p : ℕ) → p < s.processes key → After s key words words b (stopped b p) p s.stopped [] []
    stops b p low = record {
      doing = put_here b.situation p s.stopped p refl;
      buffer = put_here b.buffer p [] p refl;
      others = λ q ne. put_else b.situation p s.stopped q ne;
      other_buffers = λ q ne. put_else b.buffer p [] q ne;
      origin = refl;
      more = stop_of b p ∷ [];
      happened = refl;
      run = (stop_moves b p low, refl);
      own = refl;
      others_quiet = λ q ne. refl;
    }

    only_stop : (b : Witness s key) (p : ℕ) → GoesOnBy s key (IsStop s key) b (stopped b p)
    only_stop b p = record { origin = refl; more = stop_of b p ∷ []; happened = refl; allowed = λ h inside. ⊎_elim (λ same. subst (λ (z : Happened s key). IsStop s key z.entry.event) same tt) (λ none. absurd none) inside }

    -- the first n processes have stopped
    pub record Rest (b : Witness s key) (n : ℕ) : Type 0 where
      pub witness : Witness s key
      pub by : GoesOnBy s key (IsStop s key) b witness
      pub run : Run s key witness.origin.opened witness.happened (world_on s key words witness)
      pub now : (p : ℕ) → p < n → witness.situation p ≡ s.stopped
      pub buffer : (p : ℕ) → p < n → witness.buffer p ≡ []

    first_rest : (b : Witness s key) (n : ℕ) → n ≤ s.processes key → Run s key b.origin.opened b.happened (world_on s key words b) → Rest b n
    first_rest b zero few run = record { witness = b; by = goes_nowhere (IsStop s key) b; run = run; now = λ p low. absurd (omega arith); buffer = λ p low. absurd (omega arith) }
    first_rest b (suc n) few run =
        let r : Rest b n = first_rest b n (omega arith) run in
        let c : Witness s key = stopped r.witness n in record {
          witness = c;
          by = goes_further (IsStop s key) b r.witness c r.by (only_stop r.witness n);
          run = (stop_moves r.witness n (omega arith), r.run);
          now = λ p low. dite (ℕ_discrete p n) (λ e. put_here r.witness.situation n s.stopped p e) (λ ne. put_else r.witness.situation n s.stopped p ne ∙ r.now p (omega arith));
          buffer = λ p low. dite (ℕ_discrete p n) (λ e. put_here r.witness.buffer n [] p e) (λ ne. put_else r.witness.buffer n [] p ne ∙ r.buffer p (omega arith));
        }

    pub record Rests (b : Witness s key) : Type 0 where
      pub witness : Witness s key
      pub by : GoesOnBy s key (IsStop s key) b witness
      pub rests : AtRest s key words witness
      pub responses : (e : Seated S T) → IsPast s key b e → IsPast s key witness e

    pub rests : (b : Witness s key) → Run s key b.origin.opened b.happened (world_on s key words b) → IsOrigin s key b.origin → Rests b
    rests b run from = let r = first_rest b (s.processes key) (le_refl (s.processes key)) run in record {
      witness = r.witness;
      by = r.by;
      rests = record { run = r.run; from = subst (IsOrigin s key) (sym r.by.origin) from; stopped = r.now; buffer = r.buffer };
      responses = λ e h. past_on b r.witness r.by.more r.by.origin r.by.happened e h;
    }
