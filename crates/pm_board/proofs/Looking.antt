-- A seat looks at the table: the rule stays, and the seat has seen all that has happened.
use Rattle.std.proofs.Common.{ℕ, zero, suc, ◌≡◌, ◌≢◌, List, [], ◌∷◌, ◌++◌, refl, sym, ap, subst, ◌∙◌, inl, inr, ⊎_elim, set}
use Rattle.std.specs.Prelude.{Option, Some}
use Rattle.std.proofs.lemmas.List.{set-get_or}
use mathlib.Core.Option.{some}
use lib.ListN.{get_elem?}
use Rattle.atomic_table.specs.Table.{State, Allows, keeps}
use Rattle.atomic_table.proofs.Lists.{at_set}
use Rattle.pm_base.specs.Structures.{In, Structure}
use Rattle.pm_base.specs.Runs.{Happened, history_of}
use Rattle.pm_base.specs.declared.history.Entry.{Entry}
use Rattle.pm_board.specs.declared.board.Seated.{Seated}
use Rattle.pm_board.specs.declared.board.View.{View}
use Rattle.pm_board.specs.Looks.{Extends, looking, looked, Looks}
use Rattle.pm_board.specs.Rule.{Witness, Start, all_of, IsBeginning, HasSeen, Fits, Ruled}
use Rattle.pm_board.specs.Views.{newcomer, newcomers_from, seen_so_far}
use Rattle.pm_board.proofs.Seating.{looked_has, seated_set}
use Rattle.pm_board.proofs.Histories.{history_both, seen_all}

-- each of the processes that have looked is one of those from before
record Was {S T : Type 0} (seen : List (Entry S T)) (es : List (Seated S T)) (x : Seated S T) : Type 0 where
  e : Seated S T
  there : In es e
  is : looking seen e ≡ x

was_in : {S T : Type 0} (seen : List (Entry S T)) (es : List (Seated S T)) (x : Seated S T) → In (looked seen es) x → Was seen es x
was_in seen [] x none = absurd none
was_in seen (e ∷ es) x (inl is) = record { e = e; there = inl refl; is = is }
was_in seen (e ∷ es) x (inr later) = let w = was_in seen es x later in record { e = w.e; there = inr w.there; is = w.is }

-- newcomers that look are newcomers
pub newcomers_look : {S T : Type 0} (now : S) (was : Option (List (Entry S T))) (seen : List (Entry S T)) (p n : ℕ) → looked seen (newcomers_from now was p n) ≡ newcomers_from now (Some seen) p n
newcomers_look now was seen p zero = refl
newcomers_look {S} {T} now was seen p (suc n) = ap (λ (l : List (Seated S T)). looking seen (newcomer now was p) ∷ l) (newcomers_look now was seen (suc p) n)

module _ {K S T : Type 0} (s : Structure K S T) (key : K) where
  -- a history begins with each beginning of it
  abbrev pub extends : (all : List (Happened s key)) (xs : List (Entry S T)) → IsBeginning s key all xs → Extends (history_of s key all) xs
  extends all xs h = (history_of s key h.since, ap (history_of s key) h.parts ∙ (history_both s key h.since h.until ∙ ap (λ (z : List (Entry S T)). history_of s key h.since ++ z) (sym h.is)))

  sees_all : (b : Witness s key) (f : ℕ → ℕ) (i : ℕ) (e : Seated S T) → Fits s key b f i e → Fits s key b f i (looking (history_of s key (all_of s key b)) e)
  sees_all b f i e h = record {
    low = h.low;
    mine = h.mine;
    stands = record {
      now = h.stands.now;
      buffer = h.stands.buffer;
      done = h.stands.done;
      saw = λ seen is. subst (HasSeen s key (all_of s key b) e.process) (ap seen_so_far is) (seen_all s key (all_of s key b) e.process);
    };
  }

  module _ (start : Start) where
    still_ruled : (t : State ℕ (View S T)) (h : Ruled s key {X = ℕ} start t) (id : ℕ) (v : View S T) (kept : List (Seated S T)) → ((e : Seated S T) → In kept e → In v.past e) → get_elem? t.views id ≡ some v
        → Ruled s key {X = ℕ} start (record { words = t.words; homes = t.homes; views = set t.views id (record { entries = looked (history_of s key (all_of s key h.witness)) v.entries; past = kept }) })
    still_ruled t h id v kept fewer at =
        let seen : List (Entry S T) = history_of s key (all_of s key h.witness) in
        let new : View S T = record { entries = looked seen v.entries; past = kept } in record {
          witness = h.witness;
          owner = h.owner;
          long = h.long;
          run = h.run;
          from = h.from;
          opens = h.opens;
          made = h.made;
          all = λ p low. seated_set s key t.views id v at p new (λ k. looked_has seen v.entries p k) (h.all p low);
          knows = λ j u there x inside. ⊎_elim
              (λ (k : (j ≡ id) × (new ≡ u)).
              let w = was_in seen v.entries x (subst (λ (z : View S T). In z.entries x) (sym k.1) inside) in
              subst (λ (z : ℕ × Seated S T). Fits s key h.witness h.owner z.0 z.1) (λ i. (sym k.0 i, w.is i)) (sees_all h.witness h.owner id w.e (h.knows id v at w.e w.there)))
              (λ (k : (j ≢ id) × (get_elem? t.views j ≡ some u)). h.knows j u k.1 x inside)
              (at_set t.views id j new u there);
          past = λ j u there x inside. ⊎_elim
              (λ (k : (j ≡ id) × (new ≡ u)). h.past id v at x (fewer x (subst (λ (z : View S T). In z.past x) (sym k.1) inside)))
              (λ (k : (j ≢ id) × (get_elem? t.views j ≡ some u)). h.past j u k.1 x inside)
              (at_set t.views id j new u there);
        }

    -- the rule allows a look, after which the seat remembers these others of those that it did before
    pub looks : (slots id : ℕ) (v : View S T) (kept : List (Seated S T)) → ((e : Seated S T) → In kept e → In v.past e) → Allows (Ruled s key {X = ℕ} start) slots id (v, []) 0 (λ n. n) (λ n m'. (m'.1 ≡ []) × Looks v kept m'.0)
    looks slots id v kept fewer t h homes at small =
        let b : Witness s key = h.witness in
        let seen : List (Entry S T) = history_of s key (all_of s key b) in
        let new : View S T = record { entries = looked seen v.entries; past = kept } in (
          new,
          keeps,
          tt,
          subst (λ (ws : List ℕ). Ruled s key {X = ℕ} start (record { words = ws; homes = t.homes; views = set t.views id new })) (sym (set-get_or t.words 0 0)) (still_ruled t h id v kept fewer at),
          (
            refl,
            record {
              seen = seen;
              at = refl;
              own = λ e there xs is.
                  let k : HasSeen s key (all_of s key b) e.process xs = (h.knows id v at e there).stands.saw xs is in
                  let x = extends (all_of s key b) xs k.begins in
                  (x.0, x.1, k.quiet);
              others = λ e there xs is. extends (all_of s key b) xs ((h.past id v at e there).saw xs is);
            },
          ),
        )
