-- Each process of a structure stays one of a view's.
use Rattle.std.proofs.Common.{ℕ, zero, suc, ◌≡◌, ◌≢◌, ◌+◌, ◌<◌, ◌≤◌, List, [], ◌∷◌, ◌++◌, length, set, refl, sym, ap, subst, ◌∙◌, inl, inr, ⊎_elim, arith}
use Rattle.std.specs.Prelude.{Option}
use mathlib.Core.Logic.{dite}
use mathlib.Core.Option.{some, some-injective, some-ne-none}
use native.Mathlib.Decide.{ℕ_discrete}
use lib.ListN.{get_elem?}
use Rattle.atomic_table.proofs.Lists.{set_here, set_else, at_longer, at_last}
use Rattle.pm_base.specs.Structures.{In, Structure}
use Rattle.pm_base.specs.declared.history.Entry.{Entry}
use Rattle.pm_base.proofs.Lists.{in_left, in_right}
use Rattle.pm_board.specs.declared.board.Seated.{Seated}
use Rattle.pm_board.specs.declared.board.View.{View}
use Rattle.pm_board.specs.Looks.{looking, looked}
use Rattle.pm_board.specs.Rule.{IsSeated}
use Rattle.pm_board.specs.Views.{lone, newcomer, newcomers_from, united, nobody}

below : {A : Type 0} (l : List A) (i : ℕ) (a : A) → get_elem? l i ≡ some a → i < length l
below [] i a e = absurd (some-ne-none a (sym e))
below (x ∷ xs) zero a e = omega arith
below (x ∷ xs) (suc i) a e = let h = below xs i a e in omega arith

-- the process is one of the view
abbrev pub Has : {S T : Type 0} → View S T → ℕ → Type 0
Has {S} {T} v p = (e : Seated S T) × In v.entries e × (e.process ≡ p)

module _ {K S T : Type 0} (s : Structure K S T) (key : K) (views : List (View S T)) (id : ℕ) (v : View S T) (at : get_elem? views id ≡ some v) (p : ℕ) where
  here : (k : IsSeated s key views p) → k.seat ≡ id → Has v p
  here k same =
      let one : k.view ≡ v = some-injective k.view v (sym k.at ∙ (ap (get_elem? views) same ∙ at)) in
      (k.entry, subst (λ (z : View S T). In z.entries k.entry) one k.inside, k.own)

  -- one view becomes another, which has the process where the first one had it
  pub seated_set : (w : View S T) → (Has v p → Has w p) → IsSeated s key views p → IsSeated s key (set views id w) p
  seated_set w keeps k = dite (ℕ_discrete k.seat id)
      (λ same. let h = keeps (here k same) in record { seat = id; view = w; at = set_here views id w (below views id v at); entry = h.0; inside = h.1; own = h.2 })
      (λ other. record { seat = k.seat; view = k.view; at = set_else views id k.seat w other ∙ k.at; entry = k.entry; inside = k.inside; own = k.own })

-- a view comes after the others
pub seated_more : {K S T : Type 0} (s : Structure K S T) (key : K) (views : List (View S T)) (u : View S T) (p : ℕ) → IsSeated s key views p → IsSeated s key (views ++ u ∷ []) p
seated_more s key views u p k = record { seat = k.seat; view = k.view; at = at_longer views (u ∷ []) k.seat k.view k.at; entry = k.entry; inside = k.inside; own = k.own }

-- the first process of a view gets a seat of its own
pub seated_split : {K S T : Type 0} (s : Structure K S T) (key : K) (views : List (View S T)) (id : ℕ) (e : Seated S T) (es past : List (Seated S T)) → get_elem? views id ≡ some (record { entries = e ∷ es; past = past }) → (p : ℕ) → IsSeated s key views p
    → IsSeated s key (set views id (record { entries = es; past = past }) ++ lone e ∷ []) p
seated_split {K} {S} {T} s key views id e es past at p k =
    let whole : View S T = record { entries = e ∷ es; past = past } in
    let rest : View S T = record { entries = es; past = past } in
    dite (ℕ_discrete e.process p)
    (λ own. record { seat = length (set views id rest); view = lone e; at = at_last (set views id rest) (lone e) _ refl; entry = e; inside = inl refl; own = own })
    (λ other. seated_more s key (set views id rest) (lone e) p (seated_set s key views id whole at p rest
    (λ h. (h.0, ⊎_elim (λ same. absurd (other (ap (λ (x : Seated S T). x.process) same ∙ h.2))) (λ later. later) h.1, h.2)) k))

-- one view takes in another
pub seated_join : {K S T : Type 0} (s : Structure K S T) (key : K) (views : List (View S T)) (id other : ℕ) (v w : View S T) → get_elem? views id ≡ some v → other ≢ id → get_elem? views other ≡ some w → (p : ℕ) → IsSeated s key views p
    → IsSeated s key (set (set views id (united v w)) other nobody) p
seated_join s key views id other v w at apart there p k = dite (ℕ_discrete k.seat other)
    (λ same. let h = here s key views other w there p k same in record {
      seat = id;
      view = united v w;
      at = set_else (set views id (united v w)) other id nobody (λ e. apart (sym e)) ∙ set_here views id (united v w) (below views id v at);
      entry = h.0;
      inside = in_right v.entries w.entries h.0 h.1;
      own = h.2;
    })
    (λ ne. dite (ℕ_discrete k.seat id)
    (λ same. let h = here s key views id v at p k same in record {
      seat = id;
      view = united v w;
      at = set_else (set views id (united v w)) other id nobody (λ e. apart (sym e)) ∙ set_here views id (united v w) (below views id v at);
      entry = h.0;
      inside = in_left v.entries w.entries h.0 h.1;
      own = h.2;
    })
    (λ no. record {
      seat = k.seat;
      view = k.view;
      at = set_else (set views id (united v w)) other k.seat nobody ne ∙ (set_else views id k.seat (united v w) no ∙ k.at);
      entry = k.entry;
      inside = k.inside;
      own = k.own;
    }))

-- processes that have looked are the same
pub looked_has : {S T : Type 0} (seen : List (Entry S T)) (es : List (Seated S T)) (p : ℕ) → ((e : Seated S T) × In es e × (e.process ≡ p)) → (e : Seated S T) × In (looked seen es) e × (e.process ≡ p)
looked_has seen [] p h = absurd h.1
looked_has {S} {T} seen (x ∷ xs) p h = ⊎_elim
    (λ same. (looking seen x, inl refl, ap (λ (e : Seated S T). e.process) same ∙ h.2))
    (λ later. let k = looked_has seen xs p (h.0, later, h.2) in (k.0, inr k.1, k.2)) h.1

-- newcomers are of each process from the first one on
pub newcomers_have : {S T : Type 0} (now : S) (seen : Option (List (Entry S T))) (p n q : ℕ) → p ≤ q → q < p + n → In (newcomers_from now seen p n) (newcomer now seen q)
newcomers_have now seen p zero q low high = absurd (omega arith)
newcomers_have now seen p (suc n) q low high = dite (ℕ_discrete p q)
    (λ same. inl (ap (newcomer now seen) same))
    (λ other. inr (newcomers_have now seen (suc p) n q (omega arith) (omega arith)))
