-- Logs of operations: how one grows, and what stays.
use Rattle.std.proofs.Common.{ℕ, zero, suc, ◌≡◌, ◌≢◌, ◌-◌, ◌<◌, ◌≤◌, refl, sym, ap, subst, ◌∙◌, inl, inr, arith, le_refl, le_trans}
use mathlib.Core.Logic.{dite}
use native.Mathlib.Decide.{ℕ_discrete}
use Rattle.std.proofs.Math.Decide.{dec_le}
use Rattle.pm_base.specs.Structures.{put}
use Rattle.pm_base.proofs.Puts.{put_here, put_else}
use Rattle.pq.specs.History.{Log, Has, HasNot, HasKept, added, kept_to, marked_to}
use Rattle.pq.specs.Sound.{IsLog}
use Rattle.pq.specs.Knows.{IsNode, IsLink, IsMine, IsSettled, IsPassed}

pub has_at : (most : ℕ) (log : Log) (k : ℕ) → IsLog most log → k < log.count → Has log (log.at (suc k))
has_at most log k l low =
    let e = l.inverse (suc k) (omega (arith, low)) in
    record { there = ap log.at e; above = omega (arith, e); within = omega (arith, e, low) }

pub not_at : (most : ℕ) (log : Log) (i k : ℕ) → IsLog most log → HasNot log i → k < log.count → log.at (suc k) ≢ i
not_at most log i k l none low e = none (subst (Has log) e (has_at most log k l low))

-- the place of an operation, counted from 0
pub place_of : (log : Log) (i : ℕ) → Has log i → (k : ℕ) × (k < log.count) × (log.at (suc k) ≡ i) × (log.pos i ≡ suc k)
place_of log i h =
    let a = h.above in
    let b = h.within in
    let e : suc (log.pos i - 1) ≡ log.pos i = omega (arith, a) in
    (log.pos i - 1, omega (arith, a, b), ap log.at e ∙ h.there, sym e)

pub kept_has : (most : ℕ) (log : Log) (i : ℕ) → IsLog most log → HasKept log i → Has log i
kept_has most log i l h = record { there = h.there; above = h.above; within = le_trans h.within l.keeps }

pub kept_at : (most : ℕ) (log : Log) (k : ℕ) → IsLog most log → k < log.kept → HasKept log (log.at (suc k))
kept_at most log k l low =
    let less = l.keeps in
    let e = l.inverse (suc k) (omega (arith, low, less)) in
    record { there = ap log.at e; above = omega (arith, e); within = omega (arith, e, low) }

-- where an operation stands at a place, that place is its own
pub pos_is : (most : ℕ) (log : Log) (k a : ℕ) → IsLog most log → k ≤ log.count → log.at k ≡ a → log.pos a ≡ k
pos_is most log k a l low e = ap log.pos (sym e) ∙ l.inverse k low

pub node_at : (most : ℕ) (log : Log) (k a m : ℕ) → IsLog most log → k ≤ log.count → k ≤ m → a ≡ log.at k → IsNode log a m
node_at most log k a m l low up e =
    let p = pos_is most log k a l low (sym e) in
    record { node = ap log.at p ∙ sym e; within = omega (arith, p, up) }

-- ---- a log that grows by this operation, or stays

pub record Extends (log new : Log) (i : ℕ) : Type 0 where
  pub at : (k : ℕ) → k ≤ log.count → new.at k ≡ log.at k
  pub pos : (j : ℕ) → log.at (log.pos j) ≡ j → log.pos j ≤ log.count → new.pos j ≡ log.pos j
  pub count : log.count ≤ new.count
  pub kept : log.kept ≤ new.kept
  pub marked : log.marked ≤ new.marked
  pub none : (j : ℕ) → j ≢ i → Has new j → Has log j

pub extends_same : (log : Log) (i : ℕ) → Extends log log i
extends_same log i = record { at = λ k low. refl; pos = λ j e low. refl; count = le_refl _; kept = le_refl _; marked = le_refl _; none = λ j ne h. h }

pub extends_kept : (log : Log) (k i : ℕ) → Extends log (kept_to log k) i
extends_kept log k i = record { at = λ k low. refl; pos = λ j e low. refl; count = le_refl _; kept = omega arith; marked = le_refl _; none = λ j ne h. record { there = h.there; above = h.above; within = h.within } }

pub extends_marked : (log : Log) (k i : ℕ) → Extends log (marked_to log k) i
extends_marked log k i = record { at = λ k low. refl; pos = λ j e low. refl; count = le_refl _; kept = le_refl _; marked = omega arith; none = λ j ne h. record { there = h.there; above = h.above; within = h.within } }

-- an operation that is not in the log is at none of its places
pub not_member : (most : ℕ) (log : Log) (i j : ℕ) → IsLog most log → HasNot log i → i ≢ 0 → log.at (log.pos j) ≡ j → log.pos j ≤ log.count → j ≢ i
not_member most log i j l none real e low same = dite (ℕ_discrete (log.pos j) 0)
    (λ zero_place. real (sym same ∙ (sym e ∙ (ap log.at zero_place ∙ l.first))))
    (λ ne. none (subst (Has log) same (record { there = e; above = omega (arith, ne); within = low })))

pub extends_added : (most : ℕ) (log : Log) (i : ℕ) → IsLog most log → HasNot log i → i ≢ 0 → Extends log (added log i) i
extends_added most log i l none real = record {
  at = λ k low. put_else log.at (suc log.count) i k (λ e. omega (arith, e, low));
  pos = λ j e low. put_else log.pos i (suc log.count) j (not_member most log i j l none real e low);
  count = omega arith;
  kept = le_refl _;
  marked = le_refl _;
  none = λ j ne h.
      let p : put log.pos i (suc log.count) j ≡ log.pos j = put_else log.pos i (suc log.count) j ne in
      let there : put log.at (suc log.count) i (log.pos j) ≡ j = subst (λ (z : ℕ). put log.at (suc log.count) i z ≡ j) p h.there in
      let within = h.within in
      let above = h.above in
      dite (ℕ_discrete (log.pos j) (suc log.count))
      (λ same. absurd (ne (sym there ∙ put_here log.at (suc log.count) i (log.pos j) same)))
      (λ other. record { there = sym (put_else log.at (suc log.count) i (log.pos j) other) ∙ there; above = omega (arith, above, p); within = omega (arith, within, p, other) });
}

pub log_added : (most : ℕ) (log : Log) (i : ℕ) → IsLog most log → HasNot log i → i ≢ 0 → i < most → log.count ≡ log.kept → IsLog most (added log i)
log_added most log i l none real low full =
    let x = extends_added most log i l none real in
    record {
      first = x.at 0 (omega arith) ∙ l.first;
      real = λ k up. dite (ℕ_discrete k (suc log.count))
          (λ same. subst (λ (z : ℕ). z < most) (sym (put_here log.at (suc log.count) i k same)) low)
          (λ ne. let less : k ≤ log.count = omega (arith, up, ne) in subst (λ (z : ℕ). z < most) (sym (x.at k less)) (l.real k less));
      inverse = λ k up. dite (ℕ_discrete k (suc log.count))
          (λ same. ap (put log.pos i (suc log.count)) (put_here log.at (suc log.count) i k same) ∙ (put_here log.pos i (suc log.count) i refl ∙ sym same))
          (λ ne.
          let less : k ≤ log.count = omega (arith, up, ne) in
          let there = l.inverse k less in
          ap (put log.pos i (suc log.count)) (x.at k less) ∙ (x.pos (log.at k) (ap log.at there) (omega (arith, there, less)) ∙ there));
      marks = l.marks;
      keeps = (let a = l.keeps in omega (arith, a));
      ahead = omega (arith, full);
    }

pub log_kept : (most : ℕ) (log : Log) (k : ℕ) → IsLog most log → k ≤ log.count → IsLog most (kept_to log k)
log_kept most log k l low =
    let a = l.marks in
    let b = l.keeps in
    let d = l.ahead in
    record { first = l.first; real = l.real; inverse = l.inverse; marks = omega (arith, a); keeps = omega (arith, b, low); ahead = omega (arith, d) }

pub log_marked : (most : ℕ) (log : Log) (k : ℕ) → IsLog most log → k ≤ log.kept → IsLog most (marked_to log k)
log_marked most log k l low =
    let a = l.marks in
    record { first = l.first; real = l.real; inverse = l.inverse; marks = omega (arith, a, low); keeps = l.keeps; ahead = l.ahead }

-- ---- what is known of a log stays

pub has_on : (log new : Log) (i j : ℕ) → Extends log new i → Has log j → Has new j
has_on log new i j x h =
    let p = x.pos j h.there h.within in
    let a = h.above in
    let b = h.within in
    let d = x.count in
    record { there = ap new.at p ∙ (x.at (log.pos j) h.within ∙ h.there); above = omega (arith, a, p); within = omega (arith, b, d, p) }

pub kept_on : (most : ℕ) (log new : Log) (i j : ℕ) → IsLog most log → Extends log new i → HasKept log j → HasKept new j
kept_on most log new i j l x h =
    let k = kept_has most log j l h in
    let p = x.pos j h.there k.within in
    let a = h.above in
    let b = h.within in
    let d = x.kept in
    record { there = (has_on log new i j x k).there; above = omega (arith, a, p); within = omega (arith, b, d, p) }

pub kept_pos : (most : ℕ) (log new : Log) (i j : ℕ) → IsLog most log → Extends log new i → HasKept log j → new.pos j ≡ log.pos j
kept_pos most log new i j l x h = x.pos j h.there (kept_has most log j l h).within

pub not_on : (log new : Log) (i j : ℕ) → Extends log new i → j ≢ i → HasNot log j → HasNot new j
not_on log new i j x ne none h = none (x.none j ne h)

pub node_on : (log new : Log) (i a m m2 : ℕ) → Extends log new i → m ≤ log.count → m ≤ m2 → IsNode log a m → IsNode new a m2
node_on log new i a m m2 x low up h =
    let b = h.within in
    let p = x.pos a h.node (le_trans b low) in
    record { node = ap new.at p ∙ (x.at (log.pos a) (le_trans b low) ∙ h.node); within = omega (arith, b, up, p) }

pub link_on : (log new : Log) (i a y m m2 : ℕ) → Extends log new i → m ≤ log.count → m ≤ m2 → IsLink log a y m → IsLink new a y m2
link_on log new i a y m m2 x low up h =
    let b = h.within in
    let p = x.pos a h.node (omega (arith, b, low)) in
    record {
      node = ap new.at p ∙ (x.at (log.pos a) (omega (arith, b, low)) ∙ h.node);
      link = ap (λ z. new.at (suc z)) p ∙ (x.at (suc (log.pos a)) (omega (arith, b, low)) ∙ h.link);
      within = omega (arith, b, up, p);
    }

pub mine_on : (log new : Log) (i j y : ℕ) → Extends log new i → j ≢ i → IsMine log j y → IsMine new j y
mine_on log new i j y x ne h = elim h [
  | inl same ↦ inl same
  | inr none ↦ inr (not_on log new i j x ne none)
]

pub settled_on : (log new : Log) (i j : ℕ) → Extends log new i → j ≢ i → IsSettled log j → IsSettled new j
settled_on log new i j x ne s h =
    let k = x.none j ne h in
    let p = x.pos j k.there k.within in
    let a = s k in
    let b = x.marked in
    omega (arith, a, b, p)

pub passed_on : (log new : Log) (i j k : ℕ) → Extends log new i → j ≢ i → IsPassed log j k → IsPassed new j k
passed_on log new i j k x ne s h up =
    let g = x.none j ne h in
    let p = x.pos j g.there g.within in
    let a = s g (omega (arith, up, p)) in
    let b = x.marked in
    omega (arith, a, b, p)

-- no operation is 0
pub at_real : (most : ℕ) (log : Log) (k : ℕ) → IsLog most log → k < log.count → log.at (suc k) ≢ 0
at_real most log k l low e =
    let a : log.pos (log.at (suc k)) ≡ suc k = l.inverse (suc k) (omega (arith, low)) in
    let b : log.pos (log.at 0) ≡ 0 = l.inverse 0 (omega arith) in
    let d : log.pos (log.at (suc k)) ≡ log.pos (log.at 0) = ap log.pos (e ∙ sym l.first) in
    omega (arith, a, b, d)

-- an operation stands at one place
pub one_place : (most : ℕ) (log : Log) (j k : ℕ) → IsLog most log → j ≤ log.count → k ≤ log.count → log.at j ≡ log.at k → j ≡ k
one_place most log j k l a b e = sym (l.inverse j a) ∙ (ap log.pos e ∙ l.inverse k b)

pub has_of_kept : (log : Log) (k j : ℕ) → Has (kept_to log k) j → Has log j
has_of_kept log k j h = record { there = h.there; above = h.above; within = h.within }

pub has_of_marked : (log : Log) (k j : ℕ) → Has (marked_to log k) j → Has log j
has_of_marked log k j h = record { there = h.there; above = h.above; within = h.within }

-- c + 1 different numbers below m: there are no more of them than m
pub pigeon : (m c : ℕ) (f g : ℕ → ℕ) → ((k : ℕ) → k ≤ c → f k < m) → ((k : ℕ) → k ≤ c → g (f k) ≡ k) → c < m
pigeon zero c f g low back = (let a = low 0 (omega arith) in absurd (omega (arith, a)))
pigeon (suc m) zero f g low back = omega arith
pigeon (suc m) (suc c) f g low back = dite (ℕ_discrete (f (g m)) m)
    (λ hit. dite (dec_le (g m) (suc c))
    (λ within.
    let j : ℕ = g m in
    let last : ℕ = f (suc c) in
    let f2 : ℕ → ℕ = put f (g m) (f (suc c)) in
    let g2 : ℕ → ℕ = put g (f (suc c)) (g m) in
    let less : c < m = pigeon m c (put f (g m) (f (suc c))) (put g (f (suc c)) (g m))
    (λ k up. dite (ℕ_discrete k (g m))
    (λ same. subst (λ (z : ℕ). z < m) (sym (put_here f (g m) (f (suc c)) k same)) (dite (ℕ_discrete (f (suc c)) m)
    (λ is. absurd (let a : g (f (suc c)) ≡ g m = ap g is in let b = back (suc c) (le_refl _) in omega (arith, a, b, same, up)))
    (λ ne. let a = low (suc c) (le_refl _) in omega (arith, a, ne))))
    (λ other. subst (λ (z : ℕ). z < m) (sym (put_else f (g m) (f (suc c)) k other)) (dite (ℕ_discrete (f k) m)
    (λ is. absurd (let a : g (f k) ≡ g m = ap g is in let b = back k (omega (arith, up)) in omega (arith, a, b, other)))
    (λ ne. let a = low k (omega (arith, up)) in omega (arith, a, ne)))))
    (λ k up. dite (ℕ_discrete k (g m))
    (λ same. put_here g (f (suc c)) (g m) (put f (g m) (f (suc c)) k) (put_here f (g m) (f (suc c)) k same) ∙ sym same)
    (λ other. ap (put g (f (suc c)) (g m)) (put_else f (g m) (f (suc c)) k other) ∙ (put_else g (f (suc c)) (g m) (f k) (λ e. (let a : g (f k) ≡ g (f (suc c)) = ap g e in let b = back k (omega (arith, up)) in let d = back (suc c) (le_refl _) in omega (arith, a, b, d, up))) ∙ back k (omega (arith, up))))) in
    omega (arith, less))
    (λ beyond. let less = pigeon m (suc c) f g (λ k up. dite (ℕ_discrete (f k) m)
    (λ is. absurd (let a : g (f k) ≡ g m = ap g is in let b = back k up in beyond (omega (arith, a, b, up))))
    (λ ne. let a = low k up in omega (arith, a, ne))) back in omega (arith, less)))
    (λ none. let less = pigeon m (suc c) f g (λ k up. dite (ℕ_discrete (f k) m)
    (λ is. absurd (none (ap f (sym (ap g is) ∙ back k up) ∙ is)))
    (λ ne. let a = low k up in omega (arith, a, ne))) back in omega (arith, less))

-- a log has no more operations than there are
pub log_fits : (most : ℕ) (log : Log) → IsLog most log → log.count < most
log_fits most log l = pigeon most log.count log.at log.pos l.real l.inverse
