-- Passes go into homes, and out of them, one by one.
use Rattle.std.proofs.Common.{ℕ, zero, suc, ◌≡◌, ◌<◌, ◌+◌, List, [], ◌∷◌, ◌++◌, map, length, get_or, sym, ap, subst, ◌∙◌, arith, All}
use Rattle.std.proofs.lemmas.List.{append_assoc, map_push, length-append, length-map}
use Rattle.std.proofs.lemmas.List.Elements.{All-push}
use Rattle.std.proofs.lemmas.List.FromFn.{get_or-range_with_len, length-range_with_len}
use Rattle.std.proofs.Math.Seq.{get_or-append_seam}
use Rattle.std.specs.List.{range_with_len}
use Rattle.pq_seats.specs.declared.pass.Pass.{Pass}
use Rattle.atomic_table.specs.Seated.{TableId}
use Rattle.pq_seats.specs.Known.{IsOf}
use Rattle.pq_seats.specs.Turns.{IsSameAll}
use Rattle.pq_seats.specs.declared.ring.Home.{Home}

-- the head of the one list goes to the end of the other
pub moved : {X Y Z : Type 0} (f : X → Z) (g : Y → Z) (xs : List X) (x : X) (y : Y) (ys : List Y) (all : List Z) → map f xs ++ map g (y ∷ ys) ≡ all → f x ≡ g y → map f (xs ++ x ∷ []) ++ map g ys ≡ all
moved f g xs x y ys all so_far same =
    ap (λ l. l ++ map g ys) (map_push f xs x) ∙ (append_assoc (map f xs) (f x ∷ []) (map g ys) ∙ (ap (λ z. map f xs ++ z ∷ map g ys) same ∙ so_far))

-- after this many numbers of a row from 0 comes this one
pub next_in_row : (xs : List ℕ) (y : ℕ) (ys : List ℕ) (n : ℕ) → xs ++ y ∷ ys ≡ range_with_len 0 n → y ≡ length xs
next_in_row xs y ys n is =
    let long : length xs + suc (length ys) ≡ n = sym (length-append xs (y ∷ ys)) ∙ (ap length is ∙ length-range_with_len 0 n) in
    sym (get_or-append_seam xs y ys 0) ∙ (ap (λ l. get_or l (length xs) 0) is ∙ (get_or-range_with_len 0 n (length xs) 0 (omega (arith, long)) ∙ (omega arith)))

-- a pass is of the queue that those before it are of
pub still_of : (t : TableId) (n : ℕ) (before : List Pass) (p : Pass) → 0 < length before → IsSameAll before p → All (λ q. IsOf t n q) before → IsOf t n p
still_of t n before p some same of =
    let first = get_or before 0 p in let is = same 0 p some in let has = of 0 p some in
    record { table_is = is.0 ∙ has.table_is; process = subst (λ k. k < n) (sym is.1) has.process }

-- and of their process
pub still_process : (n : ℕ) (before : List Pass) (p : Pass) → 0 < length before → IsSameAll before p → All (λ q. q.process ≡ n) before → p.process ≡ n
still_process n before p some same are = (same 0 p some).1 ∙ are 0 p some

-- what holds of all holds of the first, and of the others
pub head_all : {X : Type 0} (P : X → Type 0) (x : X) (xs : List X) → All P (x ∷ xs) → P x
head_all P x xs all = all 0 x (omega arith)

-- what holds of all of a list holds of all after its first element
pub tail_all : {X : Type 0} (P : X → Type 0) (x : X) (xs : List X) → All P (x ∷ xs) → All P xs
tail_all P x xs all = λ k d below. all (suc k) d (omega (arith, below))

-- what holds of an element holds of all of a list of that one
pub only : {X : Type 0} (P : X → Type 0) (x : X) → P x → All P (x ∷ [])
only P x here = All-push P [] x (λ k d low. absurd (omega (arith, low))) here

pub cons_all : {X : Type 0} (P : X → Type 0) (x : X) (xs : List X) → P x → All P xs → All P (x ∷ xs)
cons_all P x xs here all zero d low = here
cons_all P x xs here all (suc k) d low = all k d (omega (arith, low))

heads : {X : Type 0} (x y : X) (xs ys : List X) → x ∷ xs ≡ y ∷ ys → (x ≡ y) × (xs ≡ ys)
heads x y xs ys e = (cc, cc)

-- the pass of the next process is laid into the next home
pub next_home : (homes : List Home) (pass : Pass) (rest passes : List Pass) → map (λ (h : Home). h.process) homes ++ map (λ (p : Pass). p.process) (pass ∷ rest) ≡ map (λ (p : Pass). p.process) passes
    → map (λ (p : Pass). p.process) passes ≡ range_with_len 0 (length passes) → pass.process ≡ length homes
next_home homes pass rest passes so_far order = next_in_row (map (λ (h : Home). h.process) homes) pass.process (map (λ (p : Pass). p.process) rest) (length passes) (so_far ∙ order) ∙ length-map homes (λ (h : Home). h.process)

-- each home has one pass, of which this holds: so that holds of each home
pub spread : (R : Home → Type 0) (g : Home → List Pass) (P : Pass → Type 0) → ((h : Home) (p : Pass) → g h ≡ p ∷ [] → P p → R h)
    → (homes : List Home) (passes : List Pass) → map g homes ≡ map (λ (p : Pass). p ∷ []) passes → All P passes → All R homes
spread R g P to [] passes e all = λ k d low. absurd (omega (arith, low))
spread R g P to (h ∷ hs) [] e all = absurd (let bad : suc (length (map g hs)) ≡ 0 = ap length e in omega (arith, bad))
spread R g P to (h ∷ hs) (p ∷ ps) e all =
    let both = heads (g h) (p ∷ []) (map g hs) (map (λ (q : Pass). q ∷ []) ps) e in
    cons_all R h hs (to h p both.0 (head_all P p ps all)) (spread R g P to hs ps both.1 (tail_all P p ps all))

-- as many passes as processes
pub as_many_passes : (passes : List Pass) (n : ℕ) → map (λ (p : Pass). p.process) passes ≡ range_with_len 0 n → length passes ≡ n
as_many_passes passes n order = sym (length-map passes (λ (p : Pass). p.process)) ∙ (ap length order ∙ length-range_with_len 0 n)
