-- One more value in a tally.
use Rattle.std.proofs.Common.{◌≡◌, ◌⊎◌, inl, inr, ℕ, suc, ◌+◌, ◌-◌, ◌^◌, ◌<◌, ◌≤◌, ◌==◌, nat_lt, ℤ, pos, negsuc, ◌+ℤ◌, int_eq, Bool, true, false, not, ◌&&◌, ◌||◌, if◌then◌else◌, List, [], ◌∷◌, ◌++◌, length, Option, Some, None, refl, sym, ap, subst, ◌∙◌, arith, length-append}
use Rattle.std.specs.Int.{int_min, int_max}
use Rattle.std.specs.Option.{is_some}
use Rattle.std.proofs.lemmas.List.Sums.{fold_push}
use Rattle.std.proofs.lemmas.Bool.Decides.{nat_tests}
use Rattle.ds_eval.specs.declared.value.Value.{Value}
use Rattle.ds_eval.specs.declared.value.Value.TheVariants.{Blank, Number, DivZero, Num, Circular}
use Rattle.ds_eval.specs.declared.tally.Wants.{Wants}
use Rattle.ds_eval.specs.declared.tally.Wants.TheVariants.{Sum, Least, Greatest, Zeros}
use Rattle.ds_eval.specs.declared.tally.Totals.{Totals}
use Rattle.ds_eval.specs.declared.tally.Tally.{Tally}
use Rattle.ds_eval.specs.Numbers.{numbers, first_error, error_or, with_all, least, greatest, truth, all_true, some_true}
use Rattle.ds_eval.specs.Tally.{zeros, AreTotals, AreCounted, IsTally}

-- the first error, where there is one, else the second
abbrev first_or : Option Value → Option Value → Option Value
first_or (Some e) o = Some e
first_or None o = o

numbers_push : (vs : List Value) (z : ℤ) → numbers (vs ++ Number z ∷ []) ≡ numbers vs ++ z ∷ []
numbers_push [] z = refl
numbers_push (Blank ∷ vs) z = numbers_push vs z
numbers_push (Number y ∷ vs) z = ap (λ (ns : List ℤ). y ∷ ns) (numbers_push vs z)
numbers_push (DivZero ∷ vs) z = numbers_push vs z
numbers_push (Num ∷ vs) z = numbers_push vs z
numbers_push (Circular ∷ vs) z = numbers_push vs z

numbers_skip : (vs : List Value) (v : Value) → numbers (v ∷ []) ≡ [] → numbers (vs ++ v ∷ []) ≡ numbers vs
numbers_skip [] v e = e
numbers_skip (Blank ∷ vs) v e = numbers_skip vs v e
numbers_skip (Number y ∷ vs) v e = ap (λ (ns : List ℤ). y ∷ ns) (numbers_skip vs v e)
numbers_skip (DivZero ∷ vs) v e = numbers_skip vs v e
numbers_skip (Num ∷ vs) v e = numbers_skip vs v e
numbers_skip (Circular ∷ vs) v e = numbers_skip vs v e

error_push : (vs : List Value) (v : Value) → first_error (vs ++ v ∷ []) ≡ first_or (first_error vs) (first_error (v ∷ []))
error_push [] v = refl
error_push (Blank ∷ vs) v = error_push vs v
error_push (Number y ∷ vs) v = error_push vs v
error_push (DivZero ∷ vs) v = refl
error_push (Num ∷ vs) v = refl
error_push (Circular ∷ vs) v = refl

or_none : (o : Option Value) → first_or o None ≡ o
or_none None = refl
or_none (Some e) = refl

-- ---- the least and the greatest number

least_push : (ns : List ℤ) (z : ℤ) → 0 < length ns → least (ns ++ z ∷ []) ≡ int_min (least ns) z
least_push [] z h = absurd (omega (arith, h))
least_push (n ∷ ns) z h = fold_push int_min n ns z

greatest_push : (ns : List ℤ) (z : ℤ) → 0 < length ns → greatest (ns ++ z ∷ []) ≡ int_max (greatest ns) z
greatest_push [] z h = absurd (omega (arith, h))
greatest_push (n ∷ ns) z h = fold_push int_max n ns z

-- the first number is less than the greatest one that there could be, or that one
abbrev pub NoGreater : ℤ → Type 0
NoGreater z = int_min (pos (2 ^ 63 - 1)) z ≡ z

-- the number is greater than the least one that there could be, or that one
abbrev pub NoLess : ℤ → Type 0
NoLess z = int_max (negsuc (2 ^ 63 - 1)) z ≡ z

least_more : (ns : List ℤ) (z x y : ℤ) → NoGreater z → (length ns ≡ 0 → x ≡ pos (2 ^ 63 - 1)) → (0 < length ns → x ≡ least ns) → y ≡ int_min x z → y ≡ least (ns ++ z ∷ [])
least_more [] z x y f none some e = e ∙ ap (λ (w : ℤ). int_min w z) (none refl) ∙ f
least_more (n ∷ ns) z x y f none some e = e ∙ ap (λ (w : ℤ). int_min w z) (some (omega arith)) ∙ sym (least_push (n ∷ ns) z (omega arith))

greatest_more : (ns : List ℤ) (z x y : ℤ) → NoLess z → (length ns ≡ 0 → x ≡ negsuc (2 ^ 63 - 1)) → (0 < length ns → x ≡ greatest ns) → y ≡ int_max x z → y ≡ greatest (ns ++ z ∷ [])
greatest_more [] z x y f none some e = e ∙ ap (λ (w : ℤ). int_max w z) (none refl) ∙ f
greatest_more (n ∷ ns) z x y f none some e = e ∙ ap (λ (w : ℤ). int_max w z) (some (omega arith)) ∙ sym (greatest_push (n ∷ ns) z (omega arith))

-- ---- zeros

zeros_push : (ns : List ℤ) (z : ℤ) → zeros (ns ++ z ∷ []) ≡ zeros ns + (if int_eq z (pos 0) then 1 else 0)
zeros_push [] z = omega arith
zeros_push (n ∷ ns) z = let k = zeros_push ns z in omega (arith, k)

one_at_most : (b : Bool) → (if b then 1 else 0) ≤ 1
one_at_most true = omega arith
one_at_most false = omega arith

zeros_few : (ns : List ℤ) → zeros ns ≤ length ns
zeros_few [] = omega arith
zeros_few (n ∷ ns) = let k = zeros_few ns in let o = one_at_most (int_eq n (pos 0)) in omega (arith, k, o)

no_zero_more : (b : Bool) (k : ℕ) (t : Bool) → (k == 0) ≡ t → (((if b then 1 else 0) + k) == 0) ≡ (not b && t)
no_zero_more true k t e = grind (arith, nat_tests)
no_zero_more false k t e = ap (λ (n : ℕ). n == 0) (let z : 0 + k ≡ k = omega arith in z) ∙ e

fewer_more : (b : Bool) (k n : ℕ) (t : Bool) → nat_lt k n ≡ t → k ≤ n → nat_lt ((if b then 1 else 0) + k) (suc n) ≡ (not b || t)
fewer_more true k n true e l = grind (arith, nat_tests)
fewer_more true k n false e l = grind (arith, nat_tests)
fewer_more false k n t e l = grind (arith, nat_tests)

-- no number is 0 just where all hold
pub no_zeros : (ns : List ℤ) → (zeros ns == 0) ≡ all_true ns
no_zeros [] = refl
no_zeros (n ∷ ns) = no_zero_more (int_eq n (pos 0)) (zeros ns) (all_true ns) (no_zeros ns)

-- fewer zeros than numbers are there just where some number holds
pub fewer_zeros : (ns : List ℤ) → nat_lt (zeros ns) (length ns) ≡ some_true ns
fewer_zeros [] = refl
fewer_zeros (n ∷ ns) = fewer_more (int_eq n (pos 0)) (zeros ns) (length ns) (some_true ns) (fewer_zeros ns) (zeros_few ns)

-- ---- one more value

totals_more : (w : Wants) (ns : List ℤ) (z : ℤ) (t u : Totals) → NoGreater z → NoLess z → u.count ≡ t.count + 1 → (w ≡ Zeros → u.zeros ≡ t.zeros + (if int_eq z (pos 0) then 1 else 0)) → (w ≡ Sum → u.sum ≡ t.sum +ℤ z)
    → (w ≡ Least → u.least ≡ int_min t.least z) → (w ≡ Greatest → u.greatest ≡ int_max t.greatest z)
    → AreTotals w ns t → AreTotals w (ns ++ z ∷ []) u
totals_more w ns z t u f g a o b c d h = record {
  count = a ∙ ap (λ (n : ℕ). n + 1) h.count ∙ sym (length-append ns (z ∷ []));
  zeros = λ q. o q ∙ ap (λ (n : ℕ). n + (if int_eq z (pos 0) then 1 else 0)) (h.zeros q) ∙ sym (zeros_push ns z);
  sum = λ q. b q ∙ ap (λ (x : ℤ). x +ℤ z) (h.sum q) ∙ sym (fold_push ◌+ℤ◌ (pos 0) ns z);
  least = λ q _. least_more ns z t.least u.least f h.no_least (h.least q) (c q);
  greatest = λ q _. greatest_more ns z t.greatest u.greatest g h.no_greatest (h.greatest q) (d q);
  no_least = λ e. absurd (omega (arith, e, length-append ns (z ∷ [])));
  no_greatest = λ e. absurd (omega (arith, e, length-append ns (z ∷ [])));
}

-- the totals with one more number, which is y by its bits
pub record IsMore (w : Wants) (z : ℤ) (t u : Totals) : Type 0 where
  pub y : ℤ
  pub same : y ≡ z
  pub no_greater : NoGreater y
  pub no_less : NoLess y
  pub count : u.count ≡ t.count + 1
  pub zeros : w ≡ Zeros → u.zeros ≡ t.zeros + (if int_eq y (pos 0) then 1 else 0)
  pub sum : w ≡ Sum → u.sum ≡ t.sum +ℤ y
  pub least : w ≡ Least → u.least ≡ int_min t.least y
  pub greatest : w ≡ Greatest → u.greatest ≡ int_max t.greatest y

number_totals : (w : Wants) (vs : List Value) (z : ℤ) (t u : Totals) → IsMore w z t u → AreTotals w (numbers vs) t → AreTotals w (numbers (vs ++ Number z ∷ [])) u
number_totals w vs z t u m h =
    let ns = numbers vs in
    let more : AreTotals w (ns ++ z ∷ []) u =
    subst (λ (x : ℤ). AreTotals w (ns ++ x ∷ []) u) m.same (totals_more w ns m.y t u m.no_greater m.no_less m.count m.zeros m.sum m.least m.greatest h) in
    subst (λ (xs : List ℤ). AreTotals w xs u) (sym (numbers_push vs z)) more

blank_totals : (w : Wants) (vs : List Value) (t : Totals) → AreTotals w (numbers vs) t → AreTotals w (numbers (vs ++ Blank ∷ [])) t
blank_totals w vs t h = subst (λ (xs : List ℤ). AreTotals w xs t) (sym (numbers_skip vs Blank refl)) h

-- a number after values leaves their first error
pub number_error : (vs : List Value) (z : ℤ) → first_error (vs ++ Number z ∷ []) ≡ first_error vs
number_error vs z = error_push vs (Number z) ∙ or_none (first_error vs)

-- a blank after values leaves their first error
pub blank_error : (vs : List Value) → first_error (vs ++ Blank ∷ []) ≡ first_error vs
blank_error vs = error_push vs Blank ∙ or_none (first_error vs)

-- the totals with one number more are those of the values with that number after them
pub number_counted : (w : Wants) (vs : List Value) (z : ℤ) (t u : Totals) → IsMore w z t u → AreCounted w vs t → AreCounted w (vs ++ Number z ∷ []) u
number_counted w vs z t u m h = record { no_error = number_error vs z ∙ h.no_error; sums = number_totals w vs z t u m h.sums }

-- a blank changes no totals
pub blank_counted : (w : Wants) (vs : List Value) (t : Totals) → AreCounted w vs t → AreCounted w (vs ++ Blank ∷ []) t
blank_counted w vs t h = record { no_error = blank_error vs ∙ h.no_error; sums = blank_totals w vs t h.sums }

-- a tally's totals with one number more are of the values with that number after them
pub number_more : (w : Wants) (vs : List Value) (z : ℤ) (t : Tally) (u : Totals) → IsMore w z t.totals u → IsTally w vs t → IsTally w (vs ++ Number z ∷ []) (record { totals = u; error = t.error })
number_more w vs z t u m h = record {
  error = h.error ∙ sym (number_error vs z);
  totals = λ none. number_totals w vs z t.totals u m (h.totals (sym (number_error vs z) ∙ none));
}

-- a blank changes no tally
pub blank_more : (w : Wants) (vs : List Value) (t : Tally) → IsTally w vs t → IsTally w (vs ++ Blank ∷ []) t
blank_more w vs t h = record { error = h.error ∙ sym (blank_error vs); totals = λ none. blank_totals w vs t.totals (h.totals (sym (blank_error vs) ∙ none)) }

abbrev no_error : Option Value
no_error = None

never_none : (o : Option Value) (v : Value) → first_or o (Some v) ≡ no_error → ⊥
never_none None v e = cc
never_none (Some w) v e = cc

-- a tally with an error more keeps the first one
pub error_more : (w : Wants) (vs : List Value) (v : Value) (t u : Tally) → first_error (v ∷ []) ≡ Some v → u.error ≡ first_or t.error (Some v) → IsTally w vs t → IsTally w (vs ++ v ∷ []) u
error_more w vs v t u f e h =
    let pushed = error_push vs v ∙ ap (first_or (first_error vs)) f in
    record {
      error = e ∙ ap (λ (o : Option Value). first_or o (Some v)) h.error ∙ sym pushed;
      totals = λ none. absurd (never_none (first_error vs) v (sym pushed ∙ none));
    }

-- ---- after an error

-- the first error among values stays the first, whatever comes after them
pub error_stays : (vs ws : List Value) (e : Value) → first_error vs ≡ Some e → first_error (vs ++ ws) ≡ Some e
error_stays [] ws e h = absurd cc
error_stays (Blank ∷ vs) ws e h = error_stays vs ws e h
error_stays (Number y ∷ vs) ws e h = error_stays vs ws e h
error_stays (DivZero ∷ vs) ws e h = h
error_stays (Num ∷ vs) ws e h = h
error_stays (Circular ∷ vs) ws e h = h

-- the first error, after values that have none
pub first_here : (vs : List Value) (v : Value) → first_error (v ∷ []) ≡ Some v → first_error vs ≡ None → first_error (vs ++ v ∷ []) ≡ Some v
first_here vs v f none = error_push vs v ∙ ap (λ (o : Option Value). first_or o (first_error (v ∷ []))) none ∙ f

still : (vs ws : List Value) (o : Option Value) → is_some o ≡ true → o ≡ first_error vs → first_error (vs ++ ws) ≡ first_error vs
still vs ws None e h = absurd cc
still vs ws (Some v) e h = error_stays vs ws v (sym h) ∙ h

some_error : (o : Option Value) → is_some o ≡ true → o ≡ no_error → ⊥
some_error None e n = cc
some_error (Some v) e n = cc

-- after an error nothing is used
pub after_error : (w : Wants) (vs ws : List Value) (t : Tally) → is_some t.error ≡ true → IsTally w vs t → IsTally w (vs ++ ws) t
after_error w vs ws t e h =
    let same = still vs ws t.error e h.error in
    record { error = h.error ∙ sym same; totals = λ none. absurd (some_error t.error e (h.error ∙ sym same ∙ none)) }

-- ---- a tally from totals, or from the first error

not_some : (o : Option Value) → is_some o ≡ false → o ≡ None
not_some None e = refl
not_some (Some v) e = absurd cc

-- a tally without an error has the totals of its values
pub counted : (w : Wants) (vs : List Value) (t : Tally) → is_some t.error ≡ false → IsTally w vs t → AreCounted w vs t.totals
counted w vs t e h = let none = sym h.error ∙ not_some t.error e in record { no_error = none; sums = h.totals none }

-- the totals of values without an error are their tally
pub tally_of : (w : Wants) (vs : List Value) (t : Totals) → AreCounted w vs t → IsTally w vs (record { totals = t; error = None })
tally_of w vs t h = record { error = sym h.no_error; totals = λ none. h.sums }

-- the first error among values is their tally, with any totals
pub tally_stopped : (w : Wants) (vs : List Value) (t : Totals) (e : Value) → first_error vs ≡ Some e → IsTally w vs (record { totals = t; error = Some e })
tally_stopped w vs t e h = record { error = sym h; totals = λ none. absurd (let x : Some e ≡ no_error = sym h ∙ none in cc) }

-- ---- which values are errors

-- each of the three errors is the first error of itself alone
pub is_error : (v : Value) → (v ≡ DivZero) ⊎ ((v ≡ Num) ⊎ (v ≡ Circular)) → first_error (v ∷ []) ≡ Some v
is_error DivZero e = refl
is_error Num e = refl
is_error Circular e = refl
is_error Blank (inl e) = absurd cc
is_error Blank (inr (inl e)) = absurd cc
is_error Blank (inr (inr e)) = absurd cc
is_error (Number z) (inl e) = absurd cc
is_error (Number z) (inr (inl e)) = absurd cc
is_error (Number z) (inr (inr e)) = absurd cc

-- ---- what a tally says of its numbers

from_totals : (w : Wants) (vs : List Value) (t : Tally) (f : List ℤ → Value) (v : Value) → t.error ≡ None → IsTally w vs t → (AreTotals w (numbers vs) t.totals → v ≡ f (numbers vs)) → v ≡ with_all vs f
from_totals w vs t f v e h g =
    let none : first_error vs ≡ None = sym h.error ∙ e in
    g (h.totals none) ∙ ap (λ (o : Option Value). error_or o (f (numbers vs))) (sym none)

-- AND's value by the count of zeros: 1 where none of the numbers is 0
pub all_told : (vs : List Value) (t : Tally) (v : Value) → t.error ≡ None → v ≡ truth (t.totals.zeros == 0) → IsTally Zeros vs t → v ≡ with_all vs (λ ns. truth (all_true ns))
all_told vs t v e is h = from_totals Zeros vs t (λ ns. truth (all_true ns)) v e h (λ a. is ∙ ap (λ (n : ℕ). truth (n == 0)) (a.zeros refl) ∙ ap truth (no_zeros (numbers vs)))

-- OR's value by the count of zeros: 1 where they are fewer than the numbers
pub some_told : (vs : List Value) (t : Tally) (v : Value) → t.error ≡ None → v ≡ truth (nat_lt t.totals.zeros t.totals.count) → IsTally Zeros vs t → v ≡ with_all vs (λ ns. truth (some_true ns))
some_told vs t v e is h =
    from_totals Zeros vs t (λ ns. truth (some_true ns)) v e h
    (λ a. is ∙ ap (λ (n : ℕ). truth (nat_lt n t.totals.count)) (a.zeros refl) ∙ ap (λ (n : ℕ). truth (nat_lt (zeros (numbers vs)) n)) a.count ∙ ap truth (fewer_zeros (numbers vs)))
