-- The digits of a number are read back.
use Rattle.std.proofs.Common.{◌≡◌, inl, inr, ℕ, ◌+◌, ◌-◌, ◌*◌, ◌/◌, ◌%◌, ◌^◌, ◌<◌, ◌≤◌, Bool, true, false, cond, eqb, leb, List, [], ◌∷◌, ◌++◌, append_assoc, Ok, Err, refl, ap, ◌∙◌, arith}
use Rattle.std.proofs.lemmas.Bool.{le-leb}
use Rattle.std.proofs.lemmas.Bool.Decides.{nat_tests, eqb_tells}
use Rattle.std.proofs.lemmas.Fmt.{decimal_by_steps}
use Rattle.std.specs.Fmt.{decimal}
use Rattle.std.specs.Char.{is_ascii_digit}
use Rattle.ds_formula.specs.declared.fault.FaultKind.TheVariants.{NotWhole, NumberTooLarge}
use Rattle.ds_formula.specs.Bytes.{Read, stop_at, unexpected_stop, is_space, skipped, number_from, goes_on_as_fraction, number_at}

-- the test says false of two numbers that differ
pub unequal : (a b : ℕ) → (a ≡ b → ⊥) → eqb a b ≡ false
unequal a b h = elim (eqb_tells a b) [
  | inl p ↦ absurd (h p.1)
  | inr p ↦ p.0
]

-- the bytes from 48 to 57 are digits
pub is_digit : (b : ℕ) → 48 ≤ b → b ≤ 57 → is_ascii_digit b ≡ true
is_digit b h k = grind (arith, nat_tests)

pub no_digit : (b : ℕ) → 58 ≤ b → is_ascii_digit b ≡ false
no_digit b h = grind (arith, nat_tests)

pub no_space : (b : ℕ) → 33 ≤ b → is_space b ≡ false
no_space b h =
    let p : eqb b 32 ≡ false = unequal b 32 (λ e. omega (arith, h, e)) in
    let q : eqb b 9 ≡ false = unequal b 9 (λ e. omega (arith, h, e)) in
    let r : eqb b 10 ≡ false = unequal b 10 (λ e. omega (arith, h, e)) in
    let s : eqb b 13 ≡ false = unequal b 13 (λ e. omega (arith, h, e)) in
    rw (p, q, r, s) refl

-- a byte above 32 isn't white space: nothing is skipped before it
pub not_skipped : (b : ℕ) (bs : List ℕ) → 33 ≤ b → skipped (b ∷ bs) ≡ b ∷ bs
not_skipped b bs h = ap (λ (t : Bool). cond t (skipped bs) (b ∷ bs)) (no_space b h)

-- ---- digits

digit_step : (m d : ℕ) (rest : List ℕ) → d < 10 → number_from m ((48 + d) ∷ rest) ≡ number_from (10 * m + d) rest
digit_step m d rest h =
    let e : is_ascii_digit (48 + d) ≡ true = is_digit (48 + d) (omega arith) (omega arith) in
    let k : 10 * m + ((48 + d) - 48) ≡ 10 * m + d = omega arith in
    ap (λ (t : Bool). cond t (number_from (10 * m + ((48 + d) - 48)) rest) (m, (48 + d) ∷ rest)) e ∙ ap (λ (x : ℕ). number_from x rest) k

abbrev Through : ℕ → List ℕ → Type 0
Through n ds = (rest : List ℕ) → number_from 0 (ds ++ rest) ≡ number_from n rest

-- reading a number's decimal gives that number, and reading goes on after it
pub number_through : (n : ℕ) → n < 2 ^ 64 → (rest : List ℕ) → number_from 0 (decimal n ++ rest) ≡ number_from n rest
number_through n h = decimal_by_steps Through
    (λ m l rest. digit_step 0 m rest l ∙ ap (λ (x : ℕ). number_from x rest) (let x : 10 * 0 + m ≡ m = omega arith in x))
    (λ m ds l ih rest.
    let a : number_from 0 ((ds ++ (48 + m % 10) ∷ []) ++ rest) ≡ number_from 0 (ds ++ (48 + m % 10) ∷ rest) = ap (number_from 0) (append_assoc ds ((48 + m % 10) ∷ []) rest) in
    let k : m % 10 < 10 = omega arith in
    let b : 10 * (m / 10) + m % 10 ≡ m = omega arith in
    a ∙ ih ((48 + m % 10) ∷ rest) ∙ digit_step (m / 10) (m % 10) rest k ∙ ap (λ (x : ℕ). number_from x rest) b)
    n h

-- a digit stands first, and not 0 but for 0
pub record StartsDigit (n : ℕ) (ds : List ℕ) : Type 0 where
  pub head : ℕ
  pub tail : List ℕ
  pub is : ds ≡ head ∷ tail
  pub low : 48 ≤ head
  pub high : head ≤ 57
  pub positive : 0 < n → 49 ≤ head

-- the decimal of a number below 2^64 begins with a digit, and not with 0 where the number isn't 0
pub decimal_starts : (n : ℕ) → n < 2 ^ 64 → StartsDigit n (decimal n)
decimal_starts n h = decimal_by_steps StartsDigit
    (λ m l. record { head = 48 + m; tail = []; is = refl; low = omega arith; high = omega arith; positive = λ p. omega (arith, p) })
    (λ m ds l ih. record {
      head = ih.head;
      tail = ih.tail ++ (48 + m % 10) ∷ [];
      is = ap (λ (x : List ℕ). x ++ (48 + m % 10) ∷ []) ih.is;
      low = ih.low;
      high = ih.high;
      positive = λ p. ih.positive (omega (arith, l));
    })
    n h

-- ---- what may stand after a number

-- whether a digit is at the front
abbrev pub starts_digit : List ℕ → Bool
starts_digit [] = false
starts_digit (b ∷ bs) = is_ascii_digit b

-- neither a digit, nor a point or an exponent
pub record Parts (rest : List ℕ) : Type 0 where
  pub digit : starts_digit rest ≡ false
  pub fraction : goes_on_as_fraction rest ≡ false

-- where no digit follows, the number that was read so far is the number
pub number_stops : (n : ℕ) (rest : List ℕ) → starts_digit rest ≡ false → number_from n rest ≡ (n, rest)
number_stops n [] e = refl
number_stops n (b ∷ bs) e = ap (λ (t : Bool). cond t (number_from (10 * n + (b - 48)) bs) (n, b ∷ bs)) e

abbrev fine : ℕ → List ℕ → ℕ × List ℕ → Read ℕ
fine limit text r = cond (goes_on_as_fraction r.1) (Err (stop_at NotWhole r.1)) (cond (leb r.0 limit) (Ok r) (Err (stop_at NumberTooLarge text)))

number_at_of : (limit : ℕ) (text : List ℕ) (n : ℕ) (rest : List ℕ) → starts_digit text ≡ true → number_from 0 text ≡ (n, rest) → goes_on_as_fraction rest ≡ false → n ≤ limit → number_at limit text ≡ Ok (n, rest)
unfolding number_at
number_at_of limit [] n rest e p f l = absurd cc
number_at_of limit (b ∷ bs) n rest e p f l =
    ap (λ (t : Bool). cond t (fine limit (b ∷ bs) (number_from 0 (b ∷ bs))) (Err (unexpected_stop (b ∷ bs)))) e ∙ ap (fine limit (b ∷ bs)) p
    ∙ ap (λ (t : Bool). cond t (Err (stop_at NotWhole rest)) (cond (leb n limit) (Ok (n, rest)) (Err (stop_at NumberTooLarge (b ∷ bs))))) f
    ∙ ap (λ (t : Bool). cond t (Ok (n, rest)) (Err (stop_at NumberTooLarge (b ∷ bs)))) (le-leb n limit l)

pub starts_text : (n : ℕ) (rest : List ℕ) (d : StartsDigit n (decimal n)) → starts_digit (decimal n ++ rest) ≡ true
starts_text n rest d = ap (λ (x : List ℕ). starts_digit (x ++ rest)) d.is ∙ is_digit d.head d.low d.high

-- the decimal of a number within the limit is read back as that number
pub number_back : (limit n : ℕ) (rest : List ℕ) → n ≤ limit → n < 2 ^ 64 → Parts rest → number_at limit (decimal n ++ rest) ≡ Ok (n, rest)
number_back limit n rest l h e = number_at_of limit (decimal n ++ rest) n rest (starts_text n rest (decimal_starts n h)) (number_through n h rest ∙ number_stops n rest e.digit) e.fraction l
