-- Words of letters, digits and `$`: they stay as they are in A1 notation, and are one token there.
use Rattle.std.proofs.Common.{◌≡◌, ℕ, Bool, true, false, cond, eqb, eqb-true, ◌&&◌, ◌||◌, not, List, [], ◌∷◌, ◌++◌, refl, sym, ap, ◌∙◌}
use Rattle.std.specs.Char.{is_ascii_alphabetic, is_ascii_digit}
use Rattle.ds_a1.specs.Tokens.{Token, Word, Mark, is_word_byte, joined, tokens}
use Rattle.ds_a1.specs.Notation.{stays, bare}
use Rattle.ds_a1.proofs.Steps.{mark_front}

-- whether a byte is a letter, a digit or `$`
abbrev pub is_solid : ℕ → Bool
is_solid b = is_ascii_alphabetic b || (is_ascii_digit b || eqb b 36)

-- whether all of these are
abbrev pub are_solid : List ℕ → Bool
are_solid [] = true
are_solid (b ∷ bs) = is_solid b && are_solid bs

pub both : (s t : Bool) → (s && t) ≡ true → (s ≡ true) × (t ≡ true)
both true t e = (refl, e)
both false t e = let bad : false ≡ true = e in cc

pub either_of : (s t : Bool) → (s || t) ≡ true → s ≡ false → t ≡ true
either_of true t e h = cc
either_of false t e h = e

-- a byte with a property differs from one without it
pub differs : (p : ℕ → Bool) (b c : ℕ) → p b ≡ true → p c ≡ false → eqb b c ≡ false
differs p b c has lacks = by_test (eqb b c) refl where
  by_test : (t : Bool) → eqb b c ≡ t → t ≡ false
  by_test true h = let k : b ≡ c = eqb-true b c h in cc (ap p k)
  by_test false h = refl

solid_word : (b : ℕ) → is_solid b ≡ true → is_word_byte b ≡ true
solid_word b e = by_test (is_ascii_alphabetic b) (is_ascii_digit b) (eqb b 46) (eqb b 95) (eqb b 36) e where
  by_test : (l d m u r : Bool) → (l || (d || r)) ≡ true → ((((l || d) || m) || u) || r) ≡ true
  by_test true d m u r e = refl
  by_test false true m u r e = refl
  by_test false false true u true e = refl
  by_test false false false true true e = refl
  by_test false false false false true e = refl
  by_test false false m u false e = let bad : false ≡ true = e in cc

solid_stays : (b : ℕ) → is_solid b ≡ true → stays b ≡ true
solid_stays b e =
    let open_one : eqb b 91 ≡ false = differs is_solid b 91 e refl in
    let close_one : eqb b 93 ≡ false = differs is_solid b 93 e refl in
    let dot : eqb b 46 ≡ false = differs is_solid b 46 e refl in
    by_test (eqb b 91) (eqb b 93) (eqb b 46) open_one close_one dot where
      by_test : (x y z : Bool) → x ≡ false → y ≡ false → z ≡ false → cond (x || y) false (cond z false true) ≡ true
      by_test false false false p q r = refl
      by_test true y z p q r = cc
      by_test false true z p q r = cc
      by_test false false true p q r = cc

-- a solid byte stays as it is
solid_bare : (b : ℕ) (bs : List ℕ) → is_solid b ≡ true → bare (b ∷ bs) ≡ b ∷ bare bs
solid_bare b bs e =
    let comma : eqb b 59 ≡ false = differs is_solid b 59 e refl in
    by_test (stays b) (eqb b 59) (solid_stays b e) comma where
      by_test : (s t : Bool) → s ≡ true → t ≡ false → cond s (cond t 44 b ∷ bare bs) (bare bs) ≡ b ∷ bare bs
      by_test true false p q = refl
      by_test true true p q = cc
      by_test false t p q = cc

-- solid bytes stay as they are
pub solids_bare : (w rest : List ℕ) → are_solid w ≡ true → bare (w ++ rest) ≡ w ++ bare rest
solids_bare [] rest e = refl
solids_bare (b ∷ w) rest e =
    let h = both (is_solid b) (are_solid w) e in
    solid_bare b (w ++ rest) h.0 ∙ ap (λ (t : List ℕ). b ∷ t) (solids_bare w rest h.1)

-- whether a word ends before these bytes
abbrev pub parts : List ℕ → Bool
parts [] = true
parts (b ∷ bs) = not (is_word_byte b)

pub letter_front : (b : ℕ) (bs : List ℕ) → is_word_byte b ≡ true → tokens (b ∷ bs) ≡ joined b (tokens bs)
unfolding tokens
letter_front b bs e = ap (λ (t : Bool). cond t (joined b (tokens bs)) (Mark b ∷ tokens bs)) e

not_true : (t : Bool) → not t ≡ true → t ≡ false
not_true true e = let bad : false ≡ true = e in cc
not_true false e = refl

-- a byte before the end of a word is a word
last_one : (b : ℕ) (n : List ℕ) → parts n ≡ true → joined b (tokens n) ≡ Word (b ∷ []) ∷ tokens n
unfolding tokens
last_one b [] e = refl
last_one b (x ∷ xs) e =
    let m = mark_front x xs (not_true (is_word_byte x) e) in
    ap (joined b) m ∙ sym (ap (λ (ts : List Token). Word (b ∷ []) ∷ ts) m)

-- solid bytes before the end of a word are one word
pub solids_word : (b : ℕ) (w n : List ℕ) → are_solid (b ∷ w) ≡ true → parts n ≡ true → tokens ((b ∷ w) ++ n) ≡ Word (b ∷ w) ∷ tokens n
solids_word b [] n e p = letter_front b n (solid_word b (both (is_solid b) true e).0) ∙ last_one b n p
solids_word b (x ∷ w) n e p =
    let h = both (is_solid b) (are_solid (x ∷ w)) e in
    letter_front b ((x ∷ w) ++ n) (solid_word b h.0) ∙ ap (joined b) (solids_word x w n h.1 p)
