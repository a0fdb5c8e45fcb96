-- The tokens at the front of a text, and what they are in OpenFormula.
use Rattle.std.proofs.Common.{◌≡◌, ℕ, zero, suc, ◌<◌, Bool, true, false, cond, eqb, eqb-true, ◌&&◌, not, List, [], ◌∷◌, ◌++◌, take, drop, length, get_or, append_assoc, append-nil, refl, sym, ap, subst, ◌∙◌, arith}
use Rattle.ds_formula.specs.Bytes.{begins}
use Rattle.ds_a1.specs.Tokens.{Token, Word, Mark, is_word_byte, joined, tokens, is_cell, begins_mark, begins_reference, goes_on}
use Rattle.ds_a1.specs.Words.{word_length}
use Rattle.ds_a1.specs.Notation.{opened, opened_mark, before, after}

-- a byte that is none of a word is a token
pub mark_front : (b : ℕ) (bs : List ℕ) → is_word_byte b ≡ false → tokens (b ∷ bs) ≡ Mark b ∷ tokens bs
unfolding tokens
mark_front b bs e = ap (λ (t : Bool). cond t (joined b (tokens bs)) (Mark b ∷ tokens bs)) e

letter_front : (b : ℕ) (bs : List ℕ) → is_word_byte b ≡ true → tokens (b ∷ bs) ≡ joined b (tokens bs)
unfolding tokens
letter_front b bs e = ap (λ (t : Bool). cond t (joined b (tokens bs)) (Mark b ∷ tokens bs)) e

pub nothing : tokens [] ≡ []
unfolding tokens
nothing = refl

-- whether a byte is one of a word, by the length of the word that it begins
pub no_letter : (b : ℕ) (bs : List ℕ) → word_length (b ∷ bs) ≡ 0 → is_word_byte b ≡ false
no_letter b bs e = by_test (is_word_byte b) e where
  by_test : (t : Bool) → cond t (suc (word_length bs)) 0 ≡ 0 → t ≡ false
  by_test true h = absurd (omega (arith, h))
  by_test false h = refl

-- a byte before a text that begins with no word is a word of its own
alone : (b : ℕ) (text : List ℕ) → word_length text ≡ 0 → joined b (tokens text) ≡ Word (b ∷ []) ∷ tokens text
alone b [] e = ap (joined b) nothing ∙ sym (ap (λ (ts : List Token). Word (b ∷ []) ∷ ts) nothing)
alone b (x ∷ xs) e =
    let m = mark_front x xs (no_letter x xs e) in
    ap (joined b) m ∙ sym (ap (λ (ts : List Token). Word (b ∷ []) ∷ ts) m)

-- a byte before a text that begins with a word is the first of that word
longer : (b : ℕ) (bs : List ℕ) (n m : ℕ) → word_length bs ≡ m → m ≡ n
    → ((k : ℕ) → word_length bs ≡ suc k → tokens bs ≡ Word (take (suc k) bs) ∷ tokens (drop (suc k) bs))
    → joined b (tokens bs) ≡ Word (b ∷ take n bs) ∷ tokens (drop n bs)
longer b bs n zero h k rest = subst (λ (i : ℕ). joined b (tokens bs) ≡ Word (b ∷ take i bs) ∷ tokens (drop i bs)) k (alone b bs h)
longer b bs n (suc m) h k rest = subst (λ (i : ℕ). joined b (tokens bs) ≡ Word (b ∷ take i bs) ∷ tokens (drop i bs)) k (ap (joined b) (rest m h))

begun : (b : ℕ) (bs : List ℕ) (n : ℕ) (t : Bool) → is_word_byte b ≡ t → cond t (suc (word_length bs)) 0 ≡ suc n
    → ((k : ℕ) → word_length bs ≡ suc k → tokens bs ≡ Word (take (suc k) bs) ∷ tokens (drop (suc k) bs))
    → tokens (b ∷ bs) ≡ Word (take (suc n) (b ∷ bs)) ∷ tokens (drop (suc n) (b ∷ bs))
begun b bs n true w h rest = letter_front b bs w ∙ longer b bs n (word_length bs) refl (omega (arith, h)) rest
begun b bs n false w h rest = absurd (omega (arith, h))

-- a word is the first token, as long as can be
pub word_front : (text : List ℕ) (n : ℕ) → word_length text ≡ suc n → tokens text ≡ Word (take (suc n) text) ∷ tokens (drop (suc n) text)
word_front [] n e = absurd (omega (arith, e))
word_front (b ∷ bs) n e = begun b bs n (is_word_byte b) refl e (word_front bs)

-- where no word is at the front, no reference is
pub no_reference : (text : List ℕ) → word_length text ≡ 0 → begins_reference (tokens text) ≡ false
no_reference [] e = ap begins_reference nothing
no_reference (b ∷ bs) e = ap begins_reference (mark_front b bs (no_letter b bs e))

word_is_no_mark : (m b : ℕ) (ts : List Token) → begins_mark m (joined b ts) ≡ false
word_is_no_mark m b [] = refl
word_is_no_mark m b (Word w ∷ ts) = refl
word_is_no_mark m b (Mark x ∷ ts) = refl

-- a mark is at the front of the tokens where it is at the front of the text
pub mark_begins : (m : ℕ) (text : List ℕ) → is_word_byte m ≡ false → begins_mark m (tokens text) ≡ begins m text
mark_begins m [] e = ap (begins_mark m) nothing
mark_begins m (b ∷ bs) e = by_test (is_word_byte b) refl where
  other : is_word_byte b ≡ true → (t : Bool) → eqb b m ≡ t → false ≡ t
  other w true h = let k : b ≡ m = eqb-true b m h in cc (ap is_word_byte k)
  other w false h = refl

  by_test : (t : Bool) → is_word_byte b ≡ t → begins_mark m (tokens (b ∷ bs)) ≡ begins m (b ∷ bs)
  by_test true w = ap (begins_mark m) (letter_front b bs w) ∙ word_is_no_mark m b (tokens bs) ∙ other w (eqb b m) refl
  by_test false w = ap (begins_mark m) (mark_front b bs w)

-- whether a reference is at the front, by its word and what is after it
pub reference_front : (text : List ℕ) (n : ℕ) → n ≡ word_length text → begins_reference (tokens text) ≡ (is_cell (take n text) && not (begins 40 (drop n text)))
unfolding is_cell
reference_front text zero e = no_reference text (sym e)
reference_front text (suc n) e =
    ap begins_reference (word_front text n (sym e)) ∙ ap (λ (t : Bool). is_cell (take (suc n) text) && not t) (mark_begins 40 (drop (suc n) text) refl)

word_goes_not_on : (b : ℕ) (ts : List Token) → goes_on (joined b ts) ≡ false
word_goes_not_on b [] = refl
word_goes_not_on b (Word w ∷ ts) = refl
word_goes_not_on b (Mark x ∷ ts) = refl

-- whether a reference goes on as a range, by the byte at the front
pub range_front : (b : ℕ) (bs : List ℕ) → goes_on (tokens (b ∷ bs)) ≡ (eqb b 58 && begins_reference (tokens bs))
range_front b bs = by_test (is_word_byte b) refl where
  other : is_word_byte b ≡ true → (t : Bool) → eqb b 58 ≡ t → false ≡ (t && begins_reference (tokens bs))
  other w true h = let k : b ≡ 58 = eqb-true b 58 h in let f : is_word_byte 58 ≡ false = refl in cc (ap is_word_byte k)
  other w false h = refl

  by_test : (t : Bool) → is_word_byte b ≡ t → goes_on (tokens (b ∷ bs)) ≡ (eqb b 58 && begins_reference (tokens bs))
  by_test true w = ap goes_on (letter_front b bs w) ∙ word_goes_not_on b (tokens bs) ∙ other w (eqb b 58) refl
  by_test false w = ap goes_on (mark_front b bs w)

-- whether a reference goes on, where a colon is at the front
pub colon_front : (text : List ℕ) → begins 58 text ≡ true → goes_on (tokens text) ≡ begins_reference (tokens (drop 1 text))
colon_front [] e = cc
colon_front (b ∷ bs) e = range_front b bs ∙ ap (λ (t : Bool). t && begins_reference (tokens bs)) e

-- and where none is
pub no_colon_front : (text : List ℕ) → begins 58 text ≡ false → goes_on (tokens text) ≡ false
no_colon_front [] e = ap goes_on nothing
no_colon_front (b ∷ bs) e = range_front b bs ∙ ap (λ (t : Bool). t && begins_reference (tokens bs)) e

-- ---- what the front of a text is in OpenFormula

pub nothing_opens : (second : Bool) → opened second (tokens []) ≡ []
unfolding opened
nothing_opens second = ap (opened second) nothing

pub mark_opens : (second : Bool) (b : ℕ) (bs : List ℕ) → word_length (b ∷ bs) ≡ 0 → opened second (tokens (b ∷ bs)) ≡ opened_mark b ∷ opened second (tokens bs)
unfolding opened
mark_opens second b bs e = ap (opened second) (mark_front b bs (no_letter b bs e))

pub by_reference : (second : Bool) (w : List ℕ) (ts : List Token) (t : Bool) → begins_reference (Word w ∷ ts) ≡ t
    → opened second (Word w ∷ ts) ≡ cond t (before second ++ (w ++ (after (goes_on ts) ++ opened (goes_on ts) ts))) (w ++ opened false ts)
unfolding opened
by_reference second w ts t e = ap (λ (x : Bool). cond x (before second ++ (w ++ (after (goes_on ts) ++ opened (goes_on ts) ts))) (w ++ opened false ts)) e

pub reference_opens : (second : Bool) (text : List ℕ) (n : ℕ) → n ≡ word_length text → begins_reference (tokens text) ≡ true
    → opened second (tokens text)
    ≡ before second ++ (take n text ++ (after (goes_on (tokens (drop n text))) ++ opened (goes_on (tokens (drop n text))) (tokens (drop n text))))
reference_opens second text zero e h = let k = no_reference text (sym e) in cc
reference_opens second text (suc n) e h =
    ap (opened second) (word_front text n (sym e)) ∙ by_reference second (take (suc n) text) (tokens (drop (suc n) text)) true (sym (ap begins_reference (word_front text n (sym e))) ∙ h)

pub word_opens : (second : Bool) (text : List ℕ) (n : ℕ) → n ≡ word_length text → 0 < n → begins_reference (tokens text) ≡ false
    → opened second (tokens text) ≡ take n text ++ opened false (tokens (drop n text))
word_opens second text zero e k h = absurd (omega (arith, k))
word_opens second text (suc n) e k h =
    ap (opened second) (word_front text n (sym e)) ∙ by_reference second (take (suc n) text) (tokens (drop (suc n) text)) false (sym (ap begins_reference (word_front text n (sym e))) ∙ h)

-- a word is where a reference is
pub some_word : (text : List ℕ) (n : ℕ) → n ≡ word_length text → begins_reference (tokens text) ≡ true → 0 < n
some_word text zero e h = let k = no_reference text (sym e) in cc
some_word text (suc n) e h = omega arith

-- ---- the same after what is there already, where a text is cut after its word or its mark

pub mark_next : (items all rest : List ℕ) (second : Bool) (d : ℕ) → 0 < length rest → 0 ≡ word_length rest → items ++ opened second (tokens rest) ≡ all
    → (items ++ opened_mark (get_or rest 0 d) ∷ []) ++ opened second (tokens (drop 1 rest)) ≡ all
mark_next items all [] second d h e known = absurd (omega (arith, h))
mark_next items all (b ∷ bs) second d h e known =
    append_assoc items (opened_mark b ∷ []) (opened second (tokens bs)) ∙ ap (λ (t : List ℕ). items ++ t) (sym (mark_opens second b bs (sym e))) ∙ known

pub reference_next : (items all rest : List ℕ) (second g : Bool) (n : ℕ) → n ≡ word_length rest → begins_reference (tokens rest) ≡ true → g ≡ goes_on (tokens (drop n rest))
    → items ++ opened second (tokens rest) ≡ all → (items ++ (before second ++ (take n rest ++ after g))) ++ opened g (tokens (drop n rest)) ≡ all
reference_next items all rest second g n e h k known =
    append_assoc items (before second ++ (take n rest ++ after g)) (opened g (tokens (drop n rest)))
    ∙ ap (λ (t : List ℕ). items ++ t)
    (append_assoc (before second) (take n rest ++ after g) (opened g (tokens (drop n rest))) ∙ ap (λ (t : List ℕ). before second ++ t) (append_assoc (take n rest) (after g) (opened g (tokens (drop n rest))))
    ∙ ap (λ (x : Bool). before second ++ (take n rest ++ (after x ++ opened x (tokens (drop n rest))))) k ∙ sym (reference_opens second rest n e h)) ∙ known

pub word_next : (items all rest : List ℕ) (second : Bool) (n : ℕ) → n ≡ word_length rest → 0 < n → begins_reference (tokens rest) ≡ false
    → items ++ opened second (tokens rest) ≡ all → (items ++ take n rest) ++ opened false (tokens (drop n rest)) ≡ all
word_next items all rest second n e k h known =
    append_assoc items (take n rest) (opened false (tokens (drop n rest))) ∙ ap (λ (t : List ℕ). items ++ t) (sym (word_opens second rest n e k h)) ∙ known

pub all_opens : (items all rest : List ℕ) (second : Bool) → length rest ≡ 0 → items ++ opened second (tokens rest) ≡ all → items ≡ all
all_opens items all [] second e known = sym (ap (λ (t : List ℕ). items ++ t) (nothing_opens second) ∙ append-nil items) ∙ known
all_opens items all (b ∷ bs) second e known = absurd (omega (arith, e))
