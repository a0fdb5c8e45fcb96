-- A formula that has a content, in A1 notation, opens as itself.
use Rattle.std.proofs.Common.{◌≡◌, ℕ, suc, ◌+◌, ◌-◌, ◌*◌, ◌^◌, ◌<◌, ◌≤◌, pos, Bool, true, false, cond, leb, ltb, eqb, eqb-true, leb-true, le-leb, ltb-true, ltb-false, append-nil, map, ◌&&◌, ◌||◌, not, List, [], ◌∷◌, ◌++◌, drop, length, Option, Some, None, Result, Ok, Err, refl, sym, ap, subst, ◌∙◌, arith}
use Rattle.std.proofs.lemmas.List.{take-append-drop}
use Rattle.std.specs.Char.{is_ascii_digit, is_ascii_alphabetic, to_ascii_lowercase}
use Rattle.ds_formula.specs.declared.cells.Shape.{Shape}
use Rattle.ds_formula.specs.declared.cells.Cell.{Cell}
use Rattle.ds_formula.specs.declared.content.Function.{Function}
use Rattle.ds_formula.specs.declared.content.Operator.{Operator}
use Rattle.ds_formula.specs.declared.content.Operator.TheVariants.{NotEqual, Less, Greater, LessOrEqual, GreaterOrEqual}
use Rattle.ds_formula.specs.declared.content.Sign.TheVariants.{Plus, Minus}
use Rattle.ds_formula.specs.declared.fault.FaultKind.TheVariants.{NotWhole, NumberTooLarge}
use Rattle.ds_formula.specs.declared.tokens.Stop.{Stop}
use Rattle.ds_formula.specs.declared.tokens.Leaf.{Leaf}
use Rattle.ds_formula.specs.declared.tokens.Leaf.TheVariants.{Number}
use Rattle.ds_formula.specs.declared.tokens.Lead.{Lead}
use Rattle.ds_formula.specs.declared.tokens.Lead.TheVariants as leads
use Rattle.ds_formula.specs.declared.tokens.Follow.{Follow}
use Rattle.ds_formula.specs.declared.tokens.Follow.TheVariants.{Infix, Close, Semicolon, End}
use Rattle.ds_formula.specs.Bytes.{Read, ◌>>=◌, stop_at, unexpected_stop, begins, is_space, skipped, number_from, goes_on_as_fraction, number_at, byte_at}
use Rattle.ds_formula.specs.References.{without_dollar, corner_at, inside_sheet, both_inside, behind_corner, reference_at}
use Rattle.ds_formula.specs.declared.content.Function.TheVariants as functions
use Rattle.std.specs.Cmp.Lexicographic.{pointwise}
use Rattle.ds_formula.specs.Functions.{Scope, scope_of, function_named, is_name_of, name_of, takes}
use Rattle.ds_formula.specs.Tokens.{word_length, word_at, known, name_at, lead_of, lead_at, after_less, after_greater, follow_token, found, follow_of, follow_at}
use Rattle.ds_formula.specs.Turns.{Bracket, Group, Call, Due, AnOperand, FirstArgument, ItsBracket, AnOperator, Turn, Goes, Stops, Ends, wrong_arguments, by_lead, by_bracket, by_follow, closed, turn, Walk, stay, step}
use Rattle.ds_formula.specs.declared.ranges.Ranges.{Ranges}
use Rattle.ds_formula.specs.Plain.{Formula}
use Rattle.ds_formula.specs.Forms.{Expression}
use Rattle.ds_formula.specs.Grammar.{without_equals, expression_of}
use Rattle.ds_formula.proofs.Walks.{level_walk}
use Rattle.ds_formula.proofs.Formed.{either, bind_with}
use Rattle.ds_a1.specs.Tokens.{Token, Word, Mark, is_word_byte, tokens, is_cell, begins_mark, begins_reference, goes_on, are_digits, is_row, after_letters, is_column_and_row}
use Rattle.std.specs.List.{position, position_or_len}
use Rattle.ds_formula.specs.declared.fault.FaultKind.TheVariants.{TooLong}
use Rattle.ds_formula.specs.Plain.{PlainContent}
use Rattle.ds_formula.specs.Grammar.{Reads, ReadsLong, blank, constant, computed}
use Rattle.ds_a1.specs.Notation.{opens, closed as closed_text, opened, before, after, is_bracket, within_limit, formula_opens, stays, bare}
use Rattle.ds_a1.proofs.Steps.{mark_front, mark_begins, no_colon_front, by_reference}
use Rattle.ds_a1.proofs.Solids.{are_solid, both, differs, parts, solids_bare, solids_word}
use Rattle.ds_a1.proofs.Fronts.{HasCorner, CornerIn, corner_in, ByteIn, byte_in, digits_solid, digits_from, HasDigits, no_dollar, digit_no_letter, are_letters, letters_solid, letters_pass}

-- the text, in A1 notation, opens as itself
pub record Good (text : List ℕ) : Type 0 where
  pub is : opened false (tokens (bare text)) ≡ text

-- neither a word nor a bracket nor a colon is at the front, so that a reference ends before it
abbrev ends : List ℕ → Bool
ends [] = true
ends (b ∷ bs) = not (is_word_byte b) && (not (eqb b 40) && not (eqb b 58))

ends_parts : (n : List ℕ) → ends n ≡ true → parts n ≡ true
ends_parts [] e = refl
ends_parts (b ∷ bs) e = (both (not (is_word_byte b)) (not (eqb b 40) && not (eqb b 58)) e).0

-- what is after an operand
record Ended (text : List ℕ) : Type 0 where
  good : Good text
  apart : ends (bare text) ≡ true

-- what is after a name
record Named (text : List ℕ) : Type 0 where
  good : Good text
  apart : parts (bare text) ≡ true

-- ---- marks

nothing_good : Good []
unfolding tokens opened
nothing_good = record { is = refl }

-- whether a byte stays one mark, which neither a name nor a reference goes on by
abbrev is_plain : ℕ → Bool
is_plain b = (stays b && not (eqb b 59)) && (not (is_word_byte b) && not (eqb b 44))

not_true : (t : Bool) → not t ≡ true → t ≡ false
not_true true e = let bad : false ≡ true = e in cc
not_true false e = refl

plain_good : (b : ℕ) (bs : List ℕ) → is_plain b ≡ true → Good bs → Good (b ∷ bs)
unfolding opened
plain_good b bs e h =
    let halves = both (stays b && not (eqb b 59)) (not (is_word_byte b) && not (eqb b 44)) e in
    let one = both (stays b) (not (eqb b 59)) halves.0 in
    let two = both (not (is_word_byte b)) (not (eqb b 44)) halves.1 in
    let shown : bare (b ∷ bs) ≡ b ∷ bare bs =
    ap (λ (t : Bool). cond t (cond (eqb b 59) 44 b ∷ bare bs) (bare bs)) one.0 ∙ ap (λ (t : Bool). cond t 44 b ∷ bare bs) (not_true (eqb b 59) one.1) in
    record {
      is =
          ap (λ (t : List ℕ). opened false (tokens t)) shown ∙ ap (opened false) (mark_front b (bare bs) (not_true (is_word_byte b) two.0))
          ∙ ap (λ (t : Bool). cond t 59 b ∷ opened false (tokens (bare bs))) (not_true (eqb b 44) two.1) ∙ ap (λ (t : List ℕ). b ∷ t) h.is;
    }

semicolon_good : (bs : List ℕ) → Good bs → Good (59 ∷ bs)
unfolding opened
semicolon_good bs h = record { is = ap (opened false) (mark_front 44 (bare bs) refl) ∙ ap (λ (t : List ℕ). 59 ∷ t) h.is }

-- a byte that is this one
same_good : (b c : ℕ) (bs : List ℕ) → eqb b c ≡ true → is_plain c ≡ true → Good bs → Good (b ∷ bs)
same_good b c bs e p h = subst (λ (x : ℕ). Good (x ∷ bs)) (sym (eqb-true b c e)) (plain_good c bs p h)

-- ---- white space

space_plain : (b : ℕ) → is_space b ≡ true → is_plain b ≡ true
space_plain b e = by_test (eqb b 32) (eqb b 9) (eqb b 10) (eqb b 13) refl refl refl refl e where
  so : (c : ℕ) → eqb b c ≡ true → is_plain c ≡ true → is_plain b ≡ true
  so c h p = subst (λ (x : ℕ). is_plain x ≡ true) (sym (eqb-true b c h)) p

  by_test : (s t u v : Bool) → eqb b 32 ≡ s → eqb b 9 ≡ t → eqb b 10 ≡ u → eqb b 13 ≡ v → (((s || t) || u) || v) ≡ true → is_plain b ≡ true
  by_test true t u v p q r w h = so 32 p refl
  by_test false true u v p q r w h = so 9 q refl
  by_test false false true v p q r w h = so 10 r refl
  by_test false false false true p q r w h = so 13 w refl
  by_test false false false false p q r w h = let bad : false ≡ true = h in cc

skipped_good : (text : List ℕ) → Good (skipped text) → Good text
skipped_good [] h = h
skipped_good (b ∷ bs) h = either (λ (x : List ℕ). Good x → Good (b ∷ bs)) (is_space b) (skipped bs) (b ∷ bs) (λ e k. plain_good b bs (space_plain b e) (skipped_good bs k)) (λ _ k. k) h

space_ends : (b : ℕ) (bs : List ℕ) → is_space b ≡ true → ends (bare (b ∷ bs)) ≡ true
space_ends b bs e = by_test (eqb b 32) (eqb b 9) (eqb b 10) (eqb b 13) refl refl refl refl e where
  so : (c : ℕ) → eqb b c ≡ true → ends (bare (c ∷ bs)) ≡ true → ends (bare (b ∷ bs)) ≡ true
  so c h p = subst (λ (x : ℕ). ends (bare (x ∷ bs)) ≡ true) (sym (eqb-true b c h)) p

  by_test : (s t u v : Bool) → eqb b 32 ≡ s → eqb b 9 ≡ t → eqb b 10 ≡ u → eqb b 13 ≡ v → (((s || t) || u) || v) ≡ true → ends (bare (b ∷ bs)) ≡ true
  by_test true t u v p q r w h = so 32 p refl
  by_test false true u v p q r w h = so 9 q refl
  by_test false false true v p q r w h = so 10 r refl
  by_test false false false true p q r w h = so 13 w refl
  by_test false false false false p q r w h = let bad : false ≡ true = h in cc

skipped_ended : (text : List ℕ) → Ended (skipped text) → Ended text
skipped_ended [] h = h
skipped_ended (b ∷ bs) h =
    either (λ (x : List ℕ). Ended x → Ended (b ∷ bs)) (is_space b) (skipped bs) (b ∷ bs)
    (λ e k. record { good = plain_good b bs (space_plain b e) (skipped_ended bs k).good; apart = space_ends b bs e }) (λ _ k. k) h

skipped_named : (text : List ℕ) → Named (skipped text) → Named text
skipped_named [] h = h
skipped_named (b ∷ bs) h =
    either (λ (x : List ℕ). Named x → Named (b ∷ bs)) (is_space b) (skipped bs) (b ∷ bs)
    (λ e k. record { good = plain_good b bs (space_plain b e) (skipped_named bs k).good; apart = ends_parts (bare (b ∷ bs)) (space_ends b bs e) }) (λ _ k. k) h

-- ---- words

word_good : (b : ℕ) (w rest : List ℕ) → are_solid (b ∷ w) ≡ true → is_cell (b ∷ w) ≡ false → Named rest → Good ((b ∷ w) ++ rest)
word_good b w rest e no_cell h =
    let n = bare rest in
    let none : begins_reference (Word (b ∷ w) ∷ tokens n) ≡ false = ap (λ (t : Bool). t && not (begins_mark 40 (tokens n))) no_cell in
    record {
      is =
          ap (λ (t : List ℕ). opened false (tokens t)) (solids_bare (b ∷ w) rest e) ∙ ap (opened false) (solids_word b w n e h.apart)
          ∙ by_reference false (b ∷ w) (tokens n) false none ∙ ap (λ (t : List ℕ). (b ∷ w) ++ t) h.good.is;
    }

-- a reference ends before these bytes
ends_front : (n : List ℕ) → ends n ≡ true → (begins_mark 40 (tokens n) ≡ false) × (goes_on (tokens n) ≡ false)
ends_front [] e = (mark_begins 40 [] refl, no_colon_front [] refl)
ends_front (b ∷ bs) e =
    let h = (both (not (is_word_byte b)) (not (eqb b 40) && not (eqb b 58)) e).1 in
    let k = both (not (eqb b 40)) (not (eqb b 58)) h in
    (mark_begins 40 (b ∷ bs) refl ∙ not_true (eqb b 40) k.0, no_colon_front (b ∷ bs) (not_true (eqb b 58) k.1))

-- a cell's name before the end of a reference
last_opens : (second : Bool) (b : ℕ) (w n rest : List ℕ) → are_solid (b ∷ w) ≡ true → is_cell (b ∷ w) ≡ true → ends n ≡ true → opened false (tokens n) ≡ rest
    → opened second (tokens ((b ∷ w) ++ n)) ≡ before second ++ ((b ∷ w) ++ (93 ∷ rest))
last_opens second b w n rest e cell apart h =
    let f = ends_front n apart in
    let is : begins_reference (Word (b ∷ w) ∷ tokens n) ≡ true = ap (λ (t : Bool). t && not (begins_mark 40 (tokens n))) cell ∙ ap not f.0 in
    ap (opened second) (solids_word b w n e (ends_parts n apart)) ∙ by_reference second (b ∷ w) (tokens n) true is
    ∙ ap (λ (g : Bool). before second ++ ((b ∷ w) ++ (after g ++ opened g (tokens n)))) f.1 ∙ ap (λ (t : List ℕ). before second ++ ((b ∷ w) ++ (93 ∷ t))) h

cell_good : (b : ℕ) (w rest : List ℕ) → are_solid (b ∷ w) ≡ true → is_cell (b ∷ w) ≡ true → Ended rest → Good (91 ∷ (46 ∷ ((b ∷ w) ++ (93 ∷ rest))))
cell_good b w rest e cell h = record {
  is = ap (λ (t : List ℕ). opened false (tokens t)) (solids_bare (b ∷ w) (93 ∷ rest) e) ∙ last_opens false b w (bare rest) rest e cell h.apart h.good.is;
}

range_opens : (b d : ℕ) (w v n rest : List ℕ) → are_solid (b ∷ w) ≡ true → is_cell (b ∷ w) ≡ true → are_solid (d ∷ v) ≡ true → is_cell (d ∷ v) ≡ true → ends n ≡ true → opened false (tokens n) ≡ rest
    → opened false (tokens ((b ∷ w) ++ (58 ∷ ((d ∷ v) ++ n)))) ≡ 91 ∷ (46 ∷ ((b ∷ w) ++ (58 ∷ (46 ∷ ((d ∷ v) ++ (93 ∷ rest))))))
unfolding opened
range_opens b d w v n rest e cell f last apart h =
    let front = ends_front n apart in
    let colon : tokens (58 ∷ ((d ∷ v) ++ n)) ≡ Mark 58 ∷ tokens ((d ∷ v) ++ n) = mark_front 58 ((d ∷ v) ++ n) refl in
    let second : tokens ((d ∷ v) ++ n) ≡ Word (d ∷ v) ∷ tokens n = solids_word d v n f (ends_parts n apart) in
    let is : begins_reference (Word (b ∷ w) ∷ tokens (58 ∷ ((d ∷ v) ++ n))) ≡ true =
    ap (λ (t : Bool). t && not (begins_mark 40 (tokens (58 ∷ ((d ∷ v) ++ n))))) cell ∙ ap (λ (ts : List Token). not (begins_mark 40 ts)) colon in
    let on : goes_on (tokens (58 ∷ ((d ∷ v) ++ n))) ≡ true =
    ap goes_on (colon ∙ ap (λ (ts : List Token). Mark 58 ∷ ts) second) ∙ ap (λ (t : Bool). t && not (begins_mark 40 (tokens n))) last ∙ ap not front.0 in
    ap (opened false) (solids_word b w (58 ∷ ((d ∷ v) ++ n)) e refl) ∙ by_reference false (b ∷ w) (tokens (58 ∷ ((d ∷ v) ++ n))) true is
    ∙ ap (λ (g : Bool). before false ++ ((b ∷ w) ++ (after g ++ opened g (tokens (58 ∷ ((d ∷ v) ++ n)))))) on
    ∙ ap (λ (ts : List Token). before false ++ ((b ∷ w) ++ opened true ts)) colon
    ∙ ap (λ (t : List ℕ). before false ++ ((b ∷ w) ++ (58 ∷ t))) (last_opens true d v n rest f last apart h)

range_good : (b d : ℕ) (w v rest : List ℕ) → are_solid (b ∷ w) ≡ true → is_cell (b ∷ w) ≡ true → are_solid (d ∷ v) ≡ true → is_cell (d ∷ v) ≡ true → Ended rest
    → Good (91 ∷ (46 ∷ ((b ∷ w) ++ (58 ∷ (46 ∷ ((d ∷ v) ++ (93 ∷ rest)))))))
range_good b d w v rest e cell f last h = record {
  is =
      ap (λ (t : List ℕ). opened false (tokens t)) (solids_bare (b ∷ w) (58 ∷ (46 ∷ ((d ∷ v) ++ (93 ∷ rest)))) e)
      ∙ ap (λ (t : List ℕ). opened false (tokens ((b ∷ w) ++ (58 ∷ t)))) (solids_bare (d ∷ v) (93 ∷ rest) f) ∙ range_opens b d w v (bare rest) rest e cell f last h.apart h.good.is;
}

-- ---- numbers

abbrev NumberIn : List ℕ → Read ℕ → Type 0
NumberIn text (Ok x) = Ended x.1 → Good text
NumberIn text (Err e) = Unit {0}

no_cell_digit : (d : ℕ) (ds : List ℕ) → is_ascii_digit d ≡ true → is_cell (d ∷ ds) ≡ false
unfolding is_cell
no_cell_digit d ds e =
    let dollar : without_dollar (d ∷ ds) ≡ d ∷ ds = no_dollar d ds (differs is_ascii_digit d 36 e refl) in
    ap is_column_and_row dollar ∙ ap (λ (t : Bool). t && is_row (without_dollar (after_letters ds))) (digit_no_letter d e)

number_good : (d : ℕ) (bs rest : List ℕ) → is_ascii_digit d ≡ true → HasDigits bs rest → Ended rest → Good (d ∷ bs)
number_good d bs rest e h k =
    let named : Named rest = record { good = k.good; apart = ends_parts (bare rest) k.apart } in
    let solid : are_solid (d ∷ h.digits) ≡ true = digits_solid (d ∷ h.digits) (ap (λ (t : Bool). t && are_digits h.digits) e ∙ h.all) in
    subst (λ (t : List ℕ). Good (d ∷ t)) (sym h.is) (word_good d h.digits rest solid (no_cell_digit d h.digits e) named)

number_in : (limit : ℕ) (text : List ℕ) → NumberIn text (number_at limit text)
unfolding number_at
number_in limit [] = tt
number_in limit (b ∷ bs) =
    let read : ℕ × List ℕ = number_from 0 (b ∷ bs) in
    let large : Read ℕ = Err (stop_at NumberTooLarge (b ∷ bs)) in
    let broken : Read ℕ = Err (stop_at NotWhole read.1) in
    let inner : Read ℕ = cond (leb read.0 limit) (Ok read) large in
    let m = 10 * 0 + (b - 48) in
    either (NumberIn (b ∷ bs)) (is_ascii_digit b) (cond (goes_on_as_fraction read.1) broken inner) (Err (unexpected_stop (b ∷ bs)))
    (λ d. either (NumberIn (b ∷ bs)) (goes_on_as_fraction read.1) broken inner (λ _. tt)
    (λ _. either (NumberIn (b ∷ bs)) (leb read.0 limit) (Ok read) large
    (λ _ k. number_good b bs (number_from m bs).1 d (digits_from m bs) (subst (λ (x : ℕ × List ℕ). Ended x.1) (ap (λ (t : Bool). cond t (number_from m bs) (0, b ∷ bs)) d) k)) (λ _. tt)))
    (λ _. tt)

-- ---- references

abbrev LeafIn : List ℕ → Read Leaf → Type 0
LeafIn text (Ok x) = Ended x.1 → Good text
LeafIn text (Err e) = Unit {0}

inside_in : (text from : List ℕ) (one : Option Cell) (rest : List ℕ) → (Ended rest → Good text) → LeafIn text (inside_sheet from one rest)
inside_in text from (Some c) rest h = h
inside_in text from None rest h = tt

both_in : (text from : List ℕ) (one other : Option Cell) (rest : List ℕ) → (Ended rest → Good text) → LeafIn text (both_inside from one other rest)
both_in text from (Some c) (Some d) rest h = h
both_in text from (Some c) None rest h = tt
both_in text from None other rest h = tt

one_cell : (text bracket mid rest : List ℕ) → text ≡ 91 ∷ bracket → HasCorner bracket mid → mid ≡ 93 ∷ rest → Ended rest → Good text
one_cell text bracket mid rest is c e h =
    let whole : text ≡ 91 ∷ (46 ∷ ((c.first ∷ c.others) ++ (93 ∷ rest))) =
    is ∙ ap (λ (t : List ℕ). 91 ∷ t) c.is ∙ ap (λ (t : List ℕ). 91 ∷ (46 ∷ ((c.first ∷ c.others) ++ t))) e in
    subst Good (sym whole) (cell_good c.first c.others rest c.solid c.cell h)

two_cells : (text bracket mid after_colon last rest : List ℕ) → text ≡ 91 ∷ bracket → HasCorner bracket mid → mid ≡ 58 ∷ after_colon → HasCorner after_colon last → last ≡ 93 ∷ rest → Ended rest → Good text
two_cells text bracket mid after_colon last rest is c colon d e h =
    let whole : text ≡ 91 ∷ (46 ∷ ((c.first ∷ c.others) ++ (58 ∷ (46 ∷ ((d.first ∷ d.others) ++ (93 ∷ rest)))))) =
    is ∙ ap (λ (t : List ℕ). 91 ∷ t) c.is
    ∙ ap (λ (t : List ℕ). 91 ∷ (46 ∷ ((c.first ∷ c.others) ++ t))) (colon ∙ ap (λ (t : List ℕ). 58 ∷ t) (d.is ∙ ap (λ (t : List ℕ). 46 ∷ ((d.first ∷ d.others) ++ t)) e)) in
    subst Good (sym whole) (range_good c.first d.first c.others d.others rest c.solid c.cell d.solid d.cell h)

begun_with : (byte : ℕ) (text : List ℕ) → begins byte text ≡ true → text ≡ byte ∷ drop 1 text
begun_with byte [] e = let bad : false ≡ true = e in absurd (cc)
begun_with byte (b ∷ bs) e = ap (λ (x : ℕ). x ∷ bs) (eqb-true b byte e)

corner_rest_in : (s : Shape) (text bracket : List ℕ) (from : List ℕ) (one : Option Cell) (mid : List ℕ) → text ≡ 91 ∷ bracket → HasCorner bracket mid → LeafIn text (behind_corner s from one mid)
corner_rest_in s text bracket from one mid is c =
    let pair : Read Leaf = corner_at s (drop 1 mid) >>= λ other. byte_at 93 other.1 >>= λ end. both_inside from one other.0 end in
    let alone : Read Leaf = byte_at 93 mid >>= λ end. inside_sheet from one end in
    either (LeafIn text) (begins 58 mid) pair alone
    (λ colon. bind_with (CornerIn (drop 1 mid)) (LeafIn text) (corner_at s (drop 1 mid)) (λ other. byte_at 93 other.1 >>= λ end. both_inside from one other.0 end) (corner_in s (drop 1 mid)) (λ _. tt)
    (λ other k. bind_with (ByteIn 93 other.1) (LeafIn text) (byte_at 93 other.1) (λ end. both_inside from one other.0 end) (byte_in 93 other.1) (λ _. tt)
    (λ end j. both_in text from one other.0 end (two_cells text bracket mid (drop 1 mid) other.1 end is c (begun_with 58 mid colon) k j))))
    (λ _. bind_with (ByteIn 93 mid) (LeafIn text) (byte_at 93 mid) (λ end. inside_sheet from one end) (byte_in 93 mid) (λ _. tt) (λ end j. inside_in text from one end (one_cell text bracket mid end is c j)))

reference_in : (s : Shape) (text : List ℕ) → LeafIn text (reference_at s text)
unfolding reference_at
reference_in s text =
    bind_with (ByteIn 91 text) (LeafIn text) (byte_at 91 text) (λ bracket. corner_at s bracket >>= λ one. behind_corner s text one.0 one.1) (byte_in 91 text) (λ _. tt)
    (λ bracket k. bind_with (CornerIn bracket) (LeafIn text) (corner_at s bracket) (λ one. behind_corner s text one.0 one.1) (corner_in s bracket) (λ _. tt) (λ one j. corner_rest_in s text bracket text one.0 one.1 k j))

-- ---- names

upper_letter : (b : ℕ) → 65 ≤ b → b < 91 → is_ascii_alphabetic b ≡ true
upper_letter b low high =
    let one : leb 65 b ≡ true = le-leb 65 b low in
    let two : leb b 90 ≡ true = le-leb b 90 (omega arith) in
    ap (λ (t : Bool). (t && leb b 90) || (leb 97 b && leb b 122)) one ∙ ap (λ (t : Bool). t || (leb 97 b && leb b 122)) two

lower_letter : (b : ℕ) → 97 ≤ b → b ≤ 122 → is_ascii_alphabetic b ≡ true
lower_letter b low high = by_test (leb 65 b && leb b 90) where
  one : leb 97 b ≡ true
  one = le-leb 97 b low

  two : leb b 122 ≡ true
  two = le-leb b 122 high

  by_test : (t : Bool) → (t || (leb 97 b && leb b 122)) ≡ true
  by_test true = refl
  by_test false = ap (λ (t : Bool). t && leb b 122) one ∙ two

-- whether a byte is a letter, by the one that it has in small letters
small_letter : (b : ℕ) → 97 ≤ to_ascii_lowercase b → to_ascii_lowercase b ≤ 122 → is_ascii_alphabetic b ≡ true
small_letter b low high = by_test (ltb b 65) (ltb b 91) refl refl low high where
  by_test : (t u : Bool) → ltb b 65 ≡ t → ltb b 91 ≡ u → 97 ≤ cond t b (cond u (b + 32) b) → cond t b (cond u (b + 32) b) ≤ 122 → is_ascii_alphabetic b ≡ true
  by_test true u e f x y = let k = ltb-true b 65 e in absurd (omega (arith, k, x))
  by_test false true e f x y = let k = ltb-false b 65 e in let j = ltb-true b 91 f in upper_letter b k j
  by_test false false e f x y = lower_letter b x y

-- whether these are small letters alone
abbrev are_small : List ℕ → Bool
are_small [] = true
are_small (b ∷ bs) = (leb 97 b && leb b 122) && are_small bs

named_letters : (name small : List ℕ) → pointwise eqb (map to_ascii_lowercase name) small ≡ true → are_small small ≡ true → are_letters name ≡ true
named_letters [] small e h = refl
named_letters (b ∷ name) [] e h = let bad : false ≡ true = e in cc
named_letters (b ∷ name) (c ∷ small) e h =
    let k = both (eqb (to_ascii_lowercase b) c) (pointwise eqb (map to_ascii_lowercase name) small) e in
    let j = both (leb 97 c && leb c 122) (are_small small) h in
    let i = both (leb 97 c) (leb c 122) j.0 in
    let same : to_ascii_lowercase b ≡ c = eqb-true (to_ascii_lowercase b) c k.0 in
    let low = leb-true 97 c i.0 in
    let high = leb-true c 122 i.1 in
    let letter : is_ascii_alphabetic b ≡ true = small_letter b (omega (arith, same, low)) (omega (arith, same, high)) in
    ap (λ (t : Bool). t && are_letters name) letter ∙ named_letters name small k.1 j.1

names_small : (g : Function) → are_small (map to_ascii_lowercase (name_of g)) ≡ true
names_small g = elim g as (λ f. are_small (map to_ascii_lowercase (name_of f)) ≡ true) [
  | functions.Sum ↦ refl
  | functions.Min ↦ refl
  | functions.Max ↦ refl
  | functions.Abs ↦ refl
  | functions.Mod ↦ refl
  | functions.Quotient ↦ refl
  | functions.If ↦ refl
  | functions.Count ↦ refl
  | functions.And ↦ refl
  | functions.Or ↦ refl
  | functions.Not ↦ refl
]

-- the name of a function has letters alone
known_letters : (gs : List Function) (name : List ℕ) (g : Function) → function_named gs name ≡ Some g → are_letters name ≡ true
known_letters [] name g e = cc
known_letters (f ∷ gs) name g e = by_test (is_name_of f name) refl e (known_letters gs name g) where
  by_test : (t : Bool) → is_name_of f name ≡ t → cond t (Some f) (function_named gs name) ≡ Some g → (function_named gs name ≡ Some g → are_letters name ≡ true) → are_letters name ≡ true
  by_test true h k more = named_letters name (map to_ascii_lowercase (name_of f)) h (names_small f)
  by_test false h k more = more k

no_cell_letters : (b : ℕ) (w : List ℕ) → are_letters (b ∷ w) ≡ true → is_cell (b ∷ w) ≡ false
unfolding is_cell
no_cell_letters b w e =
    let h = both (is_ascii_alphabetic b) (are_letters w) e in
    let dollar : without_dollar (b ∷ w) ≡ b ∷ w = no_dollar b w (differs is_ascii_alphabetic b 36 h.0 refl) in
    let none : after_letters w ≡ [] = ap after_letters (sym (append-nil w)) ∙ letters_pass w [] h.1 refl in
    ap is_column_and_row dollar ∙ ap (λ (t : Bool). t && is_row (without_dollar (after_letters w))) h.0 ∙ ap (λ (t : List ℕ). is_row (without_dollar t)) none

name_good : (w rest : List ℕ) → are_letters w ≡ true → Named rest → Good (w ++ rest)
name_good [] rest e h = h.good
name_good (b ∷ w) rest e h = word_good b w rest (letters_solid (b ∷ w) e) (no_cell_letters b w e) h

-- ---- tokens where an operand is due

-- what is wanted of what is after a token
abbrev Wanted : Lead → List ℕ → Type 0
Wanted (leads.Leaf l) rest = Ended rest
Wanted (leads.Prefix p) rest = Good rest
Wanted leads.Open rest = Good rest
Wanted (leads.Name f left) rest = Named rest

abbrev LeadIn : List ℕ → Read Lead → Type 0
LeadIn text (Ok x) = Wanted x.0 x.1 → Good text
LeadIn text (Err e) = Unit {0}

known_in : (text name from : List ℕ) (f : Option Function) (rest : List ℕ) → text ≡ name ++ rest → ((g : Function) → f ≡ Some g → are_letters name ≡ true) → LeadIn text (known from f rest)
known_in text name from (Some g) rest is letters = λ h. subst Good (sym is) (name_good name rest (letters g refl) h)
known_in text name from None rest is letters = tt

name_in : (gs : List Function) (text : List ℕ) → LeadIn text (name_at gs text)
unfolding name_at
name_in gs text =
    known_in text (word_at text) text (function_named gs (word_at text)) (drop (word_length text) text) (sym (take-append-drop (word_length text) text)) (λ g e. known_letters gs (word_at text) g e)

lead_of_in : (s : Scope) (text : List ℕ) → LeadIn text (lead_of s text)
unfolding lead_of
lead_of_in s [] = tt
lead_of_in s (b ∷ bs) =
    let text = b ∷ bs in
    let wrong : Read Lead = Err (unexpected_stop text) in
    let by_letter : Read Lead = cond (is_ascii_alphabetic b) (name_at s.functions text) wrong in
    let by_digit : Read Lead = cond (is_ascii_digit b) (number_at (2 ^ 63 - 1) text >>= λ x. Ok (leads.Leaf (Number (pos x.0)), x.1)) by_letter in
    let by_reference : Read Lead = cond (eqb b 91) (reference_at s.shape text >>= λ x. Ok (leads.Leaf x.0, x.1)) by_digit in
    let by_minus : Read Lead = cond (eqb b 45) (Ok (leads.Prefix Minus, bs)) by_reference in
    let by_plus : Read Lead = cond (eqb b 43) (Ok (leads.Prefix Plus, bs)) by_minus in
    either (LeadIn text) (eqb b 40) (Ok (leads.Open, bs)) by_plus (λ e h. same_good b 40 bs e refl h)
    (λ _. either (LeadIn text) (eqb b 43) (Ok (leads.Prefix Plus, bs)) by_minus (λ e h. same_good b 43 bs e refl h)
    (λ _. either (LeadIn text) (eqb b 45) (Ok (leads.Prefix Minus, bs)) by_reference (λ e h. same_good b 45 bs e refl h)
    (λ _. either (LeadIn text) (eqb b 91) (reference_at s.shape text >>= λ x. Ok (leads.Leaf x.0, x.1)) by_digit
    (λ _. bind_with (LeafIn text) (LeadIn text) (reference_at s.shape text) (λ x. Ok (leads.Leaf x.0, x.1)) (reference_in s.shape text) (λ _. tt) (λ x k. k))
    (λ _. either (LeadIn text) (is_ascii_digit b) (number_at (2 ^ 63 - 1) text >>= λ x. Ok (leads.Leaf (Number (pos x.0)), x.1)) by_letter
    (λ _. bind_with (NumberIn text) (LeadIn text) (number_at (2 ^ 63 - 1) text) (λ x. Ok (leads.Leaf (Number (pos x.0)), x.1)) (number_in (2 ^ 63 - 1) text) (λ _. tt) (λ x k. k))
    (λ _. either (LeadIn text) (is_ascii_alphabetic b) (name_at s.functions text) wrong (λ e. name_in s.functions text) (λ _. tt))))))

after_space : (text : List ℕ) (x : Read Lead) → LeadIn (skipped text) x → LeadIn text x
after_space text (Ok x) h = λ k. skipped_good text (h k)
after_space text (Err e) h = tt

lead_in : (s : Scope) (text : List ℕ) → LeadIn text (lead_at s text)
unfolding lead_at
lead_in s text = after_space text (lead_of s (skipped text)) (lead_of_in s (skipped text))

-- ---- tokens after an operand

-- what is wanted of what is after a token
abbrev Asked : Follow → List ℕ → Type 0
Asked (Infix o) rest = Good rest
Asked Close rest = Ended rest
Asked Semicolon rest = Good rest
Asked End rest = Unit {0}

abbrev FollowIn : List ℕ → Read Follow → Type 0
FollowIn text (Ok x) = Asked x.0 x.1 → Ended text
FollowIn text (Err e) = Unit {0}

abbrev SomeIn : List ℕ → Option (Follow × List ℕ) → Type 0
SomeIn text (Some x) = Asked x.0 x.1 → Ended text
SomeIn text None = Unit {0}

same_ended : (b c : ℕ) (bs : List ℕ) → eqb b c ≡ true → is_plain c ≡ true → ends (bare (c ∷ bs)) ≡ true → Good bs → Ended (b ∷ bs)
same_ended b c bs e p apart h = subst (λ (x : ℕ). Ended (x ∷ bs)) (sym (eqb-true b c e)) (record { good = plain_good c bs p h; apart = apart })

semicolon_ended : (b : ℕ) (bs : List ℕ) → eqb b 59 ≡ true → Good bs → Ended (b ∷ bs)
semicolon_ended b bs e h = subst (λ (x : ℕ). Ended (x ∷ bs)) (sym (eqb-true b 59 e)) (record { good = semicolon_good bs h; apart = refl })

less_good : (bs : List ℕ) → Good (after_less bs).1 → Good bs
less_good [] h = h
less_good (b ∷ bs) h =
    either (λ (x : Operator × List ℕ). Good x.1 → Good (b ∷ bs)) (eqb b 62) (NotEqual, bs) (cond (eqb b 61) (LessOrEqual, bs) (Less, b ∷ bs)) (λ e k. same_good b 62 bs e refl k)
    (λ _. either (λ (x : Operator × List ℕ). Good x.1 → Good (b ∷ bs)) (eqb b 61) (LessOrEqual, bs) (Less, b ∷ bs) (λ e k. same_good b 61 bs e refl k) (λ _ k. k)) h

greater_good : (bs : List ℕ) → Good (after_greater bs).1 → Good bs
greater_good [] h = h
greater_good (b ∷ bs) h = either (λ (x : Operator × List ℕ). Good x.1 → Good (b ∷ bs)) (eqb b 61) (GreaterOrEqual, bs) (Greater, b ∷ bs) (λ e k. same_good b 61 bs e refl k) (λ _ k. k) h

token_in : (b : ℕ) (bs : List ℕ) → SomeIn (b ∷ bs) (follow_token b bs)
token_in b bs =
    either (SomeIn (b ∷ bs)) (eqb b 41) _ _ (λ e h. same_ended b 41 bs e refl refl h.good)
    (λ _. either (SomeIn (b ∷ bs)) (eqb b 59) _ _ (λ e h. semicolon_ended b bs e h)
    (λ _. either (SomeIn (b ∷ bs)) (eqb b 42) _ _ (λ e h. same_ended b 42 bs e refl refl h)
    (λ _. either (SomeIn (b ∷ bs)) (eqb b 43) _ _ (λ e h. same_ended b 43 bs e refl refl h)
    (λ _. either (SomeIn (b ∷ bs)) (eqb b 45) _ _ (λ e h. same_ended b 45 bs e refl refl h)
    (λ _. either (SomeIn (b ∷ bs)) (eqb b 61) _ _ (λ e h. same_ended b 61 bs e refl refl h)
    (λ _. either (SomeIn (b ∷ bs)) (eqb b 60) _ _ (λ e h. same_ended b 60 bs e refl refl (less_good bs h))
    (λ _. either (SomeIn (b ∷ bs)) (eqb b 62) _ _ (λ e h. same_ended b 62 bs e refl refl (greater_good bs h)) (λ _. tt))))))))

found_in : (text : List ℕ) (x : Option (Follow × List ℕ)) → SomeIn text x → FollowIn text (found text x)
found_in text (Some x) h = h
found_in text None h = tt

follow_of_in : (text : List ℕ) → FollowIn text (follow_of text)
unfolding follow_of
follow_of_in [] = λ h. record { good = nothing_good; apart = refl }
follow_of_in (b ∷ bs) = found_in (b ∷ bs) (follow_token b bs) (token_in b bs)

ended_after_space : (text : List ℕ) (x : Read Follow) → FollowIn (skipped text) x → FollowIn text x
ended_after_space text (Ok x) h = λ k. skipped_ended text (h k)
ended_after_space text (Err e) h = tt

follow_in : (text : List ℕ) → FollowIn text (follow_at text)
unfolding follow_at
follow_in text = ended_after_space text (follow_of (skipped text)) (follow_of_in (skipped text))

-- ---- turns and walks

-- what is so of a text where this is due
abbrev Holds : Due → List ℕ → Type 0
Holds AnOperand text = Good text
Holds (FirstArgument name) text = Good text
Holds (ItsBracket f name) text = Named text
Holds AnOperator text = Ended text

abbrev TurnIn : Type 0 → Turn → Type 0
TurnIn this (Goes e j next) = Holds e next → this
TurnIn this (Stops s) = Unit {0}
TurnIn this Ends = Unit {0}

by_lead_in : (text : List ℕ) (i : List Bracket) (x : Read Lead) → LeadIn text x → TurnIn (Good text) (by_lead i x)
by_lead_in text i (Ok (leads.Leaf l, rest)) h = h
by_lead_in text i (Ok (leads.Prefix s, rest)) h = h
by_lead_in text i (Ok (leads.Open, rest)) h = h
by_lead_in text i (Ok (leads.Name f left, rest)) h = h
by_lead_in text i (Err s) h = tt

by_bracket_in : (text : List ℕ) (f : Function) (name : ℕ) (i : List Bracket) (x : Result (List ℕ) Stop) → ByteIn 40 (skipped text) x → TurnIn (Named text) (by_bracket f name i x)
by_bracket_in text f name i (Ok rest) h = λ k. skipped_named text (subst Named (sym h) (record { good = plain_good 40 rest refl k; apart = refl }))
by_bracket_in text f name i (Err s) h = tt

closed_in : (text : List ℕ) (i : List Bracket) (rest : List ℕ) → (Ended rest → Ended text) → TurnIn (Ended text) (closed i text rest)
closed_in text [] rest h = tt
closed_in text (Group ∷ i) rest h = h
closed_in text (Call f n name ∷ i) rest h = either (TurnIn (Ended text)) (takes f n) (Goes AnOperator i rest) (wrong_arguments name) (λ _. h) (λ _. tt)

by_follow_in : (text : List ℕ) (i : List Bracket) (x : Read Follow) → FollowIn text x → TurnIn (Ended text) (by_follow i text x)
by_follow_in text i (Ok (Infix o, rest)) h = h
by_follow_in text i (Ok (Close, rest)) h = closed_in text i rest h
by_follow_in text [] (Ok (Semicolon, rest)) h = tt
by_follow_in text (Group ∷ i) (Ok (Semicolon, rest)) h = tt
by_follow_in text (Call f n name ∷ i) (Ok (Semicolon, rest)) h = h
by_follow_in text [] (Ok (End, rest)) h = tt
by_follow_in text (b ∷ i) (Ok (End, rest)) h = tt
by_follow_in text i (Err s) h = tt

turn_in : (s : Scope) (d : Due) (i : List Bracket) (text : List ℕ) → TurnIn (Holds d text) (turn s d i text)
turn_in s AnOperand i text = by_lead_in text i (lead_at s text) (lead_in s text)
turn_in s (FirstArgument name) i text =
    either (TurnIn (Good text)) (begins 41 (skipped text)) (wrong_arguments name) (by_lead i (lead_at s text)) (λ _. tt) (λ _. by_lead_in text i (lead_at s text) (lead_in s text))
turn_in s (ItsBracket f name) i text = by_bracket_in text f name i (byte_at 40 (skipped text)) (byte_in 40 (skipped text))
turn_in s AnOperator i text = by_follow_in text i (follow_at text) (follow_in text)

walk_in : {s : Scope} {d e : Due} {i j : List Bracket} {text rest : List ℕ} → Walk s d i text e j rest → Holds e rest → Holds d text
walk_in stay h = h
walk_in {s} {d = d} {i = i} {text = text} (step {next = next} e v) h = subst (TurnIn (Holds d text)) e (turn_in s d i text) (walk_in v h)

-- ---- contents

expression_good : (s : Scope) (text : List ℕ) (f : Formula) (r : Ranges) → Expression s text f r → Good text
expression_good s text f r (mid, rest, level, end) = walk_in (level_walk level []) (subst (FollowIn mid) end (follow_in mid) tt)

equals_good : (text : List ℕ) → Good (without_equals text) → Good text
equals_good [] h = h
equals_good (b ∷ bs) h = either (λ (x : List ℕ). Good x → Good (b ∷ bs)) (eqb b 61) bs (b ∷ bs) (λ e k. same_good b 61 bs e refl k) (λ _ k. k) h

formula_good : (s : Scope) (text body : List ℕ) (f : Formula) (r : Ranges) → expression_of (61 ∷ text) ≡ Some body → Expression s body f r → Good (61 ∷ text)
unfolding expression_of
formula_good s text body f r e h =
    let same : without_equals text ≡ body = cc in
    plain_good 61 text refl (equals_good text (subst Good (sym same) (expression_good s body f r h)))

-- ---- texts

stays_no_bracket : (b : ℕ) → stays b ≡ true → is_bracket b ≡ false
stays_no_bracket b e = by_test (is_bracket b) e where
  by_test : (t : Bool) → cond t false (cond (eqb b 46) false true) ≡ true → t ≡ false
  by_test true h = let bad : false ≡ true = h in cc
  by_test false h = refl

shown_no_bracket : (b : ℕ) → is_bracket b ≡ false → is_bracket (cond (eqb b 59) 44 b) ≡ false
shown_no_bracket b e = by_test (eqb b 59) where
  by_test : (t : Bool) → is_bracket (cond t 44 b) ≡ false
  by_test true = refl
  by_test false = e

none_before : (c : ℕ) (n : List ℕ) → is_bracket c ≡ false → position_or_len is_bracket n ≡ length n → position_or_len is_bracket (c ∷ n) ≡ length (c ∷ n)
none_before c n e h =
    let one : 1 + position_or_len is_bracket n ≡ suc (length n) = omega (arith, h) in
    ap (λ (t : Bool). cond (not t) (1 + position_or_len is_bracket n) 0) e ∙ one

no_bracket : (text : List ℕ) → position_or_len is_bracket (bare text) ≡ length (bare text)
no_bracket [] = refl
no_bracket (b ∷ bs) =
    either (λ (t : List ℕ). position_or_len is_bracket t ≡ length t) (stays b) (cond (eqb b 59) 44 b ∷ bare bs) (bare bs)
    (λ e. none_before (cond (eqb b 59) 44 b) (bare bs) (shown_no_bracket b (stays_no_bracket b e)) (no_bracket bs)) (λ _. no_bracket bs)

no_position : (text : List ℕ) → position is_bracket (bare text) ≡ None
no_position text = by_test (ltb (position_or_len is_bracket (bare text)) (length (bare text))) refl where
  by_test : (t : Bool) → ltb (position_or_len is_bracket (bare text)) (length (bare text)) ≡ t → cond t (Some (position_or_len is_bracket (bare text))) None ≡ None
  by_test true e = absurd (let k = ltb-true (position_or_len is_bracket (bare text)) (length (bare text)) e in let j = no_bracket text in omega (arith, k, j))
  by_test false e = refl

formula_shown : (text : List ℕ) → length (61 ∷ text) ≤ 240 → Good (61 ∷ text) → opens (closed_text (61 ∷ text)) ≡ Ok (61 ∷ text)
unfolding opens closed_text
formula_shown text short h =
    ap (λ (o : Option ℕ). formula_opens o (bare (61 ∷ text))) (no_position (61 ∷ text)) ∙ ap within_limit h.is
    ∙ ap (λ (t : Bool). cond t (Ok (61 ∷ text)) (Err (record { kind = TooLong; offset = 240 }))) (le-leb (length (61 ∷ text)) 240 short)

other_shown : (text : List ℕ) → begins 61 text ≡ false → opens (closed_text text) ≡ Ok text
unfolding opens closed_text
other_shown text e =
    ap opens (ap (λ (t : Bool). cond t (bare text) text) e) ∙ ap (λ (t : Bool). cond t (formula_opens (position is_bracket text) text) (Ok text)) e

no_constant : (t : List ℕ) → expression_of (61 ∷ t) ≡ None → ⊥
unfolding expression_of
no_constant t h = cc

content_good : (s : Shape) (text : List ℕ) (p : PlainContent) → ReadsLong s text p → (t : List ℕ) → text ≡ 61 ∷ t → Good text
content_good s text p (blank) t e = nothing_good
content_good s text p (constant _ z some no_formula read) t e = absurd (no_constant t (subst (λ (x : List ℕ). expression_of x ≡ None) e no_formula))
content_good s text p (computed _ body f r formula expression placed fits) t e =
    subst Good (sym e) (formula_good (scope_of s) t body f r (subst (λ (x : List ℕ). expression_of x ≡ Some body) e formula) expression)

-- a text that has a content, in A1 notation, opens as itself
pub shown : (s : Shape) (text : List ℕ) (p : PlainContent) → Reads s text p → opens (closed_text text) ≡ Ok text
shown s [] p h = other_shown [] refl
shown s (b ∷ bs) p h = by_test (eqb b 61) refl where
  by_test : (t : Bool) → eqb b 61 ≡ t → opens (closed_text (b ∷ bs)) ≡ Ok (b ∷ bs)
  by_test true e =
      let is : b ≡ 61 = eqb-true b 61 e in
      let whole : b ∷ bs ≡ 61 ∷ bs = ap (λ (x : ℕ). x ∷ bs) is in
      subst (λ (t : List ℕ). opens (closed_text t) ≡ Ok t) (sym whole)
      (formula_shown bs (let k = h.short in omega (arith, k)) (subst Good whole (content_good s (b ∷ bs) p h.reads bs whole)))
  by_test false e = other_shown (b ∷ bs) e
