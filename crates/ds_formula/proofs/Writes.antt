-- A text that was written reads back.
use Rattle.std.proofs.Common.{◌≡◌, inl, inr, ℕ, ℤ, suc, ◌+◌, ◌^◌, ◌<◌, ◌≤◌, Bool, true, false, cond, ltb, List, [], ◌∷◌, ◌++◌, append_assoc, Ok, refl, sym, ap, subst, ◌∙◌, arith, add-one}
use Rattle.std.proofs.lemmas.Bool.{cases_lt}
use Rattle.std.proofs.lemmas.Bool.Decides.{nat_tests}
use Rattle.std.proofs.lemmas.List.{append-nil}
use Rattle.std.specs.Fmt.{decimal, signed_decimal}
use Rattle.ds_formula.specs.declared.cells.Shape.{Shape}
use Rattle.ds_formula.specs.declared.cells.Cell.{Cell}
use Rattle.ds_formula.specs.declared.cells.Rect.{Rect}
use Rattle.ds_formula.specs.declared.content.Sign.{Sign}
use Rattle.ds_formula.specs.declared.content.Sign.TheVariants.{Plus, Minus}
use Rattle.ds_formula.specs.declared.content.Operator.{Operator}
use Rattle.ds_formula.specs.declared.content.Function.{Function}
use Rattle.ds_formula.specs.declared.content.Function.TheVariants.{Sum, Min, Max, Abs, Mod, Quotient, If, Count, And, Or, Not}
use Rattle.ds_formula.specs.declared.ranges.Ranges.{Ranges}
use Rattle.ds_formula.specs.declared.ranges.Ranges.TheVariants.{Placed, Bare}
use Rattle.ds_formula.specs.declared.tokens.Follow.{Follow}
use Rattle.ds_formula.specs.declared.tokens.Follow.TheVariants.{Infix, Close, Semicolon, End}
use Rattle.ds_formula.specs.Plain.{Formula, Literal, At, Area, Signed, Joined, Called, Formulas, Nothing, Then, count}
use Rattle.ds_formula.specs.Bytes.{Read, begins}
use Rattle.ds_formula.specs.Cells.{IsInside}
use Rattle.ds_formula.specs.References.{area_of}
use Rattle.ds_formula.specs.Functions.{scope_of, name_of, takes}
use Rattle.ds_formula.specs.Ranges.{used, first_of, as_argument}
use Rattle.ds_formula.specs.Tokens.{follow_at}
use Rattle.ds_formula.specs.Forms.{Operand, leaf, sign, group, call, bracketed, Arguments, last, more, Level, tightest, looser, Chain, ends, goes_on, level_of, NoSemicolon}
use Rattle.ds_formula.specs.Names.{cell_text}
use Rattle.ds_formula.specs.Texts.{sign_text, operator_text, precedence, in_parentheses, text_of, texts_of, others_of, wrapped}
use Rattle.ds_formula.proofs.Steps.{NoneFrom}
use Rattle.ds_formula.proofs.Parses.{lowered, most}
use Rattle.ds_formula.proofs.Formed.{Formed, AllFormed, IsLiteral, IsArea}
use Rattle.ds_formula.proofs.Digits.{unequal, decimal_starts, Parts}
use Rattle.ds_formula.proofs.Back.{Leads, literal_back, reference_back, range_back, area_back, name_back, sign_back, open_back, bracket_back, close_back, semicolon_back, operator_back, operator_parts, end_back}

-- ---- what stands below

abbrev given : Follow × List ℕ → Read Follow
given x = Ok x

given_is : (x y : Follow × List ℕ) → given x ≡ given y → x ≡ y
given_is x y e = cc

front_same : (t u : Follow) (x y : List ℕ) → given (t, x) ≡ given (u, y) → t ≡ u
front_same t u x y e = ap (λ (z : Follow × List ℕ). z.0) (given_is (t, x) (u, y) e)

follow_same : (o q : Operator) (x y : List ℕ) → given (Infix o, x) ≡ given (Infix q, y) → o ≡ q
follow_same o q x y e = let p = front_same (Infix o) (Infix q) x y e in cc

none_close : (rest : List ℕ) → NoneFrom 0 (41 ∷ rest)
none_close rest o after l h = let e = front_same Close (Infix o) rest after (sym (close_back rest) ∙ h) in cc

none_semicolon : (rest : List ℕ) → NoneFrom 0 (59 ∷ rest)
none_semicolon rest o after l h = let e = front_same Semicolon (Infix o) rest after (sym (semicolon_back rest) ∙ h) in cc

close_parts : (rest : List ℕ) → Parts (41 ∷ rest)
close_parts rest = record { digit = refl; fraction = refl }

semicolon_parts : (rest : List ℕ) → Parts (59 ∷ rest)
semicolon_parts rest = record { digit = refl; fraction = refl }

close_no_semicolon : (rest : List ℕ) → NoSemicolon (41 ∷ rest)
close_no_semicolon rest after h = let e = front_same Close Semicolon rest after (sym (close_back rest) ∙ h) in cc

-- ---- what stands in front

leads_left : (left other : List ℕ) (rest : List ℕ) → Leads (left ++ (other ++ rest)) → Leads ((left ++ other) ++ rest)
leads_left left other rest h = rw append_assoc h

name_leads : (g : Function) (rest : List ℕ) → Leads ((name_of g ++ rest))
name_leads Sum rest = record { no_equals = refl; no_greater = refl }
name_leads Min rest = record { no_equals = refl; no_greater = refl }
name_leads Max rest = record { no_equals = refl; no_greater = refl }
name_leads Abs rest = record { no_equals = refl; no_greater = refl }
name_leads Mod rest = record { no_equals = refl; no_greater = refl }
name_leads Quotient rest = record { no_equals = refl; no_greater = refl }
name_leads If rest = record { no_equals = refl; no_greater = refl }
name_leads Count rest = record { no_equals = refl; no_greater = refl }
name_leads And rest = record { no_equals = refl; no_greater = refl }
name_leads Or rest = record { no_equals = refl; no_greater = refl }
name_leads Not rest = record { no_equals = refl; no_greater = refl }

sign_leads : (g : Sign) (rest : List ℕ) → Leads (sign_text g ++ rest)
sign_leads Plus rest = record { no_equals = refl; no_greater = refl }
sign_leads Minus rest = record { no_equals = refl; no_greater = refl }

decimal_leads : (n : ℕ) (rest : List ℕ) → n < 2 ^ 64 → Leads (decimal n ++ rest)
decimal_leads n rest h =
    let d = decimal_starts n h in
    let p : decimal n ++ rest ≡ d.head ∷ (d.tail ++ rest) = ap (λ (x : List ℕ). x ++ rest) d.is in
    record {
      no_equals = ap (begins 61) p ∙ unequal d.head 61 (λ e. omega (arith, e, d.high));
      no_greater = ap (begins 62) p ∙ unequal d.head 62 (λ e. omega (arith, e, d.high));
    }

wrapped_leads : (t : Bool) (text rest : List ℕ) → Leads (text ++ rest) → Leads (cond t (in_parentheses text) text ++ rest)
wrapped_leads true text rest h = record { no_equals = refl; no_greater = refl }
wrapped_leads false text rest h = h

-- a written expression begins with no `=` or `>`, which would lengthen an operator before it
pub text_leads : (s : Shape) (f : Formula) (rest : List ℕ) → Formed s f → Leads (text_of f ++ rest)
text_leads s (Literal z) rest h = subst (λ (x : ℤ). Leads (signed_decimal x ++ rest)) (sym h.is) (decimal_leads h.value rest (omega (arith, h.small)))
text_leads s (At c) rest h = record { no_equals = refl; no_greater = refl }
text_leads s (Area r) rest h = record { no_equals = refl; no_greater = refl }
text_leads s (Signed g f) rest h = leads_left (sign_text g) _ rest (sign_leads g _)
text_leads s (Joined o f g) rest h =
    leads_left (cond (ltb (precedence f) (level_of o)) (in_parentheses (text_of f)) (text_of f)) _ rest (wrapped_leads (ltb (precedence f) (level_of o)) (text_of f) _ (text_leads s f _ h.0))
text_leads s (Called g fs) rest h = leads_left (name_of g) _ rest (name_leads g _)

nothing_behind : (o : Operator) (after : List ℕ) → follow_at [] ≡ Ok (Infix o, after) → ⊥
nothing_behind o after h = let e = front_same End (Infix o) [] after (sym end_back ∙ h) in cc

-- ---- levels

module _ (s : Shape) where
  abbrev pub OperandOf : List ℕ → Formula → List ℕ → Type 0
  OperandOf text f rest = (r : Ranges) × Operand (scope_of s) text f r rest

  abbrev pub LevelOf : ℕ → List ℕ → Formula → List ℕ → Type 0
  LevelOf k text f rest = (r : Ranges) × Level (scope_of s) k text f r rest

  -- a form of the level that operators of the level may still be added to
  pub record Open (k : ℕ) (text : List ℕ) (f : Formula) (rest : List ℕ) : Type 0 where
    pub start : Formula
    pub starts : Ranges
    pub mid : List ℕ
    pub ranges : Ranges
    pub first : Level (scope_of s) (suc k) text start starts mid
    pub reaches : (h : Formula) (t : Ranges) (end : List ℕ) → Chain (scope_of s) k f ranges rest h t end → Chain (scope_of s) k start starts mid h t end

  weaker : (j k : ℕ) (rest : List ℕ) → j ≤ k → NoneFrom j rest → NoneFrom k rest
  weaker j k rest l n o after h e = n o after (omega (arith, l, h)) e

  looser_one : (j k : ℕ) (text : List ℕ) (f : Formula) (rest : List ℕ) → k ≤ j → j ≤ 3 → LevelOf j text f rest → NoneFrom k rest → LevelOf k text f rest
  looser_one j k text f rest l m v n = (v.0, lowered (scope_of s) text f v.0 rest j k l m v.1 n)

  of_operand : (k : ℕ) (text : List ℕ) (f : Formula) (rest : List ℕ) → k ≤ 3 → OperandOf text f rest → NoneFrom k rest → LevelOf k text f rest
  of_operand k text f rest l v n = looser_one 3 k text f rest l (omega arith) (v.0, tightest refl v.1) n

  opened : (k : ℕ) (text : List ℕ) (f : Formula) (rest : List ℕ) → LevelOf (suc k) text f rest → Open k text f rest
  opened k text f rest v = record { start = f; starts = v.0; mid = rest; ranges = v.0; first = v.1; reaches = λ h t end c. c }

  ended : (k : ℕ) (text : List ℕ) (f : Formula) (rest : List ℕ) → k < 3 → Open k text f rest → NoneFrom k rest → LevelOf k text f rest
  ended k text f rest l v n = (v.ranges, looser l v.first (v.reaches f v.ranges rest (ends (λ o after h q. n o after (omega (arith, q)) h))))

  operand_at_three : (text : List ℕ) (f : Formula) (rest : List ℕ) → LevelOf 3 text f rest → OperandOf text f rest
  operand_at_three text f rest v = inverted v.0 refl v.1
    where
      inverted : {k : ℕ} (r : Ranges) → k ≡ 3 → Level (scope_of s) k text f r rest → OperandOf text f rest
      inverted r e (tightest h v) = (r, v)
      inverted r e (looser h v w) = absurd (omega (arith, e, h))

  -- the text of f reads back, at its level and at those that are looser
  pub record Backs (f : Formula) : Type 0 where
    pub closed : (k : ℕ) (rest : List ℕ) → Parts rest → k ≤ precedence f → NoneFrom k rest → LevelOf k (text_of f ++ rest) f rest
    pub open_at : (rest : List ℕ) → Parts rest → precedence f < 3 → NoneFrom (suc (precedence f)) rest → Open (precedence f) (text_of f ++ rest) f rest

  from_operand : (f : Formula) → precedence f ≡ 3 → ((rest : List ℕ) → Parts rest → OperandOf (text_of f ++ rest) f rest) → Backs f
  from_operand f e h = record {
    closed = λ k rest p l n. of_operand k (text_of f ++ rest) f rest (omega (arith, e, l)) (h rest p) n;
    open_at = λ rest p l n. absurd (omega (arith, e, l));
  }

  from_open : (f : Formula) → precedence f < 3 → ((rest : List ℕ) → Parts rest → NoneFrom (suc (precedence f)) rest → Open (precedence f) (text_of f ++ rest) f rest) → Backs f
  from_open f l h = record {
    closed = λ k rest p m n.
        looser_one (precedence f) k (text_of f ++ rest) f rest m (omega (arith, l))
        (ended (precedence f) (text_of f ++ rest) f rest l (h rest p (weaker k (suc (precedence f)) rest (omega (arith, m)) n)) (weaker k (precedence f) rest m n)) n;
    open_at = λ rest p _ n. h rest p n;
  }

  group_back : (f : Formula) (rest : List ℕ) → Backs f → OperandOf (in_parentheses (text_of f) ++ rest) f rest
  group_back f rest b =
      let v = b.closed 0 (41 ∷ rest) (close_parts rest) (omega arith) (none_close rest) in
      let e : (text_of f ++ 41 ∷ []) ++ rest ≡ text_of f ++ (41 ∷ rest) = append_assoc (text_of f) (41 ∷ []) rest in
      (v.0, subst (λ (x : List ℕ). Operand (scope_of s) (40 ∷ x) f v.0 rest) (sym e) (group (open_back (scope_of s) (text_of f ++ (41 ∷ rest))) v.1 (close_back rest)))

  wrap_closed : (f : Formula) (k : ℕ) (rest : List ℕ) (t : Bool) → ltb (precedence f) k ≡ t → k ≤ 3 → Backs f → Parts rest → NoneFrom k rest → LevelOf k (cond t (in_parentheses (text_of f)) (text_of f) ++ rest) f rest
  wrap_closed f k rest true e l b p n = of_operand k (in_parentheses (text_of f) ++ rest) f rest l (group_back f rest b) n
  wrap_closed f k rest false e l b p n = b.closed k rest p (let m : k ≤ precedence f = grind (arith, nat_tests) in m) n

  wrap_open : (f : Formula) (k : ℕ) (rest : List ℕ) (t : Bool) → ltb (precedence f) k ≡ t → k < 3 → Backs f → Parts rest → NoneFrom (suc k) rest → Open k (cond t (in_parentheses (text_of f)) (text_of f) ++ rest) f rest
  wrap_open f k rest true e l b p n = opened k (in_parentheses (text_of f) ++ rest) f rest (of_operand (suc k) (in_parentheses (text_of f) ++ rest) f rest (omega (arith, l)) (group_back f rest b) n)
  wrap_open f k rest false e l b p n = elim (cases_lt k (precedence f)) [
    | inl lt ↦ opened k (text_of f ++ rest) f rest (b.closed (suc k) rest p (omega (arith, lt)) n)
    | inr ge ↦ (
        let m : k ≤ precedence f = grind (arith, nat_tests) in
        let q : precedence f ≡ k = omega (arith, m, ge) in
        subst (λ (x : ℕ). Open x (text_of f ++ rest) f rest) q (b.open_at rest p (omega (arith, q, l)) (subst (λ (x : ℕ). NoneFrom (suc x) rest) (sym q) n)))
  ]

  -- ---- each form

  literal_writes : (z : ℤ) → IsLiteral z → Backs (Literal z)
  literal_writes z h = from_operand (Literal z) refl (λ rest p.
      let t = literal_back (scope_of s) h.value rest h.small p in
      (_, subst (λ (x : ℤ). Operand (scope_of s) (signed_decimal x ++ rest) (Literal x) Placed rest) (sym h.is) (leaf t)))

  reference_writes : (c : Cell) → IsInside s c → Backs (At c)
  reference_writes c h = from_operand (At c) refl (λ rest p.
      let e : (91 ∷ 46 ∷ (cell_text c ++ 93 ∷ [])) ++ rest ≡ 91 ∷ 46 ∷ (cell_text c ++ 93 ∷ rest) = ap (λ (x : List ℕ). 91 ∷ 46 ∷ x) (append_assoc (cell_text c) (93 ∷ []) rest) in
      (Placed, subst (λ (x : List ℕ). Operand (scope_of s) x (At c) Placed rest) (sym e) (leaf (reference_back (scope_of s) c rest h))))

  range_writes : (r : Rect) → IsArea s r → Backs (Area r)
  range_writes r h = from_operand (Area r) refl (λ rest p.
      let e : (91 ∷ 46 ∷ (cell_text r.first ++ (58 ∷ 46 ∷ (cell_text r.last ++ 93 ∷ [])))) ++ rest ≡ 91 ∷ 46 ∷ (cell_text r.first ++ (58 ∷ 46 ∷ (cell_text r.last ++ 93 ∷ rest))) = simp append_assoc in
      let t = range_back (scope_of s) r.first r.last rest h.first h.last in
      let v : Operand (scope_of s) (91 ∷ 46 ∷ (cell_text r.first ++ (58 ∷ 46 ∷ (cell_text r.last ++ 93 ∷ rest)))) (Area (area_of r.first r.last)) (Bare t.0) rest = leaf t.1 in
      (Bare t.0, subst (λ (x : List ℕ). Operand (scope_of s) x (Area r) (Bare t.0) rest) (sym e) (subst (λ (x : Rect). Operand (scope_of s) (91 ∷ 46 ∷ (cell_text r.first ++ (58 ∷ 46 ∷ (cell_text r.last ++ 93 ∷ rest)))) (Area x) (Bare t.0) rest) (area_back s r h) v)))

  sign_writes : (g : Sign) (f : Formula) → Backs f → Backs (Signed g f)
  sign_writes g f b = from_operand (Signed g f) refl (λ rest p.
      let inner = wrapped 3 f in
      let v = operand_at_three (inner ++ rest) f rest (wrap_closed f 3 rest (ltb (precedence f) 3) refl (omega arith) b p (λ o after h e. let m = most o in omega (arith, m, h))) in
      (used v.0, subst (λ (x : List ℕ). Operand (scope_of s) x (Signed g f) (used v.0) rest) (sym (append_assoc (sign_text g) inner rest)) (sign (sign_back (scope_of s) g (inner ++ rest)) v.1)))

  joined_open : (o : Operator) (f g : Formula) (rest : List ℕ) → Backs f → Backs g → Formed s g → Parts rest → NoneFrom (suc (level_of o)) rest → Open (level_of o) (text_of (Joined o f g) ++ rest) (Joined o f g) rest
  joined_open o f g rest bf bg fg p n =
      let k = level_of o in
      let lt = most o in
      let left = wrapped k f in
      let right = wrapped (k + 1) g in
      let after = right ++ rest in
      let mid = operator_text o ++ after in
      let e1 : k + 1 ≡ suc k = add-one k in
      let none : NoneFrom (k + 1) rest = subst (λ (x : ℕ). NoneFrom x rest) (sym e1) n in
      let v = wrap_closed g (k + 1) rest (ltb (precedence g) (k + 1)) refl (omega (arith, lt)) bg p none in
      let w : Level (scope_of s) (suc k) after g v.0 rest = subst (λ (x : ℕ). Level (scope_of s) x after g v.0 rest) e1 v.1 in
      let here = operator_back o after (wrapped_leads (ltb (precedence g) (k + 1)) (text_of g) rest (text_leads s g rest fg)) in
      let none_mid : NoneFrom (suc k) mid = λ q x l h. (let c = sym here ∙ h in let same : o ≡ q = follow_same o q after x c in omega (arith, l, ap level_of same)) in
      let u = wrap_open f k mid (ltb (precedence f) k) refl lt bf (operator_parts o after) none_mid in
      let e : (left ++ (operator_text o ++ right)) ++ rest ≡ left ++ mid = simp append_assoc in
      let all : Open k (left ++ mid) (Joined o f g) rest = record {
        start = u.start;
        starts = u.starts;
        mid = u.mid;
        ranges = first_of (used u.ranges) (used v.0);
        first = u.first;
        reaches = λ h t end c. u.reaches h t end (goes_on here refl w c);
      } in
      subst (λ (x : List ℕ). Open k x (Joined o f g) rest) (sym e) all

  some_arguments : (g : Function) (fs : Formulas) → takes g (count fs) ≡ true → 0 < count fs
  some_arguments g (Then f fs) h = omega arith
  some_arguments Sum Nothing h = absurd cc
  some_arguments Min Nothing h = absurd cc
  some_arguments Max Nothing h = absurd cc
  some_arguments Abs Nothing h = absurd cc
  some_arguments Mod Nothing h = absurd cc
  some_arguments Quotient Nothing h = absurd cc
  some_arguments If Nothing h = absurd cc
  some_arguments Count Nothing h = absurd cc
  some_arguments And Nothing h = absurd cc
  some_arguments Or Nothing h = absurd cc
  some_arguments Not Nothing h = absurd cc

  abbrev ArgumentsOf : Function → List ℕ → Formulas → List ℕ → Type 0
  ArgumentsOf g text fs rest = (r : Ranges) × Arguments (scope_of s) g text fs r rest

  call_writes : (g : Function) (fs : Formulas) → takes g (count fs) ≡ true → ((rest : List ℕ) → ArgumentsOf g (texts_of fs ++ 41 ∷ rest) fs (41 ∷ rest)) → Backs (Called g fs)
  call_writes g fs y h = from_operand (Called g fs) refl (λ rest p.
      let v = h rest in
      let inner = texts_of fs ++ 41 ∷ rest in
      let e : (name_of g ++ (40 ∷ (texts_of fs ++ 41 ∷ []))) ++ rest ≡ name_of g ++ (40 ∷ inner) = simp append_assoc in
      (v.0, subst (λ (x : List ℕ). Operand (scope_of s) x (Called g fs) v.0 rest) (sym e) (call (name_back s g inner) (bracketed (bracket_back inner) v.1 (close_back rest) y))))

  last_writes : (g : Function) (f : Formula) (rest : List ℕ) → Backs f → ArgumentsOf g ((text_of f ++ []) ++ 41 ∷ rest) (Then f Nothing) (41 ∷ rest)
  last_writes g f rest b =
      let v = b.closed 0 (41 ∷ rest) (close_parts rest) (omega arith) (none_close rest) in
      let e : text_of f ++ [] ≡ text_of f = append-nil (text_of f) in
      (as_argument g v.0, subst (λ (x : List ℕ). Arguments (scope_of s) g (x ++ 41 ∷ rest) (Then f Nothing) (as_argument g v.0) (41 ∷ rest)) (sym e) (last v.1 (close_no_semicolon rest)))

  more_writes : (g : Function) (f h : Formula) (fs : Formulas) (rest : List ℕ) → Backs f → ArgumentsOf g ((text_of h ++ others_of fs) ++ 41 ∷ rest) (Then h fs) (41 ∷ rest)
      → ArgumentsOf g ((text_of f ++ (59 ∷ (text_of h ++ others_of fs))) ++ 41 ∷ rest) (Then f (Then h fs)) (41 ∷ rest)
  more_writes g f h fs rest b w =
      let next = (text_of h ++ others_of fs) ++ 41 ∷ rest in
      let v = b.closed 0 (59 ∷ next) (semicolon_parts next) (omega arith) (none_semicolon next) in
      let e : (text_of f ++ (59 ∷ (text_of h ++ others_of fs))) ++ 41 ∷ rest ≡ text_of f ++ (59 ∷ next) = append_assoc (text_of f) (59 ∷ (text_of h ++ others_of fs)) (41 ∷ rest) in
      (first_of (as_argument g v.0) w.0, subst (λ (x : List ℕ). Arguments (scope_of s) g x (Then f (Then h fs)) (first_of (as_argument g v.0) w.0) (41 ∷ rest)) (sym e) (more v.1 (semicolon_back next) w.1))

  mutual
    pub writes_back : (f : Formula) → Formed s f → Backs f
    writes_back (Literal z) h = literal_writes z h
    writes_back (At c) h = reference_writes c h
    writes_back (Area r) h = range_writes r h
    writes_back (Signed g f) h = sign_writes g f (writes_back f h)
    writes_back (Joined o f g) h = from_open (Joined o f g) (most o) (λ rest p n. joined_open o f g rest (writes_back f h.0) (writes_back g h.1) h.1 p n)
    writes_back (Called g fs) h = call_writes g fs h.0 (λ rest. arguments_back g fs rest (some_arguments g fs h.0) h.1)

    arguments_back : (g : Function) (fs : Formulas) (rest : List ℕ) → 0 < count fs → AllFormed s fs → ArgumentsOf g (texts_of fs ++ 41 ∷ rest) fs (41 ∷ rest)
    arguments_back g Nothing rest l h = absurd (omega (arith, l))
    arguments_back g (Then f Nothing) rest l h = last_writes g f rest (writes_back f h.0)
    arguments_back g (Then f (Then u us)) rest l h = more_writes g f u us rest (writes_back f h.0) (arguments_back g (Then u us) rest (omega arith) h.1)

  pub level_back : (f : Formula) → Formed s f → LevelOf 0 (text_of f) f []
  level_back f h =
      let v = (writes_back f h).closed 0 [] (record { digit = refl; fraction = refl }) (omega arith) (λ o after l e. nothing_behind o after e) in
      (v.0, subst (λ (x : List ℕ). Level (scope_of s) 0 x f v.0 []) (append-nil (text_of f)) v.1)
