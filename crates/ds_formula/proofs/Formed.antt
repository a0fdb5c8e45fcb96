-- What was read is well formed, and how its ranges stand follows from it.
use Rattle.std.proofs.Common.{◌≡◌, ◌⊎◌, inl, inr, ℕ, ℤ, pos, ◌-◌, ◌^◌, ◌≤◌, Bool, true, false, cond, leb, eqb, ◌&&◌, List, [], ◌∷◌, drop, Option, Some, None, Result, Ok, Err, refl, sym, ap, subst, ◌∙◌, arith}
use Rattle.std.proofs.lemmas.Bool.{leb-true}
use Rattle.std.specs.Char.{is_ascii_digit, is_ascii_alphabetic}
use Rattle.ds_formula.specs.declared.cells.Shape.{Shape}
use Rattle.ds_formula.specs.declared.cells.Cell.{Cell}
use Rattle.ds_formula.specs.declared.cells.Rect.{Rect}
use Rattle.ds_formula.specs.declared.content.Sign.TheVariants.{Plus, Minus}
use Rattle.ds_formula.specs.declared.content.Function.{Function}
use Rattle.ds_formula.specs.declared.fault.FaultKind.TheVariants.{NotWhole, NumberTooLarge}
use Rattle.ds_formula.specs.declared.ranges.Ranges.{Ranges}
use Rattle.ds_formula.specs.declared.ranges.Ranges.TheVariants.{Placed, Bare, Misplaced}
use Rattle.ds_formula.specs.declared.tokens.Stop.{Stop}
use Rattle.ds_formula.specs.declared.tokens.Leaf.{Leaf}
use Rattle.ds_formula.specs.declared.tokens.Leaf.TheVariants.{Number, Reference, Range}
use Rattle.ds_formula.specs.declared.tokens.Lead.{Lead}
use Rattle.ds_formula.specs.declared.tokens.Lead.TheVariants as leads
use Rattle.ds_formula.specs.Cells.{IsInside}
use Rattle.ds_formula.specs.Plain.{Formula, Literal, At, Area, Signed, Joined, Called, Formulas, Nothing, Then, count, PlainContent}
use Rattle.ds_formula.specs.Refs.{Mentions, SomeMentions, Refers, IsPossible}
use Rattle.ds_formula.specs.Bytes.{Read, ◌>>=◌, stop_at, unexpected_stop, begins, skipped, number_from, goes_on_as_fraction, number_at, byte_at}
use Rattle.ds_formula.specs.References.{letters_at, row_at, without_dollar, cell_of, corner_at, inside_sheet, both_inside, behind_corner, reference_at}
use Rattle.ds_formula.specs.Functions.{Scope, takes, takes_ranges, function_named}
use Rattle.ds_formula.specs.Ranges.{used, first_of, as_argument, misplaced}
use Rattle.ds_formula.specs.Tokens.{word_length, word_at, known, name_at, lead_of, lead_at}
use Rattle.ds_formula.specs.Forms.{leaf_formula, leaf_ranges, Operand, leaf, sign, group, call, Call, bracketed, Arguments, last, more, Level, tightest, looser, Chain, ends, goes_on}
use Rattle.ds_formula.specs.Grammar.{ReadsLong, blank, constant, computed}

-- a range of the sheet, its upper left corner first
pub record IsArea (s : Shape) (r : Rect) : Type 0 where
  pub first : IsInside s r.first
  pub last : IsInside s r.last
  pub columns : r.first.column ≤ r.last.column
  pub rows : r.first.row ≤ r.last.row

-- a number that a formula may have
pub record IsLiteral (z : ℤ) : Type 0 where
  pub value : ℕ
  pub is : z ≡ pos value
  pub small : value ≤ 2 ^ 63 - 1

abbrev mutual
  -- numbers, cells and counts of arguments are those that a text may have
  pub Formed : Shape → Formula → Type 0
  Formed s (Literal z) = IsLiteral z
  Formed s (At c) = IsInside s c
  Formed s (Area r) = IsArea s r
  Formed s (Signed g f) = Formed s f
  Formed s (Joined o f g) = Formed s f × Formed s g
  Formed s (Called g fs) = (takes g (count fs) ≡ true) × AllFormed s fs

  pub AllFormed : Shape → Formulas → Type 0
  AllFormed s Nothing = Unit {0}
  AllFormed s (Then f fs) = Formed s f × AllFormed s fs

-- ---- cells of what is well formed

either_inside : (s : Shape) (c : Cell) (P Q : Type 0) → (P → IsInside s c) → (Q → IsInside s c) → P ⊎ Q → IsInside s c
either_inside s c P Q p q (inl h) = p h
either_inside s c P Q p q (inr h) = q h

mutual
  pub formed_inside : (s : Shape) (f : Formula) (c : Cell) → Formed s f → Mentions f c → IsInside s c
  formed_inside s (Literal z) c h m = absurd m
  formed_inside s (At d) c h m = subst (λ (x : Cell). IsInside s x) m h
  formed_inside s (Area r) c h m = record { column = omega (arith, h.last.column, m.to_right); row = omega (arith, h.last.row, m.to_bottom) }
  formed_inside s (Signed g f) c h m = formed_inside s f c h m
  formed_inside s (Joined o f g) c h m = either_inside s c (Mentions f c) (Mentions g c) (formed_inside s f c h.0) (formed_inside s g c h.1) m
  formed_inside s (Called g fs) c h m = all_inside s fs c h.1 m

  all_inside : (s : Shape) (fs : Formulas) (c : Cell) → AllFormed s fs → SomeMentions fs c → IsInside s c
  all_inside s Nothing c h m = absurd m
  all_inside s (Then f fs) c h m = either_inside s c (Mentions f c) (SomeMentions fs c) (formed_inside s f c h.0) (all_inside s fs c h.1) m

-- ---- tokens

-- what holds of both branches holds of an `if`
pub either : {A : Type 0} (P : A → Type 0) (t : Bool) (x y : A) → (t ≡ true → P x) → (t ≡ false → P y) → P (cond t x y)
either P true x y p q = p refl
either P false x y p q = q refl

-- what holds of each fault, and of what comes of each value, holds of both steps together
pub bind : {A B : Type 0} (P : Result B Stop → Type 0) (x : Result A Stop) (f : A → Result B Stop) → ((e : Stop) → P (Err e)) → ((a : A) → P (f a)) → P (x >>= f)
bind P (Ok a) f e h = h a
bind P (Err u) f e h = e u

-- the same, where what is known of the first step is handed on to the second
pub bind_with : {A B : Type 0} (Q : Result A Stop → Type 0) (P : Result B Stop → Type 0) (x : Result A Stop) (f : A → Result B Stop) → Q x → ((e : Stop) → P (Err e)) → ((a : A) → Q (Ok a) → P (f a)) → P (x >>= f)
bind_with Q P (Ok a) f q e h = h a q
bind_with Q P (Err u) f q e h = e u

-- a number that was read is within the limit
abbrev pub NumberGood : ℕ → Read ℕ → Type 0
NumberGood limit (Ok x) = x.0 ≤ limit
NumberGood limit (Err e) = Unit {0}

-- a whole number that was read is within its limit
pub number_good : (limit : ℕ) (text : List ℕ) → NumberGood limit (number_at limit text)
unfolding number_at
number_good limit [] = tt
number_good limit (b ∷ bs) =
    let read : ℕ × List ℕ = number_from 0 (b ∷ bs) in
    let large : Read ℕ = Err (stop_at NumberTooLarge (b ∷ bs)) in
    let broken : Read ℕ = Err (stop_at NotWhole read.1) in
    let inner : Read ℕ = cond (leb read.0 limit) (Ok read) large in
    either (NumberGood limit) (is_ascii_digit b) (cond (goes_on_as_fraction read.1) broken inner) (Err (unexpected_stop (b ∷ bs)))
    (λ _. either (NumberGood limit) (goes_on_as_fraction read.1) broken inner (λ _. tt) (λ _. either (NumberGood limit) (leb read.0 limit) (Ok read) large (λ e. leb-true read.0 limit e) (λ _. tt)))
    (λ _. tt)

abbrev CellGood : Shape → Option Cell → Type 0
CellGood s (Some c) = IsInside s c
CellGood s None = Unit {0}

cell_good : (s : Shape) (column row : ℕ) → CellGood s (cell_of s column row)
cell_good s column row =
    either (CellGood s) (leb column s.columns && leb row s.rows) (Some (record { column = column - 1; row = row - 1 })) None
    (λ e. (
    let p = both_true (leb column s.columns) (leb row s.rows) e in
    let c = leb-true column s.columns p.0 in
    let r = leb-true row s.rows p.1 in
    record { column = omega (arith, c, s.within.some_columns); row = omega (arith, r, s.within.some_rows) }))
    (λ _. tt)
  where
    both_true : (a b : Bool) → (a && b) ≡ true → (a ≡ true) × (b ≡ true)
    both_true true true e = (refl, refl)
    both_true true false e = absurd cc
    both_true false b e = absurd cc

abbrev CornerGood : Shape → Read (Option Cell) → Type 0
CornerGood s (Ok x) = CellGood s x.0
CornerGood s (Err e) = Unit {0}

corner_good : (s : Shape) (text : List ℕ) → CornerGood s (corner_at s text)
unfolding corner_at
corner_good s text =
    bind (CornerGood s) (byte_at 46 text) (λ dot. letters_at (without_dollar dot) >>= λ column. row_at (without_dollar column.1) >>= λ row. Ok (cell_of s column.0 row.0, row.1)) (λ _. tt)
    (λ dot. bind (CornerGood s) (letters_at (without_dollar dot)) (λ column. row_at (without_dollar column.1) >>= λ row. Ok (cell_of s column.0 row.0, row.1)) (λ _. tt)
    (λ column. bind (CornerGood s) (row_at (without_dollar column.1)) (λ row. Ok (cell_of s column.0 row.0, row.1)) (λ _. tt) (λ row. cell_good s column.0 row.0)))

abbrev LeafGood : Shape → Read Leaf → Type 0
LeafGood s (Ok x) = Formed s (leaf_formula x.0)
LeafGood s (Err e) = Unit {0}

both_good : (s : Shape) (text : List ℕ) (one other : Option Cell) (end : List ℕ) → CellGood s one → CellGood s other → LeafGood s (both_inside text one other end)
both_good s text (Some c) (Some d) end p q = record {
  first = record { column = omega (arith, p.column, q.column); row = omega (arith, p.row, q.row) };
  last = record { column = omega (arith, p.column, q.column); row = omega (arith, p.row, q.row) };
  columns = omega arith;
  rows = omega arith;
}
both_good s text (Some c) None end p q = tt
both_good s text None other end p q = tt

one_good : (s : Shape) (text : List ℕ) (one : Option Cell) (end : List ℕ) → CellGood s one → LeafGood s (inside_sheet text one end)
one_good s text (Some c) end p = p
one_good s text None end p = tt

corner_rest_good : (s : Shape) (text : List ℕ) (one : Option Cell) (rest : List ℕ) → CellGood s one → LeafGood s (behind_corner s text one rest)
corner_rest_good s text one rest p =
    let range : Read Leaf = corner_at s (drop 1 rest) >>= λ other. byte_at 93 other.1 >>= λ end. both_inside text one other.0 end in
    let single : Read Leaf = byte_at 93 rest >>= λ end. inside_sheet text one end in
    either (LeafGood s) (begins 58 rest) range single
    (λ _. bind_with (CornerGood s) (LeafGood s) (corner_at s (drop 1 rest)) (λ other. byte_at 93 other.1 >>= λ end. both_inside text one other.0 end) (corner_good s (drop 1 rest)) (λ _. tt)
    (λ other q. bind (LeafGood s) (byte_at 93 other.1) (λ end. both_inside text one other.0 end) (λ _. tt) (λ end. both_good s text one other.0 end p q)))
    (λ _. bind (LeafGood s) (byte_at 93 rest) (λ end. inside_sheet text one end) (λ _. tt) (λ end. one_good s text one end p))

reference_good : (s : Shape) (text : List ℕ) → LeafGood s (reference_at s text)
unfolding reference_at
reference_good s text =
    bind (LeafGood s) (byte_at 91 text) (λ bracket. corner_at s bracket >>= λ one. behind_corner s text one.0 one.1) (λ _. tt)
    (λ bracket. bind_with (CornerGood s) (LeafGood s) (corner_at s bracket) (λ one. behind_corner s text one.0 one.1) (corner_good s bracket) (λ _. tt)
    (λ one p. corner_rest_good s text one.0 one.1 p))

abbrev LeadGood : Shape → Read Lead → Type 0
LeadGood s (Ok (leads.Leaf l, rest)) = Formed s (leaf_formula l)
LeadGood s (Ok (leads.Prefix g, rest)) = Unit {0}
LeadGood s (Ok (leads.Open, rest)) = Unit {0}
LeadGood s (Ok (leads.Name g n, rest)) = Unit {0}
LeadGood s (Err e) = Unit {0}

name_good : (s : Shape) (text : List ℕ) (f : Option Function) (rest : List ℕ) → LeadGood s (known text f rest)
name_good s text (Some f) rest = tt
name_good s text None rest = tt

lead_good : (s : Scope) (text : List ℕ) → LeadGood s.shape (lead_of s text)
unfolding lead_of name_at
lead_good s [] = tt
lead_good s (b ∷ bs) =
    let text : List ℕ = b ∷ bs in
    let open_one : Read Lead = Ok (leads.Open, bs) in
    let plus : Read Lead = Ok (leads.Prefix Plus, bs) in
    let minus : Read Lead = Ok (leads.Prefix Minus, bs) in
    let ref : Read Lead = reference_at s.shape text >>= λ x. Ok (leads.Leaf x.0, x.1) in
    let num : Read Lead = number_at (2 ^ 63 - 1) text >>= λ x. Ok (leads.Leaf (Number (pos x.0)), x.1) in
    let none : Read Lead = Err (unexpected_stop text) in
    let y5 : Read Lead = cond (is_ascii_alphabetic b) (name_at s.functions text) none in
    let y4 : Read Lead = cond (is_ascii_digit b) num y5 in
    let y3 : Read Lead = cond (eqb b 91) ref y4 in
    let y2 : Read Lead = cond (eqb b 45) minus y3 in
    let y1 : Read Lead = cond (eqb b 43) plus y2 in
    either (LeadGood s.shape) (eqb b 40) open_one y1 (λ _. tt)
    (λ _. either (LeadGood s.shape) (eqb b 43) plus y2 (λ _. tt)
    (λ _. either (LeadGood s.shape) (eqb b 45) minus y3 (λ _. tt)
    (λ _. either (LeadGood s.shape) (eqb b 91) ref y4 (λ _. bind_with (LeafGood s.shape) (LeadGood s.shape) (reference_at s.shape text) (λ x. Ok (leads.Leaf x.0, x.1)) (reference_good s.shape text) (λ _. tt) (λ x p. p))
    (λ _. either (LeadGood s.shape) (is_ascii_digit b) num y5
    (λ _. bind_with (NumberGood (2 ^ 63 - 1)) (LeadGood s.shape) (number_at (2 ^ 63 - 1) text) (λ x. Ok (leads.Leaf (Number (pos x.0)), x.1)) (number_good (2 ^ 63 - 1) text) (λ _. tt) (λ x p. record { value = x.0; is = refl; small = p }))
    (λ _. either (LeadGood s.shape) (is_ascii_alphabetic b) (name_at s.functions text) none (λ _. name_good s.shape text (function_named s.functions (word_at text)) (drop (word_length text) text)) (λ _. tt))))))

leaf_formed : (s : Scope) (text : List ℕ) (l : Leaf) (rest : List ℕ) → lead_at s text ≡ Ok (leads.Leaf l, rest) → Formed s.shape (leaf_formula l)
unfolding lead_at
leaf_formed s text l rest e = subst (λ (x : Read Lead). LeadGood s.shape x) e (lead_good s (skipped text))

-- ---- forms

-- how ranges stand, without where
abbrev pub kind : Ranges → Ranges
kind Placed = Placed
kind (Bare n) = Bare 0
kind (Misplaced n) = Misplaced 0

abbrev mutual
  pub kind_of : Formula → Ranges
  kind_of (Literal z) = Placed
  kind_of (At c) = Placed
  kind_of (Area r) = Bare 0
  kind_of (Signed g f) = used (kind_of f)
  kind_of (Joined o f g) = first_of (used (kind_of f)) (used (kind_of g))
  kind_of (Called g fs) = kinds_of g fs

  pub kinds_of : Function → Formulas → Ranges
  kinds_of g Nothing = Placed
  kinds_of g (Then f fs) = first_of (as_argument g (kind_of f)) (kinds_of g fs)

kind_used : (r : Ranges) → kind (used r) ≡ used (kind r)
kind_used Placed = refl
kind_used (Bare n) = refl
kind_used (Misplaced n) = refl

kind_first : (a b : Ranges) → kind (first_of a b) ≡ first_of (kind a) (kind b)
kind_first Placed b = refl
kind_first (Bare n) b = refl
kind_first (Misplaced n) b = refl

kind_argument : (g : Function) (r : Ranges) → kind (as_argument g r) ≡ as_argument g (kind r)
kind_argument g Placed = refl
kind_argument g (Bare n) = elim (takes_ranges g) as (λ t. kind (cond t Placed (Misplaced n)) ≡ cond t Placed (Misplaced 0)) [ true ↦ refl | false ↦ refl ]
kind_argument g (Misplaced n) = refl

first_placed : (r : Ranges) → first_of r Placed ≡ r
first_placed Placed = refl
first_placed (Bare n) = refl
first_placed (Misplaced n) = refl

pub record Good (s : Shape) (f : Formula) (r : Ranges) : Type 0 where
  pub formed : Formed s f
  pub kinds : kind r ≡ kind_of f

record AllGood (s : Shape) (g : Function) (fs : Formulas) (r : Ranges) : Type 0 where
  formed : AllFormed s fs
  kinds : kind r ≡ kinds_of g fs

leaf_kind : (l : Leaf) → kind (leaf_ranges l) ≡ kind_of (leaf_formula l)
leaf_kind (Number n) = refl
leaf_kind (Reference c) = refl
leaf_kind (Range r n) = refl

module _ {s : Scope} where
  mutual
    operand_good : {text rest : List ℕ} {f : Formula} {r : Ranges} → Operand s text f r rest → Good s.shape f r
    operand_good (leaf {text} {l = l} {rest = rest} h) = record { formed = leaf_formed s text l rest h; kinds = leaf_kind l }
    operand_good (sign {r = r} h v) = let d = operand_good v in record { formed = d.formed; kinds = kind_used r ∙ ap used d.kinds }
    operand_good (group h v k) = level_good v
    operand_good (call h v) = call_good v

    call_good : {g : Function} {text rest : List ℕ} {fs : Formulas} {r : Ranges} → Call s g text fs r rest → Good s.shape (Called g fs) r
    call_good (bracketed h v k y) = let d = arguments_good v in record { formed = (y, d.formed); kinds = d.kinds }

    arguments_good : {g : Function} {text rest : List ℕ} {fs : Formulas} {r : Ranges} → Arguments s g text fs r rest → AllGood s.shape g fs r
    arguments_good {g} (last {f = f} {r = r} v n) =
        let d = level_good v in record { formed = (d.formed, tt); kinds = kind_argument g r ∙ ap (as_argument g) d.kinds ∙ sym (first_placed (as_argument g (kind_of f))) }
    arguments_good {g} (more {f = f} {fs = fs} {r = r} {s = t} v h w) =
        let d = level_good v in
        let e = arguments_good w in
        let d0 = d.kinds in
        let e0 = e.kinds in
        let a = kind_argument g r in
        record { formed = (d.formed, e.formed); kinds = kind_first (as_argument g r) t ∙ cc }

    pub level_good : {l : ℕ} {text rest : List ℕ} {f : Formula} {r : Ranges} → Level s l text f r rest → Good s.shape f r
    level_good (tightest h v) = operand_good v
    level_good (looser h v w) = chain_good w (level_good v)

    chain_good : {l : ℕ} {text rest : List ℕ} {f g : Formula} {r t : Ranges} → Chain s l f r text g t rest → Good s.shape f r → Good s.shape g t
    chain_good (ends n) d = d
    chain_good (goes_on {r = r} {s = u} h e v w) d =
        let b = level_good v in
        let d0 = d.kinds in
        let b0 = b.kinds in
        let p = kind_used r in
        let q = kind_used u in
        chain_good w (record { formed = (d.formed, b.formed); kinds = kind_first (used r) (used u) ∙ cc })

-- of two expressions whose ranges stand alike, one has none misplaced where the other has none
pub same_placing : (r t : Ranges) → kind r ≡ kind t → misplaced r ≡ None → misplaced t ≡ None
same_placing Placed Placed e h = refl
same_placing Placed (Bare n) e h = absurd cc
same_placing Placed (Misplaced n) e h = absurd cc
same_placing (Bare m) t e h = absurd cc
same_placing (Misplaced m) t e h = absurd cc

-- the cells written in a content that was read are cells of the sheet
pub read_inside : (s : Shape) (text : List ℕ) (p : PlainContent) (c : Cell) → ReadsLong s text p → Refers p c → IsInside s c
read_inside s text p c blank m = absurd m
read_inside s text p c (constant t z l n e) m = absurd m
read_inside s text p c (computed t b f r n e q k) m = formed_inside s f c (level_good e.2).formed m

-- a cell of a sheet is one that a formula can name
pub is_possible : (s : Shape) (c : Cell) → IsInside s c → IsPossible c
is_possible s c inside =
    let columns = s.within.columns_to_z in
    let rows = s.within.rows_to_64 in
    let column = inside.column in
    let row = inside.row in
    record { column = omega arith; row = omega arith }
