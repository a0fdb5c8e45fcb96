-- Marks are the cells that are written, and the cells that have a mark ascend.
use Rattle.std.proofs.Common.{◌≡◌, ◌⊎◌, inl, inr, ℕ, zero, suc, ◌+◌, ◌-◌, ◌*◌, ◌/◌, ◌<◌, ◌≤◌, Bool, true, false, cond, ◌||◌, leb, List, [], ◌∷◌, ◌++◌, map, take, length, length-append, get_or, replicate, Decides, refl, sym, ap, subst, ◌∙◌, arith, add-one, Result, Ok, Err, IfOk}
use Rattle.std.proofs.Math.Bool.{or_assoc}
use Rattle.std.proofs.Math.Seq.{get_or-append_seam}
use Rattle.std.proofs.lemmas.Bool.{cases_lt, false≢true, leb-true, le-leb}
use Rattle.std.proofs.lemmas.Bool.Decides.{Decides-and, Decides-or, Decides-like}
use Rattle.std.proofs.lemmas.List.{take_all, get_or_append_left, get_or-replicate, append-nil}
use Rattle.std.proofs.lemmas.List.Elements.{Contains-get_or, Contains-push, Contains-push_cases, Contains-append_left}
use Rattle.std.specs.List.{Contains, AllPairs}
use Rattle.std.specs.Global.{Vec}
use Rattle.ds_formula.specs.declared.cells.Cell.{Cell}
use Rattle.ds_formula.specs.declared.cells.Rect.{Rect}
use Rattle.ds_formula.specs.declared.content.Function.{Function}
use Rattle.ds_formula.specs.declared.content.Tree.{Tree}
use Rattle.ds_formula.specs.declared.content.Tree.TheVariants.{Call}
use Rattle.ds_formula.specs.declared.references.TheConstants.{PLACES}
use Rattle.ds_formula.specs.declared.references.Rows.{Rows}
use Rattle.ds_formula.specs.Cells.{IsWithin}
use Rattle.ds_formula.specs.Plain.{Formula, Literal, At, Area, Signed, Joined, Called, Formulas, Nothing, Then, listed, formula, Computed}
use Rattle.ds_formula.specs.Refs.{Mentions, SomeMentions, IsPossible, IsBefore, AreRefs}
use Rattle.ds_formula.specs.Marks.{AreRowsOf, MarksArea, MarksRows, cell_by, is_within, mentions, some_mentions, marked_below, MarksBy, Marks}
use Rattle.ds_formula.proofs.Views.{formula_call}
use Rattle.ds_formula.proofs.Counts.{one_more}

-- ---- marks of arguments

or_false : (b : Bool) → (b || false) ≡ b
or_false true = refl
or_false false = refl

some_more : (fs : List Formula) (f : Formula) (c : Cell) → some_mentions (listed (fs ++ f ∷ [])) c ≡ (some_mentions (listed fs) c || mentions f c)
some_more [] f c = or_false (mentions f c)
some_more (g ∷ fs) f c = ap (λ (x : Bool). mentions g c || x) (some_more fs f c) ∙ sym (or_assoc (mentions g c) (some_mentions (listed fs) c) (mentions f c))

-- marking one argument more adds the cells written in it
pub marks_step : (ts : List Tree) (i : ℕ) (t : Tree) (a b d : List Bool) → i < length ts → t ≡ get_or ts i t → MarksBy (some_mentions (listed (map formula (take i ts)))) a b → Marks (formula t) b d
    → MarksBy (some_mentions (listed (map formula (take (i + 1) ts)))) a d
marks_step ts i t a b d h e m n = record {
  same_length = n.same_length ∙ m.same_length;
  each = λ k l.
      let before = some_mentions (listed (map formula (take i ts))) (cell_by k) in
      n.each k l ∙ ap (λ (x : Bool). x || mentions (formula t) (cell_by k)) (m.each k l) ∙ or_assoc (get_or a k false) before (mentions (formula t) (cell_by k))
      ∙ ap (λ (x : Bool). get_or a k false || x) (sym (some_more (map formula (take i ts)) (formula t) (cell_by k)) ∙ ap (λ (x : List Formula). some_mentions (listed x) (cell_by k)) (sym (one_more ts i t h e)));
}

-- the marks of all arguments are those of the call
pub marks_all : (g : Function) (v : Vec Tree) (ts : List Tree) (i : ℕ) (a b : List Bool) → ts ≡ v.items → length ts ≤ i → MarksBy (some_mentions (listed (map formula (take i ts)))) a b → Marks (formula (Call g v)) a b
marks_all g v ts i a b e h m =
    let p : listed (map formula (take i ts)) ≡ listed (map formula v.items) = ap (λ (x : List Tree). listed (map formula x)) (take_all i ts h ∙ e) in
    subst (λ (x : Formula). Marks x a b) (sym (formula_call g v)) (subst (λ (x : Formulas). MarksBy (some_mentions x) a b) p m)

-- ---- what is marked is what is written

abbrev cell : ℕ → ℕ → Cell
cell column row = record { column = column; row = row }

same_cell : (c d : Cell) → c.column ≡ d.column → c.row ≡ d.row → c ≡ d
same_cell c d p q = ap (λ (x : ℕ). cell x c.row) p ∙ ap (λ (x : ℕ). cell d.column x) q

leb_decides : (a b : ℕ) → Decides (leb a b) (a ≤ b)
leb_decides a b = (leb-true a b, le-leb a b)

within_decides : (r : Rect) (c : Cell) → Decides (is_within r c) (IsWithin r c)
within_decides r c =
    Decides-like (is_within r c) (λ h. record { from_left = h.0.0.0; to_right = h.0.0.1; from_top = h.0.1; to_bottom = h.1 }) (λ w. (((w.from_left, w.to_right), w.from_top), w.to_bottom))
    (Decides-and _ _ (Decides-and _ _ (Decides-and _ _ (leb_decides r.first.column c.column) (leb_decides c.column r.last.column)) (leb_decides r.first.row c.row)) (leb_decides c.row r.last.row))

at_within : (d c : Cell) → IsWithin (record { first = d; last = d }) c → d ≡ c
at_within d c w = same_cell d c (omega (arith, w.from_left, w.to_right)) (omega (arith, w.from_top, w.to_bottom))

within_at : (d c : Cell) → d ≡ c → IsWithin (record { first = d; last = d }) c
within_at d c e = subst (λ (x : Cell). IsWithin (record { first = d; last = d }) x) e (record { from_left = omega arith; to_right = omega arith; from_top = omega arith; to_bottom = omega arith })

never : Decides false ⊥
never = (λ e. absurd (false≢true e), λ h. absurd h)

mutual
  mentions_decides : (f : Formula) (c : Cell) → Decides (mentions f c) (Mentions f c)
  mentions_decides (Literal z) c = never
  mentions_decides (At d) c = Decides-like (is_within (record { first = d; last = d }) c) (at_within d c) (within_at d c) (within_decides (record { first = d; last = d }) c)
  mentions_decides (Area r) c = within_decides r c
  mentions_decides (Signed s f) c = mentions_decides f c
  mentions_decides (Joined o f g) c = Decides-or (mentions f c) (mentions g c) (mentions_decides f c) (mentions_decides g c)
  mentions_decides (Called f fs) c = some_decides fs c

  some_decides : (fs : Formulas) (c : Cell) → Decides (some_mentions fs c) (SomeMentions fs c)
  some_decides Nothing c = never
  some_decides (Then f fs) c = Decides-or (mentions f c) (some_mentions fs c) (mentions_decides f c) (some_decides fs c)

-- ---- the cells that have a mark

pub marked_none : (marks : List Bool) → marked_below marks 0 ≡ []
unfolding marked_below
marked_none marks = refl

pub marked_step : (marks : List Bool) (n : ℕ) → marked_below marks (n + 1) ≡ marked_below marks n ++ cond (get_or marks n false) (cell_by n ∷ []) []
unfolding marked_below
marked_step marks n = rw add-one refl

-- a cell after all others keeps their order
pub push_ascends : (xs : List Cell) (x : Cell) → AllPairs IsBefore xs → ((c : Cell) → Contains xs c → IsBefore c x) → AllPairs IsBefore (xs ++ x ∷ [])
push_ascends xs x h k i j d l m = elim (cases_lt j (length xs)) [
  | inl lt ↦ (
      let a = get_or_append_left xs (x ∷ []) d i (omega arith) in
      let b = get_or_append_left xs (x ∷ []) d j lt in
      subst (λ (y : Cell). IsBefore y (get_or (xs ++ x ∷ []) j d)) (sym a) (subst (λ (y : Cell). IsBefore (get_or xs i d) y) (sym b) (h i j d l lt)))
  | inr ge ↦ (
      let q : j ≡ length xs = omega (arith, length-append xs (x ∷ [])) in
      let a = get_or_append_left xs (x ∷ []) d i (omega arith) in
      let b : get_or (xs ++ x ∷ []) j d ≡ x = ap (λ (y : ℕ). get_or (xs ++ x ∷ []) y d) q ∙ get_or-append_seam xs x [] d in
      subst (λ (y : Cell). IsBefore y (get_or (xs ++ x ∷ []) j d)) (sym a) (subst (λ (y : Cell). IsBefore (get_or xs i d) y) (sym b) (k (get_or xs i d) (Contains-get_or xs i d (omega arith)))))
]

module _ (marks : List Bool) where
  -- c stands for a marked place below n
  abbrev pub HasPlace : ℕ → Cell → Type 0
  HasPlace n c = (k : ℕ) × (k < n) × (get_or marks k false ≡ true) × (cell_by k ≡ c)

  abbrev tail_of : Bool → ℕ → List Cell
  tail_of t n = cond t (cell_by n ∷ []) []

  only_step : (n : ℕ) (t : Bool) (c : Cell) → get_or marks n false ≡ t → ((d : Cell) → Contains (marked_below marks n) d → HasPlace n d) → Contains (marked_below marks n ++ tail_of t n) c → HasPlace (suc n) c
  only_step n true c e ih h = elim (Contains-push_cases (marked_below marks n) (cell_by n) c h) [
    | inl old ↦ (let w = ih c old in (w.0, omega (arith, w.1), w.2, w.3))
    | inr same ↦ (n, omega arith, e, same)
  ]
  only_step n false c e ih h = let w = ih c (rw append-nil at h) in (w.0, omega (arith, w.1), w.2, w.3)

  has_step : (n k : ℕ) (t : Bool) (c : Cell) → get_or marks n false ≡ t → k < suc n → get_or marks k false ≡ true → cell_by k ≡ c → (k < n → Contains (marked_below marks n) c) → Contains (marked_below marks n ++ tail_of t n) c
  has_step n k true c e l h p ih = elim (cases_lt k n) [
    | inl lt ↦ Contains-append_left (marked_below marks n) (cell_by n ∷ []) c (ih lt)
    | inr ge ↦ (
        let q : k ≡ n = omega arith in
        let r : cell_by n ≡ c = ap cell_by (sym q) ∙ p in
        subst (λ (x : Cell). Contains (marked_below marks n ++ cell_by n ∷ []) x) r (Contains-push (marked_below marks n) (cell_by n)))
  ]
  has_step n k false c e l h p ih = elim (cases_lt k n) [
    | inl lt ↦ Contains-append_left (marked_below marks n) [] c (ih lt)
    | inr ge ↦ (
        let q : k ≡ n = omega arith in
        let r : false ≡ true = sym e ∙ ap (λ (x : ℕ). get_or marks x false) (sym q) ∙ h in
        absurd (false≢true r))
  ]

  last_place : (n : ℕ) (c : Cell) → HasPlace n c → IsBefore c (cell_by n)
  last_place n c w =
      subst (λ (x : Cell). IsBefore x (cell_by n)) w.3
      (elim (cases_lt (w.0 / 26) (n / 26)) [
        | inl lt ↦ inl lt
        | inr ge ↦ inr (omega (arith, w.1), omega (arith, w.1))
      ])

  ascend_step : (n : ℕ) (t : Bool) → AllPairs IsBefore (marked_below marks n) → ((c : Cell) → Contains (marked_below marks n) c → HasPlace n c) → AllPairs IsBefore (marked_below marks n ++ tail_of t n)
  ascend_step n true ih only = push_ascends (marked_below marks n) (cell_by n) ih (λ c h. last_place n c (only c h))
  ascend_step n false ih only = rw append-nil ih

  marked_only : (n : ℕ) (c : Cell) → Contains (marked_below marks n) c → HasPlace n c
  unfolding marked_below
  marked_only zero c h = absurd (omega (arith, h.1))
  marked_only (suc n) c h = only_step n (get_or marks n false) c refl (marked_only n) h

  marked_has : (n k : ℕ) (c : Cell) → k < n → get_or marks k false ≡ true → cell_by k ≡ c → Contains (marked_below marks n) c
  unfolding marked_below
  marked_has zero k c l h p = absurd (omega (arith, l))
  marked_has (suc n) k c l h p = has_step n k (get_or marks n false) c refl l h p (λ lt. marked_has n k c lt h p)

  marked_ascend : (n : ℕ) → AllPairs IsBefore (marked_below marks n)
  unfolding marked_below
  marked_ascend zero = λ i j d l m. absurd (omega (arith, m))
  marked_ascend (suc n) = ascend_step n (get_or marks n false) (marked_ascend n) (marked_only n)

possible : (k : ℕ) (c : Cell) → k < PLACES → cell_by k ≡ c → IsPossible c
possible k c h e = subst IsPossible e (record { column = omega arith; row = omega arith })

place_of : (c : Cell) → IsPossible c → cell_by (c.row * 26 + c.column) ≡ c
place_of c p = same_cell (cell_by (c.row * 26 + c.column)) c (omega (arith, p.column)) (omega (arith, p.column))

pub refs_are : (f : Formula) (marks : List Bool) → Marks f (replicate PLACES false) marks → AreRefs (Computed f) (marked_below marks PLACES)
refs_are f marks m = record {
  ascending = marked_ascend marks PLACES;
  possible = λ c h. let w = marked_only marks PLACES c h in possible w.0 c w.1 w.3;
  only = λ c h.
      let w = marked_only marks PLACES c h in
      let e : mentions f (cell_by w.0) ≡ true = sym (ap (λ (x : Bool). x || mentions f (cell_by w.0)) (get_or-replicate PLACES w.0 false false w.1)) ∙ sym (m.each w.0 w.1) ∙ w.2 in
      subst (λ (x : Cell). Mentions f x) w.3 ((mentions_decides f (cell_by w.0)).0 e);
  all = λ c h p.
      let k = c.row * 26 + c.column in
      let l : k < PLACES = omega (arith, p.column, p.row) in
      let e : mentions f (cell_by k) ≡ true = ap (mentions f) (place_of c p) ∙ (mentions_decides f c).1 h in
      marked_has marks PLACES k c l (m.each k l ∙ ap (λ (x : Bool). x || mentions f (cell_by k)) (get_or-replicate PLACES k false false l) ∙ e) (place_of c p);
}

-- the cells with a mark below one place more: those so far, and that place's cell where it has a mark
pub marked_more : (marks : List Bool) (n : ℕ) (t : Bool) (xs ys : List Cell) → get_or marks n false ≡ t → xs ≡ marked_below marks n → ys ≡ xs ++ cond t (cell_by n ∷ []) [] → ys ≡ marked_below marks (n + 1)
marked_more marks n t xs ys e p q = q ∙ ap (λ (z : List Cell). z ++ cond t (cell_by n ∷ []) []) p ∙ ap (λ (u : Bool). marked_below marks n ++ cond u (cell_by n ∷ []) []) (sym e) ∙ sym (marked_step marks n)

-- where the cells of a formula alone are marked, those that have a mark are its references
pub refs_answer : {E : Type 0} (t : Tree) (r : Result (Vec Cell) E) (start marks : List Bool) → start ≡ replicate PLACES false → Marks (formula t) start marks
    → IfOk r (λ v. v.items ≡ marked_below marks PLACES) → IfOk r (λ v. AreRefs (Computed (formula t)) v.items)
refs_answer t (Err e) start marks q m h = h
refs_answer t (Ok v) start marks q m h =
    subst (λ (xs : List Cell). AreRefs (Computed (formula t)) xs) (sym h) (refs_are (formula t) marks (subst (λ (x : List Bool). Marks (formula t) x marks) q m))

-- ---- rows with a mark

unmarked : (marks : List Bool) (k : ℕ) → marks ≡ replicate PLACES false → k < PLACES → get_or marks k false ≡ true → ⊥
unmarked marks k e l m = false≢true (sym (get_or-replicate PLACES k false false l) ∙ ap (λ (x : List Bool). get_or x k false) (sym e) ∙ m)

-- where nothing is marked, any rows within the limit will do
pub no_rows : (marks : List Bool) (rows : Rows) → marks ≡ replicate PLACES false → rows.first ≤ 64 → AreRowsOf marks rows
no_rows marks rows e low = record {
  each = λ k l m. absurd (unmarked marks k e l m);
  behind = λ k l m. absurd (unmarked marks k e l m);
  before = λ k l m. absurd (unmarked marks k e l m);
  within = low;
}

either_true : (a b : Bool) → (a || b) ≡ true → (a ≡ true) ⊎ (b ≡ true)
either_true true b e = inl refl
either_true false b e = inr e

-- rows that also hold those of a range are the marked rows with the range marked
pub area_rows : (area : Rect) (marks more : List Bool) (rows then : Rows) → AreRowsOf marks rows → MarksArea area marks more → MarksRows area rows.has_mark then.has_mark
    → then.first ≤ rows.first → then.first ≤ area.first.row → rows.end ≤ then.end → ((r : ℕ) → r ≤ area.last.row → r < 64 → r < then.end) → AreRowsOf more then
area_rows area marks more rows then r m n f g h i =
    let now : (k : ℕ) → k < PLACES → get_or more k false ≡ true → (get_or marks k false ≡ true) ⊎ IsWithin area (cell_by k) =
    λ k l e. elim (either_true (get_or marks k false) (is_within area (cell_by k)) (sym (m.each k l) ∙ e)) [
      | inl p ↦ inl p
      | inr p ↦ inr ((within_decides area (cell_by k)).0 p)
    ] in
    record {
      each = λ k l e. elim (now k l e) [ inl p ↦ n.kept (k / 26) (r.each k l p) | inr w ↦ n.marked (k / 26) w.from_top w.to_bottom (omega arith) ];
      behind = λ k l e. elim (now k l e) [ inl p ↦ omega (arith, r.behind k l p) | inr w ↦ omega (arith, w.from_top) ];
      before = λ k l e. elim (now k l e) [ inl p ↦ omega (arith, r.before k l p) | inr w ↦ i (k / 26) w.to_bottom (omega arith) ];
      within = omega (arith, r.within);
    }

-- places without a mark add no cell
pub unmarked_more : (marks : List Bool) (n m : ℕ) → ((k : ℕ) → n ≤ k → k < n + m → get_or marks k false ≡ false) → marked_below marks (n + m) ≡ marked_below marks n
unmarked_more marks n zero h = ap (marked_below marks) (let e : n + 0 ≡ n = omega arith in e)
unmarked_more marks n (suc m) h =
    ap (marked_below marks) (let e : n + suc m ≡ (n + m) + 1 = omega arith in e)
    ∙ marked_step marks (n + m)
    ∙ ap (λ (b : Bool). marked_below marks (n + m) ++ cond b (cell_by (n + m) ∷ []) []) (h (n + m) (omega arith) (omega arith))
    ∙ append-nil (marked_below marks (n + m))
    ∙ unmarked_more marks n m (λ k l o. h k l (omega arith))

is_false : (b : Bool) → (b ≡ true → ⊥) → b ≡ false
is_false true n = absurd (n refl)
is_false false n = refl

-- a row without a mark adds no cell
pub row_skipped : (marks : List Bool) (rows : Rows) (row : ℕ) → row < 64 → AreRowsOf marks rows → get_or rows.has_mark row false ≡ false → marked_below marks (26 * row + 26) ≡ marked_below marks (26 * row)
row_skipped marks rows row l r e = unmarked_more marks (26 * row) 26 (λ k o p.
    let q : k / 26 ≡ row = omega arith in
    is_false (get_or marks k false) (λ m. false≢true (sym e ∙ ap (λ (i : ℕ). get_or rows.has_mark i false) (sym q) ∙ r.each k (omega arith) m)))

-- above the first row no cell has a mark
pub none_above : (marks : List Bool) (rows : Rows) → AreRowsOf marks rows → marked_below marks (26 * rows.first) ≡ []
none_above marks rows r =
    ap (marked_below marks) (let e : 26 * rows.first ≡ 0 + 26 * rows.first = omega arith in e)
    ∙ unmarked_more marks 0 (26 * rows.first) (λ k o p. is_false (get_or marks k false) (λ m. let low = r.within in let behind = r.behind k (omega arith) m in absurd (omega arith)))
    ∙ marked_none marks

-- nor from the end on
pub none_below : (marks : List Bool) (rows : Rows) (row : ℕ) → AreRowsOf marks rows → row ≤ 64 → (row < rows.end → row < 64 → ⊥) → marked_below marks PLACES ≡ marked_below marks (26 * row)
none_below marks rows row r low out =
    ap (marked_below marks) (let e : PLACES ≡ 26 * row + (PLACES - 26 * row) = omega arith in e)
    ∙ unmarked_more marks (26 * row) (PLACES - 26 * row) (λ k o p. is_false (get_or marks k false) (λ m. let before = r.before k (omega arith) m in absurd (out (omega arith) (omega arith))))
