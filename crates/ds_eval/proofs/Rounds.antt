-- Rounds over all cells, in which each cell is evaluated on what the others show at that moment.
use Rattle.std.proofs.Common.{◌≡◌, ℕ, zero, suc, ◌+◌, ◌*◌, ◌/◌, ◌<◌, ◌≤◌, min, Bool, false, List, [], ◌∷◌, ◌++◌, length, length-append, get_or, slice_get, slice_set, refl, sym, ap, subst, ◌∙◌, inl, inr, arith, get_or-set_same, get_or-set_other}
use Rattle.std.proofs.lemmas.Bool.{cases_lt, cases_eq}
use Rattle.std.proofs.lemmas.List.{set-get_or}
use Rattle.std.proofs.Math.ListN.{length-set, get_or-append}
use Rattle.std.proofs.Math.Seq.{get_or-append_seam}
use Rattle.std.proofs.Math.Nat.{mul-le-mul_left}
use Rattle.ds_formula.specs.declared.cells.Shape.{Shape}
use Rattle.ds_formula.specs.declared.cells.Cell.{Cell}
use Rattle.ds_formula.specs.Cells.{IsInside, index_of, cell_at, count_of}
use Rattle.ds_formula.specs.declared.content.Content.{Content}
use Rattle.ds_formula.specs.Plain.{PlainContent, plain}
use Rattle.ds_eval.specs.declared.inputs.Entry.{Entry}
use Rattle.ds_eval.specs.declared.inputs.Input.{Input}
use Rattle.ds_formula.specs.Refs.{IsBefore}
use Rattle.ds_eval.specs.Inputs.{entry_in, entry_at, cell_in, with_entry, no_input, IsBehind}
use Rattle.ds_eval.specs.declared.sheet.Sheet.{Sheet}
use Rattle.ds_eval.specs.SheetContents.{contents_of, plain_or_empty}
use Rattle.ds_eval.specs.Scratch.{Walk, value, at, IsScratch}
use Rattle.ds_eval.specs.Local.{content_height, local, value_of, height_of, IsLocal, IsShown}
use Rattle.ds_eval.specs.Rounds.{IsTable, IsSettled, AreSettled, shown}
use Rattle.ds_eval.proofs.Cells.{entry_here, cell_with}
use Rattle.ds_eval.proofs.Ranges.{row_below}
use Rattle.ds_eval.proofs.Neighbours.{reached, bound, value_on}
use Rattle.ds_eval.proofs.Walks.{index_below, cell_back, shorter}
use Rattle.ds_eval.proofs.FixedPoint.{round_value, plain_value, fixed_point}

-- ---- a table of all cells

-- the cell with a number below the number of cells is one of the sheet
pub inside_at : (shape : Shape) (k : ℕ) → k < count_of shape → IsInside shape (cell_at shape k)
inside_at shape k l = record { column = omega (arith, shape.within.some_columns); row = row_below k shape.columns shape.rows shape.within.some_columns l }

-- the cell with a number has that number
pub index_at : (shape : Shape) (k : ℕ) → index_of shape (cell_at shape k) ≡ k
index_at shape k = omega (arith, shape.within.some_columns)

table_entry : (shape : Shape) (xs : List Input) → IsTable shape xs → (k : ℕ) → k < count_of shape → entry_in xs (cell_at shape k) ≡ entry_at xs k
table_entry shape xs t k l =
    entry_here xs k (cell_at shape k) (omega (arith, t.each))
    (λ j m e. let x = sym (index_at shape j) ∙ ap (index_of shape) (sym (t.cells j (omega arith)) ∙ e) ∙ index_at shape k in omega arith)
    (t.cells k l)

cell_entry : (shape : Shape) (xs : List Input) → IsTable shape xs → (c : Cell) → IsInside shape c → entry_in xs c ≡ entry_at xs (index_of shape c)
cell_entry shape xs t c i =
    ap (entry_in xs) (sym (cell_back shape c i)) ∙ table_entry shape xs t (index_of shape c) (index_below shape c i)

-- a table with another entry for one of its cells is a table of all cells
pub table_with : (shape : Shape) (xs : List Input) (k : ℕ) (e : Entry) → k < count_of shape → IsTable shape xs → IsTable shape (with_entry xs k e)
table_with shape xs k e l t = record {
  each = length-set {A = Input} xs k (let i : Input = record { cell = cell_in xs k; entry = e } in i) ∙ t.each;
  cells = λ j m. cell_with xs k e j (omega (arith, t.each)) ∙ t.cells j m;
}

with_here : (xs : List Input) (k : ℕ) (e : Entry) → k < length xs → entry_at (with_entry xs k e) k ≡ e
with_here xs k e l = ap (λ (i : Input). i.entry) (get_or-set_same xs k (let i : Input = record { cell = cell_in xs k; entry = e } in i) no_input l)

with_there : (xs : List Input) (k : ℕ) (e : Entry) (j : ℕ) → (j ≡ k → ⊥) → entry_at (with_entry xs k e) j ≡ entry_at xs j
with_there xs k e j n = ap (λ (i : Input). i.entry) (get_or-set_other xs k j (let i : Input = record { cell = cell_in xs k; entry = e } in i) no_input n)

with_same : (xs : List Input) (k : ℕ) (e : Entry) → entry_at xs k ≡ e → with_entry xs k e ≡ xs
with_same xs k e h =
    ap (λ (x : Entry). slice_set xs k (let i : Input = record { cell = cell_in xs k; entry = x } in i)) (sym h)
    ∙ set-get_or xs k no_input

-- ---- what is shown

shown_at : (xs : List Input) (k : ℕ) → at (shown xs) k ≡ (entry_at xs k).value
shown_at [] k = refl
shown_at (x ∷ xs) zero = refl
shown_at (x ∷ xs) (suc k) = shown_at xs k

shown_length : (xs : List Input) → length (shown xs) ≡ length xs
shown_length [] = refl
shown_length (x ∷ xs) = ap suc (shown_length xs)

is_shown : (shape : Shape) (xs : List Input) → IsTable shape xs → IsShown shape (entry_in xs) (shown xs)
is_shown shape xs t = record {
  each = shown_length xs ∙ t.each;
  same = λ c i. shown_at xs (index_of shape c) ∙ ap (λ (e : Entry). e.value) (sym (cell_entry shape xs t c i));
}

some_cells : (a b : ℕ) → 1 ≤ a → 1 ≤ b → a * b ≤ 0 → ⊥
some_cells zero b l m e = omega arith
some_cells (suc a) zero l m e = omega arith
some_cells (suc a) (suc b) l m e = omega arith

at_least_one : (shape : Shape) → 1 ≤ count_of shape
at_least_one shape = elim (cases_lt 0 (count_of shape)) [
  | inl l ↦ l
  | inr l ↦ absurd (some_cells shape.columns shape.rows shape.within.some_columns shape.within.some_rows l)
]

module _ (shape : Shape) (sheet : Cell → PlainContent) where
  pub local_scratch : (xs : List Input) → IsTable shape xs → IsLocal shape sheet (entry_in xs) → IsScratch shape sheet (shown xs)
  local_scratch xs t l = fixed_point shape sheet (entry_in xs) l (shown xs) (is_shown shape xs t)

  pub settled_scratch : (xs : List Input) → IsTable shape xs → AreSettled shape sheet (count_of shape) xs → IsScratch shape sheet (shown xs)
  settled_scratch xs t s =
      let v = is_shown shape xs t in
      let some : 1 ≤ count_of shape = at_least_one shape in
      record {
        each = v.each;
        circular = λ c i w. v.same c i ∙ (s.each c i).circular some ((s.each c i).complete (count_of shape) (omega arith) (omega arith) w);
        computed = λ c i n. v.same c i ∙ (s.each c i).computed n;
      }

  -- ---- one round

  value_stays : (n : ℕ) (c : Cell) → (Walk shape sheet n c → ⊥) → value shape sheet (suc n) c ≡ value shape sheet n c
  value_stays zero c w = absurd (w tt)
  value_stays (suc n) c w = value_on shape (value shape sheet (suc n)) (value shape sheet n) (sheet c) (λ d r i. value_stays n d (λ v. w (d, r, i, v)))

  weaker : (n : ℕ) (e : Entry) (c : Cell) → IsSettled shape sheet (suc n) e c → IsSettled shape sheet n e c
  weaker n e c s = record {
    sound = λ w. s.sound (λ v. w (shorter shape sheet n c v));
    complete = λ k l. s.complete k (omega arith);
    circular = λ l. s.circular (omega arith);
    computed = λ w. s.computed (λ v. w (shorter shape sheet n c v)) ∙ value_stays n c w;
  }

  pub settled_first : (e : Entry) (c : Cell) → IsSettled shape sheet 0 e c
  settled_first e c = record {
    sound = λ w. absurd (w tt);
    complete = λ k l m w. omega arith;
    circular = λ l. absurd (omega arith);
    computed = λ w. absurd (w tt);
  }

  -- a cell's local entry, where the entries of all cells are those after n rounds
  pub settled_next : (n : ℕ) (es : Cell → Entry) → n < count_of shape → ((d : Cell) → IsInside shape d → IsSettled shape sheet n (es d) d) → (c : Cell) → IsSettled shape sheet (suc n) (local shape (sheet c) es) c
  settled_next n es l s c =
      let most = count_of shape in
      let high = content_height shape (height_of es) (sheet c) in
      record {
        sound = sound_at;
        complete = complete_at;
        circular = λ m h. round_value shape (sheet c) es (min most high) (omega (arith, h));
        computed = λ w. elim (cases_lt (min most high) most) [
          | inl m ↦ plain_value shape (sheet c) es (min most high) m
              ∙ value_on shape (value_of es) (value shape sheet n) (sheet c) (λ d r i. (s d i).computed (λ v. w (d, r, i, v)))
          | inr m ↦ absurd (w (sound_at w (suc n) (omega (arith, m))))
        ];
      }
    where
      sound_at : (Walk shape sheet (suc n) c → ⊥) → (k : ℕ) → k ≤ min (count_of shape) (content_height shape (height_of es) (sheet c)) → Walk shape sheet k c
      sound_at w zero h = tt
      sound_at w (suc k) h =
          let r = reached shape (height_of es) (sheet c) k (omega arith) in
          (r.0, r.1, r.2, (s r.0 r.2).sound (λ v. w (r.0, r.1, r.2, v)) k r.3)

      complete_at : (k : ℕ) → k ≤ suc n → k ≤ count_of shape → Walk shape sheet k c → k ≤ min (count_of shape) (content_height shape (height_of es) (sheet c))
      complete_at zero a b w = omega arith
      complete_at (suc k) a b w =
          let p = (s w.0 w.2).complete k (omega arith) (omega arith) w.3 in
          let q = bound shape (height_of es) (sheet c) w.0 w.1 w.2 in
          omega (arith, p, q, b)

  -- a round so far: the cells whose numbers are below k are done
  pub record IsRound (old new : List Input) (k : ℕ) (changed : Bool) : Type 0 where
    pub table : IsTable shape new
    pub rounds : (n : ℕ) → n < count_of shape → AreSettled shape sheet n old → (c : Cell) → IsInside shape c → (index_of shape c < k → IsSettled shape sheet (suc n) (entry_in new c) c) × (k ≤ index_of shape c → IsSettled shape sheet n (entry_in new c) c)
    pub same : changed ≡ false → new ≡ old
    pub here : changed ≡ false → (c : Cell) → IsInside shape c → index_of shape c < k → entry_in new c ≡ local shape (sheet c) (entry_in new)

  pub round_begins : (xs : List Input) → IsTable shape xs → IsRound xs xs 0 false
  round_begins xs t = record {
    table = t;
    rounds = λ n l s c i. (λ m. absurd (omega arith), λ m. s.each c i);
    same = λ e. refl;
    here = λ e c i m. absurd (omega arith);
  }

  pub round_goes_on : (old new : List Input) (k : ℕ) (changed differs after : Bool) (e : Entry) → k < count_of shape → IsRound old new k changed
      → e ≡ local shape (sheet (cell_at shape k)) (entry_in new) → (differs ≡ false → entry_at new k ≡ e) → (after ≡ false → (changed ≡ false) × (differs ≡ false))
      → IsRound old (with_entry new k e) (k + 1) after
  round_goes_on old new k changed differs after e l r h d a =
      let t = r.table in
      let xs = with_entry new k e in
      let u = table_with shape new k e l t in
      record {
        table = u;
        rounds = λ n m s c i. elim (cases_eq (index_of shape c) k) [
          | inl q ↦
              let x : c ≡ cell_at shape k = sym (cell_back shape c i) ∙ ap (cell_at shape) q in
              let y : entry_in xs c ≡ local shape (sheet c) (entry_in new) =
              cell_entry shape xs u c i ∙ ap (entry_at xs) q ∙ with_here new k e (omega (arith, t.each)) ∙ h ∙ ap (λ (z : Cell). local shape (sheet z) (entry_in new)) (sym x) in
              let z = settled_next n (entry_in new) m (λ f j. either n f (r.rounds n m s f j)) c in (
                λ _. subst (λ (v : Entry). IsSettled shape sheet (suc n) v c) (sym y) z,
                λ w. absurd (omega (arith, q)),
              )
          | inr q ↦
              let y : entry_in xs c ≡ entry_in new c = cell_entry shape xs u c i ∙ with_there new k e (index_of shape c) q ∙ sym (cell_entry shape new t c i) in
              let p = r.rounds n m s c i in (
                λ w. subst (λ (v : Entry). IsSettled shape sheet (suc n) v c) (sym y) (p.0 (omega arith)),
                λ w. subst (λ (v : Entry). IsSettled shape sheet n v c) (sym y) (p.1 (omega arith)),
              )
        ];
        same = λ f. with_same new k e (d (a f).1) ∙ r.same (a f).0;
        here = λ f c i m.
            let q = with_same new k e (d (a f).1) in
            subst (λ (ys : List Input). entry_in ys c ≡ local shape (sheet c) (entry_in ys)) (sym q) (elim (cases_lt (index_of shape c) k) [
              | inl w ↦ r.here (a f).0 c i w
              | inr w ↦
                  let n : index_of shape c ≡ k = omega arith in
                  let x : c ≡ cell_at shape k = sym (cell_back shape c i) ∙ ap (cell_at shape) n in
                  cell_entry shape new t c i ∙ ap (entry_at new) n ∙ d (a f).1 ∙ h ∙ ap (λ (z : Cell). local shape (sheet z) (entry_in new)) (sym x)
            ]);
      }
    where
      either : (n : ℕ) (f : Cell) → (index_of shape f < k → IsSettled shape sheet (suc n) (entry_in new f) f) × (k ≤ index_of shape f → IsSettled shape sheet n (entry_in new f) f) → IsSettled shape sheet n (entry_in new f) f
      either n f p = elim (cases_lt (index_of shape f) k) [
        | inl w ↦ weaker n (entry_in new f) f (p.0 w)
        | inr w ↦ p.1 w
      ]

  pub round_done : (old new : List Input) (k : ℕ) (changed : Bool) → count_of shape ≤ k → IsRound old new k changed → (n : ℕ) → n < count_of shape → AreSettled shape sheet n old → AreSettled shape sheet (suc n) new
  round_done old new k changed l r n m s = record { each = λ c i. (r.rounds n m s c i).0 (let p = index_below shape c i in omega arith) }

  pub round_unchanged : (old new : List Input) (k : ℕ) (changed : Bool) → count_of shape ≤ k → IsRound old new k changed → changed ≡ false → IsLocal shape sheet (entry_in new)
  round_unchanged old new k changed l r e = record { each = λ c i. r.here e c i (let p = index_below shape c i in omega arith) }

-- ---- the first table

ascends : (shape : Shape) (j k : ℕ) → j < k → IsBefore (cell_at shape j) (cell_at shape k)
ascends shape j k l =
    let w = shape.columns in
    let p = shape.within.some_columns in
    elim (cases_lt (j / w) (k / w)) [
      | inl m ↦ inl m
      | inr m ↦ elim (cases_lt (k / w) (j / w)) [
        | inl n ↦ absurd (let a = mul-le-mul_left w n in omega (arith, a, p))
        | inr n ↦ let e : j / w ≡ k / w = omega arith in let a = ap (λ (x : ℕ). w * x) e in inr (e, omega (arith, a, p))
      ]
    ]

-- the first k cells
pub record IsBegun (shape : Shape) (k : ℕ) (table : List Input) : Type 0 where
  pub each : length table ≡ k
  pub cells : (j : ℕ) → j < k → cell_in table j ≡ cell_at shape j

pub begun_none : (shape : Shape) (xs : List Input) → xs ≡ [] → IsBegun shape 0 xs
begun_none shape xs e = record { each = ap length e; cells = λ j l. absurd (omega arith) }

-- the next cell of the sheet is after all entries of the first k cells
pub begun_behind : (shape : Shape) (k : ℕ) (xs : List Input) (c : Cell) → IsBegun shape k xs → c ≡ cell_at shape k → IsBehind xs c
begun_behind shape k xs c b e = record {
  behind = λ j l. rw (b.cells j (omega (arith, b.each)), e) (ascends shape j k (omega (arith, b.each)));
}

pub begun_more : (shape : Shape) (k : ℕ) (xs ys : List Input) (i : Input) → IsBegun shape k xs → i.cell ≡ cell_at shape k → ys ≡ xs ++ i ∷ [] → IsBegun shape (k + 1) ys
begun_more shape k xs ys i b e h = subst (IsBegun shape (k + 1)) (sym h) (record {
  each = length-append xs (i ∷ []) ∙ omega (arith, b.each);
  cells = λ j l. elim (cases_lt j k) [
    | inl m ↦ ap (λ (x : Input). x.cell) (get_or-append xs (i ∷ []) no_input j (omega (arith, b.each))) ∙ b.cells j m
    | inr m ↦ let q : length xs ≡ j = omega (arith, b.each) in
        ap (λ (n : ℕ). cell_in (xs ++ i ∷ []) n) (sym q) ∙ ap (λ (x : Input). x.cell) (get_or-append_seam xs i [] no_input) ∙ e ∙ ap (cell_at shape) (sym b.each ∙ q)
  ];
})

pub begun_table : (shape : Shape) (xs : List Input) → IsBegun shape (count_of shape) xs → IsTable shape xs
begun_table shape xs b = record { each = b.each; cells = b.cells }

-- before the first round any entries will do
pub first_settled : (shape : Shape) (sheet : Cell → PlainContent) (xs : List Input) → AreSettled shape sheet 0 xs
first_settled shape sheet xs = record { each = λ c i. settled_first shape sheet (entry_in xs c) c }

-- ---- what a cell of a sheet holds

content_or : (xs : List Content) (k : ℕ) (x : Content) → k < length xs → x ≡ get_or xs k x → plain x ≡ plain_or_empty (slice_get xs k)
content_or [] k x l e = absurd (omega arith)
content_or (y ∷ xs) zero x l e = ap plain e
content_or (y ∷ xs) (suc k) x l e = content_or xs k x (omega arith) e

-- the content with a cell's number is what the cell holds
pub content_at : (sheet : Sheet) (k : ℕ) (x : Content) → k < length sheet.contents.items → x ≡ get_or sheet.contents.items k x → plain x ≡ contents_of sheet (cell_at sheet.shape k)
content_at sheet k x l e =
    content_or sheet.contents.items k x l e
    ∙ ap (λ (n : ℕ). plain_or_empty (slice_get sheet.contents.items n)) (sym (index_at sheet.shape k))
