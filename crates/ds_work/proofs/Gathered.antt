-- The cells of a content as inputs: they ascend, and fit the sheet.
use Rattle.std.proofs.Common.{ℕ, ◌≡◌, ◌<◌, ◌≤◌, ◌*◌, Bool, true, false, if◌then◌else◌, nat_lt, List, length, map, take, get_or, refl, ap, sym, ◌∙◌, subst, arith, inl, inr, suc, zero}
use Rattle.std.specs.List.{Contains, AllPairs}
use Rattle.std.proofs.lemmas.List.{get_or-map, get_or-take, get_or_default, length-map, length-take-le}
use Rattle.std.proofs.Math.Nat.{mul-le-mul_right}
use Rattle.ds_eval.proofs.Walks.{index_below}
use Rattle.std.proofs.lemmas.List.Elements.{Contains-get_or}
use Rattle.ds_formula.specs.Cells.{IsInside, index_of, count_of}
use Rattle.ds_formula.specs.declared.cells.Cell.{Cell}
use Rattle.ds_formula.specs.declared.cells.Shape.{Shape}
use Rattle.ds_formula.specs.Plain.{PlainContent}
use Rattle.ds_formula.specs.Refs.{Refers, AreRefs, IsPossible, IsBefore}
use Rattle.ds_formula.specs.Refs as refs
use Rattle.ds_formula.specs.Grammar.{Reads}
use Rattle.ds_formula.proofs.Formed.{read_inside}
use Rattle.ds_eval.specs.declared.inputs.Input.{Input}
use Rattle.ds_eval.specs.Inputs.{cell_in, no_input, IsAscending, IsBehind}
use Rattle.std.proofs.lemmas.Bool.{ltb-true}
use Rattle.ds_state.specs.Works.{PlainWorkCall, IsWork, ClaimFits, StageFits, TellsFits}
use Rattle.ds_state.specs.declared.work.WorkStage.{WorkStage}
use Rattle.ds_state.specs.declared.work.WorkStage.TheVariants.{LoadValue, LoadOwnValue}
use Rattle.ds_work.specs.WorkSteps.{IsContent, read_from, input_from}
use Rattle.ds_work.specs.Reading.{unseen}

abbrev pub no_cell : Cell
no_cell = record { column = 0; row = 0 }

-- the cell with this number among them
pub cell_of : (cells : List Cell) (j : ℕ) → j < length cells → cell_in (map unseen cells) j ≡ get_or cells j no_cell
cell_of cells j l = ap (λ (i : Input). i.cell) (get_or-map unseen cells j no_cell no_input l)

-- they ascend
pub ascends : (cells : List Cell) → AllPairs refs.IsBefore cells → IsAscending (map unseen cells)
ascends cells pairs = record {
  ascend = λ j k lt l. (
      let size = length-map cells unseen in
      let last : k < length cells = omega (arith, size, l) in
      let first : j < length cells = omega (arith, last, lt) in
      subst (λ (c : Cell). IsBefore c (cell_in (map unseen cells) k)) (sym (cell_of cells j first))
      (subst (λ (c : Cell). IsBefore (get_or cells j no_cell) c) (sym (cell_of cells k last)) (pairs j k no_cell lt last)));
}

-- a later cell has a greater number
before_less : (shape : Shape) (c d : Cell) → IsInside shape c → IsBefore c d → index_of shape c < index_of shape d
before_less shape c d inside (inl row) =
    let column = inside.column in
    let whole : suc c.row * shape.columns ≤ d.row * shape.columns = mul-le-mul_right shape.columns row in
    omega arith
before_less shape c d inside (inr same) =
    let column = same.1 in
    let rows : c.row * shape.columns ≡ d.row * shape.columns = ap (λ (r : ℕ). r * shape.columns) same.0 in
    omega arith

module _ (shape : Shape) (cells : List Cell) (pairs : AllPairs refs.IsBefore cells) (inside : (c : Cell) → Contains cells c → IsInside shape c) where
  is_inside : (j : ℕ) → j < length cells → IsInside shape (get_or cells j no_cell)
  is_inside j l = inside (get_or cells j no_cell) (Contains-get_or cells j no_cell l)

  no_less : (j : ℕ) → j < length cells → j ≤ index_of shape (get_or cells j no_cell)
  no_less zero l = omega arith
  no_less (suc j) l =
      let first : j < length cells = omega (arith, l) in
      let least = no_less j first in
      let more = before_less shape (get_or cells j no_cell) (get_or cells (suc j) no_cell) (is_inside j first) (pairs j (suc j) no_cell (omega arith) l) in
      omega (arith, least, more)

  -- so there are no more of them than the sheet has
  pub no_more : length cells ≤ count_of shape
  no_more = go (length cells) refl
    where
      go : (n : ℕ) → n ≡ length cells → n ≤ count_of shape
      go zero is = omega arith
      go (suc n) is =
          let l : n < length cells = omega (arith, is) in
          let least = no_less n l in
          let below = index_below shape (get_or cells n no_cell) (is_inside n l) in
          omega (arith, least, below)

-- the next one is after those before it
pub is_behind : (cells : List Cell) (i : ℕ) → AllPairs refs.IsBefore cells → i < length cells → IsBehind (map unseen (take i cells)) (get_or cells i no_cell)
is_behind cells i pairs l = record {
  behind = λ k lt. (
      let size = length-map (take i cells) unseen in
      let cut = length-take-le i cells (omega (arith, l)) in
      let first : k < length (take i cells) = omega (arith, size, lt) in
      let before : k < i = omega (arith, cut, first) in
      subst (λ (c : Cell). IsBefore c (get_or cells i no_cell)) (sym (cell_of (take i cells) k first ∙ get_or-take i cells k no_cell before)) (pairs k i no_cell before l));
}

possible : (shape : Shape) (cell : Cell) → IsInside shape cell → IsPossible cell
possible shape cell inside =
    let columns = shape.within.columns_to_z in
    let rows = shape.within.rows_to_64 in
    let column = inside.column in
    let row = inside.row in
    record { column = omega arith; row = omega arith }

-- the cells of a content that was read are its references on the sheet
pub is_content : (shape : Shape) (text : List ℕ) (content : PlainContent) (cells : List Cell) → Reads shape text content → AreRefs content cells → IsContent shape text content (map unseen cells)
is_content shape text content cells reads are = record {
  reads = reads;
  ascending = ascends cells are.ascending;
  all = λ d refers inside. found d (are.all d refers (possible shape d inside));
  only = λ j l. (
      let size = length-map cells unseen in
      let there : j < length cells = omega (arith, size, l) in
      let refers = are.only (get_or cells j no_cell) (Contains-get_or cells j no_cell there) in
      subst (λ (c : Cell). Refers content c × IsInside shape c) (sym (cell_of cells j there)) (refers, read_inside shape text content (get_or cells j no_cell) reads.reads refers));
}
  where
    found : (d : Cell) → Contains cells d → (j : ℕ) × (j < length (map unseen cells)) × (cell_in (map unseen cells) j ≡ d)
    found d (j, l, is) = (j, (let size = length-map cells unseen in omega (arith, size, l)), cell_of cells j l ∙ get_or_default cells j no_cell d l ∙ is)

-- the references of a text's content are cells of the sheet
pub all_inside : (shape : Shape) (text : List ℕ) (content : PlainContent) (cells : List Cell) → Reads shape text content → AreRefs content cells → (c : Cell) → Contains cells c → IsInside shape c
all_inside shape text content cells reads are c there = read_inside shape text content c reads.reads (are.only c there)

-- the work that has this content
pub taken : (e : PlainWorkCall) (content : PlainContent) (inputs : List Input) (s : WorkStage) → s ≡ (input_from (record e { content = content; inputs = inputs }) 0).stage
    → record e { content = content; inputs = inputs; stage = s } ≡ read_from e content inputs
taken e content inputs s is = rw is (go (nat_lt 0 (length inputs)))
  where
    go : (b : Bool) → record e { content = content; inputs = inputs; stage = (if b then record e { content = content; inputs = inputs; stage = LoadValue 0 } else record e { content = content; inputs = inputs; stage = LoadOwnValue }).stage }
        ≡ (if b then record e { content = content; inputs = inputs; stage = LoadValue 0 } else record e { content = content; inputs = inputs; stage = LoadOwnValue })
    go true = refl
    go false = refl

-- a work of a sheet is one with the content read, where its inputs' cells are possible
pub read_is : (e : PlainWorkCall) (content : PlainContent) (inputs : List Input) → IsWork e → ((j : ℕ) → j < length inputs → IsPossible (cell_in inputs j)) → IsWork (read_from e content inputs)
read_is e content inputs h each = go (nat_lt 0 (length inputs)) refl
  where
    with_stage : (s : WorkStage) → ClaimFits e s → StageFits (record e { content = content; inputs = inputs }) s → TellsFits (record e { content = content; inputs = inputs; stage = s }) s → IsWork (record e { content = content; inputs = inputs; stage = s })
    with_stage s claim stage told = record {
      process = h.process;
      processes = h.processes;
      cell = h.cell;
      cells = h.cells;
      young = h.young;
      short = h.short;
      fits = h.fits;
      text = h.text;
      possible = each;
      height = h.height;
      claim = claim;
      stage = stage;
      told = told;
    }

    go : (b : Bool) → nat_lt 0 (length inputs) ≡ b → IsWork (if b then record e { content = content; inputs = inputs; stage = LoadValue 0 } else record e { content = content; inputs = inputs; stage = LoadOwnValue })
    go true some = with_stage (LoadValue 0) tt (ltb-true 0 (length inputs) some) tt
    go false none = with_stage LoadOwnValue tt tt tt

-- each input made of a cell of the sheet is of a cell that some sheet has
pub each_possible : (shape : Shape) (cells : List Cell) → ((c : Cell) → Contains cells c → IsInside shape c) → (j : ℕ) → j < length (map unseen cells) → IsPossible (cell_in (map unseen cells) j)
each_possible shape cells inside j l =
    let size = length-map cells unseen in
    let there : j < length cells = omega (arith, size, l) in
    subst (λ (c : Cell). IsPossible c) (sym (cell_of cells j there)) (possible shape (get_or cells j no_cell) (inside (get_or cells j no_cell) (Contains-get_or cells j no_cell there)))

-- a content has no more references on the sheet than that has cells
module _ (shape : Shape) (inputs : List Input) (ascending : IsAscending inputs) (inside : (j : ℕ) → j < length inputs → IsInside shape (cell_in inputs j)) where
  at_least : (j : ℕ) → j < length inputs → j ≤ index_of shape (cell_in inputs j)
  at_least zero l = omega arith
  at_least (suc j) l =
      let first : j < length inputs = omega (arith, l) in
      let least = at_least j first in
      let more = before_less shape (cell_in inputs j) (cell_in inputs (suc j)) (inside j first) (ascending.ascend j (suc j) (omega arith) l) in
      omega (arith, least, more)

  few_inputs : (n : ℕ) → n ≡ length inputs → n ≤ count_of shape
  few_inputs zero is = omega arith
  few_inputs (suc n) is =
      let l : n < length inputs = omega (arith, is) in
      let least = at_least n l in
      let below = index_below shape (cell_in inputs n) (inside n l) in
      omega (arith, least, below)

-- a content has no more references as inputs than the sheet has cells
pub content_few : (shape : Shape) (text : List ℕ) (content : PlainContent) (inputs : List Input) → IsContent shape text content inputs → length inputs ≤ count_of shape
content_few shape text content inputs is = few_inputs shape inputs is.ascending (λ j l. (is.only j l).1) (length inputs) refl
