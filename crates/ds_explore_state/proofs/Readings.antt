-- A text is read in one way.
use Rattle.std.proofs.Common.{ℕ, zero, suc, ◌≡◌, ◌<◌, ◌∙◌, Bool, true, false, nat_lt, List, [], ◌∷◌, length, refl, sym, ap, subst, arith}
use Rattle.std.specs.Prelude.{All}
use Rattle.std.proofs.lemmas.List.{length-map}
use Rattle.ds_formula.specs.declared.cells.Cell.{Cell}
use Rattle.ds_formula.specs.declared.cells.Shape.{Shape}
use Rattle.ds_formula.specs.Plain.{PlainContent}
use Rattle.ds_formula.specs.Refs.{IsBefore}
use Rattle.ds_formula.proofs.Whole.{only_content}
use Rattle.ds_eval.specs.declared.inputs.Input.{Input}
use Rattle.ds_eval.specs.Inputs.{IsAscending, cell_in, no_input}
use Rattle.ds_eval.proofs.Cells.{before_before, never_before}
use Rattle.ds_state.specs.Works.{PlainWorkCall}
use Rattle.ds_work.specs.Reading.{unseen}
use Rattle.ds_work.specs.WorkSteps.{IsContent, read_from}

-- each cell of the first inputs is one of the second
abbrev pub AreAmong : List Input → List Input → Type 0
AreAmong xs ys = (j : ℕ) → j < length xs → (k : ℕ) × (k < length ys) × (cell_in ys k ≡ cell_in xs j)

-- none of the inputs was looked at
abbrev pub AreUnseen : List Input → Type 0
AreUnseen xs = All (λ input. input ≡ unseen input.cell) xs

-- what ascends goes on ascending
ascends_on : (x : Input) (xs : List Input) → IsAscending (x ∷ xs) → IsAscending xs
ascends_on x xs a = record { ascend = λ j k lt l. a.ascend (suc j) (suc k) (omega (arith, lt)) (omega (arith, l)) }

-- the first of the inputs is before all others
first_before : (x : Input) (xs : List Input) (k : ℕ) → IsAscending (x ∷ xs) → k < length xs → IsBefore x.cell (cell_in xs k)
first_before x xs k a l = a.ascend zero (suc k) (omega arith) (omega (arith, l))

-- the first cells of inputs with the same cells are the same
same_first : (x y : Input) (xs ys : List Input) → IsAscending (x ∷ xs) → IsAscending (y ∷ ys) → AreAmong (x ∷ xs) (y ∷ ys) → AreAmong (y ∷ ys) (x ∷ xs) → x.cell ≡ y.cell
same_first x y xs ys a b among back = go (among zero (omega arith)) (back zero (omega arith))
  where
    go : (k : ℕ) × (k < length (y ∷ ys)) × (cell_in (y ∷ ys) k ≡ x.cell) → (j : ℕ) × (j < length (x ∷ xs)) × (cell_in (x ∷ xs) j ≡ y.cell) → x.cell ≡ y.cell
    go (zero, l, e) q = sym e
    go (suc k, l, e) (zero, m, f) = f
    go (suc k, l, e) (suc j, m, f) =
        let one : IsBefore y.cell x.cell = subst (λ (c : Cell). IsBefore y.cell c) e (first_before y ys k b (omega (arith, l))) in
        let other : IsBefore x.cell y.cell = subst (λ (c : Cell). IsBefore x.cell c) f (first_before x xs j a (omega (arith, m))) in
        absurd (never_before x.cell x.cell (before_before x.cell y.cell x.cell other one) refl)

-- those after the first are among those after the first
among_on : (x y : Input) (xs ys : List Input) → IsAscending (x ∷ xs) → x.cell ≡ y.cell → AreAmong (x ∷ xs) (y ∷ ys) → AreAmong xs ys
among_on x y xs ys a same among j l = go (among (suc j) (omega (arith, l)))
  where
    go : (k : ℕ) × (k < length (y ∷ ys)) × (cell_in (y ∷ ys) k ≡ cell_in xs j) → (k : ℕ) × (k < length ys) × (cell_in ys k ≡ cell_in xs j)
    go (zero, m, e) = absurd (never_before x.cell (cell_in xs j) (first_before x xs j a l) (same ∙ e))
    go (suc k, m, e) = (k, omega (arith, m), e)

unseen_first : (x : Input) (xs : List Input) → AreUnseen (x ∷ xs) → x ≡ unseen x.cell
unseen_first x xs u = u zero x (omega arith)

unseen_on : (x : Input) (xs : List Input) → AreUnseen (x ∷ xs) → AreUnseen xs
unseen_on x xs u j d l = u (suc j) d (omega (arith, l))

-- inputs that ascend, of the same cells, none of which was looked at, are the same
pub same_inputs : (xs ys : List Input) → IsAscending xs → IsAscending ys → AreAmong xs ys → AreAmong ys xs → AreUnseen xs → AreUnseen ys → xs ≡ ys
same_inputs [] [] a b among back u v = refl
same_inputs [] (y ∷ ys) a b among back u v = absurd (no_place (back zero (omega arith)))
  where
    no_place : (k : ℕ) × (k < zero) × (cell_in [] k ≡ y.cell) → ⊥
    no_place (k, l, e) = omega (arith, l)
same_inputs (x ∷ xs) [] a b among back u v = absurd (no_place (among zero (omega arith)))
  where
    no_place : (k : ℕ) × (k < zero) × (cell_in [] k ≡ x.cell) → ⊥
    no_place (k, l, e) = omega (arith, l)
same_inputs (x ∷ xs) (y ∷ ys) a b among back u v =
    let cell : x.cell ≡ y.cell = same_first x y xs ys a b among back in
    let one : x ≡ y = unseen_first x xs u ∙ ap unseen cell ∙ sym (unseen_first y ys v) in
    let rest : xs ≡ ys = same_inputs xs ys (ascends_on x xs a) (ascends_on y ys b) (among_on x y xs ys a cell among) (among_on y x ys xs b (sym cell) back) (unseen_on x xs u) (unseen_on y ys v) in
    cc

-- the references of one content on one sheet are among those that were listed another time
listed_again : (shape : Shape) (text : List ℕ) (content : PlainContent) (xs ys : List Input) → IsContent shape text content xs → IsContent shape text content ys → AreAmong xs ys
listed_again shape text content xs ys a b j l = b.all (cell_in xs j) (a.only j l).0 (a.only j l).1

-- the inputs of a work that has read its text
pub inputs_of : (e : PlainWorkCall) (content : PlainContent) (inputs : List Input) → (read_from e content inputs).inputs ≡ inputs
inputs_of e content inputs = go (nat_lt 0 (length inputs)) refl
  where
    go : (b : Bool) → nat_lt 0 (length inputs) ≡ b → (read_from e content inputs).inputs ≡ inputs
    go true is = rw is refl
    go false is = rw is refl

-- a text is read in one way, by works that have looked at no reference yet
pub read_alike : (shape : Shape) (e : PlainWorkCall) (c d : PlainContent) (xs ys : List Input) → IsContent shape e.text c xs → IsContent shape e.text d ys → AreUnseen xs → AreUnseen ys → read_from e d ys ≡ read_from e c xs
read_alike shape e c d xs ys a b u v =
    let same : d ≡ c = only_content shape e.text d c b.reads a.reads in
    let also : IsContent shape e.text c ys = subst (λ (k : PlainContent). IsContent shape e.text k ys) same b in
    let inputs : ys ≡ xs = same_inputs ys xs also.ascending a.ascending (listed_again shape e.text c ys xs also a) (listed_again shape e.text c xs ys a also) v u in
    ap (λ (k : PlainContent). read_from e k ys) same ∙ ap (λ (i : List Input). read_from e c i) inputs
