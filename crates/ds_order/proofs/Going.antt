-- How an order is found to go along the references of a sheet.
use Rattle.std.proofs.Common.{◌≡◌, ◌<◌, ◌≤◌, ◌+◌, ◌∙◌, ◌⊎◌, ⊎_elim, Bool, true, false, ℕ, suc, zero, List, length, slice_index_or, Some, None, refl, ap, sym, subst, arith, inl, inr}
use Rattle.std.specs.Prelude.{slice_get, slice_set}
use Rattle.std.proofs.lemmas.Bool.{cases_Bool, cases_eq}
use Rattle.std.proofs.lemmas.List.{length-set, get_or-set_same, get_or-set_other}
use Rattle.ds_formula.specs.declared.cells.Shape.{Shape}
use Rattle.ds_formula.specs.declared.cells.Cell.{Cell}
use Rattle.ds_formula.specs.Cells.{IsInside, count_of, index_of}
use Rattle.ds_formula.specs.Plain.{PlainContent}
use Rattle.ds_formula.specs.Refs.{Refers, AreRefs}
use Rattle.ds_eval.specs.Scratch.{Walk}
use Rattle.ds_eval.specs.SheetContents.{contents_of}
use Rattle.ds_eval.specs.declared.sheet.Sheet.{Sheet}
use Rattle.ds_eval.proofs.Walks.{index_below}
use Rattle.ds_order.specs.Along.{ArePlaced, FollowsInputs, GoesAlong, HasInputs, HasInputsBefore, IsAmong, LacksInput, LacksOne, LeadsOn, PlacedBefore, StandsBefore, content_at}

-- what is lacking of the references of a content is lacking of the content
pub lacks_input : (shape : Shape) (content : PlainContent) (references : List Cell) (cells : List Bool) → AreRefs content references → LacksOne shape references cells → LacksInput shape cells content
lacks_input shape content references cells refs l = record { input = l.input; refers = refs.only l.input l.has; inside = l.inside; lacks = l.lacks }

-- ---- one place of an order more

-- who stands before a place stands before the next one
placed_before : (shape : Shape) (sheet : Cell → PlainContent) (order : List ℕ) (place : ℕ) (c : Cell) → PlacedBefore shape sheet order place c → PlacedBefore shape sheet order (place + 1) c
placed_before shape sheet order place c p = let before = p.before in record { at = p.at; before = omega (arith, before); there = p.there; inputs = p.inputs }

pub none_placed : (shape : Shape) (sheet : Cell → PlainContent) (order : List ℕ) (place : ℕ) (cells : List Bool) → ArePlaced shape sheet order place cells → ArePlaced shape sheet order (place + 1) cells
none_placed shape sheet order place cells h = record { whole = h.whole; each = λ c inside among. placed_before shape sheet order place c (h.each c inside among) }

-- the cell with this number is one of them now
pub one_placed : (sheet : Sheet) (order : List ℕ) (place number : ℕ) (cells : List Bool) → ArePlaced sheet.shape (contents_of sheet) order place cells → slice_get order place ≡ Some number → number < count_of sheet.shape
    → HasInputs sheet.shape cells (content_at sheet number) → ArePlaced sheet.shape (contents_of sheet) order (place + 1) (slice_set cells number true)
one_placed sheet order place number cells h there below has = record {
  whole = length-set cells number true ∙ h.whole;
  each = λ c inside among. ⊎_elim
      (λ (same : index_of sheet.shape c ≡ number). record {
        at = place;
        before = omega arith;
        there = there ∙ ap (λ (n : ℕ). Some n) (sym same);
        inputs = subst (λ (n : ℕ). HasInputsBefore sheet.shape order place (content_at sheet n)) (sym same) (λ d refers inside_too. stands d inside_too (has d refers inside_too));
      })
      (λ (other : index_of sheet.shape c ≡ number → ⊥). placed_before sheet.shape (contents_of sheet) order place c
      (h.each c inside (sym (get_or-set_other cells number (index_of sheet.shape c) true false other) ∙ among)))
      (cases_eq (index_of sheet.shape c) number);
}
  where
    stands : (d : Cell) → IsInside sheet.shape d → IsAmong cells (index_of sheet.shape d) → StandsBefore order place (index_of sheet.shape d)
    stands d inside among = let p = h.each d inside among in record { at = p.at; before = p.before; there = p.there }

-- ---- all places

-- of a cell that is not placed a walk of any length begins
walk_on : (sheet : Sheet) (cells : List Bool) → LeadsOn sheet.shape (content_at sheet) cells (count_of sheet.shape)
    → (n : ℕ) (c : Cell) → IsInside sheet.shape c → slice_index_or cells (index_of sheet.shape c) false ≡ false → Walk sheet.shape (contents_of sheet) n c
walk_on sheet cells leads zero c inside lacks = tt
walk_on sheet cells leads (suc n) c inside lacks =
    let l = leads (index_of sheet.shape c) (index_below sheet.shape c inside) lacks in
    (l.input, l.refers, l.inside, walk_on sheet cells leads n l.input l.inside l.lacks)

pub goes : (sheet : Sheet) (order : List ℕ) (cells : List Bool) → ArePlaced sheet.shape (contents_of sheet) order (length order) cells → LeadsOn sheet.shape (content_at sheet) cells (count_of sheet.shape)
    → GoesAlong sheet.shape (contents_of sheet) order
goes sheet order cells placed leads = record {
  each = λ c inside. ⊎_elim
      (λ (among : IsAmong cells (index_of sheet.shape c)). let p = placed.each c inside among in inl (record { place = p.at; there = p.there; inputs = p.inputs }))
      (λ (lacks : slice_index_or cells (index_of sheet.shape c) false ≡ false). inr (walk_on sheet cells leads (count_of sheet.shape) c inside lacks))
      (cases_Bool (slice_index_or cells (index_of sheet.shape c) false));
}
