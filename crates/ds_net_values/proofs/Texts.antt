-- The texts of cells after a list of edits, one cell after the other.
use Rattle.std.proofs.Common.{ℕ, suc, add-one, ◌+◌, ◌≡◌, ◌∙◌, List, [], ◌∷◌, ◌++◌, map, ap, subst, sym}
use Rattle.std.proofs.lemmas.List.{map-append}
use Rattle.std.specs.Global.{Vec}
use Rattle.ds_formula.specs.declared.cells.Cell.{Cell}
use Rattle.ds_formula.specs.declared.cells.Shape.{Shape}
use Rattle.ds_formula.specs.Cells.{cell_at}
use Rattle.ds_server.specs.Replies as said
use Rattle.ds_net_floor.specs.EditLists.{HasText}
use Rattle.ds_net_values.specs.ListValues.{AreTexts, no_text, one_text_more}

-- the texts
abbrev pub items_of : List (Vec ℕ) → List (List ℕ)
items_of texts = map (λ text. text.items) texts

-- no text
pub texts_none : (shape : Shape) (list : List said.EditEntry) (texts : List (Vec ℕ)) → texts ≡ [] → AreTexts shape list 0 (items_of texts)
texts_none shape list texts none = subst (λ (l : List (Vec ℕ)). AreTexts shape list 0 (items_of l)) (sym none) no_text

-- the text of one cell more
pub texts_more : (shape : Shape) (list : List said.EditEntry) (n : ℕ) (texts new : List (Vec ℕ)) (text : Vec ℕ) (cell : Cell) → AreTexts shape list n (items_of texts) → HasText cell list text.items → cell ≡ cell_at shape n → new ≡ texts ++ text ∷ []
    → AreTexts shape list (n + 1) (items_of new)
texts_more shape list n texts new text cell are has at is =
    subst (λ (k : ℕ). AreTexts shape list k (items_of new)) (sym (add-one n))
    (subst (λ (l : List (List ℕ)). AreTexts shape list (suc n) l) (sym (ap items_of is ∙ map-append (λ (v : Vec ℕ). v.items) texts (text ∷ [])))
    (one_text_more n (items_of texts) text.items are (subst (λ (c : Cell). HasText c list text.items) at has)))
