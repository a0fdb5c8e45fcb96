-- The texts of cells, when an edit more was read.
use Rattle.std.proofs.Common.{ℕ, ◌≡◌, ◌<◌, ◌++◌, ◌∷◌, ◌==◌, [], List, Bool, true, false, length, get_or, refl, sym, ap, ◌∙◌, ⊎_elim, if◌then◌else◌}
use Rattle.std.specs.Prelude.{Vec, slice_set}
use Rattle.std.specs.Global.{Global}
use Rattle.std.proofs.lemmas.List.{get_or-set_same, get_or-set_other}
use Rattle.std.proofs.lemmas.Bool.Decides.{eqb_tells}
use Rattle.ds_formula.specs.declared.cells.Shape.{Shape}
use Rattle.ds_formula.specs.Cells.{index_of}
use Rattle.ds_store_journal.specs.Journals.{KeptEdit}
use Rattle.ds_store.specs.Texts.{AreTexts, text_after, text_at}

-- the last edit decides
after_last : (shape : Shape) (k : ℕ) (text : List ℕ) (edits : List KeptEdit) (edit : KeptEdit)
    → text_after shape k text (edits ++ edit ∷ []) ≡ (if index_of shape edit.cell == k then edit.text else text_after shape k text edits)
unfolding text_after
after_last shape k text [] edit = refl
after_last shape k text (e ∷ edits) edit = after_last shape k (if index_of shape e.cell == k then e.text else text) edits edit

chosen : (b : Bool) (x y : List ℕ) → b ≡ true → (if b then x else y) ≡ x
chosen b x y is = ap (λ c. if c then x else y) is

other : (b : Bool) (x y : List ℕ) → b ≡ false → (if b then x else y) ≡ y
other b x y is = ap (λ c. if c then x else y) is

-- the texts, with one more in the place of its cell's
pub put : (shape : Shape) (texts : List (Vec ℕ Global)) (text : Vec ℕ Global) (edits : List KeptEdit) (edit : KeptEdit) → index_of shape edit.cell < length texts
    → text.items ≡ edit.text → AreTexts shape texts edits → AreTexts shape (slice_set texts (index_of shape edit.cell) text) (edits ++ edit ∷ [])
put shape texts text edits edit low is are k d below =
    let at = index_of shape edit.cell in
    ⊎_elim
    (λ here.
    ap (λ j. (get_or (slice_set texts at text) j d).items) (sym here.1) ∙ (ap (λ (t : Vec ℕ Global). t.items) (get_or-set_same texts at text d low) ∙ (is ∙
    sym (after_last shape k [] edits edit ∙ chosen (at == k) edit.text (text_at shape k edits) here.0))))
    (λ apart.
    ap (λ (t : Vec ℕ Global). t.items) (get_or-set_other texts at k text d (λ e. apart.1 (sym e))) ∙ (are k d below ∙
    sym (after_last shape k [] edits edit ∙ other (at == k) edit.text (text_at shape k edits) apart.0)))
    (eqb_tells at k)
