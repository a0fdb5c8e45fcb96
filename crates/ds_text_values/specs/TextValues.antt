-- What texts give their cells, and the values of the sheet that they make.
use Rattle.std.specs.Prelude.{◌≡◌, ◌⊎◌, ℕ, List, [], ◌∷◌, ◌++◌}
use Rattle.ds_formula.specs.Grammar.{Faults, Reads}
use Rattle.ds_formula.specs.Plain.{plain}
use Rattle.ds_formula.specs.declared.cells.Shape.{Shape}
use Rattle.ds_formula.specs.declared.content.Content.{Content}
use Rattle.ds_formula.specs.declared.content.Content.TheVariants as contents
use Rattle.ds_formula.specs.declared.fault.TextFault.{TextFault}
use Rattle.ds_eval.specs.Scratch.{IsScratch}
use Rattle.ds_eval.specs.SheetContents.{contents_of}
use Rattle.ds_eval.specs.declared.sheet.Sheet.{Sheet}
use Rattle.ds_eval.specs.declared.value.Value.{Value}

-- what the text gives its cell: the content that is read in it; nothing, where it has a fault
abbrev pub Holds : Shape → List ℕ → Content → Type 0
Holds shape text content = Reads shape text (plain content) ⊎ ((why : TextFault) × Faults shape text why × (content ≡ contents.Blank))

-- what texts give their cells, one after the other
pub data AreContents (shape : Shape) : List (List ℕ) → List Content → Type 0 where
  no_content : AreContents shape [] []
  one_content_more : (texts : List (List ℕ)) (held : List Content) (text : List ℕ) (content : Content)
      → AreContents shape texts held → Holds shape text content → AreContents shape (texts ++ text ∷ []) (held ++ content ∷ [])

-- the values are those of the texts of all cells, from scratch
pub record IsEvaluated (shape : Shape) (texts : List (List ℕ)) (values : List Value) : Type 0 where
  pub sheet : Sheet
  pub shape_is : sheet.shape ≡ shape
  pub contents : AreContents shape texts sheet.contents.items
  pub scratch : IsScratch sheet.shape (contents_of sheet) values
