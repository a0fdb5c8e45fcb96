-- What texts give their cells, one text after the other.
use Rattle.std.proofs.Common.{ℕ, ◌+◌, ◌≡◌, ◌<◌, ◌∙◌, get_or, length, List, [], ◌∷◌, ◌++◌, map, take, Ok, Err, ap, inl, inr, refl, subst, sym}
use Rattle.std.proofs.lemmas.List.{map_more}
use Rattle.std.specs.Global.{Vec}
use Rattle.std.specs.Prelude.{IfOk, Result}
use Rattle.ds_eval.specs.Scratch.{IsScratch}
use Rattle.ds_eval.specs.SheetContents.{contents_of}
use Rattle.ds_eval.specs.declared.sheet.Sheet.{Sheet}
use Rattle.ds_eval.specs.declared.value.Value.{Value}
use Rattle.ds_formula.specs.Grammar.{Answers}
use Rattle.ds_formula.specs.declared.cells.Shape.{Shape}
use Rattle.ds_formula.specs.declared.content.Content.{Content}
use Rattle.ds_formula.specs.declared.content.Content.TheVariants as contents
use Rattle.ds_formula.specs.declared.fault.FaultKind.TheVariants.{NoMemory}
use Rattle.ds_formula.specs.declared.fault.TextFault.{TextFault}
use Rattle.ds_text_values.specs.TextValues.{AreContents, Holds, IsEvaluated, no_content, one_content_more}

-- the texts
abbrev pub texts_in : List (Vec ℕ) → List (List ℕ)
texts_in texts = map (λ text. text.items) texts

-- a text that is refused, but for want of memory, gives its cell nothing
pub blank_holds : (shape : Shape) (text : List ℕ) (why : TextFault) → (why.kind ≡ NoMemory → ⊥) → Answers shape text (Err why) → Holds shape text contents.Blank
blank_holds shape text why other (inl lacks) = absurd (other (ap (λ (f : TextFault). f.kind) lacks.0))
blank_holds shape text why other (inr faults) = inr (why, faults, refl)

-- no content
pub contents_none : (shape : Shape) (held : List Content) → held ≡ [] → AreContents shape [] held
contents_none shape held none = subst (λ (l : List Content). AreContents shape [] l) (sym none) no_content

-- one content more
pub contents_more : (shape : Shape) (xs : List (Vec ℕ)) (n : ℕ) (x : Vec ℕ) (text : List ℕ) (held new : List Content) (content : Content) → n < length xs → x ≡ get_or xs n x → text ≡ x.items → AreContents shape (texts_in (take n xs)) held
    → Holds shape text content → new ≡ held ++ content ∷ [] → AreContents shape (texts_in (take (n + 1) xs)) new
contents_more shape xs n x text held new content low at is are holds e =
    subst (λ (l : List Content). AreContents shape (texts_in (take (n + 1) xs)) l) (sym e)
    (subst (λ (l : List (List ℕ)). AreContents shape l (held ++ content ∷ [])) (sym texts) (one_content_more (texts_in (take n xs)) held text content are holds))
  where
    texts : texts_in (take (n + 1) xs) ≡ texts_in (take n xs) ++ text ∷ []
    texts = map_more (λ (v : Vec ℕ). v.items) xs n x low ∙ ap (λ (v : Vec ℕ). texts_in (take n xs) ++ v.items ∷ []) (sym at) ∙ ap (λ (t : List ℕ). texts_in (take n xs) ++ t ∷ []) (sym is)

-- the values from scratch are those of the texts
pub evaluated_ok : {E : Type 0} (r : Result (Vec Value) E) (shape : Shape) (texts : List (List ℕ)) (held : List Content) (sheet : Sheet) → AreContents shape texts held → sheet.shape ≡ shape → sheet.contents.items ≡ held
    → IfOk r (λ values. IsScratch sheet.shape (contents_of sheet) values.items) → IfOk r (λ values. IsEvaluated shape texts values.items)
evaluated_ok (Ok values) shape texts held sheet are e f h = record {
  sheet = sheet;
  shape_is = e;
  contents = subst (λ (l : List Content). AreContents shape texts l) (sym f) are;
  scratch = h;
}
evaluated_ok (Err why) shape texts held sheet are e f h = tt
