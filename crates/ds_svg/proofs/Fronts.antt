-- A piece after the front of a document, or not.
use Rattle.std.proofs.Common.{ℕ, ◌≡◌, ◌∙◌, Bool, true, false, List, [], ◌∷◌, ◌++◌, ◌-◌, length, take, sym, ap, subst, arith}
use Rattle.std.proofs.lemmas.List.{length-append}
use Rattle.std.proofs.Math.Seq.{take-append_seam}
use Rattle.std.specs.Prelude.{if◌then◌else◌}
use Rattle.ds_svg.specs.declared.tag.Tag.{Tag}
use Rattle.ds_svg.specs.declared.tag.Attribute.{Attribute}
use Rattle.ds_svg.specs.Markup.{tag_name, open_text, empty_text, close_text, escaped}
use Rattle.ds_svg.specs.Pages.{Front, begins, opens, closes, puts, says, svg_name}

-- what holds of the text with the piece and without it holds of what was written
either : (P : List ℕ → Type 0) (done : Bool) (old piece new : List ℕ) → new ≡ (if done then old ++ piece else old) → P old → P (old ++ piece) → P new
either P true old piece new is a b = subst P (sym is) b
either P false old piece new is a b = subst P (sym is) a

-- a text without markup, after a front or not written, is a front with the same elements open
pub said : (elements : List Tag) (done : Bool) (old piece new text : List ℕ) → Front elements old → piece ≡ escaped text → new ≡ (if done then old ++ piece else old) → Front elements new
said elements done old piece new text front piece_is is =
    either (λ (l : List ℕ). Front elements l) done old piece new is front (subst (λ (p : List ℕ). Front elements (old ++ p)) (sym piece_is) (says elements old text front))

-- an element with nothing in it, after a front or not written, is a front with the same elements open
pub written : (elements : List Tag) (done : Bool) (old piece new : List ℕ) (tag : Tag) (attributes : List Attribute) → Front elements old → piece ≡ empty_text (tag_name tag) attributes → new ≡ (if done then old ++ piece else old) → Front elements new
written elements done old piece new tag attributes front piece_is is =
    either (λ (l : List ℕ). Front elements l) done old piece new is front (subst (λ (p : List ℕ). Front elements (old ++ p)) (sym piece_is) (puts elements old tag attributes front))

-- the opening of an element, after a front, is the front with that element open
pub opened : (elements now : List Tag) (old piece new : List ℕ) (tag : Tag) (attributes : List Attribute) → Front elements old → piece ≡ open_text (tag_name tag) attributes → new ≡ old ++ piece → now ≡ elements ++ tag ∷ [] → Front now new
opened elements now old piece new tag attributes front piece_is is now_is =
    subst (λ (e : List Tag). Front e new) (sym now_is)
    (subst (λ (l : List ℕ). Front (elements ++ tag ∷ []) l) (sym (is ∙ ap (λ (p : List ℕ). old ++ p) piece_is)) (opens elements old tag attributes front))

-- the closing of the innermost element, after a front, is the front with that element closed
pub closed : (elements now : List Tag) (old piece new : List ℕ) (tag : Tag) → Front elements old → piece ≡ close_text (tag_name tag) → new ≡ old ++ piece → elements ≡ now ++ tag ∷ [] → Front now new
closed elements now old piece new tag front piece_is is now_is =
    subst (λ (l : List ℕ). Front now l) (sym (is ∙ ap (λ (p : List ℕ). old ++ p) piece_is)) (closes now old tag (subst (λ (e : List Tag). Front e old) now_is front))

-- the opening of `svg` is the front of a document
pub begun : (elements : List Tag) (text : List ℕ) (attributes : List Attribute) → elements ≡ [] → text ≡ open_text svg_name attributes → Front elements text
begun elements text attributes none is = subst (λ (e : List Tag). Front e text) (sym none) (subst (λ (l : List ℕ). Front [] l) (sym is) (begins attributes))

-- the elements without the last one
pub without_last : (elements outer now : List Tag) (tag : Tag) (count : ℕ) → elements ≡ outer ++ tag ∷ [] → count ≡ length elements → now ≡ take (count - 1) elements → elements ≡ now ++ tag ∷ []
without_last elements outer now tag count is count_is now_is =
    let size : length elements ≡ length (outer ++ tag ∷ []) = ap (λ (l : List Tag). length l) is in
    let sum = length-append outer (tag ∷ []) in
    let less : count - 1 ≡ length outer = omega (arith, size, sum, count_is) in
    let same : now ≡ outer = now_is ∙ ap (λ (n : ℕ). take n elements) less ∙ ap (λ (l : List Tag). take (length outer) l) is ∙ take-append_seam outer (tag ∷ []) in
    is ∙ ap (λ (l : List Tag). l ++ tag ∷ []) (sym same)
