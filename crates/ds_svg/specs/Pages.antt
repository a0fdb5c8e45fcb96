-- Pages that are well-formed.
use Rattle.std.specs.Prelude.{ℕ, ◌≡◌, ◌≤◌, ◌⊎◌, List, [], ◌∷◌, ◌++◌, codes, length}
use Rattle.ds_svg.specs.declared.tag.Tag.{Tag}
use Rattle.ds_svg.specs.declared.tag.Attribute.{Attribute}
use Rattle.ds_svg.specs.Markup.{tag_name, open_text, empty_text, close_text, escaped}

-- the name of the element that a document is
abbrev pub svg_name : List ℕ
svg_name = codes "svg"

-- the text is the front of a well-formed document: `svg` is open, and in it these elements, each within the one before
pub data Front : List Tag → List ℕ → Type 0 where
  begins : (attributes : List Attribute) → Front [] (open_text svg_name attributes)
  -- an element opens within those that are open
  opens : (elements : List Tag) (text : List ℕ) (tag : Tag) (attributes : List Attribute) → Front elements text → Front (elements ++ tag ∷ []) (text ++ open_text (tag_name tag) attributes)
  -- the innermost element closes
  closes : (elements : List Tag) (text : List ℕ) (tag : Tag) → Front (elements ++ tag ∷ []) text → Front elements (text ++ close_text (tag_name tag))
  -- an element with nothing in it
  puts : (elements : List Tag) (text : List ℕ) (tag : Tag) (attributes : List Attribute) → Front elements text → Front elements (text ++ empty_text (tag_name tag) attributes)
  -- a text, without markup
  says : (elements : List Tag) (text : List ℕ) (said : List ℕ) → Front elements text → Front elements (text ++ escaped said)

-- a well-formed document: one element `svg`, in which each element that opens closes, within the one around it
pub record IsDocument (text : List ℕ) : Type 0 where
  pub front : List ℕ
  pub within : Front [] front
  pub ends : text ≡ front ++ close_text svg_name

-- the elements that are open within `svg`, the innermost last; what is written; and how many bytes that may be
pub record PageValue : Type 0 where
  pub elements : List Tag
  pub text : List ℕ
  pub limit : ℕ

-- a page is the front of a well-formed document, within its limit
pub record IsPage (p : PageValue) : Type 0 where
  pub front : Front p.elements p.text
  pub within : length p.text ≤ p.limit

-- the innermost element, of this name, is closed
pub record ClosesOne (old new : PageValue) : Type 0 where
  pub tag : Tag
  pub elements : old.elements ≡ new.elements ++ tag ∷ []
  pub text : new.text ≡ old.text ++ close_text (tag_name tag)
  pub limit : new.limit ≡ old.limit

-- the innermost element is closed, or none is open
abbrev pub Closes : PageValue → PageValue → Type 0
Closes old new = ClosesOne old new ⊎ ((old.elements ≡ []) × (new ≡ old))
