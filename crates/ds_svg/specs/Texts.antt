-- Texts without markup.
use Rattle.std.specs.Prelude.{ℕ, ◌≡◌, ◌⊎◌, true, List, [], ◌∷◌, ◌++◌, codes}
use Rattle.ds_svg.specs.Markup.{is_plain}

-- the name of an entity: lt, gt, amp or quot
abbrev pub IsEntity : List ℕ → Type 0
IsEntity name = (name ≡ codes "lt") ⊎ ((name ≡ codes "gt") ⊎ ((name ≡ codes "amp") ⊎ (name ≡ codes "quot")))

-- a text without markup: bytes that stand for themselves, none of them < > & or ", and entities
pub data IsText : List ℕ → Type 0 where
  no_byte : IsText []
  a_byte : (b : ℕ) (text : List ℕ) → is_plain b ≡ true → IsText text → IsText (b ∷ text)
  an_entity : (name text : List ℕ) → IsEntity name → IsText text → IsText (codes "&" ++ (name ++ (codes ";" ++ text)))
