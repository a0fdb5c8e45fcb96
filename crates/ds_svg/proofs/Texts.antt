-- What stands for bytes is a text without markup.
use Rattle.std.proofs.Common.{ℕ, ◌≡◌, inl, inr, Bool, true, false, List, [], ◌∷◌, ◌++◌, refl}
use Rattle.std.specs.Prelude.{codes, nat_eq, if◌then◌else◌}
use Rattle.ds_svg.specs.Markup.{is_plain, escaped}
use Rattle.ds_svg.specs.Texts.{IsText, no_byte, a_byte, an_entity}

-- what stands for a byte, by which byte it is, before a text
piece : (plain lt gt amp quot : Bool) (b : ℕ) (text : List ℕ) → (plain ≡ true → is_plain b ≡ true) → IsText text
    → IsText ((if plain then b ∷ [] else (if lt then codes "&lt;" else (if gt then codes "&gt;" else (if amp then codes "&amp;" else (if quot then codes "&quot;" else codes "."))))) ++ text)
piece true lt gt amp quot b text plain h = a_byte b text (plain refl) h
piece false true gt amp quot b text plain h = an_entity (codes "lt") text (inl refl) h
piece false false true amp quot b text plain h = an_entity (codes "gt") text (inr (inl refl)) h
piece false false false true quot b text plain h = an_entity (codes "amp") text (inr (inr (inl refl))) h
piece false false false false true b text plain h = an_entity (codes "quot") text (inr (inr (inr refl))) h
piece false false false false false b text plain h = a_byte 46 text refl h

-- what stands for bytes in a document is a text without markup
pub texts : (bytes : List ℕ) → IsText (escaped bytes)
texts [] = no_byte
texts (b ∷ bytes) = piece (is_plain b) (nat_eq b 60) (nat_eq b 62) (nat_eq b 38) (nat_eq b 34) b (escaped bytes) (λ h. h) (texts bytes)
