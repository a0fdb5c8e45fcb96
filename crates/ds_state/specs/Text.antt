-- The text of an edit, and how it lies in place.
use Rattle.std.specs.Prelude.{ℕ, ◌≡◌, ◌<◌, ◌≤◌, ◌-◌, ◌++◌, List, length, take, drop, replicate, All}
use Rattle.std.proofs.Common.{ap, sym, ◌∙◌}
use Rattle.std.proofs.lemmas.List.{length-take-le, take-append-drop}
use Rattle.ds_formula.specs.Limits.{TEXT_MOST}

-- the text of an edit: bytes, and not too many
pub record IsText (text : List ℕ) : Type 0 where
  pub short : length text ≤ TEXT_MOST
  pub bytes : All (λ b. b < 256) text

-- zeros, as many as a text of this length leaves room for
abbrev pub padding : ℕ → List ℕ
padding len = replicate (TEXT_MOST - len) 0

-- bytes: a text of this length lies at the front, and zeros after it
pub record IsPadded (bytes : List ℕ) (len : ℕ) : Type 0 where
  pub each : All (λ b. b < 256) bytes
  pub size : length bytes ≡ TEXT_MOST
  pub within : len ≤ length bytes
  pub rest : drop len bytes ≡ padding len

-- the text at the front of padded bytes is as long as they say
pub padded_len : (bytes : List ℕ) (len : ℕ) → IsPadded bytes len → length (take len bytes) ≡ len
padded_len bytes len h = length-take-le len bytes h.within

-- the text at the front of padded bytes, with its padding, gives the bytes back
pub padded_bytes : (bytes : List ℕ) (len : ℕ) → IsPadded bytes len → take len bytes ++ padding (length (take len bytes)) ≡ bytes
padded_bytes bytes len h =
    ap (λ n. take len bytes ++ padding n) (padded_len bytes len h) ∙ ap (λ xs. take len bytes ++ xs) (sym h.rest) ∙ take-append-drop len bytes
