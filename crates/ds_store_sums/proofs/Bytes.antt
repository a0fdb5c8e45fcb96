-- The bytes of lines that grow by one.
use Rattle.std.proofs.Common.{ℕ, ◌≡◌, ◌++◌, ◌∷◌, [], List, ap, sym, ◌∙◌}
use Rattle.std.proofs.lemmas.List.{append-nil, append_assoc}
use Rattle.ds_store_sums.specs.Sums.{bytes_of}

pub bytes_more : (lines : List (List ℕ)) (line : List ℕ) → bytes_of (lines ++ line ∷ []) ≡ (bytes_of lines ++ line) ++ 10 ∷ []
unfolding bytes_of
bytes_more [] line = append-nil (line ++ 10 ∷ [])
bytes_more (first ∷ lines) line =
    let x = first ++ 10 ∷ [] in
    let b = bytes_of lines in
    ap (λ r. x ++ r) (bytes_more lines line) ∙ sym (ap (λ r. r ++ 10 ∷ []) (append_assoc x b line) ∙ append_assoc x (b ++ line) (10 ∷ []))
