-- Texts with zeros after them.
use Rattle.std.proofs.Common.{ℕ, ◌≡◌, ◌<◌, ◌≤◌, ◌-◌, ◌++◌, List, length, length-append, take, drop, replicate, get_or, set, refl, ap, ◌∙◌, ◌+◌, sym, subst, arith}
use Rattle.std.specs.Prelude.{All}
use Rattle.std.proofs.Math.Seq.{drop-append_seam}
use Rattle.std.proofs.lemmas.List.{length-replicate, drop-replicate, drop-drop, drop-set-lt, length-set, get_or_default, length-take-le}
use Rattle.std.proofs.lemmas.List.Elements.{All-append, All-replicate, All-set, All-take}
use Rattle.ds_formula.specs.Limits.{TEXT_MOST}
use Rattle.ds_state.specs.Text.{IsText, IsPadded, padding}

each_byte : (bytes : List ℕ) → ((k : ℕ) → get_or bytes k 0 < 256) → All (λ b. b < 256) bytes
each_byte bytes small = λ k d l. subst (λ (b : ℕ). b < 256) (get_or_default bytes k 0 d l) (small k)

padded : (bytes : List ℕ) → ((k : ℕ) → get_or bytes k 0 < 256) → length bytes ≤ TEXT_MOST → IsPadded (bytes ++ padding (length bytes)) (length bytes)
padded bytes small short =
    let zeros : length (padding (length bytes)) ≡ TEXT_MOST - length bytes = length-replicate (TEXT_MOST - length bytes) 0 in
    record {
      each = All-append (λ b. b < 256) bytes (padding (length bytes)) (each_byte bytes small) (All-replicate (λ b. b < 256) (TEXT_MOST - length bytes) 0 (omega arith));
      size = omega (arith, length-append bytes (padding (length bytes)));
      within = omega (arith, length-append bytes (padding (length bytes)));
      rest = drop-append_seam bytes (padding (length bytes));
    }

-- bytes copied over the first ones of n zeros
pub padded_new : (bytes copied : List ℕ) → copied ≡ bytes → ((k : ℕ) → get_or bytes k 0 < 256) → length bytes ≤ TEXT_MOST → IsPadded (copied ++ drop (length bytes) (replicate TEXT_MOST 0)) (length bytes)
padded_new bytes copied same small short =
    subst (λ (xs : List ℕ). IsPadded (copied ++ xs) (length bytes)) (sym (drop-replicate (length bytes) TEXT_MOST 0))
    (subst (λ (xs : List ℕ). IsPadded (xs ++ padding (length bytes)) (length bytes)) (sym same) (padded bytes small short))

zeros : ℕ → List ℕ
zeros n = replicate n 0

zeros_less : (n m : ℕ) → m ≡ n + 1 → drop 1 (zeros m) ≡ zeros n
unfolding zeros
zeros_less n m is = drop-replicate 1 m 0 ∙ ap (λ (k : ℕ). replicate k 0) (omega (arith, is))

-- zeros alone are the text of no bytes
pub padded_empty : IsPadded (padding 0) 0
padded_empty = record {
  each = All-replicate (λ b. b < 256) TEXT_MOST 0 (omega arith);
  size = length-replicate {A = ℕ} TEXT_MOST 0;
  within = omega arith;
  rest = refl;
}

-- one more byte after them
pub padded_push : (bytes : List ℕ) (len b : ℕ) → IsPadded bytes len → len < TEXT_MOST → b < 256 → IsPadded (set bytes len b) (len + 1)
unfolding zeros
padded_push bytes len b h room small =
    let size = h.size in
    let same : drop (len + 1) (set bytes len b) ≡ drop (len + 1) bytes = drop-set-lt (len + 1) bytes len b (omega arith) in
    let twice : drop (len + 1) bytes ≡ drop 1 (drop len bytes) = sym (drop-drop 1 len bytes) in
    record {
      each = All-set (λ x. x < 256) bytes len b small h.each;
      size = length-set bytes len b ∙ size;
      within = omega (arith, length-set bytes len b);
      rest = same ∙ twice ∙ ap (λ (xs : List ℕ). drop 1 xs) h.rest ∙ zeros_less (TEXT_MOST - (len + 1)) (TEXT_MOST - len) (omega arith);
    }

-- what lies at the front of padded bytes is a text
pub text_within : (bytes : List ℕ) (len : ℕ) → IsPadded bytes len → IsText (take len bytes)
text_within bytes len h =
    let size = h.size in
    let within = h.within in
    record { short = let is = length-take-le len bytes within in omega arith; bytes = All-take (λ b. b < 256) len bytes h.each }
