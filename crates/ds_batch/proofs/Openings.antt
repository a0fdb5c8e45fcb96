-- Lines that are refused.
use Rattle.std.proofs.Common.{String, Global, ◌≡◌, ◌<◌, ◌∙◌, ℕ, suc, List, ◌∷◌, ◌++◌, Ok, Err, IfErr, Result, ap, drop, get_or, length, map, subst, sym, take}
use Rattle.std.specs.Result.{IsErrAnd}
use Rattle.std.proofs.Math.Seq.{split_at}
use Rattle.std.proofs.lemmas.List.{map-append}
use Rattle.std.specs.String.{string_bytes}
use Rattle.ds_a1.specs.declared.notation.Notation.TheVariants.{A1}
use Rattle.ds_a1_script.specs.declared.lines.Commands.TheVariants.{OfScript}
use Rattle.ds_batch.specs.Openings.{HasNoText, HaveRefused}

-- the line at this place is refused
pub refused_here : (lines : List (String Global)) (i : ℕ) (line : String Global) → i < length lines → line ≡ get_or lines i line → HasNoText OfScript (string_bytes line) → HaveRefused A1 (map string_bytes lines)
refused_here lines i line low at none = record {
  before = map string_bytes (take i lines);
  line = string_bytes line;
  after = map string_bytes (drop (suc i) lines);
  are =
      ap (λ (ls : List (String Global)). map string_bytes ls) (split_at lines i line low ∙ ap (λ (l : String Global). take i lines ++ l ∷ drop (suc i) lines) (sym at))
      ∙ map-append string_bytes (take i lines) (line ∷ drop (suc i) lines);
  refused = none;
}

-- what holds of the error that is passed on
pub if_err : {X : Type 0} (P : ℕ → Type 0) (r : Result X ℕ) (status : ℕ) → IsErrAnd r (λ s. s ≡ status) → P status → IfErr r P
if_err P (Ok x) status is h = tt
if_err P (Err s) status is h = subst P (sym is) h
