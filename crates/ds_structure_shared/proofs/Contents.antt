-- A text that merely has a content has it: each text has a content or a fault, and never two.
use Rattle.std.proofs.Common.{◌≡◌, inl, inr, ℕ, List, subst}
use Rattle.std.proofs.Math.Logic.{∥∥₁_elim}
use Rattle.std.specs.Coded.{Coded-set}
use mathlib.Core.HLevel.{⊥_prop}
use Rattle.ds_formula.specs.declared.cells.Shape.{Shape}
use Rattle.ds_formula.specs.Grammar.{Reads, IsAnswered}
use Rattle.ds_formula.specs.Plain.{PlainContent}
use Rattle.ds_formula.proofs.Exists.{answered}
use Rattle.ds_formula.proofs.Whole.{only_content, only_one}
use Rattle.ds_eval.specs.Code.{plain_code}

-- that a text has this content is had again from the mere fact of it
pub reads_had : (shape : Shape) (text : List ℕ) (content : PlainContent) → ∥ Reads shape text content ∥₁ → Reads shape text content
reads_had shape text content had = by (answered shape text)
  where
    by : IsAnswered shape text → Reads shape text content
    by (inl (c, reads)) =
        let same : c ≡ content = ∥∥₁_elim had (Coded-set plain_code _ _) (λ here. only_content shape text c content reads here) in
        subst (λ (d : PlainContent). Reads shape text d) same reads
    by (inr (x, faults)) = absurd (∥∥₁_elim had ⊥_prop (λ here. only_one shape text content x here faults))
