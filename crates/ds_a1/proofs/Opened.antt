-- What is answered to a text in a notation, by what is answered to its text in OpenFormula.
use Rattle.std.proofs.Common.{◌≡◌, ◌⊎◌, inl, inr, ℕ, List, Result, Ok, Err}
use Rattle.ds_formula.specs.declared.cells.Shape.{Shape}
use Rattle.ds_formula.specs.declared.content.Content.{Content}
use Rattle.ds_formula.specs.declared.fault.TextFault.{TextFault}
use Rattle.ds_formula.specs.Grammar.{Answers, no_memory}
use Rattle.ds_a1.specs.Notation.{opens}
use Rattle.ds_a1.specs.declared.notation.Notation.TheVariants.{OpenFormula, A1}
use Rattle.ds_a1.specs.Answers.{AnswersBy, not_opened, opened_faults}

pub by_opened : (shape : Shape) (text open_text : List ℕ) (r : Result Content TextFault) → opens text ≡ Ok open_text → Answers shape open_text r → AnswersBy A1 shape text r
by_opened shape text open_text (Ok c) e h = record { open_text = open_text; opens_as = e; reads = h }
by_opened shape text open_text (Err fault) e (inl h) = inl h.0
by_opened shape text open_text (Err fault) e (inr h) = inr (opened_faults open_text e h)

pub by_fault : (shape : Shape) (text : List ℕ) (fault : TextFault) → (fault ≡ no_memory) ⊎ (opens text ≡ Err fault) → AnswersBy A1 shape text (Err fault)
by_fault shape text fault (inl h) = inl h
by_fault shape text fault (inr h) = inr (not_opened h)

pub by_itself : (shape : Shape) (text : List ℕ) (r : Result Content TextFault) → Answers shape text r → AnswersBy OpenFormula shape text r
by_itself shape text (Ok c) h = h
by_itself shape text (Err fault) (inl h) = inl h.0
by_itself shape text (Err fault) (inr h) = inr h
