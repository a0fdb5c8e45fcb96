-- What is so before an event that is not the first.
use Rattle.std.proofs.Common.{ℕ, zero, suc, ◌≡◌, ◌-◌, refl, subst, arith}
use Rattle.ds_words.specs.declared.words.Word.{Word}
use Rattle.ds_trace.specs.declared.row.Trace.{Trace}
use Rattle.ds_trace_scene.specs.Columns.{word_after, word_before}
use Rattle.ds_trace_scene.specs.Texts.{counted_after, counted_before}

-- a word is as after the event before
pub later : (trace : Trace) (number event : ℕ) (w : Word) → (event ≡ 0 → ⊥) → w ≡ word_after trace number (event - 1) → w ≡ word_before trace number event
later trace number zero w ne h = absurd (ne refl)
later trace number (suc event) w ne h =
    let less : suc event - 1 ≡ event = omega arith in
    subst (λ (n : ℕ). w ≡ word_after trace number n) less h

-- as many edits are linearized as after the event before
pub counted_later : (trace : Trace) (event count : ℕ) → (event ≡ 0 → ⊥) → count ≡ counted_after trace (event - 1) → count ≡ counted_before trace event
counted_later trace zero count ne h = absurd (ne refl)
counted_later trace (suc event) count ne h =
    let less : suc event - 1 ≡ event = omega arith in
    subst (λ (n : ℕ). count ≡ counted_after trace n) less h
