use Rattle.std.proofs.Common.{ℕ, List, ◌∙◌, ◌++◌, ap}
use Rattle.std.proofs.lemmas.List.{take_all}
use Rattle.ds_explore.specs.Explored.{wrong_texts}
use Rattle.ds_explore.specs.declared.flaw.Flaw.{Flaw}
use Rattle.ds_explore.proofs.Telling.{wrong_at}
use Rattle.ds_explore.proofs.flaw.wrong_lines.Goals as goal

pub loop-flaw-preserved : goal.loop-flaw-preserved
loop-flaw-preserved c =
    wrong_at c.args.flaws.now c.loop-flaw.flaw-index _ c.loop-flaw.text.items c.in_ok-line.line.items c.extend_from_slice.new.self.items c.loop-flaw-test.true c.loop-flaw.invariant c.in_ok-line.ensures
    (c.in_ok-extend_from_slice.ensures.items ∙ ap (λ (xs : List ℕ). c.loop-flaw.text.items ++ xs) c.deref.ensures.value)

pub returns : goal.returns
returns c = c.loop-flaw.invariant ∙ ap (λ (fs : List Flaw). wrong_texts fs) (take_all c.loop-flaw.flaw-index c.args.flaws.now c.loop-flaw-test.false)
