use Rattle.std.proofs.Common.{List, ℕ, refl, subst, true}
use Rattle.ds_formula.specs.declared.cells.Shape.{Shape}
use Rattle.ds_script.specs.Script.{Finishes}
use Rattle.ds_explore.specs.Explored.{AreFlaws}
use Rattle.ds_explore.specs.Lines.{GoesOn}
use Rattle.ds_explore.proofs.exploration.outcome_at.Goals as goal

pub returns : goal.returns
returns c = record {
  position = c.in_ok-again.again.position;
  end = c.in_ok-again.ensures.end;
  found = c.in_ok-again.again.found;
  comes = c.in_ok-again.ensures.comes;
  key_is = c.in_ok-key.ensures;
  goes_on = subst (λ (s : Shape). GoesOn s c.args.script.now c.in_ok-longer.longer.items) c.shape.ensures c.in_ok-longer.ensures;
  finishes = subst (λ (s : List ℕ). Finishes true s c.in_ok-answers.answers.items) c.deref-4.ensures.value c.in_ok-answers.ensures;
  flaws = subst (λ (s : List ℕ). AreFlaws c.in_ok-again.again.found s c.in_ok-flaws.flaws.items) c.deref-5.ensures.value c.in_ok-flaws.ensures;
  tail = refl;
}
