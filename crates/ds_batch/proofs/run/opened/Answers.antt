use Rattle.std.proofs.Common.{ℕ, List, refl, subst, sym}
use Rattle.ds_a1.specs.declared.notation.Notation.{Notation}
use Rattle.ds_a1_script.specs.OpenScripts.{OpensScript}
use Rattle.ds_batch.specs.Scripts.{IsOpened}
use Rattle.ds_batch.proofs.run.opened.Goals as goal
use Rattle.ds_batch.proofs.run.opened.Goals.{in-OpenFormula, in-A1+in-Ok}

pub returns-clause-read : goal.returns-clause-read
returns-clause-read g c = record {
  same = refl;
  open_script = elim c.match-notation.branch [
    | in-OpenFormula w ↦ subst (λ (n : Notation). IsOpened n c.args.script.items c.match-notation.opened) (sym w.in-OpenFormula.is) w.opened-is
    | in-A1+in-Ok w ↦
        subst (λ (n : Notation). IsOpened n c.args.script.items c.match-notation.opened) (sym w.in-A1.is) (
          w.in-Ok.script,
          w.opened-is,
          subst (λ (s : List ℕ). OpensScript 0 s w.in-Ok.script.text.items w.in-Ok.script.refused) w.deref.ensures.value w.in-Ok.ensures,
        )
  ];
}
