use Rattle.pm_base.proofs.Running.{runs}
use Rattle.ds_structure.specs.Sheet.{sheet}
use Rattle.ds_structure.proofs.laws.runs_tell_the_truth.Goals as goal

pub returns : goal.returns
returns c = λ first last hs new run.
    let h = runs sheet c.args.key.now c.sheets_are_a_structure.ensures first last hs new run in
    record { well = h.sound; answers = h.responses }
