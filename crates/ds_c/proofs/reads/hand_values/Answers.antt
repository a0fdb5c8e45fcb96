use Rattle.std.proofs.Common.{refl, sym, ap, subst}
use Rattle.std.proofs.lemmas.List.{length-map}
use Rattle.std.specs.Prelude.{map, Ok, Err}
use Rattle.ds_c.specs.Reading.{AreValuesOf}
use Rattle.ds_c.specs.Rows.{value_row}
use Rattle.ds_c.proofs.reads.hand_values.Goals as goal

pub returns-in-Ok : goal.returns-in-Ok
returns-in-Ok c =
    let rows = map value_row c.of-values.result.now in
    let are = subst (λ v. AreValuesOf c.args.process v rows) c.world.view_is (ap (map value_row) c.of-values.ensures) in
    (Ok rows, (are, refl), (c.fill_values.ensures, sym (length-map c.of-values.result.now value_row)))

pub returns-in-Err : goal.returns-in-Err
returns-in-Err c = (Err c.in-Err.failure, (c.in-Err.ensures.err, refl), (refl, refl, c.number.ensures))
