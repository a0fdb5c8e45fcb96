use Rattle.std.proofs.Common.{refl, sym, ap}
use Rattle.std.proofs.lemmas.List.{length-map}
use Rattle.std.specs.Prelude.{map, Ok, Err}
use Rattle.c_handles.specs.Handles.{content, other}
use Rattle.ds_c.specs.Rows.{value_row}
use Rattle.ds_c.specs.declared.failure.Failure.TheVariants.{WrongHolder}
use Rattle.ds_c.proofs.seat_calls.hand_values.Goals as goal

pub returns-in_default : goal.returns-in_default
returns-in_default c = (Err WrongHolder, other c.in_default.not-Seat refl refl, (refl, refl, c.number.ensures))

pub returns : goal.returns
returns c =
    let values = c.values-values.result.now in
    let shows = ap (map value_row) c.values-values.ensures in
    (Ok (map value_row values), content c.in-Seat.seat c.in-Seat.seat c.in-Seat.is c.in-Seat.is (shows, refl), (c.fill_values.ensures, sym (length-map values value_row)))
