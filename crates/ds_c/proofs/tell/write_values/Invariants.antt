use Rattle.std.proofs.Common.{◌≡◌, length, take}
use Rattle.std.specs.Prelude.{map}
use Rattle.ds_c.specs.Rows.{value_row}
use Rattle.ds_c.proofs.tell.write_values.Given as goal

abbrev pub invariant-loop-i : goal.invariant-loop-i
invariant-loop-i l = record {
  written : take l.i l.room ≡ map value_row (take l.i l.values);
  same_length : length l.room ≡ length l.values;
}
