use Rattle.std.proofs.Common.{◌≡◌, [], take, map}
use Rattle.csv.specs.Records.{fields_of, partial_of}
use Rattle.ds_eval.specs.Numbers.{value_text}
use Rattle.ds_script_io.proofs.answer.record_of.Given as goal

abbrev pub invariant-loop-value : goal.invariant-loop-value
invariant-loop-value l = record {
  fields : fields_of l.row ≡ map value_text (take l.value-index l.values);
  partial : partial_of l.row ≡ [];
}
