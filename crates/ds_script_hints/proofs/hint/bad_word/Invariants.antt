use Rattle.std.proofs.Common.{◌≤◌, length}
use Rattle.ds_script_hints.proofs.hint.bad_word.Given as goal

abbrev pub invariant-loop-next : goal.invariant-loop-next
invariant-loop-next l = record {
  last : l.last ≤ length l.line;
  rows : l.rows ≤ length l.line;
}
