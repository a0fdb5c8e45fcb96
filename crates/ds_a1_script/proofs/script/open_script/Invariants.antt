use Rattle.std.proofs.Common.{ℕ, List, ◌++◌, ◌+◌, ◌≤◌, length}
use Rattle.std.specs.Prelude.{Option}
use Rattle.ds_a1_script.specs.declared.script.RefusedLine.{RefusedLine}
use Rattle.ds_a1_script.specs.OpenScripts.{OpensScript}
use Rattle.ds_a1_script.proofs.script.open_script.Given as goal

abbrev pub invariant-lines : goal.invariant-lines
invariant-lines l = record {
  opens : (text : List ℕ) (end : Option RefusedLine) → OpensScript l.lines l.rest text end → OpensScript 0 l.script (l.text.items ++ text) end;
  within : l.lines + length l.rest ≤ length l.script;
}

abbrev pub decreases-lines : goal.decreases-lines
decreases-lines l = length l.rest
