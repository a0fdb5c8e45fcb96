use Rattle.std.proofs.Common.{◌≡◌, ◌++◌, map, take}
use Rattle.std.specs.String.{string_bytes}
use Rattle.ds_formula.specs.Plain.{formula, listed}
use Rattle.ds_formula.specs.Texts.{texts_of}
use Rattle.ds_formula.proofs.content.Tree.+writing.Given as goal

abbrev pub invariant-write-loop-index : goal.invariant-write-loop-index
invariant-write-loop-index l = string_bytes l.text ≡ string_bytes l.initial.text ++ texts_of (listed (map formula (take l.index l.argument-items)))
