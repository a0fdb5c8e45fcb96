use Rattle.std.proofs.Common.{◌++◌, ℕ, List, map, take}
use Rattle.std.specs.String.{string_bytes}
use Rattle.ds_store.specs.Texts.{HasTexts}
use Rattle.ds_store.proofs.texts.read_rest.Given as goal

abbrev pub invariant-loop-line : goal.invariant-loop-line
invariant-loop-line l = (before : List (List ℕ)) → HasTexts l.fn.texts.layout l.fn.texts.counts.counts.items l.fn.texts.texts.items before
    → HasTexts l.texts.layout l.texts.counts.counts.items l.texts.texts.items (before ++ map string_bytes (take l.line-index l.rest))
