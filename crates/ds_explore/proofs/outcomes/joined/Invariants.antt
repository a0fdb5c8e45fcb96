use Rattle.std.proofs.Common.{◌≡◌, take}
use Rattle.ds_explore.specs.Explored.{joined}
use Rattle.ds_explore.specs.Judging.{texts_of}
use Rattle.ds_explore.proofs.outcomes.joined.Given as goal

abbrev pub invariant-loop-more : goal.invariant-loop-more
invariant-loop-more l = l.text.items ≡ joined (texts_of (take l.more-index l.texts))
