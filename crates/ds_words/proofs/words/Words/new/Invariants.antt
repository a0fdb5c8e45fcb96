use Rattle.std.proofs.Common.{◌≡◌, [], replicate}
use Rattle.std.specs.Prelude.{map}
use Rattle.ds_words.proofs.words.Words.new.Given as goal

abbrev pub invariant-loop-process : goal.invariant-loop-process
invariant-loop-process l = map (λ b. b.items) l.buffers.items ≡ replicate l.process []
