use Rattle.std.proofs.Common.{◌≡◌, map, take}
use Rattle.ds_explore_state.specs.States.{word_in}
use Rattle.ds_explore_state.proofs.describe.words_at.Given as goal

abbrev pub invariant-loop-place : goal.invariant-loop-place
invariant-loop-place l = l.words.items ≡ map (word_in l.world) (take l.place-index l.places)
