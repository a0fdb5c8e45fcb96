use Rattle.std.proofs.Common.{◌≡◌, map, take}
use Rattle.ds_explore_state.specs.States.{lost_in, plain_parts, words_by}
use Rattle.ds_explore_state.proofs.describe.lost_words_of.Given as goal

abbrev pub invariant-loop-group : goal.invariant-loop-group
invariant-loop-group l = plain_parts l.parts.items ≡ words_by (lost_in l.world) (map (λ g. g.items) (take l.group-index l.touched.groups.items))
