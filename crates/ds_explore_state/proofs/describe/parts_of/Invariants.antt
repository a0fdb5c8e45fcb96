use Rattle.std.proofs.Common.{◌≡◌, ◌++◌}
use Rattle.ds_explore_state.specs.States.{groups_of, parts_below, plain_parts, process_in, word_in, words_by}
use Rattle.ds_explore_state.proofs.describe.parts_of.Given as goal

abbrev pub invariant-loop-process : goal.invariant-loop-process
invariant-loop-process l = plain_parts l.parts.items ≡ words_by (word_in l.position.world) (groups_of l.touched) ++ parts_below (process_in l.position) l.process
