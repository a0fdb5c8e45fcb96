use Rattle.std.proofs.Common.{◌≡◌, ◌++◌}
use Rattle.ds_explore_state.specs.States.{groups_of, lost_in, lost_process_in, parts_below, plain_parts, words_by}
use Rattle.ds_explore_state.proofs.describe.lost_parts_of.Given as goal

abbrev pub invariant-loop-process : goal.invariant-loop-process
invariant-loop-process l = plain_parts l.parts.items ≡ words_by (lost_in l.position.world) (groups_of l.touched) ++ parts_below (lost_process_in l.position) l.process
