use Rattle.std.proofs.Common.{take}
use Rattle.ds_explore_state.specs.States.{IsKey, plain_parts}
use Rattle.ds_explore_state.proofs.describe.Numbers.known_key.Given as goal

abbrev pub invariant-loop-i : goal.invariant-loop-i
invariant-loop-i l = IsKey l.self l.key.items (plain_parts (take l.i l.parts))
