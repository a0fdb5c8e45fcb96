use Rattle.std.proofs.Common.{take}
use Rattle.ds_explore_state.specs.States.{IsKey, KeepsNumbers, plain_parts}
use Rattle.ds_explore_state.proofs.describe.Numbers.key.Given as goal

abbrev pub invariant-loop-i : goal.invariant-loop-i
invariant-loop-i l = record {
  key : IsKey l.self l.key.items (plain_parts (take l.i l.parts));
  keeps : KeepsNumbers l.fn.self l.self;
}
