use Rattle.std.proofs.Common.{◌≡◌, take}
use Rattle.ds_state.specs.Underway.{shows_under_way}
use Rattle.ds_show.proofs.begin.under_way.Given as goal

abbrev pub invariant-loop-situation : goal.invariant-loop-situation
invariant-loop-situation l = l.count ≡ shows_under_way (take l.situation-index l.situations)
