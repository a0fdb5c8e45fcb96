use Rattle.std.proofs.Common.{◌≡◌, drop}
use Rattle.ds_script.specs.Named.{named_in}
use Rattle.ds_script.specs.Orders.{all_points}
use Rattle.ds_script.specs.Points.{name_of_point}
use Rattle.ds_script.proofs.order.point.Given as goal

abbrev pub invariant-loop-name : goal.invariant-loop-name
invariant-loop-name l = named_in name_of_point all_points l.word ≡ named_in name_of_point (drop l.name-index all_points) l.word
