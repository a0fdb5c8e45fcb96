use Rattle.std.proofs.Common.{◌≡◌}
use Rattle.ds_http.specs.Taking.{Tried}
use Rattle.ds_http.proofs.taking.take_process.Given as goal

abbrev pub invariant-loop-tried : goal.invariant-loop-tried
invariant-loop-tried g l = record {
  tried : Tried g.B.Desk.rules l.fn.desk l.tried l.desk;
  processes : l.processes ≡ g.B.Desk.rules.processes l.fn.desk;
}
