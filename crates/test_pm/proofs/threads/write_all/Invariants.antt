use Rattle.std.proofs.Common.{◌≡◌}
use Rattle.pm_board.specs.Views.{Sits}
use Rattle.pm_registers.specs.declared.calls.Doing.TheVariants.{Idle}
use Rattle.test_pm.proofs.threads.write_all.Given as goal

abbrev pub invariant-loop-last : goal.invariant-loop-last
invariant-loop-last l = (l.place.table_id ≡ l.board.table.shared.table_id) × Sits l.place.me l.process (Idle l.last)
