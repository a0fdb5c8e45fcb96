use Rattle.std.proofs.Common.{◌≡◌}
use Rattle.pm_board.specs.Views.{Sits}
use Rattle.pm_mark.specs.declared.mark.Doing.TheVariants.{Idle}
use Rattle.test_pm.proofs.threads.raise_all.Given as goal

abbrev pub invariant-loop-last : goal.invariant-loop-last
invariant-loop-last l = (l.place.table_id ≡ l.board.table.shared.table_id) × Sits l.place.me l.process Idle
