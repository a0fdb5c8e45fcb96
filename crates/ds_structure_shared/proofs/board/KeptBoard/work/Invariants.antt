use Rattle.std.proofs.Common.{◌≡◌, ℕ}
use Rattle.pm_board.specs.Fuses.{Asked}
use Rattle.ds_structure.specs.Calls.{works}
use Rattle.ds_structure_shared.proofs.Working.{Loops}
use Rattle.ds_structure_shared.proofs.board.KeptBoard.work.Given as goal

pub record Working (A : Type 0) (F L : ℕ → Type 0) : Type 0 where
  pub table : A
  pub taken : ℕ
  pub asked : F taken
  pub loops : L taken

abbrev pub invariant-loop-end : goal.invariant-loop-end
invariant-loop-end g l = Working (l.place.table_id ≡ l.fn.place.table_id) (λ n. Asked g.F.Fuse.said l.fn.fuse l.fuse n 0) (λ n. Loops l.self.layout l.fn.call l.fn.place.me l.place.me l.call n)

abbrev pub decreases-loop-end : goal.decreases-loop-end
decreases-loop-end g l = works.rank l.call
