use Rattle.std.proofs.Common.{◌≡◌, ◌+◌, ◌≤◌, ℕ}
use Rattle.pm_board.specs.Fuses.{Asked}
use Rattle.pm_board.specs.Machines.{IsServed, Drives, Landed}
use Rattle.pm_board.proofs.drive.drive.Given as goal

pub record Driving (A B C : Type 0) (F H D : ℕ → Type 0) : Type 0 where
  pub same : A
  pub fits : B
  pub serves : C
  pub taken : ℕ
  pub asked : F taken
  pub few : H taken
  pub drives : D taken

abbrev pub invariant-loop-end : goal.invariant-loop-end
invariant-loop-end g l = Driving ((l.seat.table_id ≡ l.fn.seat.table_id) × (l.seat.id ≡ l.fn.seat.id)) (g.M.Machine.calls.fits l.board.key l.call)
    (IsServed g.P.Structured.structure g.M.Machine.calls l.board.key l.call l.buffer.items)
    (λ n. Asked g.F.Fuse.said l.fn.fuse l.fuse n 0)
    (λ n. n + g.M.Machine.calls.rank l.call ≤ g.M.Machine.calls.rank l.fn.call)
    (λ n. Drives g.P.Structured.structure g.M.Machine.calls l.board.key l.fn.call l.fn.seat.me l.begun l.seat.me l.call l.buffer.items n)

abbrev pub decreases-loop-end : goal.decreases-loop-end
decreases-loop-end g l = g.M.Machine.calls.rank l.call

abbrev pub ghosts-access : goal.ghosts-access
ghosts-access g a = record {
  lands = λ n v. Landed g.P.Structured.structure g.M.Machine.calls a.key.now a.begun a.seat.now.me a.call.now a.buffer.now.items n v;
}
