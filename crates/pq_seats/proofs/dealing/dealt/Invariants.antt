use Rattle.std.proofs.Common.{◌≡◌, map, length, All}
use Rattle.std.specs.List.{range_with_len}
use Rattle.std.specs.Vec.{vec_capacity}
use Rattle.pm_board.specs.Views.{RunsFrom}
use Rattle.pq.specs.Queue.{queue}
use Rattle.pq_seats.specs.Known.{IsFresh, IsOf}
use Rattle.pq_seats.specs.Places.{past_in}
use Rattle.pq_seats.proofs.dealing.dealt.Given as goal

abbrev pub invariant-loop-process : goal.invariant-loop-process
invariant-loop-process l = record {
  table : l.rest.table_id ≡ l.fn.rest.table_id;
  rest : RunsFrom queue l.board.key l.stopped l.process l.rest.me;
  past : past_in l.rest ≡ past_in l.fn.rest;
  order : map (λ p. p.process) l.passes.items ≡ range_with_len 0 l.process;
  room : vec_capacity l.passes ≡ vec_capacity l.fn.passes;
  many : length l.passes.items ≡ l.process;
  fit : All (λ p. IsOf l.board.table.shared.table_id l.board.key p × IsFresh l.stopped p) l.passes.items;
}
