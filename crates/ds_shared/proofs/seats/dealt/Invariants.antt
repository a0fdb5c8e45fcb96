use Rattle.std.proofs.Common.{◌≡◌, ◌<◌, [], List, map, length, All}
use Rattle.std.specs.List.{range_with_len}
use Rattle.std.specs.Vec.{vec_capacity}
use Rattle.pm_board.specs.Views.{RunsFrom}
use Rattle.ds_structure.specs.Sheet.{sheet}
use Rattle.ds_structure_shared.specs.Boards.{SheetEntry}
use Rattle.ds_shared.specs.Known.{past_in, seen_by}
use Rattle.ds_shared.specs.Answers.{IsFresh}
use Rattle.ds_shared.proofs.Joined.{HasAll, HasLeft}
use Rattle.ds_shared.proofs.seats.dealt.Given as goal

abbrev pub invariant-loop-process : goal.invariant-loop-process
invariant-loop-process l = (l.rest.table_id ≡ l.fn.rest.table_id) × (l.rest.me.1 ≡ []) × (past_in l.rest ≡ past_in l.fn.rest)
    × ((seen : List SheetEntry) → HasAll l.stopped l.board.words.key seen l.fn.rest → HasLeft l.stopped l.board.words.key seen (past_in l.fn.rest) l.process l.rest)
    × (map (λ p. p.process) l.passes.items ≡ range_with_len 0 l.process) × (vec_capacity l.passes ≡ vec_capacity l.fn.passes) × (length l.passes.items ≡ l.process)
    × All (λ p. (p.place.table_id ≡ l.board.words.table.shared.table_id) × (p.process < l.board.layout.processes) × IsFresh l.stopped p) l.passes.items
    × All (λ p. (seen : List SheetEntry) → HasAll l.stopped l.board.words.key seen l.fn.rest → seen_by p.place ≡ seen) l.passes.items
    × RunsFrom sheet l.board.words.key l.stopped l.process l.rest.me
