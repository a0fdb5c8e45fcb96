use Rattle.std.proofs.Common.{◌≡◌, ◌++◌, [], All, Contains}
use Rattle.pm_base.specs.Structures.{In}
use Rattle.ds_structure_shared.specs.Boards.{SheetSeated}
use Rattle.ds_shared.specs.declared.pass.Pass.{Pass}
use Rattle.ds_shared.specs.Known.{past_in}
use Rattle.ds_shared.specs.Answers.{seated_by}
use Rattle.ds_shared.proofs.Joined.{IsTaken, AreOf}
use Rattle.ds_shared.proofs.sheet.SharedSheet.close.Given as goal

abbrev pub invariant-loop-pass : goal.invariant-loop-pass
invariant-loop-pass l = (l.seat.table_id ≡ l.board.words.table.shared.table_id) × (l.seat.me.1 ≡ []) × All (λ p. p.place.table_id ≡ l.board.words.table.shared.table_id) l.passes.items
    × ((p : Pass) → Contains l.fn.passes.items p → IsTaken l.passes.items l.seat.me.0 p) × ((p : Pass) → Contains l.passes.items p → Contains l.fn.passes.items p)
    × AreOf l.fn.passes.items l.seat.me.0 × ((e : SheetSeated) → In (past_in l.fn.past.place) e → In l.seat.me.0.past e)
    × (l.seat.me.0.past ≡ past_in l.fn.past.place) × (l.seat.me.0.entries ++ seated_by l.passes.items ≡ seated_by l.fn.passes.items)

abbrev pub decreases-loop-pass : goal.decreases-loop-pass
decreases-loop-pass l = goal.left-loop-pass l
