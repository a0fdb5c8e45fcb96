use Rattle.std.proofs.Common.{ℕ, ◌≡◌, ◌-◌, arith, ap, sym}
use Rattle.ds_layout.specs.Places.{cells_of}
use Rattle.ds_state.specs.Value.{world_of}
use Rattle.ds_calls.specs.Marked.{marked_from}
use Rattle.ds_crew.proofs.kept.Kept.next_marked.Goals as goal

pub returns-then-from-cells-clause-value : goal.returns-then-from-cells-clause-value
returns-then-from-cells-clause-value g c =
    let more = c.if-from-cells.true in
    let is = c.cells.ensures.value in
    let none : cells_of c.args.self.now.world.sheet.layout - c.args.from ≡ 0 = omega (arith, more, is) in
    sym (ap (λ (n : ℕ). marked_from (world_of c.args.self.now.world) n c.args.from) none)

pub returns-then-from-cells-clause-marked : goal.returns-then-from-cells-clause-marked
returns-then-from-cells-clause-marked g c = record {
  world = c.args.self.now.world;
  good = c.is_always_good.ensures;
  is = returns-then-from-cells-clause-value g c;
}
