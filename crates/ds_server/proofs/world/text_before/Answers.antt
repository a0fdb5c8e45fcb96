use Rattle.std.proofs.Common.{ℕ, List, sym, subst}
use Rattle.ds_state.specs.World.{of_cell}
use Rattle.ds_server.specs.WorldDesks.{IsTextBefore}
use Rattle.ds_server.proofs.Edits.{text_of_one_before}
use Rattle.ds_server.proofs.world.text_before.Goals as goal

pub returns-in-Some : goal.returns-in-Some
returns-in-Some c =
    subst (λ (t : List ℕ). IsTextBefore (of_cell c.args.cell c.args.edits.now) t) (sym c.text_of.ensures)
    (text_of_one_before (of_cell c.args.cell c.args.edits.now) (of_cell c.args.cell c.in_ok-before.before.now) (of_cell c.args.cell c.in-Some.field-0-1.now) c.in_ok-before.field-0-0.now c.in-Some.edit.now c.in_ok-before.ensures c.in-Some.ensures)
