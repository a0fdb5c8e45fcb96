use Rattle.std.proofs.Common.{ℕ, List, [], refl, subst, sym}
use Rattle.ds_state.specs.Value.{world_of}
use Rattle.ds_script.specs.declared.order.Command.{Command}
use Rattle.ds_script.specs.Orders.{command_view}
use Rattle.ds_script.specs.Running.{Obeys}
use Rattle.ds_script.specs.ScriptTexts.{peek_text}
use Rattle.ds_script.proofs.Played.{answered, says_so}
use Rattle.ds_script.proofs.carry.carry_out.Goals as goal

pub returns-in-Peek : goal.returns-in-Peek
returns-in-Peek c =
    answered c.peek_line.result (peek_text (world_of c.args.world.now) c.in-Peek.cell) (λ (t : List ℕ). Obeys c.args.world.now (command_view c.args.command) t c.args.world.now) c.peek_line.ensures
    (subst (λ (d : Command). Obeys c.args.world.now (command_view d) (peek_text (world_of c.args.world.now) c.in-Peek.cell) c.args.world.now) (sym c.in-Peek.is)
    ([], refl, says_so (peek_text (world_of c.args.world.now) c.in-Peek.cell) c.args.world.now))
