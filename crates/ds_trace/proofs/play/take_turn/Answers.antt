use Rattle.std.proofs.Common.{◌∙◌, ap}
use Rattle.ds_trace.specs.declared.row.Happening.{Happening}
use Rattle.ds_trace.specs.Trails.{happened}
use Rattle.ds_trace.proofs.Turning.{takes_turn}
use Rattle.ds_trace.proofs.play.take_turn.Goals as goal

pub returns-clause-turn : goal.returns-clause-turn
returns-clause-turn c =
    takes_turn c.args.places.now c.args.left c.args.world.now c.take_turn-stepped.new.world c.take_turn-stepped.result c.happened-what.result c.args.rows.now.items c.note.new.rows.items c.take_turn-stepped.ensures
    (c.happened-what.ensures ∙ ap (λ (next : Happening). happened next c.take_turn-stepped.result.stepped c.take_turn-stepped.result.reply) c.next_of-next.ensures)
    c.in_ok-note.ensures.row
