use Rattle.ds_script_stops.proofs.Lines.{begins_led}
use Rattle.ds_script_stops.proofs.reach.ScriptPosition.first.Goals as goal

pub returns-clause-at : goal.returns-clause-at
returns-clause-at c = λ whole w made. begins_led whole c.args.script.now w made
