use Rattle.pq.proofs.Effects.{effects_in_calls as holds}
use Rattle.pq.proofs.laws.effects_in_calls.Goals as goal

pub returns : goal.returns
returns c = holds c.args.processes
