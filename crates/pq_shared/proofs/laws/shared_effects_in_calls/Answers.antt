use Rattle.pq_shared.proofs.Truth.{effects}
use Rattle.pq_shared.proofs.laws.shared_effects_in_calls.Goals as goal

pub returns : goal.returns
returns c = effects c.args.processes
