use Rattle.pq.proofs.Runs.{places_stay as holds}
use Rattle.pq.proofs.laws.places_stay.Goals as goal

pub returns : goal.returns
returns c = holds c.args.processes
