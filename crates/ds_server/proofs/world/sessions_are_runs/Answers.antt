use Rattle.ds_server.proofs.Runs.{outcome_leads, outcome_headline}
use Rattle.ds_server.proofs.world.sessions_are_runs.Goals as goal

pub returns-clause-runs : goal.returns-clause-runs
returns-clause-runs c = outcome_leads

pub returns-clause-headline : goal.returns-clause-headline
returns-clause-headline c = outcome_headline
