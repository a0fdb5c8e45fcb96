use Rattle.ds_script_stops.proofs.Ending.{block_runs, block_new, block_good, block_headline}
use Rattle.ds_script_stops.proofs.stops.blocks_are_runs.Goals as goal

pub returns-clause-runs : goal.returns-clause-runs
returns-clause-runs c = block_runs

pub returns-clause-new : goal.returns-clause-new
returns-clause-new c = block_new

pub returns-clause-good : goal.returns-clause-good
returns-clause-good c = block_good

pub returns-clause-headline : goal.returns-clause-headline
returns-clause-headline c = block_headline
