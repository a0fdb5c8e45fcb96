use Rattle.ds_script.proofs.Scripts.{carried_headline}
use Rattle.ds_script.proofs.script.scripts_are_runs.Goals as goal

pub returns-clause-headline : goal.returns-clause-headline
returns-clause-headline c = carried_headline
