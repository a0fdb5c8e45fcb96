use Rattle.ds_core.proofs.EachRun.{runs_have_headline}
use Rattle.ds_core.proofs.laws.runs_have_the_headline.Goals as goal

pub returns : goal.returns
returns c = runs_have_headline
