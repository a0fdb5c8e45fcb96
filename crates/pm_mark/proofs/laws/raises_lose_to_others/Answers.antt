use Rattle.pm_mark.proofs.Losing.{loses}
use Rattle.pm_mark.proofs.laws.raises_lose_to_others.Goals as goal

pub returns : goal.returns
returns c = loses c.args.processes c.law.ensures
