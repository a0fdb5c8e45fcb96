use Rattle.std.proofs.Common.{refl}
use Rattle.ds_cli.proofs.serving.read_serving.Goals as goal

pub returns-in_default-level-clause-limit : goal.returns-in_default-level-clause-limit
returns-in_default-level-clause-limit c = (refl, c.level.ensures.none c.in_default-level.is)

pub returns-in_default-number-clause-limit : goal.returns-in_default-number-clause-limit
returns-in_default-number-clause-limit c = (refl, c.number.ensures.none c.in_default-number.is)
