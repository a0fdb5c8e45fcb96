use Rattle.std.proofs.Common.{refl}
use Rattle.ds_cli.proofs.connecting.read_connecting.Goals as goal

pub returns-in_default-clause-limit : goal.returns-in_default-clause-limit
returns-in_default-clause-limit c = (refl, c.address.ensures.none c.in_default.is)
