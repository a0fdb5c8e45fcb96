use Rattle.std.proofs.Common.{refl}
use Rattle.ds_c.specs.Making.{freed}
use Rattle.ds_c.proofs.make.ds_c_world_free.Goals as goal

pub returns-in-Some : goal.returns-in-Some
returns-in-Some c = freed _ c.in-Some.ensures.some.0 c.in-Some.ensures.some.1 refl
