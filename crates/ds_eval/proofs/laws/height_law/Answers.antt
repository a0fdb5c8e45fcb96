use Rattle.std.proofs.Common.{refl}
use Rattle.ds_eval.specs.Local.{height_of}
use Rattle.ds_eval.proofs.Meant.{height_is}
use Rattle.ds_eval.proofs.laws.height_law.Goals as goal

pub returns : goal.returns
returns c = λ shape content entries. (height_is shape content (height_of entries), refl)
