use Rattle.std.proofs.Common.{refl}
use Rattle.ds_explore.proofs.Telling.{key_there}
use Rattle.ds_explore.proofs.among.number_in.Goals as goal

pub returns-then-is_key : goal.returns-then-is_key
returns-then-is_key c = key_there c.args.keys.now c.loop-number.number c.index-keys-number.result c.args.key.now c.loop-number-test.true c.index-keys-number.is (c.if-is_key.ensures refl)
