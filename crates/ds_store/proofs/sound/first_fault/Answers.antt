use Rattle.std.proofs.Common.{map}
use Rattle.std.specs.String.{string_bytes}
use Rattle.ds_store.proofs.Unsound.{earlier_unsound, keys_unsound}
use Rattle.ds_store.proofs.sound.first_fault.Goals as goal

pub returns-in-Some-key_fault-clause-cause : goal.returns-in-Some-key_fault-clause-cause
returns-in-Some-key_fault-clause-cause c none =
    let lines = map string_bytes c.args.lines.now in
    let fault = c.in-Some-key_fault.fault in
    earlier_unsound lines fault c.earlier-in-Some-key_fault.result (keys_unsound lines fault c.in-Some-key_fault.ensures) c.earlier-in-Some-key_fault.ensures
