use Rattle.std.proofs.Common.{refl}
use Rattle.ds_c.specs.Sheets.{fault}
use Rattle.ds_c.proofs.sheet_calls.take_into.Goals as goal

pub returns-in-Err-clause-err : goal.returns-in-Err-clause-err
returns-in-Err-clause-err c = fault c.in-Sheet.sheet c.take.new.self c.in-Err.fault c.in-Sheet.is refl c.in-Err.ensures.err.0 c.in-Err.ensures.err.1 c.of.ensures
