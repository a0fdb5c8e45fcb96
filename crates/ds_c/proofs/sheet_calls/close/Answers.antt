use Rattle.std.proofs.Common.{refl, sym}
use Rattle.ds_c.specs.Sheets.{fault}
use Rattle.ds_c.proofs.sheet_calls.close.Goals as goal

pub returns-in-Ok-clause-ok : goal.returns-in-Ok-clause-ok
returns-in-Ok-clause-ok c = record {
  sheet = c.in-Sheet.sheet;
  closed = c.in-Ok.closed;
  was = sym c.in-Sheet.ensures.value;
  is = refl;
  closes = c.in-Ok.ensures.ok;
}

pub returns-in-Err-clause-err : goal.returns-in-Err-clause-err
returns-in-Err-clause-err c = fault c.in-Sheet.sheet c.in-Err.sheet c.in-Err.fault (sym c.in-Sheet.ensures.value) refl c.in-Err.ensures.err.1 c.in-Err.ensures.err.0 c.of.ensures
