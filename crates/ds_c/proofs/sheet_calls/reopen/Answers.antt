use Rattle.std.proofs.Common.{refl, sym}
use Rattle.ds_c.specs.Sheets.{memory}
use Rattle.ds_c.proofs.sheet_calls.reopen.Goals as goal

pub returns-in-Ok-clause-ok : goal.returns-in-Ok-clause-ok
returns-in-Ok-clause-ok c = record {
  closed = c.in-Closed.closed;
  sheet = c.in-Ok.sheet;
  was = sym c.in-Closed.ensures.value;
  is = refl;
  layout = c.in-Ok.ensures.layout;
  words = c.in-Ok.ensures.words;
  past = c.in-Ok.ensures.past;
  fresh = c.in-Ok.ensures.fresh;
}

pub returns-in-Err-clause-err : goal.returns-in-Err-clause-err
returns-in-Err-clause-err c = memory c.in-Closed.closed c.in-Err.closed (sym c.in-Closed.ensures.value) refl c.in-Err.ensures.back refl
