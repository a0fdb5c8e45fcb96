use Rattle.std.proofs.Common.{refl}
use Rattle.c_handles.specs.Handles.{fails, made}
use Rattle.ds_c.proofs.sheets.ds_c_sheet_make.Goals as goal

pub returns-in-Ok : goal.returns-in-Ok
returns-in-Ok c = made c.in-Ok.held.value (c.if-not-is_empty.ensures.empty refl) c.in-Ok.ensures.ok c.of.ensures refl

pub returns-in-Err : goal.returns-in-Err
returns-in-Err c = fails c.in-Err.failure (c.if-not-is_empty.ensures.empty refl) c.in-Err.ensures.err refl c.number-in-Err.ensures
