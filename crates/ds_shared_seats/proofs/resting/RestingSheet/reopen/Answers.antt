use Rattle.std.proofs.Common.{sym, subst}
use Rattle.std.specs.Mem.Slots.{slots_items}
use Rattle.std.specs.Prelude.{true}
use Rattle.pm_board.specs.Rule.{IsRested}
use Rattle.pm_board.specs.Views.{past_of}
use Rattle.ds_structure.specs.Sheet.{sheet}
use Rattle.ds_shared_seats.proofs.resting.RestingSheet.reopen.Goals as goal

pub of-requires-in-Err-of : goal.of-requires-in-Err-of
of-requires-in-Err-of c = c.close.ensures.rests

pub of-requires-in-Err : goal.of-requires-in-Err
of-requires-in-Err c =
    let b = c.in-Err.ensures.back in
    subst (λ key. IsRested sheet key (slots_items c.in-Err.sheet.words.table.words) (past_of c.in-Err.sheet.words.before)) (sym b.1)
    (subst (λ table. IsRested sheet c.into_sheet.result.words.key (slots_items table.words) (past_of c.in-Err.sheet.words.before)) (sym b.0)
    (subst (λ before. IsRested sheet c.into_sheet.result.words.key (slots_items c.into_sheet.result.words.table.words) (past_of before)) (sym b.2) c.into_sheet.ensures.1))

pub returns-in-Ok-of-clause-fresh : goal.returns-in-Ok-of-clause-fresh
returns-in-Ok-of-clause-fresh c = c.in-Ok-of.ensures.fresh true (λ k d low. (c.in-Ok-reopen.ensures.fit k d low).1)
