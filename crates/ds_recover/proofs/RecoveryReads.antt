-- What a recovery reads of words, and which cell it marks next.
use Rattle.std.proofs.Common.{ℕ, ◌≡◌, ◌≤◌, ◌-◌, length, refl, arith, true, false, Some, None}
use Rattle.std.specs.Prelude.{Bool, Option, bit_or, nat_lt, if◌then◌else◌}
use Rattle.std.proofs.lemmas.Bool.{ltb-true, ltb-false}
use Rattle.ds_layout.specs.declared.mark.TheConstants.{DIRTY}
use Rattle.ds_layout.specs.Mark.{marked}
use Rattle.ds_state.specs.Telling.{told_from}
use Rattle.ds_state.proofs.Dirty.{or_dirty}
use Rattle.ds_state.specs.Works.{PlainRecoverCall}
use Rattle.ds_state.specs.RecoverStages.{IsFreeing, IsStage, IsRecovery}
use Rattle.ds_layout.specs.Bits.{parts_for}
use Rattle.ds_state.specs.declared.spread.Spread.TheVariants.{LoadRow}
use Rattle.ds_state.specs.declared.recovery.RecoverStage.TheVariants.{Telling}
use Rattle.ds_recover.specs.RecoverySteps.{told, tell_from, row_from}
use Rattle.ds_recover.proofs.RecoveryFree.{told_below}

-- the dirty bit added to a mark's word gives that of the same tenure, dirty
pub dirty : (mark : ℕ) → bit_or mark DIRTY ≡ marked mark
dirty mark = or_dirty mark

-- ---- the stages that follow are of the sheet

-- a cell that is marked next is one of the sheet
tells_stage : (e : PlainRecoverCall) (cell d : ℕ) → IsFreeing e.cells e.mark cell → length e.row ≡ parts_for e.cells → d ≤ e.cells → (o : Option ℕ) → told_from e.row (e.cells - d) d ≡ o → IsStage e (told cell o)
tells_stage e cell d free row low None is = free
tells_stage e cell d free row low (Some k) is = (free, ((let l = told_below e.row (e.cells - d) d k is in omega arith), row))

-- the stage that marks the next cell, or gives this one back after the last, is one of the recovery
pub tell_stage : (e : PlainRecoverCall) (cell d : ℕ) → IsFreeing e.cells e.mark cell → length e.row ≡ parts_for e.cells → d ≤ e.cells → IsStage e (tell_from e.row e.cells cell d)
tell_stage e cell d free row low = tells_stage e cell d free row low (told_from e.row (e.cells - d) d) refl

-- the next part of the row, or the first cell that is marked
rows_stage : (e : PlainRecoverCall) (cell part : ℕ) → IsFreeing e.cells e.mark cell → part ≤ parts_for e.cells → length e.row ≡ part → (b : Bool) → nat_lt part (parts_for e.cells) ≡ b
    → IsStage e (if b then Telling cell (LoadRow part) else tell_from e.row e.cells cell 0)
rows_stage e cell part free low row true is = (free, (ltb-true part (parts_for e.cells) is, row))
rows_stage e cell part free low row false is = tell_stage e cell 0 free (let l = ltb-false part (parts_for e.cells) is in omega arith) (omega arith)

-- the stage that loads a part of the row, or marks the first cell after the last part, is one of the recovery
pub row_stage : (e : PlainRecoverCall) (cell part : ℕ) → IsFreeing e.cells e.mark cell → part ≤ parts_for e.cells → length e.row ≡ part → IsStage e (row_from e.row e.cells cell part)
row_stage e cell part free low row = rows_stage e cell part free low row (nat_lt part (parts_for e.cells)) refl

-- with another stage, and another row or announcement, it is one of the same sheet
pub staged : (e f : PlainRecoverCall) → IsRecovery e → f.process ≡ e.process → f.processes ≡ e.processes → f.cells ≡ e.cells → IsStage f f.stage → IsRecovery f
staged e f is process processes cells stage = record {
  process = (let l = is.process in omega arith);
  processes = (let l = is.processes in omega arith);
  some = (let l = is.some in omega arith);
  cells = (let l = is.cells in omega arith);
  stage = stage;
}
