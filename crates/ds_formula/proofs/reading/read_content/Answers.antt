use Rattle.std.proofs.Common.{refl, sym, inl, inr, arith}
use Rattle.ds_formula.specs.Grammar.{constant, in_constant, in_formula, too_long, within}
use Rattle.ds_formula.specs.Plain.{formula}
use Rattle.ds_formula.proofs.Whole.{blank_read, formula_answer}
use Rattle.ds_formula.proofs.reading.read_content.Goals as goal

pub returns-then-text-gt-TEXT_LIMIT : goal.returns-then-text-gt-TEXT_LIMIT
returns-then-text-gt-TEXT_LIMIT c = inr (too_long (omega arith))

pub returns-then-is_empty : goal.returns-then-is_empty
returns-then-is_empty c = blank_read _ _ (grind arith)

pub returns-in-Ok : goal.returns-in-Ok
returns-in-Ok c = record { short = omega arith; reads = constant c.args.text.now _ (grind arith) (sym c.in_default.ensures) (grind arith) }

pub returns-in-Err : goal.returns-in-Err
returns-in-Err c = rw c.placed.ensures (inr (within _ (omega arith) (in_constant c.args.text.now c.in-Err.stop (grind arith) (sym c.in_default.ensures) (sym c.in-Err.ensures))))

pub returns-in-Ok-expression : goal.returns-in-Ok-expression
returns-in-Ok-expression c =
    formula_answer c.args.shape.now c.args.text.now c.in-Some.body.now (formula c.in-Ok-expression.parsed.tree) c.in-Ok-expression.parsed.ranges c.accepted.result (omega arith) (sym c.in-Some.ensures) c.in-Ok-expression.ensures.found c.accepted.ensures.ok c.accepted.ensures.err

pub returns-in-Err-Stopped : goal.returns-in-Err-Stopped
returns-in-Err-Stopped c =
    rw c.placed-in-Err-Stopped.ensures (inr (within _ (omega arith) (in_formula c.args.text.now c.in-Some.body.now c.in-Err-Stopped.stop (sym c.in-Some.ensures)
    (rw c.in-Err-Stopped.field-0-is at c.in-Err-Stopped.ensures.refused))))

pub returns-in-Err-Memory : goal.returns-in-Err-Memory
returns-in-Err-Memory c = inl (refl, record { short = omega arith; body = c.in-Some.body.now; formula = sym c.in-Some.ensures })
