use Rattle.std.proofs.Common.{sym, arith}
use Rattle.ds_formula.proofs.Bytes.{digits_shorter}
use Rattle.ds_formula.proofs.tokens.number.Goals as goal

pub returns-then-value-limit-clause-shorter : goal.returns-then-value-limit-clause-shorter
returns-then-value-limit-clause-shorter c = rw c.digits-value.ensures.rest (digits_shorter c.args.text.now _ (omega arith) (sym c.if-is_ascii_digit.ensures.value))
