use Rattle.std.proofs.Common.{◌+◌, ◌*◌, sym, arith}
use Rattle.pm_board.proofs.Sides.{lies_apart, lies_beside}
use Rattle.pm_board.proofs.spacing.cached_at.Goals as goal

pub overflow_mul-result : goal.overflow_mul-result
overflow_mul-result c = let is = lies_apart c.args.apart c.args.word c.if-word-apart.true in let low = c.requires in omega arith

pub overflow_mul-result-else-word-apart : goal.overflow_mul-result-else-word-apart
overflow_mul-result-else-word-apart c = let is = lies_beside c.args.apart c.args.word c.if-word-apart.false in let low = c.requires in omega arith

pub overflow_mul-result-else-word-apart-2 : goal.overflow_mul-result-else-word-apart-2
overflow_mul-result-else-word-apart-2 c = let is = lies_beside c.args.apart c.args.word c.if-word-apart.false in let low = c.requires in omega arith

pub overflow_add-result : goal.overflow_add-result
overflow_add-result c = let is = lies_beside c.args.apart c.args.word c.if-word-apart.false in let low = c.requires in omega arith

pub returns-then-word-apart : goal.returns-then-word-apart
returns-then-word-apart c = sym (lies_apart c.args.apart c.args.word c.if-word-apart.true)

pub returns-else-word-apart : goal.returns-else-word-apart
returns-else-word-apart c = sym (lies_beside c.args.apart c.args.word c.if-word-apart.false)
