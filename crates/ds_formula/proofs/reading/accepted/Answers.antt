use Rattle.std.proofs.Common.{sym}
use Rattle.ds_formula.specs.Parsing.{misplaced_range, too_large}
use Rattle.ds_formula.proofs.reading.accepted.Goals as goal

pub returns-in-Some-clause-err : goal.returns-in-Some-clause-err
returns-in-Some-clause-err c = rw c.placed.ensures (misplaced_range c.in-Some.left (sym c.in-Some.ensures))

pub returns-then-not-fits-clause-err : goal.returns-then-not-fits-clause-err
returns-then-not-fits-clause-err c = too_large (sym c.in_default.ensures) (λ fits. let p = c.if-not-fits.true in let q = c.fits.ensures.1 fits in cc)
