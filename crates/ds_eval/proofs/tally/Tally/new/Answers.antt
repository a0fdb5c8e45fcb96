use Rattle.std.proofs.Common.{refl}
use Rattle.ds_eval.proofs.tally.Tally.new.Goals as goal

pub returns-clause-tally : goal.returns-clause-tally
returns-clause-tally c = λ wants. record { error = refl; totals = λ none. c.new.ensures.totals wants }
