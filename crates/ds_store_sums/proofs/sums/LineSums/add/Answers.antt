use Rattle.std.proofs.Common.{rules, ◌≡◌, ◌∙◌, ◌++◌, ◌∷◌, [], sym, subst, false}
use Rattle.std.specs.String.{string_bytes}
use Rattle.ds_store_sums.specs.Sums.{AreSummed, is_sum}
use Rattle.ds_store_sums.proofs.sums.LineSums.add.Goals as goal

pub returns-then-not-is_sum-clause-added : goal.returns-then-not-is_sum-clause-added
returns-then-not-is_sum-clause-added c lines h =
    let line = c.args.line.now in
    let not_one : is_sum line ≡ false = search rules in
    c.take.ensures lines h (subst (AreSummed (lines ++ line ∷ [])) (sym c.loosened.ensures) (AreSummed.plain lines line c.args.self.now.tail h.summed not_one))

pub returns-clause-added : goal.returns-clause-added
returns-clause-added c lines h =
    let line = c.args.line.now in
    let same : line ≡ string_bytes c.in-Ok.sum = search rules in
    c.take-2.ensures lines h (AreSummed.summed lines line c.args.self.now.tail h.summed (same ∙ c.in-Ok.ensures lines h))
