use Rattle.std.proofs.Common.{ℕ, ◌<◌, ap, sym, ◌∙◌, subst}
use Rattle.ds_layout.specs.Places.{words_of, place_of}
use Rattle.ds_layout.proofs.Places.{number_of_below, place_of-number_of, number_of_alone}
use Rattle.ds_layout.proofs.layout.Layout.number.Goals as goal

pub returns-clause-below : goal.returns-clause-below
returns-clause-below c = subst (λ (n : ℕ). n < words_of c.args.self.now) (sym c.number_from.ensures) (number_of_below c.args.self.now c.args.place c.requires)

pub returns-clause-back : goal.returns-clause-back
returns-clause-back c = ap (place_of c.args.self.now) c.number_from.ensures ∙ place_of-number_of c.args.self.now c.args.place c.requires

pub returns-clause-alone : goal.returns-clause-alone
returns-clause-alone c = λ other is same. number_of_alone c.args.self.now other c.args.place is c.requires (same ∙ c.number_from.ensures)
