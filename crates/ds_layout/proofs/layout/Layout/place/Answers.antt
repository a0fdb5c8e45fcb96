use Rattle.std.proofs.Common.{ap, sym, ◌∙◌, subst}
use Rattle.ds_layout.specs.Places.{IsPlace, number_of}
use Rattle.ds_layout.specs.declared.place.Place.{Place}
use Rattle.ds_layout.proofs.Places.{IsPlace-place_of, number_of-place_of}
use Rattle.ds_layout.proofs.layout.Layout.place.Goals as goal

pub returns-clause-inside : goal.returns-clause-inside
returns-clause-inside c = subst (λ (p : Place). IsPlace c.args.self.now p) (sym c.placed.ensures) (IsPlace-place_of c.args.self.now c.args.number c.requires)

pub returns-clause-back : goal.returns-clause-back
returns-clause-back c = ap (number_of c.args.self.now) c.placed.ensures ∙ number_of-place_of c.args.self.now c.args.number
