use Rattle.std.proofs.Common.{List, rules, subst, sym}
use Rattle.std.specs.Global.{Vec}
use Rattle.std.specs.List.{AllByRecursion}
use Rattle.std.specs.Prelude.{◌≢◌}
use Rattle.ds_layout.specs.declared.place.Place.{Place}
use Rattle.ds_explore_state.proofs.Closing.{off_at}
use Rattle.ds_explore_state.proofs.touched.Touched.has.Goals as goal

pub returns-then-is_in : goal.returns-then-is_in
returns-then-is_in c = λ yes off.
    c.is_in.ensures c.if-is_in.true
    (subst (λ (l : List Place). AllByRecursion (λ other. c.args.place ≢ other) l) (sym c.deref.ensures.value)
    (subst (λ (g : Vec Place). AllByRecursion (λ other. c.args.place ≢ other) g.items) (sym c.index.ensures)
    (off_at c.args.self.now.groups.items c.loop-number.number c.index.result.now c.args.place (search rules) off)))
