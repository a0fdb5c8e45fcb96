use Rattle.std.proofs.Common.{sym, subst}
use Rattle.std.specs.Prelude.{Option}
use Rattle.ds_state.specs.declared.turn.Turn.{Turn}
use Rattle.ds_core.specs.Ends.{StepsAs}
use Rattle.ds_calls.specs.Driven.{Went}
use Rattle.ds_calls.proofs.Stepping.{offer_went, step_went}
use Rattle.ds_calls.proofs.finish.go.Goals as goal

pub returns-in-Some : goal.returns-in-Some
returns-in-Some g c =
    let steps = subst (λ (t : Option (Turn g.row.E.Denot)). StepsAs g.E.CallEnd.kind c.args.world.now c.args.process t c.step.new.world) c.in-Some.is c.step.ensures in
    subst (λ (r : Option g.row.E.Denot). Went g.E.CallEnd.kind.answer c.args.world.now c.args.process r c.step.new.world) (sym c.ended.ensures)
    (step_went g.E.CallEnd.kind c.args.world.now c.step.new.world c.args.process c.in-Some.turn c.is_always_good.ensures.sound c.is_always_good-in-Some.ensures c.requires steps)

pub returns-in-None : goal.returns-in-None
returns-in-None g c =
    let rests = subst (λ (t : Option (Turn g.row.E.Denot)). StepsAs g.E.CallEnd.kind c.args.world.now c.args.process t c.step.new.world) c.in-None.is c.step.ensures in
    offer_went g.E.CallEnd.kind.is c.args.world.now c.step.new.world c.offers-offered.new.world c.args.process c.offers-offered.result c.requires rests c.offers-offered.ensures.goes c.offers-offered.ensures.fewer c.offers-offered.ensures.waits
