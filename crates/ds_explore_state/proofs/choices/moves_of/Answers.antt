use Rattle.ds_explore_state.specs.declared.position.Move.TheVariants.{Step, Stop}
use Rattle.ds_explore_state.proofs.choices.moves_of.Goals as goal

pub returns : goal.returns
returns c =
    let a = c.in_ok-moves.ensures in
    let b = c.in_ok-add_stops.ensures in
    let d = c.in_ok-add_evictions.ensures in
    record {
      each = d.each (b.each c.args.places.now (a.each c.args.places.now));
      steps = λ p low. d.kept (Step p) (b.kept (Step p) (a.steps p low));
      stops = λ p low. d.kept (Stop p) (b.stops p low);
      evictions = d.evictions;
    }
