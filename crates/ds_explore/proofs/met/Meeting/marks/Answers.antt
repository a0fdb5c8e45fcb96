use Rattle.std.proofs.Common.{List, Option, subst, sym}
use Rattle.std.specs.Prelude.{IfSome}
use Rattle.std.proofs.lemmas.List.Elements.{All-pop, All-push}
use Rattle.ds_explore.specs.declared.met.Stop.{Stop}
use Rattle.ds_explore.specs.Judging.{texts_of}
use Rattle.ds_explore.specs.Met.{AreLedTo}
use Rattle.ds_explore.specs.Starts.{IsLedTo}
use Rattle.ds_explore.proofs.Meeting.{met_none, no_stop, none_marked}
use Rattle.ds_explore.proofs.met.Meeting.marks.Goals as goal

pub loop-init : goal.loop-init
loop-init c =
    let start = c.args.self.now.start.now in
    record {
      way = subst (λ (l : List Stop). AreLedTo start l) (sym c.in_ok-push.ensures.items)
          (All-push (λ (stop : Stop). IsLedTo start stop.position) c.new-way.result.items (record { position = c.in_ok-position.position; state = 0; done = 0 }) (no_stop start c.new-way.result.items c.new-way.ensures.items) c.in_ok-position.ensures);
      marks = c.in_ok-mark.ensures c.in_ok-position.ensures
          (met_none start (texts_of c.args.self.now.keys.now) c.args.self.now.states.now c.in_ok-marks.marks.items (none_marked c.in_ok-marks.marks.items c.len-2.result (c.in_ok-marks.ensures.items_if_clones_equal (λ y is. is))));
    }

pub loop-preserved : goal.loop-preserved
loop-preserved c =
    let start = c.args.self.now.start.now in
    let P : Stop → Type 0 = λ (stop : Stop). IsLedTo start stop.position in
    let popped = All-pop P c.loop.way.items c.pop.new.self.items c.pop.result c.pop.ensures.items c.loop.invariant.way in
    let led = subst (λ (o : Option Stop). IfSome o P) c.in-Some.is popped.1 in
    let goes = c.in_ok-go_on.ensures led popped.0 c.loop.invariant.marks in
    record { way = goes.0; marks = goes.1 }
