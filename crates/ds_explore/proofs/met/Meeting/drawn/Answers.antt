use Rattle.std.proofs.Common.{subst}
use Rattle.std.specs.Prelude.{IfOk, IfSome}
use Rattle.ds_explore_state.specs.Drawn.{AreDrawn}
use Rattle.ds_explore_state.specs.States.{groups_of}
use Rattle.ds_explore_state.specs.declared.orders.Allowed.{Allowed}
use Rattle.ds_explore.specs.Judging.{texts_of}
use Rattle.ds_explore.specs.Whole.{IsAmong}
use Rattle.ds_explore.proofs.met.Meeting.drawn.Goals as goal

pub returns : goal.returns
returns c =
    let start = c.args.self.now.start.now in
    subst
    (λ (a : Allowed). IfOk c.draw_part.result (λ some. IfSome some (λ drawing. AreDrawn c.args.self.now.states.now (groups_of start.touched) (λ x crashed number. IsAmong start.judge (texts_of c.args.self.now.keys.now) x crashed number) a start.touched.places.items start.first drawing.edges.items drawing.marks.items)))
    c.allowed.ensures c.draw_part.ensures.drawn
