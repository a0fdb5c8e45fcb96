use Rattle.std.proofs.Common.{Option, subst}
use Rattle.std.specs.Prelude.{IfSome}
use Rattle.ds_explore_state.specs.States.{groups_of}
use Rattle.ds_explore_state.specs.Drawn.{AreDrawn}
use Rattle.ds_explore_state.specs.declared.closure.Drawing.{Drawing}
use Rattle.ds_explore.specs.Judging.{texts_of}
use Rattle.ds_explore.specs.Starts.{allowed_by}
use Rattle.ds_explore.specs.Whole.{IsAmong}
use Rattle.ds_explore.proofs.Ways.{gone_or_on_way}
use Rattle.ds_explore.proofs.met.Meeting.are_gone_through.Goals as goal

pub returns : goal.returns
returns c = λ yes.
    let start = c.args.self.now.start.now in
    let keys = texts_of c.args.self.now.keys.now in
    let states = c.args.self.now.states.now in
    gone_or_on_way start keys states c.in-Some.drawing.edges.items c.in-Some.drawing.marks.items c.in_ok-on_way.on_way.items _ _ _ (c.in_ok-on_way.ensures.0)
    (subst (λ (o : Option Drawing). IfSome o (λ drawing. AreDrawn states (groups_of start.touched) (IsAmong start.judge keys) (allowed_by start.options) start.touched.places.items start.first drawing.edges.items drawing.marks.items)) c.in-Some.is c.in_ok-drawing.ensures)
    (c.in_ok-on_way.ensures.1) c.deref.ensures.value c.deref-2.ensures.value c.len.ensures (c.are_either.ensures yes)
