use Rattle.std.proofs.Common.{List, [], ◌∷◌, ◌++◌, ◌∙◌, Option, Some, ap, subst, sym}
use Rattle.std.specs.Global.{Vec}
use Rattle.std.specs.Prelude.{IfSome}
use Rattle.std.proofs.lemmas.List.Elements.{All-push}
use Rattle.ds_explore_state.specs.declared.closure.Visit.{Visit}
use Rattle.ds_explore_state.specs.declared.position.Position.{Position}
use Rattle.ds_explore_state.specs.States.{groups_of}
use Rattle.ds_explore_state.specs.Closed.{AreKept}
use Rattle.ds_explore_state.specs.Following.{IsKept}
use Rattle.ds_explore_state.proofs.Closing.{kept_copy, no_visits}
use Rattle.ds_explore_state.proofs.Drawing.{none_drawn}
use Rattle.ds_explore_state.proofs.WrittenEnds.{crashes_none}
use Rattle.ds_explore_state.proofs.closure.draw_all.Goals.{in-Some+in_ok-push, in_default}
use Rattle.ds_explore_state.proofs.closure.draw_all.Goals as goal

pub loop-init : goal.loop-init
loop-init g c = record {
  drawn = none_drawn c.args.found.states.now (groups_of c.args.found.touched.now) (g.E.Endings.numbered c.args.endings.now) c.args.found.allowed c.args.found.touched.now.places.items c.args.found.first.now c.in_ok-drawing.drawing.edges.items
      c.in_ok-drawing.drawing.marks.items _ c.in_ok-drawing.ensures.edges c.in_ok-drawing.ensures.marks;
  knows = crashes_none c.args.found.states.now (groups_of c.args.found.touched.now) (g.E.Endings.numbered c.args.endings.now) c.args.found.allowed c.args.found.touched.now.places.items c.args.found.first.now c.new-crashes.result c.new-crashes.ensures.keys
      c.new-crashes.ensures.outcomes;
  kept = kept_copy (groups_of c.args.found.touched.now) c.args.found.first.now c.args.found.first.now c.in_ok-position.position c.in_ok-position.ensures.world c.in_ok-position.ensures.seats c.requires.kept;
  visits = no_visits (groups_of c.args.found.touched.now) c.args.found.first.now c.new-visits.result.items c.new-visits.ensures.items;
}

pub loop-preserved : goal.loop-preserved
loop-preserved g c =
    let visits : AreKept (groups_of c.args.found.touched.now) c.args.found.first.now c.match-branch-4.visits.items = elim c.match-branch-4.branch [
      | in-Some+in_ok-push w ↦
          subst (λ (l : List Visit). AreKept (groups_of c.args.found.touched.now) c.args.found.first.now l) (sym (ap (λ (v : Vec Visit). v.items) w.visits-is ∙ w.in_ok-push.ensures.items))
          (All-push (λ (visit : Visit). IfSome visit.position (IsKept (groups_of c.args.found.touched.now) c.args.found.first.now)) c.loop.visits.items (record { position = Some c.loop.position; ahead = w.in-Some.ahead }) c.loop.invariant.visits c.loop.invariant.kept)
      | in_default w ↦ subst (λ (v : Vec Visit). AreKept (groups_of c.args.found.touched.now) c.args.found.first.now v.items) (sym w.visits-is) c.loop.invariant.visits
    ] in
    record {
      drawn = c.in_ok-ahead.ensures.drawn;
      knows = c.in_ok-ahead.ensures.knows;
      kept = subst (λ (o : Option Position). IfSome o (IsKept (groups_of c.args.found.touched.now) c.args.found.first.now)) c.in-Some-2.is (c.in_ok-after.ensures.next c.args.found.first.now visits);
      visits = c.in_ok-after.ensures.kept c.args.found.first.now visits;
    }
