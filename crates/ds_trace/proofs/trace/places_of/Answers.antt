use Rattle.std.proofs.Common.{◌+◌, List, sym, subst, ◌∙◌, take}
use Rattle.std.specs.Global.{Vec}
use Rattle.ds_layout.specs.declared.place.Place.{Place}
use Rattle.ds_trace.specs.Traces.{AreFirsts, names_of}
use Rattle.ds_trace.proofs.Firsts.{names_one, names_none}
use Rattle.ds_trace.proofs.trace.places_of.Goals.{in-Some+in_ok-add, in_default}
use Rattle.ds_trace.proofs.trace.places_of.Goals as goal

pub loop-row-preserved : goal.loop-row-preserved
loop-row-preserved c = elim c.match-place_named.branch [
  | in-Some+in_ok-add w ↦
      subst (λ (v : Vec Place). AreFirsts (names_of (take (c.loop-row.row-index + 1) c.args.rows.now)) v.items) (sym w.places-is)
      (subst (λ (l : List Place). AreFirsts l w.add.new.places.items) (sym (names_one c.args.rows.now c.loop-row.row-index c.row-item.result w.in-Some.place c.loop-row-test.true c.row-item.is (sym c.place_named.ensures ∙ w.in-Some.is)))
      (w.in_ok-add.ensures (names_of (take c.loop-row.row-index c.args.rows.now)) c.loop-row.invariant))
  | in_default w ↦
      subst (λ (v : Vec Place). AreFirsts (names_of (take (c.loop-row.row-index + 1) c.args.rows.now)) v.items) (sym w.places-is)
      (subst (λ (l : List Place). AreFirsts l c.loop-row.places.items) (sym (names_none c.args.rows.now c.loop-row.row-index c.row-item.result c.loop-row-test.true c.row-item.is (sym c.place_named.ensures ∙ w.in_default.is)))
      c.loop-row.invariant)
]
