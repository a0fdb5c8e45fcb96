use Rattle.std.proofs.Common.{ℕ, ◌≡◌, ◌+◌, ◌∙◌, List, length, arith, ap, subst, sym, true≢false}
use Rattle.std.specs.Global.{Vec}
use Rattle.ds_trace_scene.specs.declared.columns.Column.{Column}
use Rattle.ds_trace_scene.specs.Columns.{AreColumns}
use Rattle.ds_trace_scene.proofs.Numbered.{columns_none, columns_more, columns_same}
use Rattle.ds_trace_scene.proofs.columns.columns.Goals.{then-changes+in_ok-column_of+in_ok-push, else-changes}
use Rattle.ds_trace_scene.proofs.columns.columns.Goals as goal

pub loop-number-init : goal.loop-number-init
loop-number-init c = columns_none c.args.trace.now c.new-columns.result.items c.new-columns.ensures.items

pub loop-number-preserved : goal.loop-number-preserved
loop-number-preserved c = elim c.if-changes.branch [
  | then-changes+in_ok-column_of+in_ok-push w ↦
      subst (λ (l : List Column). AreColumns c.args.trace.now (c.loop-number.number + 1) l) (sym (ap (λ (v : Vec Column). v.items) w.columns-is ∙ w.in_ok-push.ensures.items))
      (columns_more c.args.trace.now c.loop-number.number c.loop-number.columns.items c.loop-number.invariant w.in_ok-column_of.field-0 (c.changes.ensures.0 w.if-changes.true) w.in_ok-column_of.ensures)
  | else-changes w ↦
      subst (λ (v : Vec Column). AreColumns c.args.trace.now (c.loop-number.number + 1) v.items) (sym w.columns-is)
      (columns_same c.args.trace.now c.loop-number.number c.loop-number.columns.items c.loop-number.invariant (λ does. true≢false (sym (c.changes.ensures.1 does) ∙ w.if-changes.false)))
]

pub returns : goal.returns
returns c =
    let same : c.loop-number.number ≡ length c.args.trace.now.places.items = omega arith in
    subst (λ (n : ℕ). AreColumns c.args.trace.now n c.loop-number.columns.items) same c.loop-number.invariant
