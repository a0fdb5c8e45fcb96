use Rattle.std.proofs.Common.{◌≡◌, ◌<◌, ◌≤◌, ◌∙◌, List, get_or, length, refl, subst, sym, true≢false}
use Rattle.ds_trace.specs.declared.row.TraceRow.{TraceRow}
use Rattle.ds_trace_scene.proofs.Numbered.{changes_at, changes_never, same_more}
use Rattle.ds_trace_scene.proofs.columns.changes.Goals as goal

pub returns-then-not-are_same : goal.returns-then-not-are_same
returns-then-not-are_same c = (
  (λ yes. changes_at c.args.trace.now c.args.number c.loop-row.row-index c.row-item.result
      (subst (λ (l : List TraceRow). c.loop-row.row-index < length l) c.deref-row-items.ensures.value c.loop-row-test.true)
      (subst (λ (l : List TraceRow). c.row-item.result ≡ get_or l c.loop-row.row-index c.row-item.result) c.deref-row-items.ensures.value c.row-item.is)
      (λ same. true≢false (sym (c.are_same.ensures.1 (c.word_in.ensures ∙ same ∙ sym c.first_in-first.ensures)) ∙ c.if-not-are_same.true))),
  (λ does. refl),
)

pub loop-row-preserved : goal.loop-row-preserved
loop-row-preserved c =
    same_more c.args.trace.now c.args.number c.loop-row.row-index c.row-item.result
    (subst (λ (l : List TraceRow). c.loop-row.row-index < length l) c.deref-row-items.ensures.value c.loop-row-test.true)
    (subst (λ (l : List TraceRow). c.row-item.result ≡ get_or l c.loop-row.row-index c.row-item.result) c.deref-row-items.ensures.value c.row-item.is)
    c.loop-row.invariant (sym c.word_in.ensures ∙ c.are_same.ensures.0 c.if-not-are_same.false ∙ c.first_in-first.ensures)

pub returns : goal.returns
returns c = (
  (λ yes. absurd (true≢false (sym yes))),
  (λ does. absurd (changes_never c.args.trace.now c.args.number c.loop-row.row-index
      (subst (λ (l : List TraceRow). length l ≤ c.loop-row.row-index) c.deref-row-items.ensures.value c.loop-row-test.false) c.loop-row.invariant does)),
)
