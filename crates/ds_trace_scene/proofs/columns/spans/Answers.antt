use Rattle.std.proofs.Common.{ℕ, suc, ◌≡◌, ◌+◌, ◌∙◌, List, false, length, refl, sym, ap, subst, arith}
use Rattle.std.specs.Prelude.{All}
use Rattle.std.specs.Global.{Vec}
use Rattle.std.proofs.lemmas.List.Elements.{All-push}
use Rattle.ds_words.specs.declared.words.Word.{Word}
use Rattle.ds_trace.specs.declared.row.TraceRow.{TraceRow}
use Rattle.ds_trace_scene.specs.declared.columns.Span.{Span}
use Rattle.ds_trace_scene.specs.Columns.{Follow, IsTrueSpan, side_at, side_of, word_in}
use Rattle.ds_trace_scene.proofs.Spans.{Stays, ends_at, follow_more, lost_at, lost_never, none_is, stays_first, stays_anew, stays_on, side_behind, true_span}
use Rattle.ds_trace_scene.proofs.columns.spans.Goals.{then-next-word+in_ok-push, else-next-word}
use Rattle.ds_trace_scene.proofs.columns.spans.Goals as goal

pub loop-event-init : goal.loop-event-init
loop-event-init c = record {
  spans = none_is (IsTrueSpan c.args.first c.args.rows.now c.args.number c.args.side) c.new-spans.result.items c.new-spans.ensures.items;
  stays = subst (λ (n : ℕ). Stays c.args.first c.args.rows.now c.args.number c.args.side 0 n 0) (sym c.side_of-word.ensures) (stays_first c.args.first c.args.rows.now c.args.number c.args.side);
  follow = subst (λ (l : List Span). Follow 0 l 0) (sym c.new-spans.ensures.items) refl;
  before = omega arith;
}

pub loop-event-preserved : goal.loop-event-preserved
loop-event-preserved c =
    let next : side_at c.args.first c.args.rows.now c.args.number c.args.side (suc c.loop-event.event) ≡ c.side_of-next.result =
    side_behind c.args.first c.args.rows.now c.args.number c.args.side c.loop-event.event c.index-rows-event.result c.loop-event-test.true
    ∙ ap (λ (r : TraceRow). side_of c.args.side (word_in c.args.number r)) (sym c.index-rows-event.is)
    ∙ ap (λ (w : Word). side_of c.args.side w) (sym c.word_in.ensures)
    ∙ sym c.side_of-next.ensures in
    elim c.if-next-word.branch [
      | then-next-word+in_ok-push w ↦
          record {
            spans = subst (λ (l : List Span). All (IsTrueSpan c.args.first c.args.rows.now c.args.number c.args.side) l) (sym (ap (λ (v : Vec Span). v.items) w.spans-is ∙ w.in_ok-push.ensures.items))
                (All-push (IsTrueSpan c.args.first c.args.rows.now c.args.number c.args.side) c.loop-event.spans.items (record { from = c.loop-event.from; to = c.loop-event.event + 1; word = c.loop-event.word; is_lost = w.is_crash.result }) c.loop-event.invariant.spans
                (true_span c.args.first c.args.rows.now c.args.number c.args.side (record { from = c.loop-event.from; to = c.loop-event.event + 1; word = c.loop-event.word; is_lost = w.is_crash.result }) c.loop-event.event c.loop-event.invariant.stays
                (omega arith) (let lt = c.loop-event-test.true in omega (arith, lt)) (λ below. ends_at c.args.first c.args.rows.now c.args.number c.args.side c.loop-event.event c.loop-event.word c.side_of-next.result next w.if-next-word.true)
                (lost_at c.args.rows.now c.loop-event.event c.index-rows-event.result w.is_crash.result c.loop-event-test.true c.index-rows-event.is w.is_crash.ensures)));
            stays = subst (λ (f : ℕ). Stays c.args.first c.args.rows.now c.args.number c.args.side f c.if-next-word.word (c.loop-event.event + 1)) (sym w.from-is)
                (subst (λ (n : ℕ). Stays c.args.first c.args.rows.now c.args.number c.args.side (c.loop-event.event + 1) n (c.loop-event.event + 1)) (sym w.word-is)
                (stays_anew c.args.first c.args.rows.now c.args.number c.args.side c.loop-event.event c.side_of-next.result next));
            follow = subst (λ (f : ℕ). Follow 0 c.if-next-word.spans.items f) (sym w.from-is) (subst (λ (l : List Span). Follow 0 l (c.loop-event.event + 1)) (sym (ap (λ (v : Vec Span). v.items) w.spans-is ∙ w.in_ok-push.ensures.items))
                (follow_more 0 c.loop-event.spans.items (record { from = c.loop-event.from; to = c.loop-event.event + 1; word = c.loop-event.word; is_lost = w.is_crash.result }) c.loop-event.from c.loop-event.invariant.follow refl (let b = c.loop-event.invariant.before in omega (arith, b))));
            before = (let f = w.from-is in omega (arith, f));
          }
      | else-next-word w ↦
          record {
            spans = subst (λ (v : Vec Span). All (IsTrueSpan c.args.first c.args.rows.now c.args.number c.args.side) v.items) (sym w.spans-is) c.loop-event.invariant.spans;
            stays = subst (λ (f : ℕ). Stays c.args.first c.args.rows.now c.args.number c.args.side f c.if-next-word.word (c.loop-event.event + 1)) (sym w.from-is)
                (subst (λ (n : ℕ). Stays c.args.first c.args.rows.now c.args.number c.args.side c.loop-event.from n (c.loop-event.event + 1)) (sym w.word-is)
                (stays_on c.args.first c.args.rows.now c.args.number c.args.side c.loop-event.from c.loop-event.event c.loop-event.word c.loop-event.invariant.stays (next ∙ w.if-next-word.false)));
            follow = subst (λ (f : ℕ). Follow 0 c.if-next-word.spans.items f) (sym w.from-is) (subst (λ (v : Vec Span). Follow 0 v.items c.loop-event.from) (sym w.spans-is) c.loop-event.invariant.follow);
            before = (let f = w.from-is in let b = c.loop-event.invariant.before in omega (arith, f, b));
          }
    ]

pub returns : goal.returns
returns c =
    let rows = c.args.rows.now in
    let past = c.loop-event-test.false in
    let end : c.in-Some.end ≡ length rows + 1 = c.in-Some.ensures.1 in
    let span : Span = record { from = c.loop-event.from; to = c.in-Some.end; word = c.loop-event.word; is_lost = false } in
    let P : Span → Type 0 = IsTrueSpan c.args.first rows c.args.number c.args.side in
    record {
      each = subst (λ (l : List Span). All P l) (sym c.in_ok-push-2.ensures.items)
          (All-push P c.loop-event.spans.items span c.loop-event.invariant.spans
          (true_span c.args.first rows c.args.number c.args.side span c.loop-event.event c.loop-event.invariant.stays (let a = past in omega (arith, a, end)) (let a = c.loop-event.auto in omega (arith, a))
          (λ below. absurd (let e : ⊥ = omega (arith, below, end) in e)) (lost_never rows c.in-Some.end false refl (omega (arith, end)))));
      whole = subst (λ (n : ℕ). Follow 0 c.push-2.new.self.items n) end
          (subst (λ (l : List Span). Follow 0 l c.in-Some.end) (sym c.in_ok-push-2.ensures.items)
          (follow_more 0 c.loop-event.spans.items span c.loop-event.from c.loop-event.invariant.follow refl (let b = c.loop-event.invariant.before in let a = c.loop-event.auto in omega (arith, a, b, end))));
    }
