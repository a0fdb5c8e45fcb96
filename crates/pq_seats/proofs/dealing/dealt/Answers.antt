use Rattle.std.proofs.Common.{rules, ◌∙◌, ap, refl, ◌+◌, ℕ, length}
use Rattle.std.proofs.lemmas.List.{length_push}
use Rattle.std.proofs.lemmas.List.Elements.{All-push, All-same}
use Rattle.pq_seats.specs.Known.{IsFresh, IsOf}
use Rattle.pq_seats.specs.declared.pass.Pass.{Pass}
use Rattle.pq_seats.proofs.Dealt.{in_order}
use Rattle.pq_seats.proofs.dealing.dealt.Goals as goal

pub loop-process-preserved : goal.loop-process-preserved
loop-process-preserved c =
    let i = c.loop-process.invariant in
    let more = c.push_reserved.ensures.items in
    let Mine = λ (p : Pass). IsOf c.args.board.now.table.shared.table_id c.args.board.now.key p × IsFresh c.args.stopped p in
    record {
      table = c.deal-place.ensures.table.0 ∙ i.table;
      rest = c.deal-place.ensures.rest;
      past = c.deal-place.ensures.past ∙ i.past;
      order = in_order _ _ _ c.loop-process.process more refl i.order;
      room = c.push_reserved.ensures.capacity ∙ i.room;
      many = ap length more ∙ (length_push c.loop-process.passes.items _ ∙ ap (λ (n : ℕ). n + 1) i.many);
      fit = All-same Mine _ _ more (All-push Mine c.loop-process.passes.items _ i.fit (record { table_is = c.deal-place.ensures.table.1 ∙ (i.table ∙ c.requires.rest.0); process = search rules }, record { stopped_is = refl; next = refl; outcomes_are = c.deal-place.ensures.new }));
    }
