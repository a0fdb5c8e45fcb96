use Rattle.std.proofs.Common.{rules, ◌≡◌, ◌∙◌, refl, ap, sym, subst, ◌+◌, ◌<◌, ℕ, List}
use Rattle.std.proofs.lemmas.List.Elements.{All-push, All-same}
use Rattle.std.specs.Prelude.{Some}
use Rattle.ds_layout.specs.declared.layout.Layout.{Layout}
use Rattle.ds_structure.specs.declared.sheet.SheetKey.{SheetKey}
use Rattle.ds_structure_shared.specs.Boards.{SheetEntry, SheetSeated}
use Rattle.ds_shared.specs.Answers.{IsFresh}
use Rattle.ds_shared.specs.Known.{seen_by}
use Rattle.ds_shared.specs.declared.pass.Pass.{Pass}
use Rattle.ds_shared.proofs.Joined.{HasAll, HasLeft, in_order, fresh_at, known_new, one_longer, sees_so}
use Rattle.ds_shared.proofs.seats.dealt.Goals as goal

pub loop-process-preserved : goal.loop-process-preserved
loop-process-preserved c =
    let key : SheetKey = c.args.board.now.words.key in
    let Mine : Pass → Type 0 = λ (p : Pass). (p.place.table_id ≡ c.args.board.now.words.table.shared.table_id) × (p.process < c.args.board.now.layout.processes) × IsFresh c.args.stopped p in
    let Sees : Pass → Type 0 = λ (p : Pass). (seen : List SheetEntry) → HasAll c.args.stopped key seen c.args.rest.now → seen_by p.place ≡ seen in
    let i = c.loop-process.invariant in
    let before : (seen : List SheetEntry) → HasAll c.args.stopped key seen c.args.rest.now → HasLeft c.args.stopped key seen c.loop-process.rest.me.0.past c.loop-process.process c.loop-process.rest =
    λ seen all. subst (λ (past : List SheetSeated). HasLeft c.args.stopped key seen past c.loop-process.process c.loop-process.rest) (sym i.2) (i.3 seen all) in
    let first = c.requires.rest.1 in
    let alone = λ (seen : List SheetEntry) (all : HasAll c.args.stopped key seen c.args.rest.now). c.deal-place.ensures.alone (Some seen) (before seen all) in (
      c.deal-place.ensures.table.0 ∙ i.0,
      c.deal-place.ensures.rest.empty,
      c.deal-place.ensures.past ∙ i.2,
      (λ seen all. subst (λ (past : List SheetSeated). HasLeft c.args.stopped key seen past (c.loop-process.process + 1) c.deal-place.new.rest) i.2 (c.deal-place.ensures.others (Some seen) (before seen all))),
      in_order _ _ _ c.loop-process.process c.push_reserved.ensures.items refl i.4,
      c.push_reserved.ensures.capacity ∙ i.5,
      one_longer _ _ _ c.push_reserved.ensures.items ∙ ap (λ (n : ℕ). n + 1) i.6,
      All-same Mine _ _ c.push_reserved.ensures.items (All-push Mine c.loop-process.passes.items _ i.7 (c.deal-place.ensures.table.1 ∙ (i.0 ∙ c.requires.rest.0), search rules, fresh_at _ c.loop-process.process c.args.stopped first.0 refl refl (alone first.0 first.1))),
      All-same Sees _ _ c.push_reserved.ensures.items (All-push Sees c.loop-process.passes.items _ i.8 (λ seen all. sees_so c.deal-place.result c.loop-process.process c.args.stopped seen (alone seen all))),
      c.deal-place.ensures.rest,
    )

pub invariant_of-push_reserved : goal.invariant_of-push_reserved
invariant_of-push_reserved c =
    let key : SheetKey = c.args.board.now.words.key in
    let i = c.loop-process.invariant in
    let first = c.requires.rest.1 in
    let before = subst (λ (past : List SheetSeated). HasLeft c.args.stopped key first.0 past c.loop-process.process c.loop-process.rest) (sym i.2) (i.3 first.0 first.1) in
    record {
      few = search rules;
      known = known_new c.deal-place.result c.loop-process.process c.args.stopped first.0 (c.deal-place.ensures.alone (Some first.0) before);
    }

pub deal-place-requires-clause-low : goal.deal-place-requires-clause-low
deal-place-requires-clause-low c = subst (λ (l : Layout). c.loop-process.process < l.processes) (sym c.args.board.now.same) (search rules)
