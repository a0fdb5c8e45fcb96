use Rattle.std.proofs.Common.{rules, ◌≡◌, ◌∙◌, ap, subst, sym, Some, List}
use Rattle.std.proofs.lemmas.List.Elements.{All-pop}
use Rattle.std.specs.Mem.Slots.{slots_items}
use Rattle.pm_base.proofs.Lists.{in_left, in_right}
use Rattle.pm_base.specs.Structures.{In}
use Rattle.pm_board.specs.Rule.{Closes, HasRun}
use Rattle.pm_board.specs.Starts.{start_of}
use Rattle.pm_board.specs.Views.{past_of}
use Rattle.ds_structure.specs.Sheet.{sheet}
use Rattle.ds_structure_shared.specs.Boards.{SheetSeated, SheetView, sole}
use Rattle.ds_shared.specs.declared.pass.Pass.{Pass}
use Rattle.ds_shared.proofs.Joined.{AreOf, popped, still_of, none_left, past_kept, still_there, last_there, same_past, one_seated, all_seated, all_entries}
use Rattle.ds_shared.specs.Answers.{seated_by}
use Rattle.ds_shared.specs.Known.{past_in}
use Rattle.ds_shared.proofs.sheet.SharedSheet.close.Goals as goal

pub loop-pass-preserved : goal.loop-pass-preserved
loop-pass-preserved c =
    let i = c.loop-pass.invariant in
    let joined = c.join.ensures.1 in
    let view = ap (λ m. m.0) joined in
    let here = i.4 c.in-Some.pass (last_there _ _ _ c.in-Some.ensures.items) in (
      c.join.ensures.0 ∙ i.0,
      ap (λ m. m.1) joined ∙ i.1,
      (All-pop (λ (p : Pass). p.place.table_id ≡ c.args.self.board.words.table.shared.table_id) _ _ (Some c.in-Some.pass) c.in-Some.ensures.items i.2).0,
      (λ p there. rw view (popped _ _ _ p c.loop-pass.seat.me.0 c.in-Some.ensures.items (i.3 p there))),
      (λ p there. i.4 p (still_there _ _ _ p c.in-Some.ensures.items there)),
      subst (λ (v : SheetView). AreOf c.args.passes.items v) (sym view) (still_of c.args.passes.items c.in-Some.pass c.loop-pass.seat.me.0 here i.5),
      (λ e inside. subst (λ (v : SheetView). In v.past e) (sym view) (past_kept c.loop-pass.seat.me.0 c.in-Some.pass.place.me.0 e (i.6 e inside))),
      ap (λ (v : SheetView). v.past) view ∙ same_past c.in-Some.pass c.loop-pass.seat.me.0 ∙ i.7,
      one_seated _ _ c.args.passes.items c.in-Some.pass c.loop-pass.seat.me.0 _ c.in-Some.ensures.items view i.8,
    )

pub returns-clause-got : goal.returns-clause-got
returns-clause-got c = c.close.ensures.past ∙ all_seated c.loop-pass.passes.items c.args.passes.items c.loop-pass.seat.me.0 (past_in c.args.past.place) (search rules) c.loop-pass.invariant.7 c.loop-pass.invariant.8

pub returns-clause-handed : goal.returns-clause-handed
returns-clause-handed c = λ p there.
    subst (λ (es : List SheetSeated). In es (sole p.place)) (sym c.close.ensures.past) (in_right _ _ (sole p.place) (none_left _ p c.loop-pass.seat.me.0 (search rules) (c.loop-pass.invariant.3 p there)))

pub returns-clause-before : goal.returns-clause-before
returns-clause-before c = λ e inside.
    subst (λ (es : List SheetSeated). In es e) (sym c.close.ensures.past) (in_left _ _ e (c.loop-pass.invariant.6 e inside))

pub returns-clause-stand : goal.returns-clause-stand
returns-clause-stand c =
    let ws = slots_items c.close.result.table.words in
    let entries = all_entries c.loop-pass.passes.items c.args.passes.items c.loop-pass.seat.me.0 (search rules) c.loop-pass.invariant.8 in
    subst (λ (board : _). Closes sheet board.key (start_of board.table.shared.key) ws (seated_by c.args.passes.items) (past_of c.close.result.before)) c.into_words.ensures
    (subst (λ (z : List SheetSeated × List SheetSeated). Closes sheet c.into_words.result.key (start_of c.into_words.result.table.shared.key) ws z.0 z.1) (λ i. (entries i, sym c.close.ensures.past i)) c.close.ensures.stand)

pub returns-clause-run : goal.returns-clause-run
returns-clause-run c =
    let ws = slots_items c.close.result.table.words in
    let known = past_of c.close.result.before in
    let h = subst (λ (board : _). HasRun sheet board.key ws known) c.into_words.ensures (subst (λ (known : List SheetSeated). HasRun sheet c.into_words.result.key ws known) (sym c.close.ensures.past) c.close.ensures.run) in
    let k = c.boards_have_the_headline.ensures ws known h in
    (h, k.0, k.1)
