use Rattle.std.proofs.Common.{◌≡◌, ◌<◌, ◌≤◌, ◌∙◌, List, ap, arith, false, get_or, length, subst, sym}
use Rattle.std.specs.Prelude.{All, slice_set}
use Rattle.std.proofs.lemmas.List.{take_all}
use Rattle.std.proofs.lemmas.List.Elements.{All-more}
use Rattle.ds_trace_scene.specs.Buffers.{ended, is_open}
use Rattle.ds_trace_scene.specs.declared.columns.Passage.{Passage}
use Rattle.ds_trace_scene.specs.declared.columns.PassageEnd.TheVariants.{WrittenBack}
use Rattle.ds_trace_scene.proofs.Buffered.{written_at, written_none}
use Rattle.ds_trace_scene.proofs.buffers.write_back.Goals as goal

pub returns-then-is_open : goal.returns-then-is_open
returns-then-is_open c =
    let entries = c.args.entries.now.items in
    let number = c.loop-number.number in
    let entry = c.index-entry.result.now in
    let len = c.len-number-end.ensures in
    let test = c.loop-number-test.true in
    let low : number < length entries = omega (arith, len, test) in
    ap (λ (e : Passage). slice_set c.loop-number.entries.items number e) c.ended.ensures
    ∙ ap (λ (l : List Passage). slice_set l number (ended WrittenBack c.args.line entry)) c.loop-number.invariant.same
    ∙ written_at c.args.process c.args.line entries number entry low c.loop-number.invariant.none
    (c.index-entry.ensures ∙ ap (λ (l : List Passage). get_or l number entry) c.loop-number.invariant.same) (sym c.is_open.ensures ∙ c.if-is_open.true)

pub loop-number-preserved : goal.loop-number-preserved
loop-number-preserved c =
    let entries = c.args.entries.now.items in
    let number = c.loop-number.number in
    let entry = c.index-entry.result.now in
    let len = c.len-number-end.ensures in
    let test = c.loop-number-test.true in
    let low : number < length entries = omega (arith, len, test) in
    let at : entry ≡ get_or entries number entry = c.index-entry.ensures ∙ ap (λ (l : List Passage). get_or l number entry) c.loop-number.invariant.same in
    record {
      same = c.loop-number.invariant.same;
      none = All-more (λ (e : Passage). is_open c.args.process e ≡ false) entries number entry low c.loop-number.invariant.none
          (subst (λ (e : Passage). is_open c.args.process e ≡ false) at (sym c.is_open.ensures ∙ c.if-is_open.false));
    }

pub returns : goal.returns
returns c =
    let entries = c.args.entries.now.items in
    let len = c.len-number-end.ensures in
    let test = c.loop-number-test.false in
    let past : length entries ≤ c.loop-number.number = omega (arith, len, test) in
    c.loop-number.invariant.same
    ∙ sym (written_none c.args.process c.args.line entries
    (subst (λ (l : List Passage). All (λ (e : Passage). is_open c.args.process e ≡ false) l) (take_all c.loop-number.number entries past) c.loop-number.invariant.none))
