use Rattle.std.proofs.Common.{ℕ, ◌≡◌, List, ◌∷◌, ◌++◌, [], ap, sym, ◌∙◌, arith, length, map}
use Rattle.std.specs.List.{range_with_len}
use Rattle.std.proofs.lemmas.List.FromFn.{length-map-range_with_len, map-range_with_len_more}
use Rattle.ds_eval.specs.declared.value.Value.{Value}
use Rattle.ds_state.specs.KnownShow.{noted}
use Rattle.ds_state.specs.EntryWords.{shown_of}
use Rattle.ds_state.specs.Standing.{shown_entry}
use Rattle.ds_state.proofs.reports.fill.Goals as goal

pub push_reserved-requires : goal.push_reserved-requires
push_reserved-requires c =
    let shows : ℕ → Value = λ i. (shown_entry c.args.cells (noted c.args.values.now i) (noted c.args.kinds.now i)).value in
    let items = ap length c.loop-cell.invariant.1 ∙ length-map-range_with_len shows 0 c.loop-cell.cell in
    let own = c.loop-cell.report.ok.0 in
    let same = c.loop-cell.invariant.0 in
    let room = c.requires.room in
    let more = c.loop-cell-test.true in
    omega arith

pub loop-cell-preserved : goal.loop-cell-preserved
loop-cell-preserved c =
    let cells : ℕ = c.args.cells in
    let values : List ℕ = c.args.values.now in
    let kinds : List ℕ = c.args.kinds.now in
    let shows : ℕ → Value = λ i. (shown_entry cells (noted values i) (noted kinds i)).value in
    let one : c.shown.result ≡ shows c.loop-cell.cell =
    c.shown.ensures ∙ ap shown_of c.read-stored.ensures.value in (
      c.push_reserved.ensures.capacity ∙ c.loop-cell.invariant.0,
      c.push_reserved.ensures.items ∙ ap (λ (vs : List Value). vs ++ c.shown.result ∷ []) c.loop-cell.invariant.1 ∙ ap (λ (v : Value). map shows (range_with_len 0 c.loop-cell.cell) ++ v ∷ []) one ∙ sym (map-range_with_len_more shows 0 c.loop-cell.cell c.loop-cell.cell (omega arith)),
    )
