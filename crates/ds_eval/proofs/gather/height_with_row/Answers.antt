use Rattle.std.proofs.Common.{◌≡◌, ℕ, map, ap, arith}
use Rattle.ds_eval.specs.declared.inputs.Entry.{Entry}
use Rattle.ds_eval.specs.Inputs.{heights_in}
use Rattle.ds_eval.specs.Local.{above}
use Rattle.ds_eval.specs.Rows.{right_of, row_from}
use Rattle.ds_eval.proofs.Rows.{row_height, some_height}
use Rattle.ds_eval.proofs.gather.height_with_row.Goals as goal

pub loop-k-preserved : goal.loop-k-preserved
loop-k-preserved c =
    let heights = heights_in c.args.inputs.now.items in
    let h : c.entry_right_of.result.height ≡ heights (right_of c.args.first c.loop-k.k) = ap (λ (e : Entry). e.height) c.entry_right_of.ensures in
    omega (arith, h, row_height heights c.args.first c.loop-k.k, c.max-greatest.ensures, c.loop-k.invariant)

pub returns : goal.returns
returns c =
    let heights = heights_in c.args.inputs.now.items in
    let e : c.loop-k.k ≡ c.args.columns = omega (arith, c.loop-k-test.false, c.loop-k.auto.k-end) in
    let more = some_height heights c.args.first c.args.columns (omega (arith, c.if-columns-eq0.false)) in
    let same = ap (λ (n : ℕ). above (map heights (row_from c.args.first n))) e in
    omega (arith, same, more, c.raised.ensures, c.max.ensures, c.loop-k.invariant)
