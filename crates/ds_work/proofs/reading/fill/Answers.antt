use Rattle.std.proofs.Common.{List, length, take, get_or, sym, subst, arith, ap}
use Rattle.ds_eval.specs.declared.inputs.Input.{Input}
use Rattle.ds_eval.specs.Inputs.{IsBehind}
use Rattle.ds_work.specs.Reading.{unseen}
use Rattle.std.proofs.lemmas.List.{length-map, length-take-le}
use Rattle.ds_work.proofs.Gathered.{no_more, is_behind}
use Rattle.ds_work.proofs.reading.fill.Goals as goal

pub push-requires-clause-room : goal.push-requires-clause-room
push-requires-clause-room c =
    let most = no_more c.args.shape c.args.cells.now c.requires.ascending c.requires.inside in
    let lt = c.loop-cell-test.true in
    let size = ap (λ (xs : List Input). length xs) c.loop-cell.invariant.0 in
    let mapped = length-map (take c.loop-cell.cell-index c.args.cells.now) unseen in
    let cut = length-take-le c.loop-cell.cell-index c.args.cells.now (omega (arith, lt)) in
    let room = c.loop-cell.invariant.1 in
    omega (arith, most, lt, size, mapped, cut, room)

pub push-requires-clause-behind : goal.push-requires-clause-behind
push-requires-clause-behind c = subst (λ (xs : List Input). IsBehind xs (get_or c.args.cells.now c.loop-cell.cell-index (record { column = 0; row = 0 }))) (sym c.loop-cell.invariant.0)
    (is_behind c.args.cells.now c.loop-cell.cell-index c.requires.ascending c.loop-cell-test.true)
