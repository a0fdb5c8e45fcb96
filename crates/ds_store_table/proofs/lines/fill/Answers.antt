use Rattle.std.proofs.Common.{◌≡◌, ◌++◌, ◌∷◌, [], ◌∙◌, ap, append_assoc, arith, rules, add-one, append-nil, drop, map, refl, slice_get, Some, subst, suc, sym, take, Ok}
use Rattle.std.proofs.lemmas.Result.{err_from_is_err_and}
use Rattle.std.specs.String.{string_bytes}
use Rattle.sqlite.specs.Held.{state}
use Rattle.sqlite.proofs.StateLemmas.{survives_then}
use Rattle.ds_store_table.specs.Tables.{HoldsInside}
use Rattle.ds_store_table.specs.Statements.{RanInTurn, insertion}
use Rattle.ds_store_table.proofs.Crashes.{stays}
use Rattle.ds_store_table.proofs.Failing.{goes_on, one_failed, one_ran, then_ran}
use Rattle.ds_store_table.proofs.Lists.{one_longer, one_more, parted, there}
use Rattle.ds_store_table.proofs.lines.fill.Goals as goal

pub loop-line-init : goal.loop-line-init
loop-line-init g c =
    let s = state g.S.Store c.args.tx.now.conn.now in
    (refl, λ clean before has. subst (λ ls. HoldsInside ls s) (sym (append-nil before)) has, stays s, λ clean within. (refl, refl))

pub returns-in_err-add-clause-survives : goal.returns-in_err-add-clause-survives
returns-in_err-add-clause-survives g c =
    survives_then (state g.S.Store c.args.tx.now.conn.now) (state g.S.Store c.loop-line.tx.conn.now) (state g.S.Store c.add.new.tx.conn.now) _ _ (λ _. ⊥) (λ _ db none. none) (λ _ db none. none)
    c.loop-line.invariant.2 c.add.ensures.survives

pub returns-in_err-add-clause-runs : goal.returns-in_err-add-clause-runs
returns-in_err-add-clause-runs g c clean within =
    let lines = c.args.lines.now in
    let i = c.loop-line.line-index in
    let line = c.line-item.result in
    let at : slice_get lines i ≡ Some line = there lines i line (search rules) c.line-item.is in
    let before = c.loop-line.invariant.3 (omega (arith, c.add.ensures.survives.clean)) within in
    let inside = goes_on g.S.Store _ _ _ before within in
    let failed = rw c.as_str.ensures.value at (c.in_err-add.ensures.runs clean inside) in
    let all = then_ran g.S.Store _ _ _ _ _ _ before (one_failed g.S.Store _ (map insertion (map string_bytes (drop (suc i) lines))) _ _ _ failed) in
    let p = err_from_is_err_and c.from_residual.result c.from_residual.ensures.1 in
    rw (p.1, p.2, parted insertion string_bytes lines i line at) all

pub loop-line-preserved : goal.loop-line-preserved
loop-line-preserved g c =
    let lines = c.args.lines.now in
    let i = c.loop-line.line-index in
    let line = c.line-item.result in
    let at : slice_get lines i ≡ Some line = there lines i line (search rules) c.line-item.is in (
      search rules,
      λ clean before has.
          let was = c.loop-line.invariant.1 (omega (arith, c.add.ensures.survives.clean)) before has in
          let now = rw c.as_str.ensures.value at (c.in_ok-add.ensures.holds clean (before ++ map string_bytes (take i lines)) was) in
          rw (add-one i) (subst (λ ls. HoldsInside ls (state g.S.Store c.add.new.tx.conn.now)) (append_assoc before (map string_bytes (take i lines)) (string_bytes line ∷ []) ∙ ap (λ ls. before ++ ls) (one_more string_bytes lines i line at)) now),
      survives_then (state g.S.Store c.args.tx.now.conn.now) (state g.S.Store c.loop-line.tx.conn.now) (state g.S.Store c.add.new.tx.conn.now) _ _ (λ _. ⊥) (λ _ db none. none) (λ _ db none. none)
          c.loop-line.invariant.2 c.add.ensures.survives,
      λ clean within.
          let before = c.loop-line.invariant.3 (omega (arith, c.add.ensures.survives.clean)) within in
          let inside = goes_on g.S.Store _ _ _ before within in
          let ran = rw c.as_str.ensures.value at (c.in_ok-add.ensures.runs clean inside) in
          let all = then_ran g.S.Store _ _ _ _ _ _ before (one_ran g.S.Store _ _ _ _ ran) in
          rw (add-one i) (subst (λ them. RanInTurn g.S.Store them c.args.tx.now.conn.now c.add.new.tx.conn.now (Ok tt)) (one_longer insertion string_bytes lines i line at) all),
    )
