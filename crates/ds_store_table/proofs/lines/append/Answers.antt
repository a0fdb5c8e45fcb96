use Rattle.std.proofs.Common.{◌≡◌, arith, inl, inr, map, rules, subst}
use Rattle.std.proofs.lemmas.Result.{IfErr-weaker, err_from_is_err_and}
use Rattle.std.specs.String.{string_bytes}
use Rattle.sqlite.specs.Held.{state}
use Rattle.sqlite.specs.State.{HasCleanDisk}
use Rattle.ds_store_table.specs.Statements.{FailsToKeep, insertion}
use Rattle.ds_store_table.proofs.Failing.{undone}
use Rattle.ds_store_table.proofs.lines.append.Goals as goal

pub returns-in_err-fill-clause-err : goal.returns-in_err-fill-clause-err
returns-in_err-fill-clause-err g c clean =
    let begun = c.transaction-tx.ensures.begun in
    let end = c.drop-tx.new.self.0 in
    let same : end ≡ c.conn-1.given.0 = search rules in
    let late : HasCleanDisk (state g.S.Store end) = search rules in
    let ran = rw begun at (c.in_err-fill.ensures.runs (omega (arith, c.drop-tx.ensures.survives.clean)) (rw begun)) in
    let p = err_from_is_err_and c.from_residual.result c.from_residual.ensures.1 in
    let fails = subst (λ h. FailsToKeep g.S.Store (map insertion (map string_bytes c.args.lines.now)) c.args.conn.now h c.in_err-fill.field-0.0) same (inr (c.fill.new.tx.conn.now, inl (ran, c.drop-tx.ensures.undone late))) in
    rw (p.1, p.2) fails

pub returns-in_err-fill-clause-undone : goal.returns-in_err-fill-clause-undone
returns-in_err-fill-clause-undone g c clean =
    IfErr-weaker c.from_residual.result _ _ (λ e fails. undone g.S.Store (map insertion (map string_bytes c.args.lines.now)) c.args.conn.now _ e (c.is_autocommit.ensures.settled (search rules)) fails) (returns-in_err-fill-clause-err g c clean)

pub returns-clause-err : goal.returns-clause-err
returns-clause-err g c clean =
    let begun = c.transaction-tx.ensures.begun in
    let end = c.commit.new.self.0 in
    let same : end ≡ c.conn-2-1.given.0 = search rules in
    let late : HasCleanDisk (state g.S.Store end) = search rules in
    let ran = rw begun at (c.in_ok-fill.ensures.runs (omega (arith, c.commit.ensures.survives.clean)) (rw begun)) in
    IfErr-weaker c.commit.result _ _ (λ e fails. subst (λ h. FailsToKeep g.S.Store (map insertion (map string_bytes c.args.lines.now)) c.args.conn.now h e) same (inr (c.fill.new.tx.conn.now, inr (ran, fails)))) (c.commit.ensures.err late)

pub returns-clause-undone : goal.returns-clause-undone
returns-clause-undone g c clean =
    IfErr-weaker c.commit.result _ _ (λ e fails. undone g.S.Store (map insertion (map string_bytes c.args.lines.now)) c.args.conn.now _ e (c.is_autocommit.ensures.settled (search rules)) fails) (returns-clause-err g c clean)
