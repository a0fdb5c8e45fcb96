use Rattle.std.proofs.Common.{rules, ◌≡◌, ◌<◌, ℕ, Some, None, length, get_or, subst, sym, refl, ◌∙◌, inr}
use Rattle.std.specs.Prelude.{slice_set}
use Rattle.ds_store_journal.specs.declared.standing.Standing.{Standing}
use Rattle.ds_store_journal.specs.Standings.{AreStandings, noted, standing_after}
use Rattle.ds_store_journal.proofs.Noting.{follows, if_err, set_as_noted, uncounted_after}
use Rattle.ds_store_journal.proofs.standings.follow.Goals as goal

pub returns-in-Some-clause-standings : goal.returns-in-Some-clause-standings
returns-in-Some-clause-standings c lines are =
    let layout = c.args.layout.now in
    let xs = c.args.standings.now.items in
    let line = c.args.line.now in
    let m = c.in-Some.field-0 in
    let slice : c.deref.result.now ≡ xs = c.deref.ensures.value in
    let low : m.process < length xs = search rules in
    let told = subst (λ ys. (p : ℕ) (d : Standing) → p < layout.processes → standing_after layout p (get_or ys p d) line ≡ noted p (get_or ys p d) c.in_ok-process.field-0) slice c.in_ok-process.ensures.after in
    let after = subst (λ o. (p : ℕ) (d : Standing) → p < layout.processes → standing_after layout p (get_or xs p d) line ≡ noted p (get_or xs p d) o) c.in-Some.is told in
    follows layout xs (slice_set xs m.process m.standing) lines line (Some m) after (λ p d below. set_as_noted xs m p d low) are

pub returns-in_default-clause-standings : goal.returns-in_default-clause-standings
returns-in_default-clause-standings c lines are =
    let layout = c.args.layout.now in
    let xs = c.args.standings.now.items in
    let line = c.args.line.now in
    let slice : c.deref.result.now ≡ xs = c.deref.ensures.value in
    let told = subst (λ ys. (p : ℕ) (d : Standing) → p < layout.processes → standing_after layout p (get_or ys p d) line ≡ noted p (get_or ys p d) c.in_ok-process.field-0) slice c.in_ok-process.ensures.after in
    let after = subst (λ o. (p : ℕ) (d : Standing) → p < layout.processes → standing_after layout p (get_or xs p d) line ≡ noted p (get_or xs p d) o) c.in_default.is told in
    follows layout xs xs lines line None after (λ p d below. refl) are

pub returns-in_err-process-clause-full : goal.returns-in_err-process-clause-full
returns-in_err-process-clause-full c =
    let layout = c.args.layout.now in
    let full = c.in_err-process.ensures.full in
    if_err c.from_residual.result _ _ c.from_residual.ensures (λ fault is lines are.
    let same : fault ≡ c.in_err-process.field-0.0 = is in
    let old = subst (λ xs. AreStandings layout xs lines) (sym c.deref.ensures.value) are in
    inr (same ∙ full.0, uncounted_after layout c.deref.result.now lines c.args.line.now full.1.0 full.1.1 full.1.2 old))
