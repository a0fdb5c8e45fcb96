-- Answers of a recovery that are no steps of the ledger.
use Rattle.std.proofs.Common.{ℕ, ◌≡◌, ap, ◌∙◌, subst, inl, inr, Some}
use Rattle.std.specs.Prelude.{Contains}
use Rattle.ds_state.specs.declared.recovery.RecoveryEnd.TheVariants.{Nothing}
use Rattle.ds_core.specs.Moments.{Open, Closed, Ledger}
use Rattle.ds_core.specs.LedgerSteps.{told_of, Resolves}
use Rattle.ds_core.proofs.Ledgers.{one_some}
use Rattle.ds_core.proofs.Moved.{none_some}

-- where the process's open edit is linearized
pub nothing_of_counted : (old new : Ledger) (p : ℕ) (o : Open) → old.opens p ≡ Some o → Contains old.counted o.it → Resolves old p Nothing new → ⊥
nothing_of_counted old new p o is there (inl f) = f.out (subst (λ (x : Open). Contains old.counted x.it) (one_some (old.opens p) o f.open_edit is f.was) there)
nothing_of_counted old new p o is there (inr r) = none_some (old.opens p) o r.none is

nothing_told : (c : Closed) → Nothing ≡ told_of (Some c) → ⊥
nothing_told c is = cc

-- where an edit of the process was closed
pub nothing_of_closed : (old new : Ledger) (p : ℕ) (c : Closed) → old.told p ≡ Some c → Resolves old p Nothing new → ⊥
nothing_of_closed old new p c is (inl f) = nothing_told c (f.repeats ∙ ap told_of is)
nothing_of_closed old new p c is (inr r) = nothing_told c (r.repeats ∙ ap told_of is)
