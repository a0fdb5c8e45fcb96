-- What a write and a recovery tell.
use Rattle.std.proofs.Common.{Bool, true, false, ℕ, ◌≡◌, ◌∙◌, List, [], ◌∷◌, ◌++◌, refl, sym, ap, subst, arith}
use Rattle.std.proofs.lemmas.List.{append-nil}
use Rattle.atomic_table.specs.Table.{Me}
use Rattle.pm_base.specs.declared.history.Deed.TheVariants as deed
use Rattle.pm_board.specs.declared.board.View.{View}
use Rattle.pm_board.specs.Machines.{answered_so, Grows, Ran, still, steps, Breaks, Settles}
use Rattle.pm_board.specs.Views.{deeds_at}
use Rattle.pm_registers.specs.Calls.{recalled}
use Rattle.pm_registers.specs.Registers.{registers, writes, recoveries, write_doing, write_says, WriteGoes, recover_doing, recover_says, RecoverGoes}
use Rattle.pm_registers.specs.declared.calls.WriteCall.{WriteCall}
use Rattle.pm_registers.specs.declared.calls.WriteStage.{WriteStage}
use Rattle.pm_registers.specs.declared.calls.WriteStage.TheVariants as write
use Rattle.pm_registers.specs.declared.calls.RecoverCall.{RecoverCall}
use Rattle.pm_registers.specs.declared.calls.RecoverStage.{RecoverStage}
use Rattle.pm_registers.specs.declared.calls.RecoverStage.TheVariants as recover
use Rattle.pm_registers.specs.declared.calls.Doing.{Doing}
use Rattle.pm_registers.specs.declared.calls.Doing.TheVariants.{Idle, Writing, Recovering}
use Rattle.pm_registers.specs.declared.calls.Response.{Response}
use Rattle.pm_registers.specs.declared.calls.Response.TheVariants.{Wrote}
use Rattle.pm_registers.specs.Runs.{first_write}
use Rattle.pm_shared.specs.Writes.{BreaksRecovery, BreaksWrite, first_recovery, last_of, IsWritten, IsRecovered}
use Rattle.std.specs.Prelude.{Option, Some, None, MatchBool, MatchOption}
use Rattle.std.proofs.Common.{is_some}
use Rattle.pm_board.specs.Views.{RunsOne}
use Rattle.pm_shared.proofs.Sitting.{sits_at, runs_on}

quiet_write : (c : WriteCall) (s : WriteStage) → WriteGoes s → write_says c s ≡ []
quiet_write c write.StoreAnnounce go = refl
quiet_write c write.FlushAnnounce go = refl
quiet_write c write.BackAnnounce go = refl
quiet_write c write.LoadHead go = refl
quiet_write c (write.Swap seen) go = refl
quiet_write c write.FlushHead go = refl
quiet_write c write.BackHead go = refl
quiet_write c write.Done go = absurd go

-- the process and the value stay, and nothing is answered before the end
pub ran_write : (process value : ℕ) (c : WriteCall) (ts : List Response) (n : ℕ) → Ran writes (first_write process value) c ts n → (c.process ≡ process) × (c.value ≡ value) × (ts ≡ write_says c c.stage)
ran_write process value c ts n still = (refl, refl, refl)
ran_write process value c us m (steps d ts n word ran go) =
    let r = ran_write process value d ts n ran in (
      r.0,
      r.1,
      ap (λ (l : List Response). write_says (writes.next d word) (writes.next d word).stage ++ l) (r.2 ∙ quiet_write d d.stage go) ∙ append-nil (write_says (writes.next d word) (writes.next d word).stage),
    )

pub written : (n process value : ℕ) (old me : Me ℕ (View Doing Response)) (c : WriteCall) (end k : ℕ) → Settles registers writes n (first_write process value) old me c end k → IsWritten old me process value k
written n process value old me c end k h =
    let r = ran_write process value c h.is.responses k h.is.ran in
    let does : writes.doing c ≡ Idle value = ap (write_doing c) h.ends.0 ∙ ap Idle r.1 in
    let answered : h.is.responses ≡ Wrote value ∷ [] = r.2 ∙ (ap (write_says c) h.ends.0 ∙ ap (λ (v : ℕ). Wrote v ∷ []) r.1) in record {
      sits = sits_at me c.process process (writes.doing c) (Idle value) h.buffer h.is.held _ h.is.at h.is.grows.seen r.0 does;
      done = ap (λ d. d.done) (ap deeds_at h.is.at) ∙ (h.is.done ∙ ap (λ (l : List Response). answered_so l ++ (deed.Began (Writing (first_write process value)) ∷ (deeds_at old).done)) answered);
      grows = subst (λ d. Grows process (deeds_at old) d k) (sym (ap deeds_at h.is.at)) h.is.grows;
      few = (let most = h.few in omega (arith, most));
    }

quiet_recovery : (s : RecoverStage) → RecoverGoes s → recover_says s ≡ []
quiet_recovery recover.LoadAnnounce go = refl
quiet_recovery (recover.FlushAnnounce last) go = refl
quiet_recovery (recover.BackAnnounce last) go = refl
quiet_recovery (recover.LoadHead last) go = refl
quiet_recovery (recover.FlushHead last head) go = refl
quiet_recovery (recover.BackHead last head) go = refl
quiet_recovery (recover.Done last head) go = absurd go

pub ran_recovery : (process : ℕ) (c : RecoverCall) (ts : List Response) (n : ℕ) → Ran recoveries (first_recovery process) c ts n → (c.process ≡ process) × (ts ≡ recover_says c.stage)
ran_recovery process c ts n still = (refl, refl)
ran_recovery process c us m (steps d ts n word ran go) =
    let r = ran_recovery process d ts n ran in (
      r.0,
      ap (λ (l : List Response). recover_says (recoveries.next d word).stage ++ l) (r.1 ∙ quiet_recovery d.stage go) ∙ append-nil (recover_says (recoveries.next d word).stage),
    )

pub recovered : (n process : ℕ) (old me : Me ℕ (View Doing Response)) (c : RecoverCall) (end : Response) (k : ℕ) → Settles registers recoveries n (first_recovery process) old me c end k → IsRecovered old me process end k
recovered n process old me c end k h =
    let r = ran_recovery process c h.is.responses k h.is.ran in
    let last : ℕ = h.ends.0 in
    let head : ℕ = h.ends.1 in
    let at : c.stage ≡ recover.Done last head = h.ends.2 in
    let is : end ≡ recalled last head = h.ends.3 in
    let does : recoveries.doing c ≡ Idle (last_of end) = ap (recover_doing c) at ∙ ap (λ (t : Response). Idle (last_of t)) (sym is) in
    let answered : h.is.responses ≡ end ∷ [] = r.1 ∙ (ap recover_says at ∙ ap (λ (t : Response). t ∷ []) (sym is)) in record {
      sits = sits_at me c.process process (recoveries.doing c) (Idle (last_of end)) h.buffer h.is.held _ h.is.at h.is.grows.seen r.0 does;
      done = ap (λ d. d.done) (ap deeds_at h.is.at) ∙ (h.is.done ∙ ap (λ (l : List Response). answered_so l ++ (deed.Began (Recovering (first_recovery process)) ∷ (deeds_at old).done)) answered);
      grows = subst (λ d. Grows process (deeds_at old) d k) (sym (ap deeds_at h.is.at)) h.is.grows;
      few = (let most = h.few in omega (arith, most));
    }

-- how a write comes out, by what its fuse was asked
pub write_out : (A B : ℕ → Type 0) (n process value : ℕ) (old me : Me ℕ (View Doing Response)) (c : WriteCall) (r : Option ℕ) → RunsOne old process
    → MatchOption r ((k : ℕ) × A k × Breaks registers writes n (first_write process value) old me c k) (λ end. (k : ℕ) × B k × Settles registers writes n (first_write process value) old me c end k)
    → MatchBool (is_some r) ((k : ℕ) × B k × IsWritten old me process value k) ((k : ℕ) × A k × BreaksWrite n old me process value k)
write_out A B n process value old me c None runs h = (h.0, h.1, (c, h.2))
write_out A B n process value old me c (Some end) runs h = (h.0, h.1, written n process value old me c end h.0 h.2)

pub recovery_out : (A B : ℕ → Type 0) (n process : ℕ) (old me : Me ℕ (View Doing Response)) (c : RecoverCall) (r : Option Response) → RunsOne old process
    → MatchOption r ((k : ℕ) × A k × Breaks registers recoveries n (first_recovery process) old me c k) (λ end. (k : ℕ) × B k × Settles registers recoveries n (first_recovery process) old me c end k)
    → MatchOption r ((k : ℕ) × A k × BreaksRecovery n old me process k) (λ t. (k : ℕ) × B k × IsRecovered old me process t k)
recovery_out A B n process old me c None runs h = (h.0, h.1, (c, h.2))
recovery_out A B n process old me c (Some t) runs h = (h.0, h.1, recovered n process old me c t h.0 h.2)

-- whatever came of it, the seat runs its process alone
pub write_runs : (A B : ℕ → Type 0) (n : ℕ) (old me : Me ℕ (View Doing Response)) (process value : ℕ) (b : Bool) → RunsOne old process → MatchBool b ((k : ℕ) × B k × IsWritten old me process value k) ((k : ℕ) × A k × BreaksWrite n old me process value k) → RunsOne me process
write_runs A B n old me process value true runs h = h.2.sits.runs
write_runs A B n old me process value false runs h = runs_on registers writes n (first_write process value) old me h.2.0 h.0 process runs (λ d ts x k m is. (ran_write process value d is.responses k is.ran).0) h.2.1

pub recovery_runs : (A B : ℕ → Type 0) (n : ℕ) (old me : Me ℕ (View Doing Response)) (process : ℕ) (r : Option Response) → RunsOne old process → MatchOption r ((k : ℕ) × A k × BreaksRecovery n old me process k) (λ t. (k : ℕ) × B k × IsRecovered old me process t k) → RunsOne me process
recovery_runs A B n old me process None runs h = runs_on registers recoveries n (first_recovery process) old me h.2.0 h.0 process runs (λ d ts x k m is. (ran_recovery process d is.responses k is.ran).0) h.2.1
recovery_runs A B n old me process (Some t) runs h = h.2.sits.runs
