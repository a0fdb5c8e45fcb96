-- Where a call leaves the seat of its process.
use Rattle.std.proofs.Common.{ℕ, ◌≡◌, ◌∙◌, List, [], ◌∷◌, ◌++◌, refl, sym, ap, subst}
use Rattle.std.proofs.lemmas.List.{append-nil}
use Rattle.std.specs.Prelude.{Option, Some, None, MatchOption}
use Rattle.atomic_table.specs.Table.{Me}
use Rattle.ds_state.specs.Works.{PlainWorkCall, PlainShowCall, PlainRecoverCall}
use Rattle.ds_state.specs.Edits.{PlainEditCall}
use Rattle.ds_state.specs.declared.recovery.RecoverStage.{RecoverStage}
use Rattle.ds_state.specs.declared.recovery.RecoverStage.TheVariants as recover_stage
use Rattle.ds_state.specs.declared.show.ShowStage.{ShowStage}
use Rattle.ds_state.specs.declared.show.ShowStage.TheVariants as show_stage
use Rattle.ds_state.specs.declared.situation.Situation.{Situation}
use Rattle.ds_state.specs.declared.stage.Stage.{Stage}
use Rattle.ds_state.specs.declared.stage.Stage.TheVariants as edit_stage
use Rattle.ds_state.specs.declared.work.WorkStage.{WorkStage}
use Rattle.ds_state.specs.declared.work.WorkStage.TheVariants as work_stage
use Rattle.pm_base.specs.Structures.{Calls}
use Rattle.pm_base.specs.declared.history.Deed.TheVariants.{Began}
use Rattle.pm_board.specs.declared.board.View.{View}
use Rattle.pm_board.specs.Machines.{answered_so, Grows, Ran, still, steps, Settles, Breaks, before_all, within}
use Rattle.pm_board.specs.Views.{deeds_at, seated, RunsOne}
use Rattle.ds_structure.specs.Calls.{EditGoes, WorkGoes, ShowGoes, RecoveryGoes, edit_says, work_says, show_says, recovery_says}
use Rattle.ds_structure.specs.Sheet.{sheet}
use Rattle.ds_structure.specs.declared.response.Response.{Response}
use Rattle.ds_structure.specs.declared.sheet.SheetKey.{SheetKey}
use Rattle.pm_base.specs.Structures.{Came}
use Rattle.pm_base.specs.Structures as coming
use Rattle.ds_structure_shared.specs.Ends.{Ends, Stops, unbegun, inside}

module _ {C E : Type 0} (c : Calls SheetKey Situation Response C E) (key : SheetKey) (quiet : (d : C) → c.goes d → c.says d ≡ []) (kin : (d : C) (word : ℕ) → c.process (c.next d word) ≡ c.process d) where
  -- nothing is answered before the end
  ran_says : (first call : C) (ts : List Response) (n : ℕ) → c.goes first → Ran c first call ts n → ts ≡ c.says call
  ran_says first call ts n go still = sym (quiet first go)
  ran_says first call us m go (steps d ts n word ran goes) =
      ap (λ (l : List Response). c.says (c.next d word) ++ l) (ran_says first d ts n go ran ∙ quiet d goes) ∙ append-nil (c.says (c.next d word))

  ran_process : (first call : C) (ts : List Response) (n : ℕ) → Ran c first call ts n → c.process call ≡ c.process first
  ran_process first call ts n still = refl
  ran_process first call us m (steps d ts n word ran goes) = kin d word ∙ ran_process first d ts n ran

  ran_came : (first call : C) (ts : List Response) (n : ℕ) → Ran c first call ts n → Came c first call
  ran_came first call ts n still = coming.still
  ran_came first call us m (steps d ts n word ran goes) = coming.steps d word (ran_came first d ts n ran) goes

  ended : (first : C) (old me : Me ℕ (View Situation Response)) (call : C) (end : E) (n : ℕ) → c.goes first → Settles sheet c key first old me call end n → Ends c first old me call end n
  ended first old me call end n go h = record {
    ends = h.ends;
    came = ran_came first call h.is.responses n h.is.ran;
    sits = record { runs = record { seat = seated (c.process call) (c.doing call) h.buffer h.is.held; at = h.is.at; own = ran_process first call h.is.responses n h.is.ran; seen = _; looked = h.is.grows.seen }; does = refl };
    done = ap (λ d. d.done) (ap deeds_at h.is.at) ∙ (h.is.done ∙ ap (λ (l : List Response). answered_so l ++ (Began (c.doing first) ∷ (deeds_at old).done)) (ran_says first call h.is.responses n go h.is.ran));
    grows = subst (λ d. Grows (c.process first) (deeds_at old) d n) (sym (ap deeds_at h.is.at)) h.is.grows;
    few = h.few;
  }

  stopped : (first : C) (old me : Me ℕ (View Situation Response)) (call : C) (n : ℕ) → c.goes first → Breaks sheet c key first old me call n → Stops c first old me call n
  stopped first old me call n go before_all = unbegun
  stopped first old me call n go (within m d x k is few goes) = inside m d k (ran_came first d is.responses k is.ran) goes
      (record { runs = record { seat = seated (c.process d) (c.doing d) x is.held; at = is.at; own = ran_process first d is.responses k is.ran; seen = _; looked = is.grows.seen }; does = refl })
      (ap (λ z. z.done) (ap deeds_at is.at) ∙ (is.done ∙ ap (λ (l : List Response). answered_so l ++ (Began (c.doing first) ∷ (deeds_at old).done)) (ran_says first d is.responses k go is.ran ∙ quiet d goes)))
      (subst (λ z. Grows (c.process first) (deeds_at old) z k) (sym (ap deeds_at is.at)) is.grows)
      few

  pub out : (first : C) (old me : Me ℕ (View Situation Response)) (call : C) (Stopped Whole : ℕ → Type 0) (o : Option E) → c.goes first
      → MatchOption o ((n : ℕ) × Stopped n × Breaks sheet c key first old me call n) (λ end. (n : ℕ) × Whole n × Settles sheet c key first old me call end n)
      → MatchOption o ((n : ℕ) × Stopped n × Stops c first old me call n) (λ end. (n : ℕ) × Whole n × Ends c first old me call end n)
  out first old me call Stopped Whole None go h = (h.0, h.1, stopped first old me call h.0 go h.2)
  out first old me call Stopped Whole (Some end) go h = (h.0, h.1, ended first old me call end h.0 go h.2)

  broken : (first : C) (old me : Me ℕ (View Situation Response)) (call : C) (n : ℕ) → RunsOne old (c.process first) → Stops c first old me call n → RunsOne me (c.process first)
  broken first old me call n runs unbegun = runs
  broken first old me call n runs (inside m d k came goes sits done grows few) = sits.runs

  pub runs_out : (first : C) (old me : Me ℕ (View Situation Response)) (call : C) (Stopped Whole : ℕ → Type 0) (o : Option E) → RunsOne old (c.process first)
      → MatchOption o ((n : ℕ) × Stopped n × Stops c first old me call n) (λ end. (n : ℕ) × Whole n × Ends c first old me call end n) → RunsOne me (c.process first)
  runs_out first old me call Stopped Whole None runs h = broken first old me call h.0 runs h.2
  runs_out first old me call Stopped Whole (Some end) runs h = h.2.sits.runs

-- ---- what stays of a call

module _ {C E : Type 0} (c : Calls SheetKey Situation Response C E) (key : SheetKey) (P : C → Type 0) (keeps : (d : C) (word : ℕ) → P d → P (c.next d word)) where
  ran_kept : (first call : C) (ts : List Response) (n : ℕ) → P first → Ran c first call ts n → P call
  ran_kept first call ts n h still = h
  ran_kept first call us m h (steps d ts n word ran goes) = keeps d word (ran_kept first d ts n h ran)

  pub kept_out : (first : C) (old me : Me ℕ (View Situation Response)) (call : C) (Stopped Whole : ℕ → Type 0) (o : Option E) → P first
      → MatchOption o ((n : ℕ) × Stopped n × Breaks sheet c key first old me call n) (λ end. (n : ℕ) × Whole n × Settles sheet c key first old me call end n) → P call
  kept_out first old me call Stopped Whole None h k = broken_off me call k.0 k.2
    where
      broken_off : (m : Me ℕ (View Situation Response)) (d : C) (n : ℕ) → Breaks sheet c key first old m d n → P d
      broken_off m d n before_all = h
      broken_off m d n (within m2 d2 x j is few goes) = ran_kept first d2 is.responses j h is.ran
  kept_out first old me call Stopped Whole (Some end) h k = ran_kept first call k.2.is.responses k.0 h k.2.is.ran

-- ---- a call that goes on was answered nothing

pub quiet_edit : (e : PlainEditCall) (s : Stage) → EditGoes s → edit_says e s ≡ []
quiet_edit e (edit_stage.Answer how) go = absurd go
quiet_edit e _ go = refl

pub quiet_work : (e : PlainWorkCall) (s : WorkStage) → WorkGoes s → work_says e s ≡ []
quiet_work e (work_stage.Answer end) go = absurd go
quiet_work e _ go = refl

pub quiet_show : (e : PlainShowCall) (s : ShowStage) → ShowGoes s → show_says e s ≡ []
quiet_show e (show_stage.Answer end) go = absurd go
quiet_show e _ go = refl

pub quiet_recovery : (e : PlainRecoverCall) (s : RecoverStage) → RecoveryGoes s → recovery_says e s ≡ []
quiet_recovery e (recover_stage.Answer how) go = absurd go
quiet_recovery e _ go = refl
