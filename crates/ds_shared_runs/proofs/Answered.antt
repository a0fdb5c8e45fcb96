-- What a process was answered is the reply of a step.
use Rattle.std.proofs.Common.{ℕ, ◌≡◌, ◌<◌, ◌≤◌, Bool, List, [], ◌∷◌, ◌++◌, length, refl, sym, ap, ◌∙◌, subst, inl, inr, arith, zero, suc, eq-eqb, ne_eqb, length-append}
use Rattle.std.specs.Prelude.{slice_get, Some, if◌then◌else◌, ◌==◌}
use Rattle.std.proofs.lemmas.Bool.{cases_eq}
use Rattle.ds_state.specs.CallsFit.{CallFits, EditFits}
use Rattle.ds_state.specs.Edits.{PlainEditCall}
use Rattle.ds_state.specs.Sound.{IsSound}
use Rattle.ds_state.specs.Value.{WorldValue, world_of}
use Rattle.ds_state.specs.Works.{PlainWorkCall, PlainShowCall, PlainRecoverCall}
use Rattle.ds_state.specs.World.{PlainWorld}
use Rattle.ds_state.specs.declared.recovery.RecoverStage.{RecoverStage}
use Rattle.ds_state.specs.declared.recovery.RecoverStage.TheVariants as recover_stage
use Rattle.ds_state.specs.declared.show.ShowStage.{ShowStage}
use Rattle.ds_state.specs.declared.show.ShowStage.TheVariants as show_stage
use Rattle.ds_state.specs.declared.situation.Situation.{Situation}
use Rattle.ds_state.specs.declared.situation.Situation.TheVariants.{Idle, Stopped, Editing, Working, Recovering, Showing, Migrating}
use Rattle.ds_state.specs.declared.stage.Stage.{Stage}
use Rattle.ds_state.specs.declared.stage.Stage.TheVariants as stage
use Rattle.ds_state.specs.declared.turn.Turn.{Turn}
use Rattle.ds_state.specs.declared.turn.Turn.TheVariants as turns
use Rattle.ds_state.specs.declared.work.WorkEnd.{WorkEnd}
use Rattle.ds_state.specs.declared.work.WorkStage.{WorkStage}
use Rattle.ds_state.specs.declared.work.WorkStage.TheVariants as work_stage
use Rattle.ds_edit.specs.EditTakes as edits
use Rattle.ds_work.specs.WorkTakes as works
use Rattle.ds_show.specs.ShowSteps as show_steps
use Rattle.ds_recover.specs.RecoverySteps as recovery_steps
use Rattle.ds_core.specs.EditEvents.{edit_reply}
use Rattle.ds_core.specs.WorkEvents.{work_reply}
use Rattle.ds_core.specs.ShowEvents.{show_reply}
use Rattle.ds_core.specs.RecoveryEvents.{recovery_reply}
use Rattle.ds_core.specs.Takes.{WorldRun, Fits, world_at}
use Rattle.ds_core.specs.declared.event.Event.{Event}
use Rattle.ds_core.specs.declared.event.Event.TheVariants.{BeginEdit, BeginWork, BeginShow, BeginRecover, BeginMigrate, Step, Offer, Evict, Stop, Crash}
use Rattle.ds_core.specs.declared.reply.Reply.{Reply}
use Rattle.ds_shared_runs.specs.declared.history.CallEvent.{CallEvent}
use Rattle.ds_shared_runs.specs.declared.history.CallEvent.TheVariants.{Began, Edited, Worked, Recovered, Reported}
use Rattle.pm_base.specs.Structures.{In}
use Rattle.ds_shared_runs.specs.History.{Happened, Moves, StepMoves, edit, work, report, recovery, edit_answered, work_answered, show_answered, recovery_answered, answered_at, answered_from}
use Rattle.ds_shared_runs.specs.CallEvents.{event_of, reply_to, IsIn, StandsAt}

-- ---- lists

get_still : {A : Type 0} (xs : List A) (x : A) (k : ℕ) → k < length xs → slice_get (xs ++ x ∷ []) k ≡ slice_get xs k
get_still [] x k low = absurd (omega arith)
get_still (y ∷ xs) x zero low = refl
get_still (y ∷ xs) x (suc k) low = get_still xs x k (omega arith)

get_last : {A : Type 0} (xs : List A) (x : A) → slice_get (xs ++ x ∷ []) (length xs) ≡ Some x
get_last [] x = refl
get_last (y ∷ xs) x = get_last xs x

-- ---- runs

as_many : (old new : WorldValue) (events : List Event) (replies : List Reply) → WorldRun old events replies new → length replies ≡ length events
as_many old new [] [] run = refl
as_many old new (e ∷ events) (r ∷ replies) run = ap suc (as_many run.0 new events replies run.2)
as_many old new [] (r ∷ replies) run = absurd run
as_many old new (e ∷ events) [] run = absurd run

-- a run with one more event
abbrev pub run_more : (old mid new : WorldValue) (events : List Event) (event : Event) (replies : List Reply) (reply : Reply) → WorldRun old events replies mid → Fits mid event reply new
    → WorldRun old (events ++ event ∷ []) (replies ++ reply ∷ []) new
run_more old mid new [] event [] reply run fits = (new, subst (λ (v : WorldValue). Fits v event reply new) run fits, refl)
run_more old mid new (e ∷ events) event (r ∷ replies) reply run fits = (run.0, run.1, run_more run.0 mid new events event replies reply run.2 fits)
run_more old mid new [] event (r ∷ replies) reply run fits = absurd run
run_more old mid new (e ∷ events) event [] reply run fits = absurd run

at_still : (old mid new : WorldValue) (events : List Event) (event : Event) (replies : List Reply) (reply : Reply) (run : WorldRun old events replies mid) (fits : Fits mid event reply new) (k : ℕ) → k ≤ length events
    → world_at old (events ++ event ∷ []) (replies ++ reply ∷ []) new (run_more old mid new events event replies reply run fits) k ≡ world_at old events replies mid run k
at_still old mid new [] event [] reply run fits zero low = refl
at_still old mid new [] event [] reply run fits (suc k) low = absurd (omega arith)
at_still old mid new (e ∷ events) event (r ∷ replies) reply run fits zero low = refl
at_still old mid new (e ∷ events) event (r ∷ replies) reply run fits (suc k) low = at_still run.0 mid new events event replies reply run.2 fits k (omega arith)
at_still old mid new [] event (r ∷ replies) reply run fits k low = absurd run
at_still old mid new (e ∷ events) event [] reply run fits k low = absurd run

at_last : (old new : WorldValue) (events : List Event) (replies : List Reply) (run : WorldRun old events replies new) → world_at old events replies new run (length events) ≡ new
at_last old new [] [] run = sym run
at_last old new (e ∷ events) (r ∷ replies) run = at_last run.0 new events replies run.2
at_last old new [] (r ∷ replies) run = absurd run
at_last old new (e ∷ events) [] run = absurd run

pub answered_still : (old mid new : WorldValue) (events : List Event) (event : Event) (replies : List Reply) (reply : Reply) (run : WorldRun old events replies mid) (fits : Fits mid event reply new) (p : ℕ) (t : CallEvent) (place : ℕ)
    → StandsAt old events replies mid run p t place → StandsAt old (events ++ event ∷ []) (replies ++ reply ∷ []) new (run_more old mid new events event replies reply run fits) p t place
answered_still old mid new events event replies reply run fits p t place a =
    let n = as_many old mid events replies run in
    let low = a.within in record {
      within = (let l = length-append events (event ∷ []) in omega (arith, l, low));
      happens = record {
        event_is = get_still events event place low ∙ a.happens.event_is;
        reply_is = get_still replies reply place (omega (arith, n, low)) ∙ a.happens.reply_is;
      };
      call = subst (IsIn t) (sym (ap (λ (v : WorldValue). (world_of v).situation p) (at_still old mid new events event replies reply run fits place (omega (arith, low))))) a.call;
    }

-- ---- one step

-- a step of the process has the answer that the process got, of the call that it was in
pub record Tells (w : PlainWorld) (p : ℕ) (event : Event) (reply : Reply) (t : CallEvent) : Type 0 where
  pub event_is : event ≡ event_of p t
  pub reply_is : reply ≡ reply_to t
  pub call : IsIn t (w.situation p)

one_answered : (t u : CallEvent) → In (u ∷ []) t → u ≡ t
one_answered t u (inl is) = is
one_answered t u (inr none) = absurd none

-- of an edit: the answer says how it ended
edit_says : (n : ℕ) (e : PlainEditCall) (s : Stage) (t : CallEvent) → n ≡ e.processes → In (edit_answered e s) t → (edit_reply (edits.turn_at n e.number s) ≡ reply_to t) × IsIn t (Editing (record e { stage = s }))
edit_says n e (stage.Answer how) t same here =
    let is = one_answered t (Edited (record e { stage = stage.Answer how }) how) here in
    subst (λ (z : CallEvent). (edit_reply (edits.turn_at n e.number (stage.Answer how)) ≡ reply_to z) × IsIn z (Editing (record e { stage = stage.Answer how }))) is
    (ap (λ (k : ℕ). edit_reply (edits.turn_at k e.number (stage.Answer how))) same, refl)
edit_says n e _ t same here = absurd here

show_says : (e : PlainShowCall) (s : ShowStage) (t : CallEvent) → In (show_answered e s) t → (show_reply (show_steps.effect_at s) ≡ reply_to t) × IsIn t (Showing (record e { stage = s }))
show_says e (show_stage.Answer end) t here =
    subst (λ (z : CallEvent). (show_reply (show_steps.effect_at (show_stage.Answer end)) ≡ reply_to z) × IsIn z (Showing (record e { stage = show_stage.Answer end }))) (one_answered t (Reported (record e { stage = show_stage.Answer end }) end) here) (refl, refl)
show_says e _ t here = absurd here

recovery_says : (e : PlainRecoverCall) (s : RecoverStage) (t : CallEvent) → In (recovery_answered e s) t → (recovery_reply (recovery_steps.effect_at e s) ≡ reply_to t) × IsIn t (Recovering (record e { stage = s }))
recovery_says e (recover_stage.Answer how) t here =
    subst (λ (z : CallEvent). (recovery_reply (recovery_steps.effect_at e (recover_stage.Answer how)) ≡ reply_to z) × IsIn z (Recovering (record e { stage = recover_stage.Answer how }))) (one_answered t (Recovered (record e { stage = recover_stage.Answer how }) (recovery_steps.end_of e how)) here) (refl, refl)
recovery_says e _ t here = absurd here

work_none : (e : PlainWorkCall) (s : WorkStage) (t : CallEvent) → ((end : WorkEnd) → s ≡ work_stage.Answer end → ⊥) → In (work_answered e s) t → ⊥
work_none e (work_stage.Answer end) t none here = none end refl
work_none e _ t none here = here

work_says : (e : PlainWorkCall) (old new : PlainWorld) (what : Turn WorkEnd) (t : CallEvent) → works.TakesTurn e old new what → In (work_answered e e.stage) t → (work_reply what ≡ reply_to t) × IsIn t (Working e)
work_says e old new turns.GoesOn t (works.steps word s none) here = absurd (work_none e e.stage t none here)
work_says e old new turns.GoesOn t (works.reads content inputs is s) here = absurd (work_none e e.stage t (λ end over. cc) here)
work_says e old new turns.GoesOn t (works.lacked is b) here = absurd (work_none e e.stage t (λ end over. cc) here)
work_says e old new (turns.Answers end) t (works.answers end' is s) here =
    let there : In (work_answered e (work_stage.Answer end)) t = subst (λ (z : WorkStage). In (work_answered e z) t) is here in
    let one : Worked (record e { stage = work_stage.Answer end }) end ≡ t = one_answered t _ there in
    subst (λ (z : CallEvent). (work_reply (turns.Answers end) ≡ reply_to z) × IsIn z (Working e)) one (refl, ap (λ (z : WorkStage). Working (record e { stage = z })) is)

module _ (old new : PlainWorld) (p : ℕ) (reply : Reply) (t : CallEvent) (sound : IsSound old) (low : p < old.layout.processes) where
  step_says : StepMoves old p reply new → In (answered_at (old.situation p)) t → (reply ≡ reply_to t) × IsIn t (old.situation p)
  step_says (edit m) here =
      let fits : EditFits old p m.edit = subst (λ (s : Situation). CallFits old p s) m.at (sound.calls p low) in
      let k = edit_says old.layout.processes m.edit m.edit.stage t fits.sheet.processes (subst (λ (s : Situation). In (answered_at s) t) m.at here) in
      (m.is ∙ k.0, subst (λ (s : Situation). IsIn t s) (sym m.at) k.1)
  step_says (work m) here = let k = work_says m.work old new m.what t m.turn (subst (λ (s : Situation). In (answered_at s) t) m.at here) in (m.is ∙ k.0, subst (λ (s : Situation). IsIn t s) (sym m.at) k.1)
  step_says (report m) here = let k = show_says m.report m.report.stage t (subst (λ (s : Situation). In (answered_at s) t) m.at here) in (m.is ∙ k.0, subst (λ (s : Situation). IsIn t s) (sym m.at) k.1)
  step_says (recovery m) here = let k = recovery_says m.recovery m.recovery.stage t (subst (λ (s : Situation). In (answered_at s) t) m.at here) in (m.is ∙ k.0, subst (λ (s : Situation). IsIn t s) (sym m.at) k.1)

-- a step reports an answer alone
no_begin : (s : Situation) (t : CallEvent) (p : ℕ) → In (answered_at s) t → Step p ≡ event_of p t
no_begin (Editing e) t p here = by e.stage here
  where
    by : (s : Stage) → In (edit_answered e s) t → Step p ≡ event_of p t
    by (stage.Answer how) there = ap (event_of p) (one_answered t _ there)
    by _ there = absurd there
no_begin (Working e) t p here = by e.stage here
  where
    by : (s : WorkStage) → In (work_answered e s) t → Step p ≡ event_of p t
    by (work_stage.Answer end) there = ap (event_of p) (one_answered t _ there)
    by _ there = absurd there
no_begin (Recovering e) t p here = by e.stage here
  where
    by : (s : RecoverStage) → In (recovery_answered e s) t → Step p ≡ event_of p t
    by (recover_stage.Answer how) there = ap (event_of p) (one_answered t _ there)
    by _ there = absurd there
no_begin (Showing e) t p here = by e.stage here
  where
    by : (s : ShowStage) → In (show_answered e s) t → Step p ≡ event_of p t
    by (show_stage.Answer end) there = ap (event_of p) (one_answered t _ there)
    by _ there = absurd there
no_begin (Idle n) t p here = absurd here
no_begin Stopped t p here = absurd here
no_begin (Migrating e) t p here = absurd here

begin_says : (old : PlainWorld) (p q : ℕ) (event : Event) (reply : Reply) (t : CallEvent) → In (if q == p then Began event reply ∷ [] else []) t → Tells old p event reply t
begin_says old p q event reply t here = elim (cases_eq q p) [
  | inl same ↦ (
      let is : Began event reply ≡ t = one_answered t (Began event reply) (subst (λ (b : Bool). In (if b then Began event reply ∷ [] else []) t) (eq-eqb q p same) here) in
      subst (Tells old p event reply) is (record { event_is = refl; reply_is = refl; call = tt }))
  | inr other ↦ absurd (subst (λ (b : Bool). In (if b then Began event reply ∷ [] else []) t) (ne_eqb q p other) here)
]

pub event_says : (old new : PlainWorld) (p : ℕ) (event : Event) (reply : Reply) (t : CallEvent) → IsSound old → Moves old event reply new → In (answered_from p old event reply) t → Tells old p event reply t
event_says old new p (Step q) reply t sound m here = elim (cases_eq q p) [
  | inl same ↦ (
      let there : In (answered_at (old.situation q)) t = subst (λ (b : Bool). In (if b then answered_at (old.situation q) else []) t) (eq-eqb q p same) here in
      let k = step_says old new q reply t sound m.0 m.1 there in
      record { event_is = ap Step same ∙ no_begin (old.situation q) t p there; reply_is = k.0; call = subst (λ (r : ℕ). IsIn t (old.situation r)) same k.1 })
  | inr other ↦ absurd (subst (λ (b : Bool). In (if b then answered_at (old.situation q) else []) t) (ne_eqb q p other) here)
]
event_says old new p (BeginEdit r) reply t sound m here = begin_says old p r.process (BeginEdit r) reply t here
event_says old new p (BeginWork q c) reply t sound m here = begin_says old p q (BeginWork q c) reply t here
event_says old new p (BeginShow q) reply t sound m here = begin_says old p q (BeginShow q) reply t here
event_says old new p (BeginRecover q) reply t sound m here = begin_says old p q (BeginRecover q) reply t here
event_says old new p (BeginMigrate q) reply t sound m here = absurd here
event_says old new p (Offer value) reply t sound m here = absurd here
event_says old new p (Evict place) reply t sound m here = absurd here
event_says old new p (Stop q) reply t sound m here = absurd here
event_says old new p Crash reply t sound m here = absurd here

pub answered_last : (old mid new : WorldValue) (events : List Event) (replies : List Reply) (run : WorldRun old events replies mid) (h : Happened) (last : PlainWorld) (p : ℕ) (t : CallEvent) (fits : Fits mid h.event h.reply new)
    → world_of mid ≡ h.before → IsSound h.before → Moves h.before h.event h.reply last → In (answered_from p h.before h.event h.reply) t → StandsAt old (events ++ h.event ∷ []) (replies ++ h.reply ∷ []) new (run_more old mid new events h.event replies h.reply run fits) p t (length events)
answered_last old mid new events replies run h last p t fits is sound m here =
    let k = event_says h.before last p h.event h.reply t sound m here in
    let n = as_many old mid events replies run in record {
      within = (let l = length-append events (h.event ∷ []) in omega (arith, l));
      happens = record {
        event_is = get_last events h.event ∙ ap Some k.event_is;
        reply_is = ap (slice_get (replies ++ h.reply ∷ [])) (sym n) ∙ get_last replies h.reply ∙ ap Some k.reply_is;
      };
      call = subst (IsIn t) (sym (ap (λ (v : WorldValue). (world_of v).situation p) (at_still old mid new events h.event replies h.reply run fits (length events) (omega arith) ∙ at_last old mid events replies run)
          ∙ ap (λ (w : PlainWorld). w.situation p) is)) k.call;
    }
