-- What was answered is right.
use Rattle.std.proofs.Common.{ℕ, ◌≡◌, ◌+◌, ◌<◌, List, [], ◌∷◌, ◌++◌, length, refl, sym, ap, ◌∙◌, subst, zero, suc, arith, get_or-set_same}
use Rattle.std.specs.Prelude.{slice_index_or, slice_set}
use Rattle.ds_eval.specs.declared.value.Value.{Value}
use Rattle.ds_state.specs.Reports.{PlainReports}
use Rattle.ds_state.specs.Value.{WorldValue, world_of, IsGood}
use Rattle.ds_state.specs.Works.{PlainShowCall}
use Rattle.ds_state.specs.World.{PlainWorld}
use Rattle.ds_state.specs.declared.answer.Answer.TheVariants.{Edit, Work, Recovery, Show, Migration}
use Rattle.ds_state.specs.declared.show.ShowEnd.{ShowEnd}
use Rattle.ds_state.specs.declared.show.ShowEnd.TheVariants.{Settled, Unsettled}
use Rattle.ds_state.specs.declared.situation.Situation.TheVariants.{Showing}
use Rattle.ds_state.specs.declared.turn.Turn.{Turn}
use Rattle.ds_state.specs.declared.turn.Turn.TheVariants as turns
use Rattle.ds_show.specs.ShowSteps.{answered}
use Rattle.ds_show.specs.ShowTakes as reports
use Rattle.ds_core.specs.Replies.{reply_of}
use Rattle.ds_core.specs.StepEvents as core
use Rattle.ds_core.specs.Takes.{WorldRun, world_at}
use Rattle.ds_core.specs.Headline.{SettledFits, kept_values}
use Rattle.ds_core.proofs.Acknowledged.{acknowledged_once, resolved_once}
use Rattle.ds_state.specs.EditEndings.{end_of}
use Rattle.ds_state.specs.declared.recovery.RecoveryEnd.TheVariants.{Last, Nothing}
use Rattle.ds_state.specs.declared.stage.Outcome.TheVariants.{Done, Overtaken}
use Rattle.ds_shared_runs.specs.Fitting.{Fits, ShowFits}
use Rattle.ds_core.specs.declared.event.Event.{Event}
use Rattle.ds_core.specs.declared.event.Event.TheVariants.{Step}
use Rattle.ds_core.specs.declared.reply.Reply.{Reply}
use Rattle.ds_core.specs.declared.reply.Reply.TheVariants.{Answered}
use Rattle.ds_shared_runs.specs.declared.history.CallEvent.{CallEvent}
use Rattle.ds_shared_runs.specs.declared.history.CallEvent.TheVariants.{Began, Edited, Worked, Recovered, Reported}
use Rattle.pm_base.specs.Structures.{In}
use Rattle.ds_shared_runs.specs.History.{Happened, answered_by, answered_from}
use Rattle.std.proofs.Common.{inl, inr}
use Rattle.pm_base.proofs.Lists.{in_append}
use Rattle.ds_shared_runs.specs.Runs.{IsRun, events_of, replies_of}
use Rattle.ds_shared_runs.specs.CallEvents.{Stands, StandsAt}
use Rattle.ds_shared_runs.specs.Answered.{WasRight}

good_at : (old new : WorldValue) (events : List Event) (replies : List Reply) (run : WorldRun old events replies new) → IsGood old → (k : ℕ) → IsGood (world_at old events replies new run k)
good_at old new [] [] run good k = good
good_at old new (e ∷ events) (r ∷ replies) run good zero = good
good_at old new (e ∷ events) (r ∷ replies) run good (suc k) = good_at run.0 new events replies run.2 run.1.good k
good_at old new [] (r ∷ replies) run good k = absurd run
good_at old new (e ∷ events) [] run good k = absurd run

-- the values that a settled show leaves are its own
left : (old new : WorldValue) (p : ℕ) (e : PlainShowCall) → IsGood old → (world_of old).situation p ≡ Showing e → core.StepsBy old p (Answered (Show Settled)) new → kept_values new p ≡ answered e
left old new p e good at (core.reports s) = by s.what s.is s.steps.reports
  where
    show : s.steps.show ≡ e
    show = let both : Showing s.steps.show ≡ Showing e = sym s.steps.at ∙ at in cc

    low : p < length old.reports.values
    low = let l = s.steps.there in let n = good.reports.processes in omega (arith, l, n)

    settled : new.reports ≡ reports.reports_by old.reports s.steps.show (turns.Answers Settled) → kept_values new p ≡ answered e
    settled is =
        ap (λ (r : PlainReports). slice_index_or r.values p []) is
        ∙ ap (λ (q : ℕ). slice_index_or (slice_set old.reports.values q (answered s.steps.show)) p []) s.steps.mine
        ∙ get_or-set_same old.reports.values p (answered s.steps.show) [] low
        ∙ ap answered show

    by : (what : Turn ShowEnd) → Answered (Show Settled) ≡ reply_of Show what → new.reports ≡ reports.reports_by old.reports s.steps.show what → kept_values new p ≡ answered e
    by turns.GoesOn said is = absurd (cc)
    by (turns.Answers Settled) said is = settled is
    by (turns.Answers (Unsettled r n)) said is = absurd (cc)
left old new p e good at (core.edits s) = absurd (no_edit s.what s.is)
  where
    no_edit : (what : Turn _) → Answered (Show Settled) ≡ reply_of Edit what → ⊥
    no_edit turns.GoesOn is = cc
    no_edit (turns.Answers end) is = cc
left old new p e good at (core.works s) = absurd (no_work s.what s.is)
  where
    no_work : (what : Turn _) → Answered (Show Settled) ≡ reply_of Work what → ⊥
    no_work turns.GoesOn is = cc
    no_work (turns.Answers end) is = cc
left old new p e good at (core.recoveries s) = absurd (no_recovery s.what s.is)
  where
    no_recovery : (what : Turn _) → Answered (Show Settled) ≡ reply_of Recovery what → ⊥
    no_recovery turns.GoesOn is = cc
    no_recovery (turns.Answers end) is = cc
left old new p e good at (core.migrations s) = absurd (no_migration s.what s.is)
  where
    no_migration : (what : Turn _) → Answered (Show Settled) ≡ reply_of Migration what → ⊥
    no_migration turns.GoesOn is = cc
    no_migration (turns.Answers end) is = cc

-- ---- places

-- an event by which the process was answered this
pub record WasAnswered_by (p : ℕ) (t : CallEvent) (hs : List Happened) : Type 0 where
  pub since : List Happened
  pub until : List Happened
  pub h : Happened
  pub parts : hs ≡ since ++ h ∷ until
  pub tells : In (answered_from p h.before h.event h.reply) t

pub where_answered : (p : ℕ) (t : CallEvent) (hs : List Happened) → In (answered_by p hs) t → WasAnswered_by p t hs
where_answered p t [] none = absurd none
where_answered p t (h ∷ hs) inside = elim (in_append (answered_from p h.before h.event h.reply) (answered_by p hs) t inside) [
  | inl here ↦ record { since = []; until = hs; h = h; parts = refl; tells = here }
  | inr before ↦ (let w = where_answered p t hs before in record { since = h ∷ w.since; until = w.until; h = w.h; parts = ap (λ (l : List Happened). h ∷ l) w.parts; tells = w.tells })
]

module _ (first : PlainWorld) (hs : List Happened) (last : PlainWorld) (r : IsRun first hs last) where
  pub stands : (p : ℕ) (t : CallEvent) → In (answered_by p hs) t → Stands r.old (events_of hs) (replies_of hs) r.new r.run p t
  stands p t inside = let w = where_answered p t hs inside in record { place = length w.until; at = r.call_events w.since w.until w.h p t w.parts w.tells }

  show_right : (p : ℕ) (e : PlainShowCall) (k : ℕ) → StandsAt r.old (events_of hs) (replies_of hs) r.new r.run p (Reported e Settled) k → ShowFits first hs last r p k e Settled
  show_right p e k a =
      let h = r.headline.is.run in
      let within = a.within in
      let world : (h.moment k).world ≡ world_at r.old (events_of hs) (replies_of hs) r.new r.run k = r.headline.worlds k (omega (arith, within)) in
      let good : IsGood (h.moment k).world = subst IsGood (sym world) (good_at r.old r.new (events_of hs) (replies_of hs) r.run r.good k) in
      let at : (world_of (h.moment k).world).situation p ≡ Showing e = ap (λ (v : WorldValue). (world_of v).situation p) world ∙ a.call in
      let said = h.reports.settled k p a.happens in
      let values : kept_values (h.moment (k + 1)).world p ≡ answered e = left (h.moment k).world (h.moment (k + 1)).world p e good at (h.takes k (Step p) (Answered (Show Settled)) a.happens) in
      (said.0, said.1, subst (λ (vs : List Value). SettledFits h.moment said.0 k vs) values said.2)

  -- what was answered fits the run
  pub fits : (p : ℕ) (t : CallEvent) (k : ℕ) → StandsAt r.old (events_of hs) (replies_of hs) r.new r.run p t k → Fits first hs last r p t k
  fits p (Began event reply) k a = tt
  fits p (Edited e Done) k a = acknowledged_once r.old (events_of hs) (replies_of hs) r.new k p e.number r.headline.is a.happens
  fits p (Edited e (Overtaken noted seen)) k a = r.headline.is.run.ledger k (Step p) (Answered (Edit (end_of e.processes e.number (Overtaken noted seen)))) a.happens
  fits p (Worked e end) k a = r.headline.is.run.works k p end a.happens
  fits p (Recovered e Nothing) k a = (r.headline.is.run.ledger k (Step p) (Answered (Recovery Nothing)) a.happens, tt)
  fits p (Recovered e (Last resolved)) k a = (r.headline.is.run.ledger k (Step p) (Answered (Recovery (Last resolved))) a.happens, resolved_once r.old (events_of hs) (replies_of hs) r.new k p resolved r.headline.is a.happens)
  fits p (Reported e Settled) k a = show_right p e k a
  fits p (Reported e (Unsettled place word)) k a = r.headline.is.run.reports.unsettled k p place word a.happens

  pub answered_so : (p : ℕ) (t : CallEvent) → In (answered_by p hs) t → WasRight first hs last r p t
  answered_so p t inside = let s = stands p t inside in record { place = s.place; stands = s.at; fits = fits p t s.place s.at }
