-- A process's turn: what it leaves the others to rely on.
use Rattle.std.proofs.Common.{ℕ, ◌≡◌, ◌≢◌, ◌<◌, refl, ap, ◌∙◌, subst}
use Rattle.ds_state.specs.Value.{WorldValue, world_of}
use Rattle.ds_state.specs.Sound.{IsSound}
use Rattle.ds_state.specs.Rely.{Keeps}
use Rattle.ds_state.proofs.Stopping.{stop_keeps}
use Rattle.ds_edit.proofs.Sound.{step_sound}
use Rattle.ds_show.proofs.ShowKeeps as keeping
use Rattle.ds_show.proofs.ShowLaws as shows
use Rattle.ds_state.specs.Works.{PlainWorkCall}
use Rattle.ds_state.specs.declared.work.WorkStage.{WorkStage}
use Rattle.ds_state.specs.declared.work.WorkStage.TheVariants as stages
use Rattle.ds_state.specs.declared.situation.Situation.TheVariants.{Working}
use Rattle.ds_words.specs.declared.access.Access.TheVariants.{Nothing}
use Rattle.ds_layout.specs.SheetMemory.{PerformsAt}
use Rattle.ds_eval.specs.Tasks.{PlainEvaluated}
use Rattle.ds_state.specs.declared.turn.Turn.{Turn}
use Rattle.ds_state.specs.declared.work.WorkEnd.{WorkEnd}
use Rattle.ds_work.specs.WorkTakes as works
use Rattle.ds_work.specs.WorkSteps as work_steps
use Rattle.ds_work.proofs.EachWork.{work_steps_keep, reads_keep, lacks_keep, offer_keep, begins_keep}
use Rattle.ds_recover.proofs.RecoveryLaws as recoveries
use Rattle.ds_recover.proofs.Migrating.{migration_keeps, migration_begins}
use Rattle.ds_core.specs.MigrationEvents.{MigrationStepsBy, MigrationBegins}
use Rattle.ds_core.specs.EditEvents.{EditStepsBy}
use Rattle.ds_core.specs.WorkEvents.{WorkStepsBy, WorkBegins, TakesEntry}
use Rattle.ds_core.specs.RecoveryEvents.{RecoveryStepsBy, RecoveryBegins}
use Rattle.ds_core.specs.LedgerSteps.{OneAccess}
use Rattle.ds_core.specs.ShowEvents.{ShowStepsBy, ShowBegins}
use Rattle.ds_core.specs.StopEvents.{StopsProcess}
use Rattle.ds_core.specs.declared.reply.Reply.{Reply}

-- a begin, a step or a stop of a process of the sheet
pub record IsTurn (q : ℕ) (old new : WorldValue) : Type 0 where
  pub there : q < old.sheet.layout.processes
  pub keeps : Keeps q (world_of old) (world_of new)
  pub others : (r : ℕ) → r ≢ q → (world_of new).situation r ≡ (world_of old).situation r

-- a step of an edit is a turn of its process
pub edit_turn : (old new : WorldValue) (q : ℕ) (reply : Reply) → IsSound (world_of old) → EditStepsBy old q reply new → IsTurn q old new
edit_turn old new q reply sound h = record {
  there = h.steps.there;
  keeps = subst (λ (p : ℕ). Keeps p (world_of old) (world_of new)) h.steps.mine
      (step_sound h.steps.edit h.steps.word (world_of old) (world_of new) sound (rw h.steps.mine h.steps.there) (ap (λ p. (world_of old).situation p) h.steps.mine ∙ h.steps.at) h.steps.steps);
  others = λ r ne. h.steps.steps.others r (λ same. ne (same ∙ h.steps.mine));
}

-- a step of a show is a turn of its process
pub show_turn : (old new : WorldValue) (q : ℕ) (reply : Reply) → IsSound (world_of old) → ShowStepsBy old q reply new → IsTurn q old new
show_turn old new q reply sound h = record {
  there = h.steps.there;
  keeps = subst (λ (p : ℕ). Keeps p (world_of old) (world_of new)) h.steps.mine
      (shows.steps h.steps.show h.steps.word (world_of old) (world_of new) sound (rw h.steps.mine h.steps.there) (ap (λ p. (world_of old).situation p) h.steps.mine ∙ h.steps.at) h.steps.steps);
  others = λ r ne. h.steps.steps.others r (λ same. ne (same ∙ h.steps.mine));
}

-- the begin of a show is a turn of its process
pub show_begins_turn : (old new : WorldValue) (q : ℕ) → IsSound (world_of old) → ShowBegins old q new → IsTurn q old new
show_begins_turn old new q sound h = record {
  there = h.there;
  keeps = keeping.begin_keeps q h.begun.next (world_of old) (world_of new) sound h.there h.begun.begins;
  others = h.begun.begins.others;
}

-- a stop is a turn of its process
pub stop_turn : (old new : WorldValue) (q : ℕ) → IsSound (world_of old) → StopsProcess old q new → IsTurn q old new
stop_turn old new q sound h = record {
  there = h.there;
  keeps = stop_keeps q (world_of old) (world_of new) sound h.there h.stops;
  others = h.stops.others;
}

-- ---- work

-- also the edits are left as they are, and at most one word is touched
pub record LeavesEdits (q : ℕ) (old new : WorldValue) : Type 0 where
  pub turn : IsTurn q old new
  pub layout : new.sheet.layout ≡ old.sheet.layout
  pub counted : new.counted ≡ old.counted
  pub open_edits : (r : ℕ) → (world_of new).open_edits r ≡ (world_of old).open_edits r
  pub words : OneAccess q (world_of old).memory (world_of new).memory

module _ (old new : WorldValue) (q : ℕ) (sound : IsSound (world_of old)) (e : PlainWorkCall) (inside : q < old.sheet.layout.processes) (mine : e.process ≡ q) (is : (world_of old).situation q ≡ Working e) where
  low : e.process < old.sheet.layout.processes
  low = rw mine inside

  here : (world_of old).situation e.process ≡ Working e
  here = ap (λ p. (world_of old).situation p) mine ∙ is

  by_step : (s : WorkStage) (word : ℕ) → e.stage ≡ s → work_steps.StepsAt e s word (world_of old) (world_of new) → LeavesEdits q old new
  by_step s word at t = record {
    turn = record {
      there = inside;
      keeps = subst (λ p. Keeps p (world_of old) (world_of new)) mine (work_steps_keep e s word (world_of old) (world_of new) sound low (here ∙ ap (λ x. Working (work_steps.at e x)) at) t);
      others = λ r ne. t.others r (λ same. ne (same ∙ mine));
    };
    layout = t.layout;
    counted = t.counted;
    open_edits = t.open_edits;
    words = (work_steps.access_at old.sheet.layout.shape e s, word, subst (λ p. PerformsAt (work_steps.access_at old.sheet.layout.shape e s) p (world_of old).memory (world_of new).memory word) mine t.memory);
  }

  by_turn : (f : PlainWorkCall) → work_steps.Turns e f (world_of old) (world_of new) → Keeps e.process (world_of old) (world_of new) → LeavesEdits q old new
  by_turn f t keeps = record {
    turn = record { there = inside; keeps = subst (λ p. Keeps p (world_of old) (world_of new)) mine keeps; others = λ r ne. t.others r (λ same. ne (same ∙ mine)) };
    layout = t.layout;
    counted = t.counted;
    open_edits = t.open_edits;
    words = (Nothing, 0, (refl, t.memory));
  }

  by_taken : (what : Turn WorkEnd) → works.TakesTurn e (world_of old) (world_of new) what → LeavesEdits q old new
  by_taken what (works.steps word t on) = by_step e.stage word refl t
  by_taken what (works.reads content inputs at t) = by_turn _ t.turn (reads_keep e content inputs (world_of old) (world_of new) sound low (here ∙ ap (λ x. Working (work_steps.at e x)) at) t)
  by_taken what (works.lacked at t) = by_turn _ t (lacks_keep e (world_of old) (world_of new) sound low (here ∙ ap (λ x. Working (work_steps.at e x)) at) t)
  by_taken what (works.answers end at t) = by_step (stages.Answer end) 0 at t

-- a step of work is a turn of its process that leaves the edits
pub work_leaves : (old new : WorldValue) (q : ℕ) (reply : Reply) → IsSound (world_of old) → WorkStepsBy old q reply new → LeavesEdits q old new
work_leaves old new q reply sound h = by_taken old new q sound h.steps.work h.steps.inside h.steps.mine h.steps.works h.what h.steps.turn

-- the begin of work is a turn of its process that leaves the edits
pub work_begins_leaves : (old new : WorldValue) (q : ℕ) (cell : _) → IsSound (world_of old) → WorkBegins old q cell new → LeavesEdits q old new
work_begins_leaves old new q cell sound h =
    let b = h.begun.begins in
    let mine = h.begun.process_is in
    record {
      turn = record {
        there = h.named.process;
        keeps = subst (λ p. Keeps p (world_of old) (world_of new)) mine (begins_keep h.begun.next h.begun.work (world_of old) (world_of new) sound (rw mine h.named.process) b);
        others = λ r ne. b.turn.others r (λ same. ne (same ∙ mine));
      };
      layout = b.turn.layout;
      counted = b.turn.counted;
      open_edits = b.turn.open_edits;
      words = (Nothing, 0, (refl, b.turn.memory));
    }

-- an offer is a turn of its process that leaves the edits
pub offer_leaves : (old new : WorldValue) (value : PlainEvaluated) → IsSound (world_of old) → TakesEntry old value new → LeavesEdits value.task.process old new
offer_leaves old new value sound h =
    let o = h.offered in
    let e = o.work in
    let mine = o.mine in
    record {
      turn = record {
        there = o.waits.inside;
        keeps = subst (λ p. Keeps p (world_of old) (world_of new)) mine (offer_keep e value.entry (world_of old) (world_of new) sound (rw mine o.waits.inside)
            (ap (λ p. (world_of old).situation p) mine ∙ o.waits.works ∙ ap (λ x. Working (work_steps.at e x)) o.waits.waits) o.offers);
        others = λ r ne. o.offers.turn.others r (λ same. ne (same ∙ mine));
      };
      layout = o.offers.turn.layout;
      counted = o.offers.turn.counted;
      open_edits = o.offers.turn.open_edits;
      words = (Nothing, 0, (refl, o.offers.turn.memory));
    }

-- ---- recovery

-- a step of a recovery is a turn of its process
pub recovery_turn : (old new : WorldValue) (q : ℕ) (reply : Reply) → IsSound (world_of old) → RecoveryStepsBy old q reply new → IsTurn q old new
recovery_turn old new q reply sound h = record {
  there = h.steps.there;
  keeps = subst (λ (p : ℕ). Keeps p (world_of old) (world_of new)) h.steps.mine
      (recoveries.steps h.steps.recovery h.steps.word (world_of old) (world_of new) sound (rw h.steps.mine h.steps.there) (ap (λ p. (world_of old).situation p) h.steps.mine ∙ h.steps.at) h.steps.steps);
  others = λ r ne. h.steps.steps.others r (λ same. ne (same ∙ h.steps.mine));
}

-- the begin of a recovery is a turn of its process
pub recovery_begins_turn : (old new : WorldValue) (q : ℕ) → IsSound (world_of old) → RecoveryBegins old q new → IsTurn q old new
recovery_begins_turn old new q sound h = record {
  there = h.there;
  keeps = recoveries.begins q (world_of old) (world_of new) sound h.there h.begun;
  others = h.begun.begins.others;
}

-- ---- migration

-- a step of a migration is a turn of its process
pub migration_turn : (old new : WorldValue) (q : ℕ) (reply : Reply) → IsSound (world_of old) → MigrationStepsBy old q reply new → IsTurn q old new
migration_turn old new q reply sound h = record {
  there = h.steps.there;
  keeps = subst (λ (p : ℕ). Keeps p (world_of old) (world_of new)) h.steps.mine
      (migration_keeps h.steps.migration h.steps.migration.stage h.steps.word (world_of old) (world_of new) sound (rw h.steps.mine h.steps.there) (ap (λ p. (world_of old).situation p) h.steps.mine ∙ h.steps.at) h.steps.steps);
  others = λ r ne. h.steps.steps.others r (λ same. ne (same ∙ h.steps.mine));
}

-- the begin of a migration is a turn of its process
pub migration_begins_turn : (old new : WorldValue) (q : ℕ) → IsSound (world_of old) → MigrationBegins old q new → IsTurn q old new
migration_begins_turn old new q sound h = record {
  there = h.there;
  keeps = migration_begins q (world_of old) (world_of new) sound h.there h.begun;
  others = h.begun.others;
}
