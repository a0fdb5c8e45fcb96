-- Beginnings of calls.
use Rattle.std.proofs.Common.{ℕ, ◌≡◌, ◌<◌, sym, ap, ◌∙◌, subst}
use Rattle.std.specs.Prelude.{Result, Ok, Err}
use Rattle.ds_formula.specs.declared.cells.Cell.{Cell}
use Rattle.ds_state.specs.Value.{WorldValue, world_of}
use Rattle.ds_state.specs.World.{PlainEdit}
use Rattle.ds_state.specs.declared.refusal.Refusal.{Refusal}
use Rattle.ds_state.specs.declared.situation.Situation.{Situation}
use Rattle.ds_state.specs.declared.situation.Situation.TheVariants.{Idle, Editing, Working, Recovering, Showing, Migrating}
use Rattle.ds_state.specs.declared.answer.Answer.{Answer}
use Rattle.ds_state.specs.declared.answer.Answer.TheVariants.{Migration}
use Rattle.ds_state.specs.declared.migration.MigrateEnd.{MigrateEnd}
use Rattle.ds_state.specs.declared.situation.Rest.{Rest}
use Rattle.ds_recover.specs.MigrationSteps as migrations
use Rattle.ds_show.specs.ShowSteps as shows
use Rattle.ds_work.specs.WorkSteps as works
use Rattle.ds_recover.specs.RecoverySteps as recoveries
use Rattle.ds_layout.specs.Places.{cells_of}
use Rattle.ds_state.specs.declared.work.WorkStage.TheVariants as work_stages
use Rattle.ds_state.specs.declared.recovery.RecoverStage.TheVariants as recover_stages
use Rattle.ds_core.specs.Requests.{PlainRequest}
use Rattle.ds_core.specs.Own.{IsInCall}
use Rattle.ds_core.specs.WorkEvents.{HasWork}
use Rattle.ds_core.specs.Takes.{Takes, Fits, IsOfWorld}
use Rattle.ds_core.specs.declared.event.Event.{Event}
use Rattle.ds_core.specs.declared.event.Event.TheVariants.{BeginEdit, BeginWork, BeginShow, BeginRecover, BeginMigrate}
use Rattle.ds_core.specs.declared.reply.Reply.{Reply}
use Rattle.ds_core.specs.declared.reply.Reply.TheVariants.{Begun, Entered, Refused, NotEnabled}
use Rattle.ds_core.proofs.Bound.{same_layout}
use Rattle.ds_core.specs.Kinds.{IsEditAnswer, IsWorkAnswer, IsShowAnswer, IsRecoveryAnswer, IsMigrationAnswer, AnswersTo, RestsAs}
use Rattle.ds_calls.specs.Whole.{HasProcess, IsCallingAs, Whole, finishes, refused, IsWhole, IsWholeMigration}
use Rattle.ds_calls.specs.Driven.{CanGoOn, BeginsCall, IsDriven}

-- a process that has come into a call
calls_by : (old new : WorldValue) (p : ℕ) (event : Event) (reply : Reply) (s : Situation) (kind : Answer → Type 0) → HasProcess old p → Takes old event reply new → (world_of new).situation p ≡ s → IsInCall s
    → ((answer : Answer) → AnswersTo s answer → kind answer) → IsCallingAs kind new p
calls_by old new p event reply s kind there takes is calls same = record {
  there = subst (λ (n : ℕ). p < n) (sym (ap (λ y. y.processes) (same_layout old new event reply takes))) there;
  calls = (subst IsInCall (sym is) calls, λ answer h. same answer (subst (λ (x : Situation). AnswersTo x answer) is h));
}

-- the begin of an edit puts its process into an edit, or is refused and nothing changes
pub edit_begins : (old new : WorldValue) (r : PlainRequest) (reply : Reply) → IsOfWorld old r → Fits old (BeginEdit r) reply new → BeginsCall IsEditAnswer old r.process new reply
edit_begins old new r (Begun number) named fits =
    let h = fits.takes in
    calls_by old new r.process (BeginEdit r) (Begun number) (Editing h.begun.edit) IsEditAnswer named.process h
    (ap (λ (q : ℕ). (world_of new).situation q) (sym (ap (λ (x : PlainEdit). x.process) h.begun.asked.asked)) ∙ h.begun.begins.situation) tt (λ answer x. x)
edit_begins old new r (Refused why) named fits = fits.takes.same
edit_begins old new r NotEnabled named fits = absurd (fits.takes.unnamed named)
edit_begins old new r _ named fits = absurd fits.takes

-- the same, of work
pub work_begins : (old new : WorldValue) (p : ℕ) (cell : Cell) (reply : Reply) → HasWork old p cell → Fits old (BeginWork p cell) reply new → BeginsCall IsWorkAnswer old p new reply
work_begins old new p cell Entered named fits =
    let h = fits.takes in
    calls_by old new p (BeginWork p cell) Entered (Working (works.at h.begun.work work_stages.LoadMark)) IsWorkAnswer named.process h
    (ap (λ (q : ℕ). (world_of new).situation q) (sym h.begun.process_is) ∙ h.begun.begins.turn.situation) tt (λ answer x. x)
work_begins old new p cell (Refused why) named fits = fits.takes.same
work_begins old new p cell NotEnabled named fits = absurd (fits.takes.unnamed named)
work_begins old new p cell _ named fits = absurd fits.takes

-- the same, of a show
pub show_begins : (old new : WorldValue) (p : ℕ) (reply : Reply) → HasProcess old p → Fits old (BeginShow p) reply new → BeginsCall IsShowAnswer old p new reply
show_begins old new p Entered there fits =
    let h = fits.takes in
    calls_by old new p (BeginShow p) Entered (Showing (shows.fresh p h.begun.next (cells_of old.sheet.layout) old.sheet.layout.processes)) IsShowAnswer there h h.begun.begins.situation tt (λ answer x. x)
show_begins old new p (Refused why) there fits = fits.takes.same
show_begins old new p NotEnabled there fits = absurd (fits.takes.none there)
show_begins old new p _ there fits = absurd fits.takes

-- the same, of a recovery
pub recovery_begins : (old new : WorldValue) (p : ℕ) (reply : Reply) → HasProcess old p → Fits old (BeginRecover p) reply new → BeginsCall IsRecoveryAnswer old p new reply
recovery_begins old new p Entered there fits =
    let h = fits.takes in
    calls_by old new p (BeginRecover p) Entered (Recovering (recoveries.at (recoveries.fresh p (cells_of old.sheet.layout) old.sheet.layout.processes) recover_stages.LoadVersion)) IsRecoveryAnswer there h h.begun.begins.situation tt (λ answer x. x)
recovery_begins old new p (Refused why) there fits = fits.takes.same
recovery_begins old new p NotEnabled there fits = absurd (fits.takes.none there)
recovery_begins old new p _ there fits = absurd fits.takes

-- the same, of a migration
pub migration_begins : (old new : WorldValue) (p : ℕ) (reply : Reply) → HasProcess old p → Fits old (BeginMigrate p) reply new → BeginsCall IsMigrationAnswer old p new reply
migration_begins old new p Entered there fits =
    let h = fits.takes in
    calls_by old new p (BeginMigrate p) Entered (Migrating (migrations.fresh p old.sheet.layout.processes)) IsMigrationAnswer there h h.begun.situation tt (λ answer x. x)
migration_begins old new p (Refused why) there fits = fits.takes.same
migration_begins old new p NotEnabled there fits = absurd (fits.takes.none there)
migration_begins old new p _ there fits = absurd fits.takes

-- ---- whole calls

pub can_go_on : (kind : Answer → Type 0) (old : WorldValue) (p : ℕ) (new : WorldValue) (reply : Reply) → BeginsCall kind old p new reply → CanGoOn kind new p reply
can_go_on kind old p new (Begun number) h = h
can_go_on kind old p new Entered h = h
can_go_on kind old p new (Refused why) h = tt
can_go_on kind old p new _ h = h

stays_refused : (kind : Answer → Type 0) (old : WorldValue) (p : ℕ) (mid : WorldValue) (reply : Reply) (why : Refusal) → reply ≡ Refused why → BeginsCall kind old p mid reply → mid ≡ old
stays_refused kind old p mid reply why is h = subst (BeginsCall kind old p mid) is h

whole_by : {E : Type 0} (answer : E → Answer) (p : ℕ) (event : Event) (old mid new : WorldValue) (reply : Reply) (result : Result E Refusal) → Fits old event reply mid → IsDriven answer p reply mid result new → Whole answer p event old result new
whole_by answer p event old mid new reply (Ok end) fits h = finishes reply mid new end h.0 fits h.1
whole_by answer p event old mid new reply (Err why) fits h = refused why new (subst (λ (w : WorldValue). Fits old event (Refused why) w) (sym h.1) (subst (λ (r : Reply). Fits old event r mid) h.0 fits))

-- an end of a call that leaves its process idle
pub whole_of : {E : Type 0} (kind : Answer → Type 0) (answer : E → Answer) (p : ℕ) (event : Event) (old mid new : WorldValue) (reply : Reply) (result : Result E Refusal) → ((end : E) (s : Situation) → RestsAs (answer end) s → (next : Rest) × (s ≡ Idle next))
    → Fits old event reply mid → BeginsCall kind old p mid reply → IsDriven answer p reply mid result new → IsWhole answer p event old result new
whole_of kind answer p event old mid new reply (Ok end) idle fits begins h = record {
  whole = whole_by answer p event old mid new reply (Ok end) fits h;
  idle = (let r = idle end ((world_of new).situation p) h.2 in record { next = r.0; is = r.1 });
  unchanged = tt;
}
whole_of kind answer p event old mid new reply (Err why) idle fits begins h = record {
  whole = whole_by answer p event old mid new reply (Err why) fits h;
  idle = tt;
  unchanged = h.1 ∙ stays_refused kind old p mid reply why h.0 begins;
}

-- a migration that begins and is driven to its end is a whole one
pub whole_migration_of : (p : ℕ) (event : Event) (old mid new : WorldValue) (reply : Reply) (result : Result MigrateEnd Refusal) → Fits old event reply mid → BeginsCall IsMigrationAnswer old p mid reply → IsDriven Migration p reply mid result new
    → IsWholeMigration p event old result new
whole_migration_of p event old mid new reply (Ok end) fits begins h = record {
  whole = whole_by Migration p event old mid new reply (Ok end) fits h;
  stopped = h.2;
  unchanged = tt;
}
whole_migration_of p event old mid new reply (Err why) fits begins h = record {
  whole = whole_by Migration p event old mid new reply (Err why) fits h;
  stopped = tt;
  unchanged = h.1 ∙ stays_refused IsMigrationAnswer old p mid reply why h.0 begins;
}
