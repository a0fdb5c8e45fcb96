-- What a run's works answer is true of the worlds of their calls.
use Rattle.std.proofs.Common.{ℕ, ◌≡◌, ◌≢◌, ◌<◌, ◌≤◌, ◌+◌, ◌-◌, ◌*◌, ◌/◌, ◌%◌, ◌^◌, ◌==◌, ◌⊎◌, List, [], ◌∷◌, ◌++◌, refl, ap, sym, ◌∙◌, subst, arith, inl, inr, zero, suc, length, take, Bool, true, false, if◌then◌else◌, nat_lt, Option, Some, None}
use Rattle.std.specs.Prelude.{◌&&◌}
use Rattle.std.proofs.lemmas.Bool.{cases_eq, cases_lt, eqb-true, eqb-false, ne_eqb, lt-ltb, ltb-true}
use Rattle.std.proofs.lemmas.List.{get_or_past}
use Rattle.ds_formula.specs.Cells.{index_of}
use Rattle.ds_formula.specs.declared.cells.Cell.{Cell}
use Rattle.ds_formula.specs.declared.cells.Shape.{Shape}
use Rattle.ds_eval.specs.Inputs.{with_entry}
use Rattle.ds_layout.specs.declared.head.Head.{Head}
use Rattle.ds_layout.specs.declared.header.Header.{Header}
use Rattle.ds_layout.specs.declared.layout.Layout.{Layout}
use Rattle.ds_layout.specs.declared.mark.State.{State}
use Rattle.ds_layout.specs.declared.mark.State.TheVariants.{Clean, Marked, Held}
use Rattle.ds_layout.specs.declared.place.Place.TheVariants as place
use Rattle.ds_layout.specs.Head.{head_of}
use Rattle.ds_layout.specs.Header.{header_of}
use Rattle.ds_layout.specs.Mark.{IsHeldBy, holder_of, present, state_by, mark_of, state_of, generation_of, held_after, freed_after, dirtied}
use Rattle.ds_layout.specs.SheetMemory.{PerformsAt}
use Rattle.ds_layout.specs.TextWords.{bytes_of}
use Rattle.ds_state.specs.Edits.{PlainEditCall}
use Rattle.ds_state.specs.Works.{PlainWorkCall, PlainShowCall, PlainRecoverCall, PlainMigrateCall, SEEN_MOST}
use Rattle.ds_state.specs.Fresh.{IsNew}
use Rattle.ds_state.specs.Owing.{HoldsNone}
use Rattle.ds_state.specs.Shown.{header_in}
use Rattle.ds_state.specs.Standing.{shown_entry, value_for, word_for}
use Rattle.ds_state.specs.Telling.{told_from}
use Rattle.ds_state.specs.KnownWork.{WorkFits, HoldFits, HasHeld, work_known}
use Rattle.ds_state.specs.CallsFit.{CallFits}
use Rattle.ds_state.specs.Value.{first_rest, WorldValue, world_of, IsGood}
use Rattle.ds_state.specs.EditEndings.{end_of as end_by, outcome_at}
use Rattle.ds_state.specs.declared.answer.Answer.TheVariants.{Edit, Work}
use Rattle.ds_state.specs.declared.migration.MigrateEnd.{MigrateEnd}
use Rattle.ds_state.specs.declared.recovery.RecoveryEnd.{RecoveryEnd}
use Rattle.ds_state.specs.declared.show.ShowEnd.{ShowEnd}
use Rattle.ds_state.specs.declared.situation.Situation.{Situation}
use Rattle.ds_state.specs.declared.situation.Situation.TheVariants as situation
use Rattle.ds_state.specs.declared.situation.Situation.TheVariants.{Idle, Editing, Working, Recovering, Showing, Migrating}
use Rattle.ds_state.specs.declared.spread.Spread.TheVariants.{LoadRow, OrTold, FlushTold, BackTold}
use Rattle.ds_state.specs.declared.stage.Outcome.{Outcome}
use Rattle.ds_state.specs.declared.stage.Outcome.TheVariants as outcome
use Rattle.ds_state.specs.declared.stage.Stage.{Stage}
use Rattle.ds_state.specs.declared.stage.Stage.TheVariants as edit_stages
use Rattle.ds_state.specs.declared.turn.Turn.{Turn}
use Rattle.ds_state.specs.declared.turn.Turn.TheVariants as turns
use Rattle.ds_state.specs.declared.work.WorkEnd.{WorkEnd}
use Rattle.ds_state.specs.declared.work.WorkEnd.TheVariants.{NotDirty, Missed, Worn, Published, Again, NoMemory}
use Rattle.ds_state.specs.declared.work.WorkStage.{WorkStage}
use Rattle.ds_state.specs.declared.work.WorkStage.TheVariants.{LoadMark, Claim, FlushClaim, LoadHead, LoadHeader, LoadText, Read, LoadValue, LoadKind, LoadOwnValue, StoreValue, Telling, Clear, ClearDirty, Give, GiveDirty, FlushCleared, BackCleared, Answer}
use Rattle.ds_edit.specs.EditTakes as edit_steps
use Rattle.ds_show.specs.ShowSteps as show_steps
use Rattle.ds_state.specs.declared.show.ShowStage.{ShowStage}
use Rattle.ds_state.specs.declared.show.ShowStage.TheVariants as show_stages
use Rattle.ds_state.specs.declared.recovery.RecoverStage.{RecoverStage}
use Rattle.ds_state.specs.declared.recovery.RecoverStage.TheVariants as recover_stages
use Rattle.ds_state.specs.declared.migration.MigrateStage.{MigrateStage}
use Rattle.ds_state.specs.declared.migration.MigrateStage.TheVariants as migrate_stages
use Rattle.ds_recover.specs.RecoverySteps as recoveries_are
use Rattle.ds_recover.specs.MigrationSteps as migrations_are
use Rattle.ds_eval.specs.Tasks.{PlainEvaluated}
use Rattle.ds_work.specs.WorkTakes as taken
use Rattle.ds_work.specs.WorkSteps.{access_at, at, claims_from, head_from, header_from, told, tell_from, next_at, StepsAt, read_from, lacks, offered}
use Rattle.ds_work.proofs.Next.{next_noted}
use Rattle.ds_work.proofs.WorkAlone.{after_on}
use Rattle.ds_core.specs.Moments.{Moment, empty_ledger}
use Rattle.ds_core.specs.Takes.{Takes}
use Rattle.ds_core.specs.Headline.{Happens, mark_then, state_then, WasSo, WasLetGo, CauseFits, HasCause, WorksFit}
use Rattle.ds_core.specs.StepEvents.{StepsBy, edits, works, reports, recoveries, migrations}
use Rattle.ds_core.specs.WorkEvents.{work_reply, WorkStepsBy, WorkBegins, TakesEntry}
use Rattle.ds_core.specs.ShowEvents.{show_reply, ShowStepsBy}
use Rattle.ds_core.specs.RecoveryEvents.{recovery_reply, RecoveryStepsBy}
use Rattle.ds_core.specs.MigrationEvents.{migration_reply, MigrationStepsBy}
use Rattle.ds_core.specs.declared.event.Event.{Event}
use Rattle.ds_core.specs.declared.event.Event.TheVariants.{BeginEdit, BeginWork, BeginShow, BeginRecover, BeginMigrate, Step, Offer, Evict, Stop}
use Rattle.ds_core.specs.declared.reply.Reply.{Reply}
use Rattle.ds_core.specs.declared.reply.Reply.TheVariants.{Begun, Entered, Stepped, Answered, Evicted, Stopped}
use Rattle.ds_core.proofs.Replied.{replied}
use Rattle.ds_core.proofs.Did as did_so
use Rattle.ds_core.proofs.Did.{Did, did, nothing, edit_begins, work_begins, show_begins, recovery_begins, migration_begins, offers, evicts, stops, crashes}
use Rattle.ds_core.proofs.NewIdle.{new_idle}
use Rattle.ds_core.proofs.Acknowledged.{within}
use Rattle.ds_core.proofs.Carry.{RunOn, at_place}
use Rattle.ds_core.proofs.Closing.{found_at, up}
use Rattle.ds_core.proofs.Solo.{some_outcome}
use Rattle.ds_core.proofs.Turns.{show_turn, recovery_turn, migration_turn}

-- ---- what a work knows of the moments of its call

-- at its claim, of the mark that it has loaded; once it is to answer, of that end
abbrev Knows : (ℕ → Type 0) → (WorkEnd → Type 0) → ℕ → WorkStage → Type 0
Knows C E mark Claim = C mark
Knows C E mark (FlushCleared end) = E end
Knows C E mark (BackCleared end) = E end
Knows C E mark (Answer end) = E end
Knows C E mark _ = Unit {0}

knows_on : (C D : ℕ → Type 0) (E F : WorkEnd → Type 0) (mark : ℕ) → (C mark → D mark) → ((end : WorkEnd) → E end → F end) → (s : WorkStage) → Knows C E mark s → Knows D F mark s
knows_on C D E F mark c f Claim h = c h
knows_on C D E F mark c f (FlushCleared end) h = f end h
knows_on C D E F mark c f (BackCleared end) h = f end h
knows_on C D E F mark c f (Answer end) h = f end h
knows_on C D E F mark c f _ h = tt

-- neither at its claim nor to answer
abbrev IsBetween : PlainWorkCall → Type 0
IsBetween f = Knows (λ mark. ⊥) (λ end. ⊥) f.mark f.stage

between_if : (b : Bool) (x y : PlainWorkCall) → IsBetween x → IsBetween y → IsBetween (if b then x else y)
between_if true x y h k = h
between_if false x y h k = k

-- ---- one step of it

-- what the swaps say that let the cell go, where they win
record LetsGo (F : WorkEnd → Type 0) (e : PlainWorkCall) (word : ℕ) (s : WorkStage) : Type 0 where
  published : (changed : Bool) → s ≡ Clear changed → word ≡ e.mark → F (Published changed)
  again : s ≡ ClearDirty → F Again
  given : s ≡ Give → word ≡ e.mark → F NoMemory
  given_dirty : s ≡ GiveDirty → F NoMemory

-- what the mark says that it loads
record Loads (D : ℕ → Type 0) (F : WorkEnd → Type 0) (e : PlainWorkCall) (word : ℕ) : Type 0 where
  clean : state_of (mark_of e.processes word) ≡ Clean → F NotDirty
  held : (q : ℕ) → state_of (mark_of e.processes word) ≡ Held q → F Missed
  marked : state_of (mark_of e.processes word) ≡ Marked → D word
  worn : state_of (mark_of e.processes word) ≡ Marked → SEEN_MOST < generation_of word → F Worn

module _ (C D : ℕ → Type 0) (E F : WorkEnd → Type 0) (e : PlainWorkCall) (word : ℕ) (on : (end : WorkEnd) → E end → F end) where
  abbrev Has : PlainWorkCall → Type 0
  Has f = Knows D F f.mark f.stage

  either : (b : Bool) (x y : PlainWorkCall) → Has x → Has y → Has (if b then x else y)
  either true x y h k = h
  either false x y h k = k

  by_state : (st : State) → state_of (mark_of e.processes word) ≡ st → Loads D F e word → Has (claims_from e word st)
  by_state Clean is l = l.clean is
  by_state (Held q) is l = l.held q is
  by_state Marked is l = worn (nat_lt (2 ^ 58) (word / 32)) refl
    where
      worn : (b : Bool) → nat_lt (2 ^ 58) (word / 32) ≡ b → Has (if b then at e (Answer Worn) else record e { mark = word; stage = Claim })
      worn true b = l.worn is (ltb-true (2 ^ 58) (word / 32) b)
      worn false b = l.marked is

  by_claim : (b : Bool) → (word == e.mark) ≡ b → C e.mark → (C e.mark → word ≢ e.mark → F Missed) → Has (if b then record e { mark = held_after e.process e.mark; stage = FlushClaim } else at e (Answer Missed))
  by_claim true is h lost = tt
  by_claim false is h lost = lost h (eqb-false word e.mark is)

  by_swap : (b : Bool) → (word == e.mark) ≡ b → (end : WorkEnd) (s : WorkStage) → (word ≡ e.mark → F end) → Has (at e s) → Has (if b then at e (FlushCleared end) else at e s)
  by_swap true is end s h k = h (eqb-true word e.mark is)
  by_swap false is end s h k = k

  by_head : (o : Option Head) → Has (head_from e word o)
  by_head None = tt
  by_head (Some head) = tt

  by_header : (o : Option Header) → Has (header_from e o)
  by_header None = tt
  by_header (Some header) = either (nat_lt 0 ((header.length + 7) / 8)) (record e { length = header.length; text = []; stage = LoadText 0 }) (record e { length = header.length; text = []; stage = Read }) tt tt

  by_told : (f : PlainWorkCall) (o : Option ℕ) → Has (told f o)
  by_told f None = tt
  by_told f (Some cell) = tt

  next_knows : (s : WorkStage) → Knows C E e.mark s → (s ≡ LoadMark → Loads D F e word) → (s ≡ Claim → C e.mark → word ≢ e.mark → F Missed) → LetsGo F e word s → Has (next_at e s word)
  next_knows LoadMark h loads lost go = by_state (state_of (mark_of e.processes word)) refl (loads refl)
  next_knows Claim h loads lost go = by_claim (word == e.mark) refl h (lost refl)
  next_knows LoadHead h loads lost go = by_head (head_of e.processes word)
  next_knows LoadHeader h loads lost go = by_header (header_in e.edition (header_of e.cells word))
  next_knows (LoadText part) h loads lost go = either (nat_lt (part + 1) ((e.length + 7) / 8)) (record e { text = take e.length (e.text ++ bytes_of word); stage = LoadText (part + 1) }) (record e { text = take e.length (e.text ++ bytes_of word); stage = Read }) tt tt
  next_knows (LoadKind i value) h loads lost go = either (nat_lt (i + 1) (length (with_entry e.inputs i (shown_entry e.cells value word)))) (record e { inputs = with_entry e.inputs i (shown_entry e.cells value word); stage = LoadValue (i + 1) }) (record e { inputs = with_entry e.inputs i (shown_entry e.cells value word); stage = LoadOwnValue }) tt tt
  next_knows (Telling (LoadRow part)) h loads lost go = either (nat_lt (part + 1) ((e.cells + 63) / 64)) (record e { row = e.row ++ word ∷ []; stage = Telling (LoadRow (part + 1)) }) (tell_from (record e { row = e.row ++ word ∷ [] }) 0) tt
      (by_told (record e { row = e.row ++ word ∷ [] }) (told_from (e.row ++ word ∷ []) (e.cells - 0) 0))
  next_knows (Telling (OrTold cell)) h loads lost go = tt
  next_knows (Telling (FlushTold cell)) h loads lost go = tt
  next_knows (Telling (BackTold cell)) h loads lost go = by_told e (told_from e.row (e.cells - (cell + 1)) (cell + 1))
  next_knows (Clear changed) h loads lost go = by_swap (word == e.mark) refl (Published changed) ClearDirty (go.published changed refl) tt
  next_knows ClearDirty h loads lost go = go.again refl
  next_knows Give h loads lost go = by_swap (word == e.mark) refl NoMemory GiveDirty (go.given refl) tt
  next_knows GiveDirty h loads lost go = go.given_dirty refl
  next_knows (FlushCleared end) h loads lost go = on end h
  next_knows (BackCleared end) h loads lost go = on end h
  next_knows (Answer end) h loads lost go = on end h
  next_knows _ h loads lost go = tt

-- ---- who holds a mark that says held

held_word : (processes code q : ℕ) → present processes (holder_of code) ≡ Some q → code ≡ q + 1
held_word processes code q = by (code == 0) refl
  where
    inside : (b : Bool) → (code ≡ 0 → ⊥) → (if b then Some (code - 1) else None) ≡ Some q → code ≡ q + 1
    inside true some same = let one : code - 1 ≡ q = cc in omega (arith, some, one)
    inside false some same = absurd (cc)

    by : (b : Bool) → (code == 0) ≡ b → present processes (if b then None else Some (code - 1)) ≡ Some q → code ≡ q + 1
    by true is same = absurd (cc)
    by false is same = inside (nat_lt (code - 1) processes) (eqb-false code 0 is) same

some_holder : (o : Option ℕ) (dirty : Bool) (q : ℕ) → state_by o dirty ≡ Held q → o ≡ Some q
some_holder None true q is = absurd (cc)
some_holder None false q is = absurd (cc)
some_holder (Some p) dirty q is = let same : p ≡ q = cc in ap (λ x. Some x) same

held_by : (processes word q : ℕ) → state_of (mark_of processes word) ≡ Held q → IsHeldBy q word
held_by processes word q is = held_word processes (word / 2 % 16) q (some_holder (present processes (holder_of (word / 2 % 16))) (word % 2 == 1) q is)

-- what a mark says that a process of the sheet holds, and one that nobody holds
held_state : (processes word q : ℕ) → q < processes → IsHeldBy q word → state_of (mark_of processes word) ≡ Held q
held_state processes word q real by =
    let some : holder_of (word / 2 % 16) ≡ Some q = ap holder_of by ∙ ap (λ (b : Bool). if b then None else Some (q + 1 - 1)) (ne_eqb (q + 1) 0 (λ x. omega (arith, x))) ∙ ap (λ (n : ℕ). Some n) (let n : q + 1 - 1 ≡ q = omega arith in n) in
    let here : present processes (Some q) ≡ Some q = ap (λ (b : Bool). if b then Some q else None) (lt-ltb q processes real) in
    ap (λ (o : Option ℕ). state_by (present processes o) (word % 2 == 1)) some ∙ ap (λ (o : Option ℕ). state_by o (word % 2 == 1)) here

free_state : (processes word : ℕ) (dirty : Bool) → word / 2 % 16 ≡ 0 → (word % 2 == 1) ≡ dirty → state_of (mark_of processes word) ≡ state_by None dirty
free_state processes word dirty none is = ap (λ (n : ℕ). state_by (present processes (holder_of n)) (word % 2 == 1)) none ∙ ap (λ (b : Bool). state_by None b) is

freed_state : (processes mark : ℕ) → state_of (mark_of processes (freed_after mark)) ≡ Clean
freed_state processes mark = free_state processes (freed_after mark) false (omega arith) (ap (λ n. n == 1) (let even : (mark / 32 + 1) * 32 % 2 ≡ 0 = omega arith in even))

dirty_state : (processes mark : ℕ) → state_of (mark_of processes (dirtied (freed_after mark))) ≡ Marked
dirty_state processes mark = free_state processes (dirtied (freed_after mark)) true (omega arith) (ap (λ n. n == 1) (let odd : ((mark / 32 + 1) * 32 + 1) % 2 ≡ 1 = omega arith in odd))

-- ---- one event, seen by a process that is at work after it

-- its work has begun with this event
record JustBegan (p : ℕ) (old : WorldValue) (event : Event) (reply : Reply) (f : PlainWorkCall) : Type 0 where
  cell : Cell
  event_is : event ≡ BeginWork p cell
  reply_is : reply ≡ Entered
  cell_is : f.cell ≡ index_of old.sheet.layout.shape cell
  first : f.stage ≡ LoadMark

-- it was in this work: it stays as it was, or makes a step, or comes to be between its claim and its answer
data WasAtWork (p : ℕ) (old new : WorldValue) (f : PlainWorkCall) : Type 0 where
  rests : (world_of old).situation p ≡ Working f → WasAtWork p old new f
  steps_on : (e : PlainWorkCall) (word : ℕ) → e.process ≡ p → (world_of old).situation p ≡ Working e → StepsAt e e.stage word (world_of old) (world_of new) → f ≡ next_at e e.stage word → WasAtWork p old new f
  goes_on : (e : PlainWorkCall) → (world_of old).situation p ≡ Working e → f.cell ≡ e.cell → IsBetween f → WasAtWork p old new f

module _ (p : ℕ) (old new : WorldValue) (good : IsGood old) (low : p < old.sheet.layout.processes) (f : PlainWorkCall) (now : (world_of new).situation p ≡ Working f) where
  abbrev Either : Event → Reply → Type 0
  Either event reply = JustBegan p old event reply f ⊎ WasAtWork p old new f

  by_same : (event : Event) (reply : Reply) → (world_of new).situation p ≡ (world_of old).situation p → Either event reply
  by_same event reply same = inr (rests (sym same ∙ now))

  -- a turn after which its process is not at work
  by_turn : (event : Event) (reply : Reply) (q : ℕ) → ((r : ℕ) → r ≢ q → (world_of new).situation r ≡ (world_of old).situation r) → ((e : PlainWorkCall) → (world_of new).situation q ≡ Working e → ⊥) → Either event reply
  by_turn event reply q others none = elim (cases_eq p q) [
    | inl same ↦ absurd (none f (ap (λ x. (world_of new).situation x) (sym same) ∙ now))
    | inr ne ↦ by_same event reply (others p ne)
  ]

  edit_after : (e : PlainEditCall) (s : Stage) (word : ℕ) (g : PlainWorkCall) → edit_steps.after e s word ≡ Working g → ⊥
  edit_after e (edit_stages.Answer how) word g is = cc
  edit_after e _ word g is = cc

  abbrev started : PlainWorkCall → PlainWorkCall
  started e = record e { stage = LoadMark }

  one_work : (g h : PlainWorkCall) → Working g ≡ Working h → g ≡ h
  one_work g h is = cc

  -- its own work's turn
  by_own : (event : Event) (reply : Reply) (e : PlainWorkCall) → e.process ≡ p → (world_of old).situation p ≡ Working e → (what : Turn WorkEnd) → taken.TakesTurn e (world_of old) (world_of new) what → Either event reply
  by_own event reply e mine was what (taken.steps word t on) =
      inr (steps_on e word mine was t (one_work f (next_at e e.stage word) (sym now ∙ ap (λ x. (world_of new).situation x) (sym mine) ∙ t.situation ∙ after_on e e.stage word on)))
  by_own event reply e mine was what (taken.reads content inputs at_read t) =
      let same : f ≡ read_from e content inputs = one_work f (read_from e content inputs) (sym now ∙ ap (λ x. (world_of new).situation x) (sym mine) ∙ t.turn.situation) in
      inr (goes_on e was (ap (λ (x : PlainWorkCall). x.cell) same ∙ cell_if (nat_lt 0 (length inputs))) (subst (λ (x : PlainWorkCall). IsBetween x) (sym same) (between_if (nat_lt 0 (length inputs)) (record e { content = content; inputs = inputs; stage = LoadValue 0 }) (record e { content = content; inputs = inputs; stage = LoadOwnValue }) tt tt)))
    where
      cell_if : (b : Bool) → (if b then record e { content = content; inputs = inputs; stage = LoadValue 0 } else record e { content = content; inputs = inputs; stage = LoadOwnValue }).cell ≡ e.cell
      cell_if true = refl
      cell_if false = refl
  by_own event reply e mine was what (taken.lacked at_read t) =
      let same : f ≡ lacks e = one_work f (lacks e) (sym now ∙ ap (λ x. (world_of new).situation x) (sym mine) ∙ t.situation) in
      inr (goes_on e was (ap (λ (x : PlainWorkCall). x.cell) same) (subst (λ (x : PlainWorkCall). IsBetween x) (sym same) tt))
  by_own event reply e mine was what (taken.answers end at_answer t) =
      absurd (let bad : Working f ≡ Idle (Rattle.ds_work.specs.WorkSteps.rest_of e) = sym now ∙ ap (λ x. (world_of new).situation x) (sym mine) ∙ t.situation in cc)

  by_work : (q : ℕ) (reply : Reply) → WorkStepsBy old q reply new → Either (Step q) reply
  by_work q reply h = elim (cases_eq p q) [
    | inl same ↦ by_own (Step q) reply h.steps.work (h.steps.mine ∙ sym same) (ap (λ x. (world_of old).situation x) same ∙ h.steps.works) h.what h.steps.turn
    | inr ne ↦ by_same (Step q) reply (others h.what h.steps.turn p (λ same. ne (same ∙ h.steps.mine)))
  ]
    where
      others : (what : Turn WorkEnd) → taken.TakesTurn h.steps.work (world_of old) (world_of new) what → (r : ℕ) → r ≢ h.steps.work.process → (world_of new).situation r ≡ (world_of old).situation r
      others what (taken.steps word t on) = t.others
      others what (taken.reads content inputs at_read t) = t.turn.others
      others what (taken.lacked at_read t) = t.others
      others what (taken.answers end at_answer t) = t.others

  began : (q : ℕ) (cell : Cell) → WorkBegins old q cell new → Either (BeginWork q cell) Entered
  began q cell h = elim (cases_eq p q) [
    | inr ne ↦ by_same (BeginWork q cell) Entered (h.begun.begins.turn.others p (λ same. ne (same ∙ h.begun.process_is)))
    | inl same ↦ (
        let is : f ≡ started h.begun.work = one_work f (started h.begun.work) (sym now ∙ ap (λ x. (world_of new).situation x) (same ∙ sym h.begun.process_is) ∙ h.begun.begins.turn.situation) in
        inl (record {
          cell = cell;
          event_is = ap (λ x. BeginWork x cell) (sym same);
          reply_is = refl;
          cell_is = ap (λ (x : PlainWorkCall). x.cell) is ∙ h.begun.cell_is;
          first = ap (λ (x : PlainWorkCall). x.stage) is;
        }))
  ]

  by_offer : (value : PlainEvaluated) (reply : Reply) → TakesEntry old value new → Either (Offer value) reply
  by_offer value reply h = elim (cases_eq p value.task.process) [
    | inr ne ↦ by_same (Offer value) reply (h.offered.offers.turn.others p (λ same. ne (same ∙ h.offered.mine)))
    | inl same ↦ (
        let e = h.offered.work in
        let is : f ≡ offered e value.entry = one_work f (offered e value.entry) (sym now ∙ ap (λ x. (world_of new).situation x) (same ∙ sym h.offered.mine) ∙ h.offered.offers.turn.situation) in
        inr (goes_on e (ap (λ x. (world_of old).situation x) same ∙ h.offered.waits.works) (ap (λ (x : PlainWorkCall). x.cell) is)
        (subst (λ (x : PlainWorkCall). IsBetween x) (sym is) (between_stage ((e.value == value_for value.entry) && (e.kind == word_for value.entry))))))
  ]
    where
      between_stage : (b : Bool) → Knows (λ mark. ⊥) (λ end. ⊥) h.offered.work.mark (if b then Clear false else StoreValue)
      between_stage true = tt
      between_stage false = tt

  show_after : (q : ℕ) (reply : Reply) → ShowStepsBy old q reply new → (e : PlainWorkCall) → (world_of new).situation q ≡ Working e → ⊥
  show_after q reply h e is = after_shows h.steps.show h.steps.show.stage h.steps.word e (sym h.steps.steps.situation ∙ ap (λ x. (world_of new).situation x) h.steps.mine ∙ is)
    where
      after_shows : (show : PlainShowCall) (s : ShowStage) (word : ℕ) (g : PlainWorkCall) → show_steps.after show s word ≡ Working g → ⊥
      after_shows show (show_stages.Answer end) word g is = cc
      after_shows show _ word g is = cc

  recovery_after : (q : ℕ) (reply : Reply) → RecoveryStepsBy old q reply new → (e : PlainWorkCall) → (world_of new).situation q ≡ Working e → ⊥
  recovery_after q reply h e is = after_recovers h.steps.recovery h.steps.recovery.stage h.steps.word e (sym h.steps.steps.situation ∙ ap (λ x. (world_of new).situation x) h.steps.mine ∙ is)
    where
      after_recovers : (r : PlainRecoverCall) (s : RecoverStage) (word : ℕ) (g : PlainWorkCall) → recoveries_are.after r s word ≡ Working g → ⊥
      after_recovers r (recover_stages.Answer how) word g is = cc
      after_recovers r _ word g is = cc

  migration_after : (q : ℕ) (reply : Reply) → MigrationStepsBy old q reply new → (e : PlainWorkCall) → (world_of new).situation q ≡ Working e → ⊥
  migration_after q reply h e is = after_migrates h.steps.migration h.steps.migration.stage h.steps.word e (sym h.steps.steps.situation ∙ ap (λ x. (world_of new).situation x) h.steps.mine ∙ is)
    where
      after_migrates : (m : PlainMigrateCall) (s : MigrateStage) (word : ℕ) (g : PlainWorkCall) → migrations_are.after m s word ≡ Working g → ⊥
      after_migrates m (migrate_stages.Answer how) word g is = cc
      after_migrates m _ word g is = cc

  by : (event : Event) (reply : Reply) → Did old new event reply → Either event reply
  by _ _ (nothing event reply none is same) = by_same event reply (ap (λ (v : WorldValue). (world_of v).situation p) same)
  by _ _ (edit_begins r number h) = by_turn (BeginEdit r) (Begun number) h.begun.edit.process h.begun.begins.others (λ e is. let bad : Editing h.begun.edit ≡ Working e = sym h.begun.begins.situation ∙ is in cc)
  by _ _ (work_begins q cell h) = began q cell h
  by _ _ (show_begins q h) = by_turn (BeginShow q) Entered q h.begun.begins.others (λ e is. let bad : Showing _ ≡ Working e = sym h.begun.begins.situation ∙ is in cc)
  by _ _ (recovery_begins q h) = by_turn (BeginRecover q) Entered q h.begun.begins.others (λ e is. let bad : Recovering _ ≡ Working e = sym h.begun.begins.situation ∙ is in cc)
  by _ _ (migration_begins q h) = by_turn (BeginMigrate q) Entered q h.begun.others (λ e is. let bad : Migrating _ ≡ Working e = sym h.begun.situation ∙ is in cc)
  by _ _ (did_so.steps q reply is (edits h)) = by_turn (Step q) reply h.steps.edit.process h.steps.steps.others (λ e at. edit_after h.steps.edit h.steps.edit.stage h.steps.word e (sym h.steps.steps.situation ∙ at))
  by _ _ (did_so.steps q reply is (works h)) = by_work q reply h
  by _ _ (did_so.steps q reply is (reports h)) = by_turn (Step q) reply q (show_turn old new q reply good.sound h).others (show_after q reply h)
  by _ _ (did_so.steps q reply is (recoveries h)) = by_turn (Step q) reply q (recovery_turn old new q reply good.sound h).others (recovery_after q reply h)
  by _ _ (did_so.steps q reply is (migrations h)) = by_turn (Step q) reply q (migration_turn old new q reply good.sound h).others (migration_after q reply h)
  by _ _ (offers value h) = by_offer value Stepped h
  by _ _ (evicts word h) = by_same (Evict word) Evicted (h.evicts.situation p)
  by _ _ (stops q h) = by_turn (Stop q) Stopped q h.stops.others (λ e is. let bad : situation.Stopped ≡ Working e = sym h.stops.situation ∙ is in cc)
  by _ _ (crashes h) = absurd (let bad : situation.Stopped ≡ Working f = sym (h.crashes.situation p low) ∙ now in cc)

  one_event : (event : Event) (reply : Reply) → Takes old event reply new → Either event reply
  one_event event reply h = by event reply (did old new event reply h)

-- ---- along a run

-- a work of the world is one of its processes'
real : (v : WorldValue) (p : ℕ) (e : PlainWorkCall) → IsGood v → (world_of v).situation p ≡ Working e → p < v.sheet.layout.processes
real v p e good is = elim (cases_lt p v.sheet.layout.processes) [
  | inl lt ↦ lt
  | inr ge ↦ absurd (let bad : Idle first_rest ≡ Working e = sym (get_or_past v.situations p (Idle first_rest) (let n = good.situations in omega arith)) ∙ is in cc)
]

module _ (old : WorldValue) (events : List Event) (replies : List Reply) (new : WorldValue) (run : RunOn 0 old.sheet.layout.shape empty_ledger old events replies new)
    (good : (k : ℕ) → k ≤ length events → IsGood (run.moment k).world) (fresh : IsNew (world_of old)) where
  abbrev at_moment : ℕ → WorldValue
  at_moment k = (run.moment k).world

  -- at an earlier moment of the call the cell was marked, and this was its mark
  record HasLoaded (start k : ℕ) (cell : Cell) (mark : ℕ) : Type 0 where
    seen : ℕ
    later : start < seen
    before : seen < k
    marked : state_then (run.moment seen) cell ≡ Marked
    is : mark_then (run.moment seen) cell ≡ mark

  -- the cause of an end, and what was loaded, by n events
  abbrev Cause : ℕ → ℕ → ℕ → Cell → WorkEnd → Type 0
  Cause p start k cell end = CauseFits run.moment p start k cell end

  loaded_on : (start k : ℕ) (cell : Cell) (mark : ℕ) → HasLoaded start k cell mark → HasLoaded start (k + 1) cell mark
  loaded_on start k cell mark h = record { seen = h.seen; later = h.later; before = (let b = h.before in omega (arith, b)); marked = h.marked; is = h.is }

  was_on : (start k : ℕ) (So : Moment → Type 0) → WasSo run.moment start k So → WasSo run.moment start (k + 1) So
  was_on start k So h = record { at = h.at; later = h.later; until = (let u = h.until in omega (arith, u)); so = h.so }

  let_go_on : (p start k : ℕ) (cell : Cell) (now : State) → WasLetGo run.moment p start k cell now → WasLetGo run.moment p start (k + 1) cell now
  let_go_on p start k cell now h = record { at = h.at; later = h.later; until = (let u = h.until in omega (arith, u)); held = h.held; so = h.so }

  cause_on : (p start k : ℕ) (cell : Cell) (end : WorkEnd) → Cause p start k cell end → Cause p start (k + 1) cell end
  cause_on p start k cell NotDirty h = was_on start k _ h
  cause_on p start k cell Missed (inl h) = inl (was_on start k _ h)
  cause_on p start k cell Missed (inr h) = inr (record { seen = h.seen; later = h.later; at = h.at; order = h.order; until = (let u = h.until in omega (arith, u)); marked = h.marked; other = h.other })
  cause_on p start k cell Worn h = was_on start k _ h
  cause_on p start k cell (Published changed) h = let_go_on p start k cell Clean h
  cause_on p start k cell Again h = let_go_on p start k cell Marked h
  cause_on p start k cell NoMemory h = let_go_on p start k cell Marked h

  record IsAtWork (p k : ℕ) (e : PlainWorkCall) : Type 0 where
    cell : Cell
    start : ℕ
    earlier : start < k
    begins : Happens events replies start (BeginWork p cell) Entered
    last : (j : ℕ) (other : Cell) → start < j → j < k → Happens events replies j (BeginWork p other) Entered → ⊥
    cell_is : e.cell ≡ index_of old.sheet.layout.shape cell
    knows : Knows (HasLoaded start k cell) (λ end. Cause p start k cell end) e.mark e.stage

  takes_at : (k : ℕ) (event : Event) (reply : Reply) → Happens events replies k event reply → Takes (at_moment k) event reply (at_moment (k + 1))
  takes_at k event reply happens = (at_place old events replies new run k event reply happens).takes

  not_twice : (k p : ℕ) (cell : Cell) (e : PlainWorkCall) → (world_of (at_moment k)).situation p ≡ Working e → Happens events replies k (BeginWork p cell) Entered → ⊥
  not_twice k p cell e is happens =
      let t : WorkBegins (at_moment k) p cell (at_moment (k + 1)) = takes_at k (BeginWork p cell) Entered happens in
      let bad : Idle t.begun.next ≡ Working e = sym t.begun.begins.was ∙ ap (λ x. (world_of (at_moment k)).situation x) t.begun.process_is ∙ is in
      cc

  fits_at : (k p : ℕ) (e : PlainWorkCall) → k ≤ length events → (world_of (at_moment k)).situation p ≡ Working e → WorkFits (world_of (at_moment k)) p e
  fits_at k p e lt is = subst (λ (s : Situation). CallFits (world_of (at_moment k)) p s) is ((good k lt).sound.calls p (real (at_moment k) p e (good k lt) is))

  -- ---- its own step

  module _ (k p : ℕ) (lt : k ≤ length events) (e : PlainWorkCall) (word : ℕ) (mine : e.process ≡ p) (was : (world_of (at_moment k)).situation p ≡ Working e)
      (t : StepsAt e e.stage word (world_of (at_moment k)) (world_of (at_moment (k + 1)))) (w : IsAtWork p k e) where
    fits : WorkFits (world_of (at_moment k)) p e
    fits = fits_at k p e lt was

    -- what the mark of its cell is at this moment
    mark_here : mark_then (run.moment k) w.cell ≡ (world_of (at_moment k)).memory.cached (place.Mark e.cell)
    mark_here = ap (λ (x : Shape). (world_of (at_moment k)).memory.cached (place.Mark (index_of x w.cell))) (ap (λ (l : Layout). l.shape) (run.layouts k lt)) ∙ ap (λ n. (world_of (at_moment k)).memory.cached (place.Mark n)) (sym w.cell_is)

    performs : (s : WorkStage) → e.stage ≡ s → PerformsAt (access_at (at_moment k).sheet.layout.shape e s) e.process (world_of (at_moment k)).memory (world_of (at_moment (k + 1))).memory word
    performs s is = subst (λ (x : WorkStage). PerformsAt (access_at (at_moment k).sheet.layout.shape e x) e.process (world_of (at_moment k)).memory (world_of (at_moment (k + 1))).memory word) is t.memory

    -- what the word says that is this mark
    says : (st : State) → word ≡ mark_then (run.moment k) w.cell → state_of (mark_of e.processes word) ≡ st → state_then (run.moment k) w.cell ≡ st
    says st seen is = ap (λ n. state_of (mark_of n (mark_then (run.moment k) w.cell))) fits.processes ∙ ap (λ n. state_of (mark_of e.processes n)) (sym seen) ∙ is

    here : (So : Moment → Type 0) → So (run.moment k) → WasSo run.moment w.start (k + 1) So
    here So so = record { at = k; later = w.earlier; until = omega arith; so = so }

    holds_none : e.stage ≡ LoadMark → (r : ℕ) → IsHeldBy p ((world_of (at_moment k)).memory.cached (place.Mark r)) → ⊥
    holds_none is r by =
        let none : HoldsNone (world_of (at_moment k)) e.process = subst (λ (s : WorkStage). HoldFits (world_of (at_moment k)) e (work_known (length e.inputs) s).hold) is fits.knows.hold in
        none r (subst (λ q. IsHeldBy q ((world_of (at_moment k)).memory.cached (place.Mark r))) (sym mine) by)

    loads : e.stage ≡ LoadMark → Loads (HasLoaded w.start (k + 1) w.cell) (λ end. Cause p w.start (k + 1) w.cell end) e word
    loads is =
        let seen : word ≡ mark_then (run.moment k) w.cell = (performs LoadMark is).0 ∙ sym mark_here in
        record {
          clean = λ st. here _ (says Clean seen st);
          held = λ q st. inl (here _ (
            q,
            (λ same. holds_none is e.cell (subst (λ x. IsHeldBy x ((world_of (at_moment k)).memory.cached (place.Mark e.cell))) same (subst (λ n. IsHeldBy q n) (seen ∙ mark_here) (held_by e.processes word q st)))),
            says (Held q) seen st,
          ));
          marked = λ st. record { seen = k; later = w.earlier; before = omega arith; marked = says Marked seen st; is = sym seen };
          worn = λ st old_mark. here _ (says Marked seen st, subst (λ n. SEEN_MOST < generation_of n) seen old_mark);
        }

    lost : e.stage ≡ Claim → HasLoaded w.start k w.cell e.mark → word ≢ e.mark → Cause p w.start (k + 1) w.cell Missed
    lost is h other = inr (record {
      seen = h.seen;
      later = h.later;
      at = k;
      order = h.before;
      until = omega arith;
      marked = h.marked;
      other = λ same. other ((performs Claim is).0 ∙ sym mark_here ∙ same ∙ h.is);
    })

    -- the mark of its cell at the next moment
    mark_next : (run.moment (k + 1)).world.sheet.layout ≡ (at_moment k).sheet.layout → mark_then (run.moment (k + 1)) w.cell ≡ (world_of (at_moment (k + 1))).memory.cached (place.Mark e.cell)
    mark_next same = ap (λ (x : Shape). (world_of (at_moment (k + 1))).memory.cached (place.Mark (index_of x w.cell))) (ap (λ (l : Layout). l.shape) (same ∙ run.layouts k lt)) ∙ ap (λ n. (world_of (at_moment (k + 1))).memory.cached (place.Mark n)) (sym w.cell_is)

    -- it held the cell, by its claim or that mark made dirty, and stores a mark that nobody holds
    lets_go : (st : State) (now : ℕ) → HasHeld (world_of (at_moment k)) e → (mark_then (run.moment k) w.cell ≡ e.mark) ⊎ (mark_then (run.moment k) w.cell ≡ dirtied e.mark)
        → (world_of (at_moment (k + 1))).memory.cached (place.Mark e.cell) ≡ now → state_of (mark_of (at_moment (k + 1)).sheet.layout.processes now) ≡ st → WasLetGo run.moment p w.start (k + 1) w.cell st
    lets_go st now held was_mark stored is =
        let even = held.claim.even in
        let by : IsHeldBy p e.mark = subst (λ q. IsHeldBy q e.mark) mine held.claim.by in
        let holds : IsHeldBy p (mark_then (run.moment k) w.cell) = elim was_mark [ inl same ↦ omega (arith, same, by) | inr same ↦ omega (arith, same, by, even) ] in
        let real_here : p < (at_moment k).sheet.layout.processes = real (at_moment k) p e (good k lt) was in
        record {
          at = k;
          later = w.earlier;
          until = omega arith;
          held = held_state (at_moment k).sheet.layout.processes (mark_then (run.moment k) w.cell) p real_here holds;
          so = ap (λ n. state_of (mark_of (at_moment (k + 1)).sheet.layout.processes n)) (mark_next t.layout ∙ stored) ∙ is;
        }

    hold_at : (s : WorkStage) → e.stage ≡ s → HoldFits (world_of (at_moment k)) e (work_known (length e.inputs) s).hold
    hold_at s is = subst (λ (x : WorkStage). HoldFits (world_of (at_moment k)) e (work_known (length e.inputs) x).hold) is fits.knows.hold

    goes : LetsGo (λ end. Cause p w.start (k + 1) w.cell end) e word e.stage
    goes = record {
      published = λ changed is won. (
          let swap = performs (Clear changed) is in
          elim swap.1 [
            | inl stored ↦ lets_go Clean (freed_after e.mark) (hold_at (Clear changed) is) (inl (mark_here ∙ sym swap.0 ∙ won)) stored.1.there (freed_state _ e.mark)
            | inr lost_swap ↦ absurd (lost_swap.0 won)
          ]);
      again = λ is. (
          let swap = performs ClearDirty is in
          let held = hold_at ClearDirty is in
          elim swap.1 [
            | inl stored ↦ lets_go Marked (dirtied (freed_after e.mark)) held.0 (inr (mark_here ∙ held.1)) stored.1.there (dirty_state _ e.mark)
            | inr lost_swap ↦ absurd (lost_swap.0 (swap.0 ∙ held.1))
          ]);
      given = λ is won. (
          let swap = performs Give is in
          elim swap.1 [
            | inl stored ↦ lets_go Marked (dirtied (freed_after e.mark)) (hold_at Give is) (inl (mark_here ∙ sym swap.0 ∙ won)) stored.1.there (dirty_state _ e.mark)
            | inr lost_swap ↦ absurd (lost_swap.0 won)
          ]);
      given_dirty = λ is. (
          let swap = performs GiveDirty is in
          let held = hold_at GiveDirty is in
          elim swap.1 [
            | inl stored ↦ lets_go Marked (dirtied (freed_after e.mark)) held.0 (inr (mark_here ∙ held.1)) stored.1.there (dirty_state _ e.mark)
            | inr lost_swap ↦ absurd (lost_swap.0 (swap.0 ∙ held.1))
          ]);
    }

    stepped : Knows (HasLoaded w.start (k + 1) w.cell) (λ end. Cause p w.start (k + 1) w.cell end) (next_at e e.stage word).mark (next_at e e.stage word).stage
    stepped = next_knows (HasLoaded w.start k w.cell) (HasLoaded w.start (k + 1) w.cell) (λ end. Cause p w.start k w.cell end) (λ end. Cause p w.start (k + 1) w.cell end) e word
        (cause_on p w.start k w.cell) e.stage w.knows loads lost goes

  -- ---- from event to event

  -- with what it knows after one event more
  later_on : (k p : ℕ) (e f : PlainWorkCall) → (world_of (at_moment k)).situation p ≡ Working e → (w : IsAtWork p k e) → f.cell ≡ e.cell
      → Knows (HasLoaded w.start (k + 1) w.cell) (λ end. Cause p w.start (k + 1) w.cell end) f.mark f.stage → IsAtWork p (k + 1) f
  later_on k p e f was w same knows = record {
    cell = w.cell;
    start = w.start;
    earlier = (let l = w.earlier in omega (arith, l));
    begins = w.begins;
    last = λ j other behind before happens. elim (cases_lt j k) [
      | inl lt ↦ w.last j other behind lt happens
      | inr ge ↦ (let here : j ≡ k = omega (arith, ge, before) in not_twice k p other e was (subst (λ i. Happens events replies i (BeginWork p other) Entered) here happens))
    ];
    cell_is = same ∙ w.cell_is;
    knows = knows;
  }

  one_more : (k p : ℕ) (f : PlainWorkCall) → k ≤ length events → ((e : PlainWorkCall) → (world_of (at_moment k)).situation p ≡ Working e → IsAtWork p k e) → WasAtWork p (at_moment k) (at_moment (k + 1)) f → IsAtWork p (k + 1) f
  one_more k p f lt before (rests was) =
      let w = before f was in
      later_on k p f f was w refl (knows_on (HasLoaded w.start k w.cell) (HasLoaded w.start (k + 1) w.cell) (λ end. Cause p w.start k w.cell end) (λ end. Cause p w.start (k + 1) w.cell end) f.mark
      (loaded_on w.start k w.cell f.mark) (cause_on p w.start k w.cell) f.stage w.knows)
  one_more k p f lt before (steps_on e word mine was t is) =
      let w = before e was in
      later_on k p e f was w (ap (λ (x : PlainWorkCall). x.cell) (is ∙ next_noted e word e.stage))
      (subst (λ (x : PlainWorkCall). Knows (HasLoaded w.start (k + 1) w.cell) (λ end. Cause p w.start (k + 1) w.cell end) x.mark x.stage) (sym is) (stepped k p lt e word mine was t w))
  one_more k p f lt before (goes_on e was same between) =
      let w = before e was in
      later_on k p e f was w same (knows_on (λ mark. ⊥) (HasLoaded w.start (k + 1) w.cell) (λ end. ⊥) (λ end. Cause p w.start (k + 1) w.cell end) f.mark (λ none. absurd none) (λ end none. absurd none) f.stage between)

  at_work : (k : ℕ) → k ≤ length events → (p : ℕ) (f : PlainWorkCall) → (world_of (at_moment k)).situation p ≡ Working f → IsAtWork p k f
  at_work zero lt p f is = absurd (
      let old_good : IsGood old = subst IsGood (ap (λ (m : Moment). m.world) run.first) (good 0 (omega arith)) in
      let here : (world_of old).situation p ≡ Working f = ap (λ (m : Moment). (world_of m.world).situation p) (sym run.first) ∙ is in
      let first = new_idle old old_good fresh p in
      let bad : Idle first.rest ≡ Working f = sym first.is ∙ here in
      cc)
  at_work (suc k) lt p f is =
      let event = found_at events k (omega arith) in
      let reply = found_at replies k (let same = run.answered in omega arith) in
      let happens : Happens events replies k event.0 reply.0 = record { event_is = event.1; reply_is = reply.1 } in
      let next : (world_of (at_moment (k + 1))).situation p ≡ Working f = (let same : suc k ≡ k + 1 = omega arith in subst (λ i. (world_of (at_moment i)).situation p ≡ Working f) same is) in
      let layouts : (at_moment (k + 1)).sheet.layout.processes ≡ (at_moment k).sheet.layout.processes = ap (λ (l : Layout). l.processes) (at_place old events replies new run k event.0 reply.0 happens).layout in
      let low : p < (at_moment k).sheet.layout.processes = (let r = real (at_moment (k + 1)) p f (good (k + 1) (omega arith)) next in omega arith) in
      up (λ i. IsAtWork p i f) k (elim (one_event p (at_moment k) (at_moment (k + 1)) (good k (omega arith)) low f next event.0 reply.0 (takes_at k event.0 reply.0 happens)) [
        | inl b ↦ record {
          cell = b.cell;
          start = k;
          earlier = omega arith;
          begins = subst (λ (x : Event). Happens events replies k x Entered) b.event_is (subst (λ (x : Reply). Happens events replies k event.0 x) b.reply_is happens);
          last = λ j other later before. absurd (omega arith);
          cell_is = b.cell_is ∙ ap (λ (l : Layout). index_of l.shape b.cell) (run.layouts k (omega arith));
          knows = subst (λ (s : WorkStage). Knows (HasLoaded k (k + 1) b.cell) (λ end. Cause p k (k + 1) b.cell end) f.mark s) (sym b.first) tt;
        }
        | inr w ↦ one_more k p f (omega arith) (at_work k (omega arith) p) w
      ])

  -- ---- at its answer

  -- no other call answers as work
  edit_works_not : (processes number : ℕ) (end : WorkEnd) (how : Outcome) → Work end ≡ Edit (end_by processes number how) → ⊥
  edit_works_not processes number end outcome.Done is = absurd (cc)
  edit_works_not processes number end (outcome.Overtaken noted seen) is = absurd (cc)

  show_works_not : (what : Turn ShowEnd) (end : WorkEnd) → Answered (Work end) ≡ show_reply what → ⊥
  show_works_not turns.GoesOn end is = absurd (cc)
  show_works_not (turns.Answers e) end is = absurd (cc)

  recovery_works_not : (what : Turn RecoveryEnd) (end : WorkEnd) → Answered (Work end) ≡ recovery_reply what → ⊥
  recovery_works_not turns.GoesOn end is = absurd (cc)
  recovery_works_not (turns.Answers e) end is = absurd (cc)

  migration_works_not : (what : Turn MigrateEnd) (end : WorkEnd) → Answered (Work end) ≡ migration_reply what → ⊥
  migration_works_not turns.GoesOn end is = absurd (cc)
  migration_works_not (turns.Answers e) end is = absurd (cc)

  -- the work is at its answer
  answer_at : (k p : ℕ) (end : WorkEnd) (e : PlainWorkCall) (what : Turn WorkEnd) → taken.TakesTurn e (world_of (at_moment k)) (world_of (at_moment (k + 1))) what → Answered (Work end) ≡ work_reply what → e.stage ≡ Answer end
  answer_at k p end e what (taken.steps word t on) is = absurd (cc)
  answer_at k p end e what (taken.reads content inputs at_read t) is = absurd (cc)
  answer_at k p end e what (taken.lacked at_read t) is = absurd (cc)
  answer_at k p end e what (taken.answers ended at_answer t) is = let same : ended ≡ end = cc in at_answer ∙ ap (λ x. Answer x) same

  by_steps : (k p : ℕ) (end : WorkEnd) → k ≤ length events → StepsBy (at_moment k) p (Answered (Work end)) (at_moment (k + 1)) → HasCause run.moment events replies k p end
  by_steps k p end lt (edits h) = absurd (let found = some_outcome (at_moment k).sheet.layout.processes h.steps.edit.number (Work end) (outcome_at h.steps.edit.stage) (replied (at_moment k) (at_moment (k + 1)) p (Answered (Work end)) h) in edit_works_not (at_moment k).sheet.layout.processes h.steps.edit.number end found.0 found.2)
  by_steps k p end lt (reports h) = absurd (show_works_not h.what end h.is)
  by_steps k p end lt (recoveries h) = absurd (recovery_works_not h.what end h.is)
  by_steps k p end lt (migrations h) = absurd (migration_works_not h.what end h.is)
  by_steps k p end lt (works h) =
      let e = h.steps.work in
      let w = at_work k lt p e h.steps.works in
      let last = answer_at k p end e h.what h.steps.turn h.is in
      record {
        cell = w.cell;
        start = w.start;
        work = record { begins = w.begins; earlier = w.earlier; last = w.last };
        fits = subst (λ (s : WorkStage). Knows (HasLoaded w.start k w.cell) (λ x. Cause p w.start k w.cell x) e.mark s) last w.knows;
      }

  pub works_fit : WorksFit run.moment events replies
  works_fit k p end happens = by_steps k p end (let lt = within events k (Step p) happens.event_is in omega (arith, lt)) (takes_at k (Step p) (Answered (Work end)) happens)
