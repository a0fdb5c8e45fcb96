-- Work that is alone publishes its value, or says why it does not.
use Rattle.std.proofs.Common.{ℕ, ◌≡◌, ◌<◌, ◌/◌, ◌⊎◌, List, [], ◌∷◌, refl, ap, sym, ◌∙◌, subst, inl, inr, true, false}
use Rattle.ds_layout.specs.declared.place.Place.{Place}
use Rattle.ds_layout.specs.declared.place.Place.TheVariants.{Mark, Value, Kind, Index}
use Rattle.ds_layout.specs.Mark.{IsClean}
use Rattle.ds_state.specs.World.{PlainWorld}
use Rattle.ds_state.specs.Works.{PlainWorkCall, PlainShowCall, PlainRecoverCall}
use Rattle.ds_state.specs.Edits.{PlainEditCall}
use Rattle.ds_state.specs.Sound.{IsSound}
use Rattle.ds_state.specs.Value.{WorldValue, world_of}
use Rattle.ds_state.specs.declared.work.WorkEnd.{WorkEnd}
use Rattle.ds_state.specs.declared.work.WorkEnd.TheVariants as ends
use Rattle.ds_state.specs.declared.work.WorkStage.{WorkStage}
use Rattle.ds_state.specs.declared.work.WorkStage.TheVariants.{LoadMark}
use Rattle.ds_layout.specs.Bits.{HasBit}
use Rattle.ds_state.specs.KnownWork.{WorkFits}
use Rattle.ds_state.specs.CallsFit.{CallFits}
use Rattle.ds_state.specs.declared.situation.Situation.{Situation}
use Rattle.ds_state.specs.declared.situation.Situation.TheVariants.{Idle, Editing, Working, Recovering, Showing, Migrating}
use Rattle.ds_state.specs.declared.situation.Rest.{Rest}
use Rattle.ds_work.specs.WorkSteps.{rest_of}
use Rattle.ds_state.specs.declared.turn.Turn.{Turn}
use Rattle.ds_state.specs.declared.turn.Turn.TheVariants as taken
use Rattle.ds_work.specs.WorkAnswers.{mark_now}
use Rattle.ds_work.specs.WorkShows.{CellWords, shown_in, EndsShowing, ShowsAt}
use Rattle.ds_work.specs.WorkAlone.{IsMarkedAt, IsAloneAt, IsAlone, RefersToItself, EndsAlone, GoesAlone}
use Rattle.ds_work.proofs.WorkShows.{shown_same}
use Rattle.ds_work.proofs.WorkAlone.{turn_alone, offer_alone, same_sees}
use Rattle.ds_core.specs.StepEvents.{edits, works, reports, recoveries, migrations}
use Rattle.ds_core.specs.Takes.{Takes, WorldRun}
use Rattle.ds_state.specs.declared.answer.Answer.TheVariants.{Work}
use Rattle.ds_core.specs.WorkEvents.{work_reply, WorkStepsBy}
use Rattle.ds_core.proofs.Did as did_so
use Rattle.ds_core.proofs.Did.{Did, did, IsNothing, edit_begins, work_begins, show_begins, recovery_begins, migration_begins, steps, offers, evicts, stops, crashes}
use Rattle.ds_core.specs.Solo.{IsLoneEvent, IsLone, IsLoneAnswer, IsLoneReply, AreLoneReplies, StandsInOwnRow}
use Rattle.ds_core.specs.declared.event.Event.{Event}
use Rattle.ds_core.specs.declared.reply.Reply.{Reply}
use Rattle.ds_core.specs.declared.reply.Reply.TheVariants.{Answered}

says_nothing : (first last : PlainWorld) (cell : ℕ) (reply : Reply) → IsNothing reply → IsLoneReply first last cell reply
says_nothing first last cell (Answered answer) none = absurd none
says_nothing first last cell _ none = tt

-- ---- it is over

-- nothing is answered any more, and all words stay
record IsOver (first last : PlainWorld) (cell p : ℕ) (reply : Reply) (old new : WorldValue) : Type 0 where
  silent : IsLoneReply first last cell reply
  idle : (n : Rest) → (world_of old).situation p ≡ Idle n → (world_of new).situation p ≡ Idle n
  words : (r : Place) → (world_of new).memory.cached r ≡ (world_of old).memory.cached r

module _ (first last : PlainWorld) (cell p : ℕ) (n : Rest) (old new : WorldValue) (idle : (world_of old).situation p ≡ Idle n) where
  nothing : (reply : Reply) → IsLoneReply first last cell reply → new ≡ old → IsOver first last cell p reply old new
  nothing reply silent same = subst (λ (v : WorldValue). IsOver first last cell p reply old v) (sym same) (record { silent = silent; idle = λ k is. is; words = λ r. refl })

  idle_at : (q : ℕ) → q ≡ p → (world_of old).situation q ≡ Idle n
  idle_at q same = ap (λ x. (world_of old).situation x) same ∙ idle

  by : (event : Event) (reply : Reply) → Did old new event reply → IsLoneEvent p event → IsOver first last cell p reply old new
  by _ _ (did_so.nothing event reply none is all) same = nothing reply (says_nothing first last cell reply none) all
  by _ _ (steps q reply is (edits h)) same = absurd (let bad : Idle n ≡ Editing h.steps.edit = sym (idle_at q same) ∙ h.steps.at in cc)
  by _ _ (steps q reply is (works h)) same = absurd (let bad : Idle n ≡ Working h.steps.work = sym (idle_at q same) ∙ h.steps.works in cc)
  by _ _ (steps q reply is (reports h)) same = absurd (let bad : Idle n ≡ Showing h.steps.show = sym (idle_at q same) ∙ h.steps.at in cc)
  by _ _ (steps q reply is (recoveries h)) same = absurd (let bad : Idle n ≡ Recovering h.steps.recovery = sym (idle_at q same) ∙ h.steps.at in cc)
  by _ _ (steps q reply is (migrations h)) same = absurd (let bad : Idle n ≡ Migrating h.steps.migration = sym (idle_at q same) ∙ h.steps.at in cc)
  by _ _ (evicts word h) same = record { silent = tt; idle = λ k is. h.evicts.situation p ∙ is; words = λ x. h.evicts.memory.cached x }
  by _ _ (offers value h) same = absurd (let bad : Idle n ≡ Working h.offered.work = sym (idle_at value.task.process same) ∙ h.offered.waits.works in cc)
  by _ _ (edit_begins r k h) same = absurd same
  by _ _ (work_begins q c h) same = absurd same
  by _ _ (show_begins q h) same = absurd same
  by _ _ (recovery_begins q h) same = absurd same
  by _ _ (migration_begins q h) same = absurd same
  by _ _ (stops q h) same = absurd same
  by _ _ (crashes h) same = absurd same

  over : (event : Event) (reply : Reply) → Takes old event reply new → IsLoneEvent p event → IsOver first last cell p reply old new
  over event reply h same = by event reply (did old new event reply h) same

rest : (first last : PlainWorld) (cell : ℕ) (events : List Event) (replies : List Reply) (old new : WorldValue) (p : ℕ) (n : Rest) → (world_of old).situation p ≡ Idle n → WorldRun old events replies new → IsLone p events
    → AreLoneReplies first last cell replies × ((r : Place) → (world_of new).memory.cached r ≡ (world_of old).memory.cached r)
rest first last cell [] [] old new p n idle run lone = (tt, λ r. ap (λ (v : WorldValue). (world_of v).memory.cached r) run)
rest first last cell (event ∷ events) (reply ∷ replies) old new p n idle run lone =
    let one = over first last cell p n old run.0 idle event reply run.1.takes lone.0 in
    let more = rest first last cell events replies run.0 new p n (one.idle n idle) run.2 lone.1 in
    ((one.silent, more.0), λ r. more.1 r ∙ one.words r)
rest first last cell [] (reply ∷ replies) old new p n idle run lone = absurd run
rest first last cell (event ∷ events) [] old new p n idle run lone = absurd run

-- ---- it is under way

record IsUnderway (row : ℕ → ℕ) (before : CellWords) (p cell : ℕ) (v : WorldValue) : Type 0 where
  work : PlainWorkCall
  mine : work.process ≡ p
  of_cell : work.cell ≡ cell
  at : (world_of v).situation p ≡ Working work
  alone : IsAlone row before (world_of v) work

module _ (row : ℕ → ℕ) (before : CellWords) (p cell : ℕ) (old new : WorldValue) (sound : IsSound (world_of old)) (u : IsUnderway row before p cell old) where
  same_work : (q : ℕ) (f : PlainWorkCall) → q ≡ p → (world_of old).situation q ≡ Working f → f ≡ u.work
  same_work q f same is = let one : Working f ≡ Working u.work = sym is ∙ ap (λ x. (world_of old).situation x) same ∙ u.at in cc

  no_edit : (q : ℕ) (f : PlainEditCall) → q ≡ p → (world_of old).situation q ≡ Editing f → ⊥
  no_edit q f same is = let bad : Editing f ≡ Working u.work = sym is ∙ ap (λ x. (world_of old).situation x) same ∙ u.at in cc

  no_show : (q : ℕ) (f : PlainShowCall) → q ≡ p → (world_of old).situation q ≡ Showing f → ⊥
  no_show q f same is = let bad : Showing f ≡ Working u.work = sym is ∙ ap (λ x. (world_of old).situation x) same ∙ u.at in cc

  no_recovery : (q : ℕ) (f : PlainRecoverCall) → q ≡ p → (world_of old).situation q ≡ Recovering f → ⊥
  no_recovery q f same is = let bad : Recovering f ≡ Working u.work = sym is ∙ ap (λ x. (world_of old).situation x) same ∙ u.at in cc

  goes : (e : PlainWorkCall) → e ≡ u.work → GoesAlone row before e (world_of new) taken.GoesOn → IsUnderway row before p cell new
  goes e same g =
      let mine : e.process ≡ p = ap (λ (x : PlainWorkCall). x.process) same ∙ u.mine in
      record { work = g.0; mine = g.2 ∙ mine; of_cell = g.1 ∙ ap (λ (x : PlainWorkCall). x.cell) same ∙ u.of_cell; at = ap (λ x. (world_of new).situation x) (sym mine) ∙ g.3; alone = g.4 }

  turns : (q : ℕ) (reply : Reply) → q ≡ p → (h : WorkStepsBy old q reply new) → GoesAlone row before h.steps.work (world_of new) h.what
  turns q reply same h =
      let e : PlainWorkCall = h.steps.work in
      let one = same_work q e same h.steps.works in
      turn_alone row before e (world_of old) (world_of new) sound (rw h.steps.mine h.steps.inside) (ap (λ x. (world_of old).situation x) h.steps.mine ∙ h.steps.works) h.steps.is
      (subst (λ (x : PlainWorkCall). IsAlone row before (world_of old) x) (sym one) u.alone) h.what h.steps.turn

  stays : new ≡ old → IsUnderway row before p cell new
  stays same = subst (λ (v : WorldValue). IsUnderway row before p cell v) (sym same) u

-- what comes of one event: it goes on, and nothing is answered; or it is answered, and is over
record Goes (first last : PlainWorld) (row : ℕ → ℕ) (before : CellWords) (p cell : ℕ) (reply : Reply) (new : WorldValue) : Type 0 where
  silent : IsLoneReply first last cell reply
  on : IsUnderway row before p cell new

record Ends (row : ℕ → ℕ) (before : CellWords) (p cell : ℕ) (reply : Reply) (new : WorldValue) : Type 0 where
  end : WorkEnd
  is : reply ≡ Answered (Work end)
  work : PlainWorkCall
  of_cell : work.cell ≡ cell
  so : EndsAlone row (world_of new) work end
  showing : EndsShowing before (shown_in (world_of new) work.cell) end
  n : Rest
  idle : (world_of new).situation p ≡ Idle n

module _ (first last : PlainWorld) (row : ℕ → ℕ) (before : CellWords) (p cell : ℕ) (old new : WorldValue) (sound : IsSound (world_of old)) (u : IsUnderway row before p cell old) where
  by_work : (q : ℕ) (reply : Reply) → q ≡ p → (h : WorkStepsBy old q reply new) → Goes first last row before p cell reply new ⊎ Ends row before p cell reply new
  by_work q reply same h = by h.what refl h.is (turns row before p cell old new sound u q reply same h)
    where
      one : h.steps.work ≡ u.work
      one = same_work row before p cell old new sound u q h.steps.work same h.steps.works

      by : (what : Turn WorkEnd) → h.what ≡ what → reply ≡ work_reply h.what → GoesAlone row before h.steps.work (world_of new) h.what → Goes first last row before p cell reply new ⊎ Ends row before p cell reply new
      by taken.GoesOn at is g = inl (record { silent = subst (λ (r : Reply). IsLoneReply first last cell r) (sym (is ∙ ap work_reply at)) tt; on = goes row before p cell old new sound u h.steps.work one (subst (λ (x : Turn WorkEnd). GoesAlone row before h.steps.work (world_of new) x) at g) })
      by (taken.Answers end) at is g =
          let k = subst (λ (x : Turn WorkEnd). GoesAlone row before h.steps.work (world_of new) x) at g in
          inr (record {
            end = end;
            is = is ∙ ap work_reply at;
            work = h.steps.work;
            of_cell = ap (λ (x : PlainWorkCall). x.cell) one ∙ u.of_cell;
            so = k.1;
            showing = k.2;
            n = rest_of h.steps.work;
            idle = ap (λ x. (world_of new).situation x) (sym same ∙ sym h.steps.mine) ∙ k.0;
          })

  still : (reply : Reply) → IsLoneReply first last cell reply → new ≡ old → Goes first last row before p cell reply new ⊎ Ends row before p cell reply new
  still reply silent same = inl (record { silent = silent; on = stays row before p cell old new sound u same })

  by_event : (event : Event) (reply : Reply) → Did old new event reply → IsLoneEvent p event → Goes first last row before p cell reply new ⊎ Ends row before p cell reply new
  by_event _ _ (did_so.nothing event reply none is all) same = still reply (says_nothing first last cell reply none) all
  by_event _ _ (steps q reply is (edits h)) same = absurd (no_edit row before p cell old new sound u q h.steps.edit same h.steps.at)
  by_event _ _ (steps q reply is (works h)) same = by_work q reply same h
  by_event _ _ (steps q reply is (reports h)) same = absurd (no_show row before p cell old new sound u q h.steps.show same h.steps.at)
  by_event _ _ (steps q reply is (recoveries h)) same = absurd (no_recovery row before p cell old new sound u q h.steps.recovery same h.steps.at)
  by_event _ _ (steps q reply is (migrations h)) same = absurd (let bad : Migrating h.steps.migration ≡ Working u.work = sym h.steps.at ∙ ap (λ x. (world_of old).situation x) same ∙ u.at in cc)
  by_event _ _ (evicts word h) same = inl (record {
    silent = tt;
    on = record {
      work = u.work;
      mine = u.mine;
      of_cell = u.of_cell;
      at = h.evicts.situation p ∙ u.at;
      alone = same_sees row (world_of old) (world_of new) u.work (h.evicts.memory.cached (Mark u.work.cell)) before (λ part. h.evicts.memory.cached (Index u.work.cell part))
          (shown_same (world_of old) (world_of new) u.work.cell (h.evicts.memory.cached (Value u.work.cell)) (h.evicts.memory.cached (Kind u.work.cell))) u.alone;
    };
  })
  by_event _ _ (offers value h) same =
      let o = h.offered in
      let one = same_work row before p cell old new sound u value.task.process o.work same o.waits.works in
      inl (record {
        silent = tt;
        on = goes row before p cell old new sound u o.work one
            (offer_alone row before o.work (world_of old) (world_of new) (subst (λ (x : PlainWorkCall). IsAlone row before (world_of old) x) (sym one) u.alone) value.entry o.waits.waits o.offers.turn);
      })
  by_event _ _ (edit_begins r k h) same = absurd same
  by_event _ _ (work_begins q c h) same = absurd same
  by_event _ _ (show_begins q h) same = absurd same
  by_event _ _ (recovery_begins q h) same = absurd same
  by_event _ _ (migration_begins q h) same = absurd same
  by_event _ _ (stops q h) same = absurd same
  by_event _ _ (crashes h) same = absurd same

  event_goes : (event : Event) (reply : Reply) → Takes old event reply new → IsLoneEvent p event → Goes first last row before p cell reply new ⊎ Ends row before p cell reply new
  event_goes event reply h same = by_event event reply (did old new event reply h) same

-- ---- over a run

module _ (row : ℕ → ℕ) (first middle last : PlainWorld) (cell : ℕ) (work : PlainWorkCall) (of_cell : work.cell ≡ cell) (index : (part : ℕ) → first.memory.cached (Index cell part) ≡ row part) (words : (r : Place) → last.memory.cached r ≡ middle.memory.cached r) where
  clean : IsClean (mark_now middle work) → IsClean (last.memory.cached (Mark cell))
  clean h = subst IsClean (ap (λ c. middle.memory.cached (Mark c)) of_cell ∙ sym (words (Mark cell))) h

  shown : shown_in last cell ≡ shown_in middle work.cell
  shown = shown_same middle last cell (words (Value cell)) (words (Kind cell)) ∙ ap (λ c. shown_in middle c) (sym of_cell)

  own : RefersToItself row work → StandsInOwnRow first cell
  own h = subst (λ x. HasBit x cell) (sym (index (cell / 64))) (subst (λ c. HasBit (row (c / 64)) c) of_cell h)

  refers : StandsInOwnRow first cell → RefersToItself row work
  refers h = subst (λ c. HasBit (row (c / 64)) c) (sym of_cell) (subst (λ x. HasBit x cell) (index (cell / 64)) h)

  -- the answer says what is so at the end
  answers_so : (end : WorkEnd) → EndsAlone row middle work end → EndsShowing (shown_in first cell) (shown_in middle work.cell) end → IsLoneAnswer first last cell (Work end)
  answers_so ends.NotDirty so showing = absurd so
  answers_so ends.Missed so showing = absurd so
  answers_so ends.Worn so showing = absurd so
  answers_so (ends.Published true) so showing = (clean so.0, λ same. showing (sym shown ∙ same), λ h. so.1 (refers h))
  answers_so (ends.Published false) so showing = (clean so, shown ∙ showing)
  answers_so ends.Again so showing = (own so, λ same. showing (sym shown ∙ same))
  answers_so ends.NoMemory so showing = shown ∙ showing

lone_run : (row : ℕ → ℕ) (first : PlainWorld) (p cell : ℕ) → ((part : ℕ) → first.memory.cached (Index cell part) ≡ row part) → (events : List Event) (replies : List Reply) (old new : WorldValue) → IsSound (world_of old) → IsUnderway row (shown_in first cell) p cell old
    → WorldRun old events replies new → IsLone p events → AreLoneReplies first (world_of new) cell replies
lone_run row first p cell index [] [] old new sound u run lone = tt
lone_run row first p cell index (event ∷ events) (reply ∷ replies) old new sound u run lone =
    elim (event_goes first (world_of new) row (shown_in first cell) p cell old run.0 sound u event reply run.1.takes lone.0) [
      | inl on ↦ (on.silent, lone_run row first p cell index events replies run.0 new run.1.good.sound on.on run.2 lone.1)
      | inr end ↦ (
          let more = rest first (world_of new) cell events replies run.0 new p end.n end.idle run.2 lone.1 in
          let answer = answers_so row first (world_of run.0) (world_of new) cell end.work end.of_cell index more.1 end.end end.so end.showing in
          (subst (λ (r : Reply). IsLoneReply first (world_of new) cell r) (sym end.is) answer, more.0))
    ]
lone_run row first p cell index [] (reply ∷ replies) old new sound u run lone = absurd run
lone_run row first p cell index (event ∷ events) [] old new sound u run lone = absurd run

-- each answer to work on a marked cell that is alone is one that work alone may have
pub lone_publishes : (old : WorldValue) (events : List Event) (replies : List Reply) (new : WorldValue) (p : ℕ) (e : PlainWorkCall) → IsSound (world_of old) → p < old.sheet.layout.processes → (world_of old).situation p ≡ Working e → e.stage ≡ LoadMark → IsMarkedAt (world_of old) e
    → WorldRun old events replies new → IsLone p events → AreLoneReplies (world_of old) (world_of new) e.cell replies
lone_publishes old events replies new p e sound low at first marked run lone =
    let fits : WorkFits (world_of old) p e = subst (λ (x : Situation). CallFits (world_of old) p x) at (sound.calls p low) in
    lone_run (λ part. (world_of old).memory.cached (Index e.cell part)) (world_of old) p e.cell (λ part. refl) events replies old new sound (record {
      work = e;
      mine = fits.mine;
      of_cell = refl;
      at = at;
      alone = record {
        at = subst (λ (s : WorkStage). IsAloneAt (λ part. (world_of old).memory.cached (Index e.cell part)) (world_of old) e s) (sym first) marked;
        shows = subst (λ (s : WorkStage). ShowsAt (shown_in (world_of old) e.cell) (shown_in (world_of old) e.cell) e s) (sym first) refl;
        index = λ part. refl;
      };
    }) run lone
