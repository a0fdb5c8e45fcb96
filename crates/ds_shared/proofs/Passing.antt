-- A pass after its call: what its fields say of its seat, what it did, and how many steps it took.
use Rattle.std.proofs.Common.{ℕ, ◌≡◌, ◌≤◌, ◌+◌, ◌-◌, ◌*◌, ◌/◌, ◌⊎◌, List, [], ◌∷◌, ◌++◌, length, arith, refl, sym, ap, subst, ◌∙◌, inl, inr, ⊎_elim, true, false}
use Rattle.std.proofs.lemmas.List.{append_assoc, append_cancel_right}
use Rattle.std.specs.Prelude.{Bool, Option, Some, None}
use Rattle.atomic_table.specs.Table.{Me}
use Rattle.ds_core.specs.declared.event.Event.TheVariants.{BeginEdit, BeginWork, BeginShow, BeginRecover}
use Rattle.ds_core.specs.declared.reply.Reply.TheVariants.{Begun, Entered}
use Rattle.ds_eval.proofs.Walks.{cell_back}
use Rattle.ds_formula.specs.Cells.{IsInside, index_of, cell_at}
use Rattle.ds_formula.specs.declared.cells.Cell.{Cell}
use Rattle.ds_formula.specs.declared.cells.Shape.{Shape}
use Rattle.ds_layout.specs.Places.{cells_of}
use Rattle.ds_state.specs.Editions.{most_in}
use Rattle.ds_layout.specs.declared.layout.Layout.{Layout}
use Rattle.ds_layout.specs.declared.place.Edition.{Edition}
use Rattle.ds_layout.specs.declared.place.Edition.TheVariants.{Second}
use Rattle.ds_layout.specs.declared.place.TheConstants.{RECORDS}
use Rattle.ds_edit.specs.EditSteps as edit_steps
use Rattle.ds_recover.specs.RecoverySteps as recovery_steps
use Rattle.ds_show.specs.ShowSteps as show_steps
use Rattle.ds_state.specs.declared.situation.Rest.{Rest}
use Rattle.ds_work.specs.WorkRank as work_rank
use Rattle.ds_recover.specs.RecoverySteps.{next_number, end_of as end_of_recovery}
use Rattle.ds_shared_runs.specs.declared.history.CallEvent.{CallEvent}
use Rattle.ds_shared_runs.specs.declared.history.CallEvent.TheVariants.{Began, Edited, Worked, Recovered, Reported}
use Rattle.ds_state.specs.EditEndings.{end_of}
use Rattle.ds_state.specs.Edits.{PlainEditCall, IsEdit}
use Rattle.ds_state.specs.RecoverStages.{IsStage}
use Rattle.ds_state.specs.Works.{PlainWorkCall, PlainRecoverCall, PlainShowCall}
use Rattle.ds_state.specs.World.{PlainEdit, edit_of}
use Rattle.ds_state.specs.declared.answer.EditEnd.{EditEnd}
use Rattle.ds_state.specs.declared.recovery.RecoverStage.TheVariants as recovery
use Rattle.ds_state.specs.declared.recovery.RecoveryEnd.{RecoveryEnd}
use Rattle.ds_state.specs.declared.show.ShowEnd.{ShowEnd}
use Rattle.ds_state.specs.declared.show.ShowStage.TheVariants as report
use Rattle.ds_state.specs.declared.situation.Situation.{Situation}
use Rattle.ds_state.specs.declared.situation.Situation.TheVariants.{Idle, Stopped, Editing, Working, Recovering, Showing}
use Rattle.ds_state.specs.declared.stage.Outcome.{Outcome}
use Rattle.ds_state.specs.declared.stage.Stage.TheVariants as stage
use Rattle.ds_state.specs.declared.work.WorkEnd.{WorkEnd}
use Rattle.ds_state.specs.declared.work.WorkStage.{WorkStage}
use Rattle.ds_state.specs.declared.work.WorkStage.TheVariants as work
use Rattle.pm_base.proofs.Lists.{in_right}
use Rattle.pm_base.specs.Runs.{deeds_by}
use Rattle.pm_base.specs.Structures.{Calls, Came, In}
use Rattle.pm_base.specs.declared.history.Deed.TheVariants as deed
use Rattle.pm_board.specs.Machines.{Grows}
use Rattle.pm_board.specs.Views.{RunsOne, Sits, deeds_at, first_in, lone, seen_at, seen_so_far}
use Rattle.ds_structure.proofs.Edits.{doing_going}
use Rattle.ds_structure.proofs.Recoveries as recoveries_so
use Rattle.ds_structure.proofs.Shows as shows_so
use Rattle.ds_structure.specs.Calls.{edits, recoveries, second_rest, shows, works, edit_says, show_says, recovery_says}
use Rattle.ds_structure.specs.declared.response.Response.{Response}
use Rattle.ds_structure.specs.declared.response.Response.TheVariants as told
use Rattle.ds_structure.specs.declared.sheet.SheetKey.{SheetKey}
use Rattle.ds_structure_runs.specs.Runs.{call_events_by, call_events_of, work_began}
use Rattle.ds_structure_shared.specs.Boards.{SheetDeed, SheetEntry, SheetPlace, SheetSeated, SheetView, sole}
use Rattle.ds_structure_shared.specs.Ends.{Ends, Stops, unbegun, inside}
use Rattle.ds_structure_shared.specs.Works.{EndsWork, IsOnward, Onward, StopsWork, nowhere, on}
use Rattle.ds_structure_shared.specs.Works as whole
use Rattle.ds_shared.specs.Answers.{BreaksOff, IsBroken, IsWorkOf, Tells, number_after, within}
use Rattle.ds_shared.specs.Answers as broken
use Rattle.ds_shared.specs.Known.{IsKnown, outcomes}
use Rattle.ds_shared.specs.Rules.{Rules, edit_rules, recover_rules, show_rules, work_rules}
use Rattle.ds_shared.specs.declared.pass.Pass.{Pass}

-- ---- what is known of a seat

-- a pass's seat runs its process
pub known_seat : (s : SheetPlace) (p n : ℕ) (b : Bool) → IsKnown s p n b → RunsOne s.me p
known_seat s p n b k = record { seat = sole s; at = k.alone; own = k.process_is; seen = seen_at s.me; looked = k.looked }

-- ... which is idle, where it is not stopped
pub known_idle : (s : SheetPlace) (p n : ℕ) (b : Bool) → b ≡ false → IsKnown s p n b → Sits s.me p (Idle (second_rest n))
known_idle s p n b runs k = record { runs = record { seat = sole s; at = k.alone; own = k.process_is; seen = seen_at s.me; looked = k.looked }; does = k.idle runs }

by_seat : (s : SheetPlace) (p n : ℕ) (b : Bool) (r : RunsOne s.me p) → (b ≡ false → r.seat.now ≡ Idle (second_rest n)) → IsKnown s p n b
by_seat s p n b r idle =
    let one : sole s ≡ r.seat = ap (λ (m : Me ℕ SheetView). first_in Stopped m.0.entries) r.at in
    record {
      alone = r.at ∙ ap (λ (e : SheetSeated). (lone e, [])) (sym one);
      process_is = ap (λ (e : SheetSeated). e.process) one ∙ r.own;
      idle = λ off. ap (λ (e : SheetSeated). e.now) one ∙ idle off;
      looked = ap (λ (e : SheetSeated). e.deeds.seen) one ∙ (r.looked ∙ ap Some (sym (ap seen_at r.at ∙ ap seen_so_far r.looked)));
    }

-- a seat that runs its process is known, stopped
pub known_stopped : (s : SheetPlace) (p n : ℕ) → RunsOne s.me p → IsKnown s p n true
known_stopped s p n r = by_seat s p n true r (λ e. absurd (cc))

-- ... and idle, where it is
pub known_at : (s : SheetPlace) (p n : ℕ) → Sits s.me p (Idle (second_rest n)) → IsKnown s p n false
known_at s p n h = by_seat s p n false h.runs (λ e. h.does)

-- ---- lists

-- what was done stays done
pub done_still : (p : ℕ) (late : List SheetEntry) (old new : List SheetDeed) (u : SheetDeed) → new ≡ deeds_by p late ++ old → In old u → In new u
done_still p late old new u is here = subst (λ (l : List SheetDeed). In l u) (sym is) (in_right (deeds_by p late) old u here)

-- the turns of a work are no calls
onward_stage : (shape : Shape) (e : PlainWorkCall) (s : WorkStage) → IsOnward s → work_began shape e s ≡ []
onward_stage shape e work.LoadMark h = absurd h
onward_stage shape e _ h = refl

onward_none : (shape : Shape) (ds : List SheetDeed) → Onward ds → call_events_by shape ds ≡ []
onward_none shape ds nowhere = refl
onward_none shape ds (on e es h rest) = (λ i. onward_stage shape e e.stage h i ++ onward_none shape es rest i)

split : (shape : Shape) (xs ys : List SheetDeed) → call_events_by shape (xs ++ ys) ≡ call_events_by shape xs ++ call_events_by shape ys
split shape [] ys = refl
split shape (x ∷ xs) ys = ap (λ (l : List CallEvent). call_events_of shape x ++ l) (split shape xs ys) ∙ sym (append_assoc (call_events_of shape x) (call_events_by shape xs) (call_events_by shape ys))

-- ---- what a call did

-- what the process did since: no more than this, before the beginning that it also had
did_since : (p : ℕ) (ts : List SheetDeed) (now : Situation) (old new : SheetPlace) (late : List SheetEntry) → outcomes new ≡ ts ++ (deed.Began now ∷ outcomes old) → outcomes new ≡ deeds_by p late ++ outcomes old → deeds_by p late ≡ ts ++ (deed.Began now ∷ [])
did_since p ts now old new late is by = append_cancel_right (deeds_by p late) (ts ++ (deed.Began now ∷ [])) (outcomes old) (sym by ∙ (is ∙ sym (append_assoc ts (deed.Began now ∷ []) (outcomes old))))

tells : (layout : Layout) (p : ℕ) (ts : List SheetDeed) (now : Situation) (begin answer : CallEvent) (old new : Pass) (n : ℕ) → Grows p (deeds_at old.place.me) (deeds_at new.place.me) n → p ≡ old.process → outcomes new.place ≡ ts ++ (deed.Began now ∷ outcomes old.place)
    → call_events_by layout.shape (ts ++ (deed.Began now ∷ [])) ≡ answer ∷ begin ∷ [] → Tells layout old new begin answer
tells layout p ts now begin answer old new n grows own is calls =
    let did : outcomes new.place ≡ deeds_by old.process grows.late ++ outcomes old.place = grows.done ∙ ap (λ (q : ℕ). deeds_by q grows.late ++ outcomes old.place) own in
    record {
      late = grows.late;
      seen = ap seen_so_far grows.seen;
      own = ap (call_events_by layout.shape) (did_since old.process ts now old.place new.place grows.late is did) ∙ calls;
      did = did;
    }

-- ---- what a call answers

pub edit_answers : (layout : Layout) (cell : Cell) (text : List ℕ) (old new : Pass) (first e : PlainEditCall) (end : EditEnd) (n : ℕ) → Ends edits first old.place.me new.place.me e end n → first.stage ≡ stage.StoreHeader → edit_of e ≡ edit_of first
    → edit_of first ≡ record { process = old.process; number = old.number; cell = index_of layout.shape cell; text = text } → e.processes ≡ layout.processes → IsInside layout.shape cell
    → (f : PlainEditCall) × (how : Outcome) × (edit_of f ≡ record { process = old.process; number = old.number; cell = index_of layout.shape cell; text = text }) × (end ≡ end_of layout.processes f.number how)
    × Tells layout old new (Began (BeginEdit (record { process = old.process; cell = cell; text = text })) (Begun old.number)) (Edited f how)
edit_answers layout cell text old new first e end n s start same asked processes there =
    let how : Outcome = s.ends.0 in
    let f : PlainEditCall = record e { stage = stage.Answer how } in
    let asks : PlainEdit → CallEvent = λ d. Began (BeginEdit (record { process = d.process; cell = cell_at layout.shape d.cell; text = d.text })) (Begun d.number) in
    let begins : asks (edit_of first) ≡ Began (BeginEdit (record { process = old.process; cell = cell; text = text })) (Begun old.number) = ap asks asked ∙ ap (λ (c : Cell). Began (BeginEdit (record { process = old.process; cell = c; text = text })) (Begun old.number)) (cell_back layout.shape cell there) in
    let says : edits.says e ≡ told.Edited f how ∷ [] = ap (edit_says e) s.ends.1 in
    let doing : edits.doing first ≡ Editing first = doing_going first first.stage (subst (λ z. Rattle.ds_structure.specs.Calls.EditGoes z) (sym start) tt) in (
      f,
      how,
      same ∙ asked,
      s.ends.2 ∙ ap (λ (k : ℕ). end_of k e.number how) processes,
      tells layout first.process (deed.Response (told.Edited f how) ∷ []) (Editing first) _ (Edited f how) old new n s.grows (ap (λ (d : PlainEdit). d.process) asked)
          (s.done ∙ (λ i. Rattle.pm_board.specs.Machines.answered_so (says i) ++ (deed.Began (doing i) ∷ outcomes old.place))) (ap (λ (c : CallEvent). Edited f how ∷ c ∷ []) begins),
    )

pub work_answers : (layout : Layout) (cell : Cell) (old new : Pass) (first e : PlainWorkCall) (end : WorkEnd) (n : ℕ) → EndsWork first old.place.me new.place.me e end n → (e.process ≡ first.process) × (e.next ≡ first.next) × (e.cell ≡ first.cell) → first.stage ≡ work.LoadMark
    → first.process ≡ old.process → first.next ≡ old.number → first.cell ≡ index_of layout.shape cell → IsInside layout.shape cell
    → (f : PlainWorkCall) × IsWorkOf f old (index_of layout.shape cell) × Tells layout old new (Began (BeginWork old.process cell) Entered) (Worked f end)
work_answers layout cell old new first e end n s same start process next index there =
    let f : PlainWorkCall = record e { stage = work.Answer end } in
    let at : cell_at layout.shape first.cell ≡ cell = ap (cell_at layout.shape) index ∙ cell_back layout.shape cell there in
    let d = s.did in
    let ts : List SheetDeed = deed.Response (told.Worked f end) ∷ d.turns in
    let begins : call_events_by layout.shape (deed.Began (Working first) ∷ []) ≡ Began (BeginWork old.process cell) Entered ∷ [] = ap (λ (z : WorkStage). work_began layout.shape first z ++ []) start ∙ (λ i. Began (BeginWork (process i) (at i)) Entered ∷ []) in
    let calls : call_events_by layout.shape (ts ++ (deed.Began (Working first) ∷ [])) ≡ Worked f end ∷ Began (BeginWork old.process cell) Entered ∷ [] =
    ap (λ (l : List CallEvent). Worked f end ∷ l) (events_of layout d.turns d.onward (deed.Began (Working first) ∷ []) ∙ begins) in (
      f,
      record { process = same.0 ∙ process; next = same.1 ∙ next; cell_is = same.2 ∙ index },
      tells layout first.process ts (Working first) (Began (BeginWork old.process cell) Entered) (Worked f end) old new n d.grows process d.done calls,
    )
  where
    events_of : (layout : Layout) (turns : List SheetDeed) → Onward turns → (ds : List SheetDeed) → call_events_by layout.shape (turns ++ ds) ≡ call_events_by layout.shape ds
    events_of layout turns h ds = split layout.shape turns ds ∙ ap (λ (l : List CallEvent). l ++ call_events_by layout.shape ds) (onward_none layout.shape turns h)

pub show_answers : (layout : Layout) (old new : Pass) (first e : PlainShowCall) (end : ShowEnd) (n : ℕ) → Ends shows first old.place.me new.place.me e end n → first.stage ≡ report.LoadAnnounce 0 → first.process ≡ old.process
    → Tells layout old new (Began (BeginShow old.process) Entered) (Reported e end)
show_answers layout old new first e end n s start process =
    let same : record e { stage = report.Answer end } ≡ e = ap (λ z. (let f : PlainShowCall = record e { stage = z } in f)) (sym s.ends) in
    let says : shows.says e ≡ told.Shown e end ∷ [] = ap (show_says e) s.ends ∙ ap (λ (f : PlainShowCall). told.Shown f end ∷ []) same in
    let doing : shows.doing first ≡ Showing first = shows_so.doing_going first first.stage (subst (λ z. Rattle.ds_structure.specs.Calls.ShowGoes z) (sym start) tt) in
    tells layout first.process (deed.Response (told.Shown e end) ∷ []) (Showing first) _ (Reported e end) old new n s.grows process
    (s.done ∙ (λ i. Rattle.pm_board.specs.Machines.answered_so (says i) ++ (deed.Began (doing i) ∷ outcomes old.place))) (λ i. Reported e end ∷ Began (BeginShow (process i)) Entered ∷ [])

pub recover_answers : (layout : Layout) (old new : Pass) (first e : PlainRecoverCall) (end : RecoveryEnd) (n : ℕ) → Ends recoveries first old.place.me new.place.me e end n → first.stage ≡ recovery.LoadVersion → first.process ≡ old.process → e.process ≡ first.process
    → (f : PlainRecoverCall) × (f.process ≡ old.process) × Tells layout old new (Began (BeginRecover old.process) Entered) (Recovered f end)
recover_answers layout old new first e end n s start process same =
    let how : Option Bool = s.ends.0 in
    let f : PlainRecoverCall = record e { stage = recovery.Answer how } in
    let says : recoveries.says e ≡ told.Recovered f end ∷ [] = ap (recovery_says e) s.ends.1 ∙ ap (λ (z : RecoveryEnd). told.Recovered f z ∷ []) (sym s.ends.2) in
    let doing : recoveries.doing first ≡ Recovering first = recoveries_so.doing_going first first.stage (subst (λ z. Rattle.ds_structure.specs.Calls.RecoveryGoes z) (sym start) tt) in (
      f,
      same ∙ process,
      tells layout first.process (deed.Response (told.Recovered f end) ∷ []) (Recovering first) _ (Recovered f end) old new n s.grows process
          (s.done ∙ (λ i. Rattle.pm_board.specs.Machines.answered_so (says i) ++ (deed.Began (doing i) ∷ outcomes old.place))) (λ i. Recovered f end ∷ Began (BeginRecover (process i)) Entered ∷ []),
    )

-- ---- broken off

-- what a call that was broken off leaves: nothing has happened; or it has begun, and gone on
record Broke (p : ℕ) (now : Situation) (old me : Me ℕ SheetView) : Type 0 where
  late : List SheetEntry
  seen : seen_at me ≡ late ++ seen_at old
  did : (deeds_at me).done ≡ deeds_by p late ++ (deeds_at old).done
  own : (deeds_by p late ≡ []) ⊎ ((turns : List SheetDeed) × Onward turns × (deeds_by p late ≡ turns ++ (deed.Began now ∷ [])))

broke_none : (p : ℕ) (now : Situation) (old : Me ℕ SheetView) → Broke p now old old
broke_none p now old = record { late = []; seen = refl; did = refl; own = inl refl }

broke_on : (p : ℕ) (now : Situation) (old me : Me ℕ SheetView) (turns : List SheetDeed) (n : ℕ) → Onward turns → (deeds_at me).done ≡ turns ++ (deed.Began now ∷ (deeds_at old).done) → Grows p (deeds_at old) (deeds_at me) n → Broke p now old me
broke_on p now old me turns n onward is grows = record {
  late = grows.late;
  seen = ap seen_so_far grows.seen;
  did = grows.done;
  own = inr (turns, onward, append_cancel_right (deeds_by p grows.late) (turns ++ (deed.Began now ∷ [])) (deeds_at old).done (sym grows.done ∙ (is ∙ sym (append_assoc turns (deed.Began now ∷ []) (deeds_at old).done))));
}

calls_broke : (layout : Layout) (now : Situation) (begin : CallEvent) (ds : List SheetDeed) → call_events_by layout.shape (deed.Began now ∷ []) ≡ begin ∷ [] → (ds ≡ []) ⊎ ((turns : List SheetDeed) × Onward turns × (ds ≡ turns ++ (deed.Began now ∷ [])))
    → (call_events_by layout.shape ds ≡ []) ⊎ (call_events_by layout.shape ds ≡ begin ∷ [])
calls_broke layout now begin ds begins h = ⊎_elim (λ none. inl (ap (call_events_by layout.shape) none))
    (λ k. inr (ap (call_events_by layout.shape) k.2 ∙ (split layout.shape k.0 (deed.Began now ∷ []) ∙ ((λ i. onward_none layout.shape k.0 k.1 i ++ begins i))))) h

breaks_off : {C : Type 0} (r : Rules C) (layout : Layout) (first : C) (now : Situation) (old new : Pass) → r.process first ≡ old.process → new.stopped ≡ true → call_events_by layout.shape (deed.Began now ∷ []) ≡ r.begins layout first ∷ []
    → Broke (r.process first) now old.place.me new.place.me → IsBroken r layout first old.place new.place → BreaksOff r layout first old new
breaks_off r layout first now old new own stopped begins b view = record {
  stopped = stopped;
  late = b.late;
  seen = b.seen;
  own = calls_broke layout now (r.begins layout first) (deeds_by old.process b.late) begins (subst (λ (q : ℕ). (deeds_by q b.late ≡ []) ⊎ ((turns : List SheetDeed) × Onward turns × (deeds_by q b.late ≡ turns ++ (deed.Began now ∷ [])))) own b.own);
  did = b.did ∙ ap (λ (q : ℕ). deeds_by q b.late ++ outcomes old.place) own;
  view = view;
}

module _ {C E : Type 0} (c : Calls SheetKey Situation Response C E) (r : Rules C) (layout : Layout) (first : C) (same_process : r.process first ≡ c.process first) (same_came : (call : C) → Came c first call → r.came layout first call)
    (now : Situation) (doing_first : c.doing first ≡ now) (doing_on : (call : C) → c.goes call → c.doing call ≡ r.doing call) where
  stops_broke : (old me : Me ℕ SheetView) (call : C) (n : ℕ) → Stops c first old me call n → Broke (r.process first) now old me
  stops_broke old me call n unbegun = broke_none (r.process first) now old
  stops_broke old me call n (inside m d k came goes sits done grows few) = subst (λ (q : ℕ). Broke q now old m) (sym same_process) (broke_on (c.process first) now old m [] k nowhere (done ∙ ap (λ (s : Situation). deed.Began s ∷ (deeds_at old).done) doing_first) grows)

  stops_view : (old me : Me ℕ SheetView) (call : C) (n : ℕ) → Stops c first old me call n → (me ≡ old) ⊎ ((d : C) × r.came layout first d × Sits me (r.process first) (r.doing d))
  stops_view old me call n unbegun = inl refl
  stops_view old me call n (inside m d k came goes sits done grows few) = inr (d, same_came d came, subst (λ (z : ℕ × Situation). Sits m z.0 z.1) (λ i. (sym same_process i, doing_on d goes i)) sits)

  pub stops_off : (old new : Pass) (call : C) (n : ℕ) → r.process first ≡ old.process → new.stopped ≡ true → call_events_by layout.shape (deed.Began now ∷ []) ≡ r.begins layout first ∷ [] → Stops c first old.place.me new.place.me call n → BreaksOff r layout first old new
  stops_off old new call n own stopped begins h = breaks_off r layout first now old new own stopped begins (stops_broke old.place.me new.place.me call n h)
      (⊎_elim (λ e. broken.unbegun e) (λ k. within k.0 k.1 k.2) (stops_view old.place.me new.place.me call n h))

pub edit_off : (layout : Layout) (first : PlainEditCall) (old new : Pass) (call : PlainEditCall) (n : ℕ) → first.stage ≡ stage.StoreHeader → first.process ≡ old.process → new.stopped ≡ true → Stops edits first old.place.me new.place.me call n → BreaksOff edit_rules layout first old new
edit_off layout first old new call n start own stopped h = stops_off edits edit_rules layout first refl (λ d came. came) (Editing first) (doing_going first first.stage (subst (λ z. Rattle.ds_structure.specs.Calls.EditGoes z) (sym start) tt)) (λ d go. doing_going d d.stage go) old new call n own stopped refl h

pub show_off : (layout : Layout) (first : PlainShowCall) (old new : Pass) (call : PlainShowCall) (n : ℕ) → first.stage ≡ report.LoadAnnounce 0 → first.process ≡ old.process → new.stopped ≡ true → Stops shows first old.place.me new.place.me call n → BreaksOff show_rules layout first old new
show_off layout first old new call n start own stopped h = stops_off shows show_rules layout first refl (λ d came. came) (Showing first) (shows_so.doing_going first first.stage (subst (λ z. Rattle.ds_structure.specs.Calls.ShowGoes z) (sym start) tt)) (λ d go. shows_so.doing_going d d.stage go) old new call n own stopped refl h

pub recover_off : (layout : Layout) (first : PlainRecoverCall) (old new : Pass) (call : PlainRecoverCall) (n : ℕ) → first.stage ≡ recovery.LoadVersion → first.process ≡ old.process → new.stopped ≡ true → Stops recoveries first old.place.me new.place.me call n → BreaksOff recover_rules layout first old new
recover_off layout first old new call n start own stopped h = stops_off recoveries recover_rules layout first refl (λ d came. came) (Recovering first) (recoveries_so.doing_going first first.stage (subst (λ z. Rattle.ds_structure.specs.Calls.RecoveryGoes z) (sym start) tt)) (λ d go. recoveries_so.doing_going d d.stage go) old new call n own stopped refl h

-- how many steps it took
pub stops_steps : {C E : Type 0} (c : Calls SheetKey Situation Response C E) (first : C) (old me : Me ℕ SheetView) (call : C) (n : ℕ) → Stops c first old me call n → ((deeds_at me).steps ≡ (deeds_at old).steps + n) × (n ≤ c.rank first)
stops_steps c first old me call n unbegun = ((let e : (deeds_at old).steps ≡ (deeds_at old).steps + 0 = omega arith in e), (let e : 0 ≤ c.rank first = omega arith in e))
stops_steps c first old me call n (inside m d k came goes sits done grows few) = (grows.steps, few)

pub stops_grow : {C E : Type 0} (c : Calls SheetKey Situation Response C E) (first : C) (old me : Me ℕ SheetView) (call : C) (n : ℕ) (u : SheetDeed) → Stops c first old me call n → In (deeds_at old).done u → In (deeds_at me).done u
stops_grow c first old me call n u unbegun here = here
stops_grow c first old me call n u (inside m d k came goes sits done grows few) here = done_still (c.process first) grows.late (deeds_at old).done (deeds_at m).done u grows.done here

-- ---- a work that was broken off

work_broke : (layout : Layout) (first : PlainWorkCall) (old me : Me ℕ SheetView) (n : ℕ) → StopsWork layout first old me n → Broke first.process (Working first) old me
work_broke layout first old me n whole.unbegun = broke_none first.process (Working first) old
work_broke layout first old me n (whole.inside m d k came sits did few) = broke_on first.process (Working first) old m did.turns k did.onward did.done did.grows

work_view : (layout : Layout) (first : PlainWorkCall) (old me : Me ℕ SheetView) (n : ℕ) → StopsWork layout first old me n → (me ≡ old) ⊎ ((d : PlainWorkCall) × whole.WorkCame layout first d × Sits me first.process (Working d))
work_view layout first old me n whole.unbegun = inl refl
work_view layout first old me n (whole.inside m d k came sits did few) = inr (d, came, sits)

pub work_off : (layout : Layout) (first : PlainWorkCall) (old new : Pass) (n : ℕ) → first.stage ≡ work.LoadMark → first.process ≡ old.process → new.stopped ≡ true → StopsWork layout first old.place.me new.place.me n → BreaksOff work_rules layout first old new
work_off layout first old new n start own stopped h = breaks_off work_rules layout first (Working first) old new own stopped (ap (λ (z : WorkStage). work_began layout.shape first z ++ []) start) (work_broke layout first old.place.me new.place.me n h)
    (⊎_elim (λ e. broken.unbegun e) (λ k. within k.0 k.1 k.2) (work_view layout first old.place.me new.place.me n h))

pub work_steps : (layout : Layout) (first : PlainWorkCall) (old me : Me ℕ SheetView) (n : ℕ) → StopsWork layout first old me n → ((deeds_at me).steps ≡ (deeds_at old).steps + n) × (n ≤ works.rank first)
work_steps layout first old me n whole.unbegun = ((let e : (deeds_at old).steps ≡ (deeds_at old).steps + 0 = omega arith in e), (let e : 0 ≤ works.rank first = omega arith in e))
work_steps layout first old me n (whole.inside m d k came sits did few) = (did.grows.steps, few)

pub work_grows : (layout : Layout) (first : PlainWorkCall) (old me : Me ℕ SheetView) (n : ℕ) (u : SheetDeed) → StopsWork layout first old me n → In (deeds_at old).done u → In (deeds_at me).done u
work_grows layout first old me n u whole.unbegun here = here
work_grows layout first old me n u (whole.inside m d k came sits did few) here = done_still first.process did.grows.late (deeds_at old).done (deeds_at m).done u did.grows.done here

-- ---- how many steps a call has at first

pub edit_few : (e : PlainEditCall) → IsEdit e → e.edition ≡ Second → e.stage ≡ stage.StoreHeader → edits.rank e ≤ 112 + 3 * length e.refs
edit_few e good second start =
    let short : length e.text ≤ 240 = subst (λ (d : Edition). length e.text ≤ most_in d) second good.fits in
    subst (λ z. edit_steps.rank e z ≤ 112 + 3 * length e.refs) (sym start) (omega (arith, short))

pub work_few : (layout : Layout) (e : PlainWorkCall) → cells_of layout ≡ e.cells → e.stage ≡ work.LoadMark → works.rank e ≤ 5 * cells_of layout + (cells_of layout + 63) / 64 + 51
work_few layout e cells start = subst (λ (z : WorkStage). work_rank.left e.cells e z ≤ 5 * cells_of layout + (cells_of layout + 63) / 64 + 51) (sym start)
    (subst (λ (n : ℕ). work_rank.left e.cells e work.LoadMark ≤ 5 * n + (n + 63) / 64 + 51) (sym cells) (omega arith))

pub show_few : (e : PlainShowCall) (process : ℕ) (next : Rest) (cells processes : ℕ) → e ≡ show_steps.fresh process next cells processes → shows.rank e ≤ 2 * processes + 4 * cells + 1
show_few e process next cells processes is = subst (λ (z : PlainShowCall). shows.rank z ≤ 2 * processes + 4 * cells + 1) (sym is) (omega arith)

pub recover_few : (e : PlainRecoverCall) (process cells processes : ℕ) → e ≡ recovery_steps.fresh process cells processes → recoveries.rank e ≤ cells * (3 * cells + 30) + 23
recover_few e process cells processes is = subst (λ (z : PlainRecoverCall). recoveries.rank z ≤ cells * (3 * cells + 30) + 23) (sym is)
    (let all : cells - 0 ≡ cells = omega arith in subst (λ (k : ℕ). k * (3 * cells + 30) + 20 + 3 ≤ cells * (3 * cells + 30) + 23) (sym all) (omega arith))

-- ---- the number after a recovery

pub number_is : (e : PlainRecoverCall) (how : Option Bool) → IsStage e (recovery.Answer how) → number_after (end_of_recovery e how) ≡ next_number e.announcement how
number_is e None h = refl
number_is e (Some how) h = let some = h.0.some in omega (arith, some)

pub number_few : (e : PlainRecoverCall) (how : Option Bool) → IsStage e (recovery.Answer how) → number_after (end_of_recovery e how) ≤ RECORDS
number_few e None h = (let z : 0 ≤ RECORDS = omega arith in z)
number_few e (Some how) h = let some = h.0.some in let few = h.0.few in omega (arith, some, few)
