-- Works: a run of the core for each begin and each step.
use Rattle.std.proofs.Common.{ℕ, ◌≡◌, ◌<◌, List, [], map, length, refl, sym, ap, subst, ◌∙◌, inl, inr}
use Rattle.std.specs.Prelude.{Bool, true, false, nat_lt, ◌==◌, if◌then◌else◌}
use Rattle.ds_core.specs.WorkEvents.{work_reply}
use Rattle.ds_core.specs.declared.event.Event.TheVariants.{BeginWork, Step, Offer}
use Rattle.ds_core.specs.declared.reply.Reply.TheVariants.{Entered, Stepped}
use Rattle.ds_shared_runs.specs.History.{work as step_work, work_answered, answered_at}
use Rattle.ds_eval.proofs.Rounds.{inside_at, index_at}
use Rattle.ds_eval.specs.Inputs.{entry_in}
use Rattle.ds_eval.specs.Local.{local}
use Rattle.ds_eval.specs.Tasks.{PlainEvaluated}
use Rattle.ds_eval.specs.declared.inputs.Entry.{Entry}
use Rattle.ds_formula.specs.Cells.{cell_at}
use Rattle.ds_formula.specs.declared.cells.Shape.{Shape}
use Rattle.ds_state.specs.Works.{PlainWorkCall, IsWork}
use Rattle.ds_state.specs.declared.situation.Situation.TheVariants.{Idle, Working}
use Rattle.ds_state.specs.declared.turn.Turn.TheVariants as does
use Rattle.ds_state.specs.declared.work.WorkEnd.{WorkEnd}
use Rattle.ds_state.specs.declared.work.WorkStage.{WorkStage}
use Rattle.ds_state.specs.declared.work.WorkStage.TheVariants.{Read, Wait, Clear, StoreValue, LoadValue, LoadOwnValue, Answer}
use Rattle.ds_work.proofs.WorkLeaves.{work_leaves, read_leaves, lack_leaves, offer_leaves, begin_leaves}
use Rattle.ds_work.specs.Reading.{IsReading}
use Rattle.ds_work.specs.WorkSteps as work
use Rattle.ds_work.specs.WorkSteps.{StepsAt, Turns, ReadsAt, OffersAt, read_from, lacks, offered}
use Rattle.ds_work.specs.WorkTakes.{IsAskedFor, Waits, TakesTurn, task_at, steps as turns_on, reads as turns_reads, lacked as turns_lacked, answers as turns_answers}
use Rattle.ds_structure.proofs.Works.{doing_going, next_process, read_process, here, there, first, first_step, last_step, begins_so, turned, turns}
use Rattle.ds_structure.specs.Calls.{second_rest, access_in, WorkGoes, work_doing, work_says, IsWorkOn, MayWork, asked, read, works}
use Rattle.ds_structure.specs.Calls as calls
use Rattle.ds_structure_runs.specs.Runs.{work_began}
use Rattle.ds_structure_runs.proofs.Answering.{answered_good}
use Rattle.ds_shared_runs.specs.declared.history.CallEvent.{CallEvent}
use Rattle.ds_state.specs.Leaves.{Leaves}
use Rattle.ds_state.specs.Sound.{IsSound}
use Rattle.ds_state.specs.declared.situation.Situation.{Situation}
use Rattle.ds_words.specs.Memory.{Memory, Performs}
use Rattle.pm_base.proofs.Puts.{put_here}
use Rattle.pm_base.specs.Structures.{after_begin, put}
use Rattle.pm_base.specs.declared.history.Deed.TheVariants.{Response}
use Rattle.ds_structure.proofs.Passing.{well_on}
use Rattle.ds_structure.specs.Sheet.{Ledger, SheetWorld, plain, stepped, IsWell, sheet}
use Rattle.ds_structure.specs.declared.sheet.SheetKey.{SheetKey}
use Rattle.ds_structure_runs.specs.Runs.{core_world, began, call_events_by}
use Rattle.ds_structure_runs.proofs.Clipped as clip
use Rattle.ds_structure_runs.proofs.Clipped.{near}
use Rattle.ds_structure_runs.proofs.ByKind.{KindBegun, KindLed, step_did}
use Rattle.ds_structure_runs.proofs.Leading.{none_only, Led, led_by, led_none, led_on, bare_on}
use Rattle.ds_structure_runs.proofs.Tidy.{IsBare}

silent : (e : PlainWorkCall) (s : WorkStage) → WorkGoes s → work_answered e s ≡ []
silent e (Answer end) g = absurd g
silent e _ g = refl

not_ended : (s : WorkStage) → WorkGoes s → (end : WorkEnd) → s ≡ Answer end → ⊥
not_ended s go end is = subst WorkGoes is go

module _ (key : SheetKey) where
  -- the process p has come to a stage of its show
  abbrev mid : SheetWorld → ℕ → PlainWorkCall → Memory ℕ → WorkStage → SheetWorld
  mid w p f memory s = record { memory = memory; situation = put w.situation p (Working (record f { stage = s })); hidden = w.hidden }

  abbrev Ends : SheetWorld → PlainWorkCall → Memory ℕ → WorkStage → ℕ → Type 0
  Ends w f memory s p = ((end : WorkEnd) → s ≡ Answer end → IsWork (record f { stage = s })) → IsWell (here key w p f memory s) → p < key.layout.processes → IsSound (core_world key (mid w p f memory s)) → IsBare key (mid w p f memory s)
      → Led key (mid w p f memory s) (there key w p f memory s) p (call_events_by key.layout.shape (map Response (work_says f s)))

  module _ (w : SheetWorld) (f : PlainWorkCall) (memory : Memory ℕ) where
    still : (s : WorkStage) → work_doing f s ≡ Working (record f { stage = s }) → IsSound (core_world key (mid w f.process f memory s)) → IsBare key (mid w f.process f memory s) → Led key (mid w f.process f memory s) (there key w f.process f memory s) f.process []
    still s doing sound bare =
        subst (λ (z : Situation). Led key (mid w f.process f memory s) (record { memory = memory; situation = put w.situation f.process z; hidden = w.hidden }) f.process []) (sym doing)
        (led_none key (mid w f.process f memory s) f.process sound bare)

    answers : (end : WorkEnd) → Ends w f memory (Answer end) f.process
    answers end good well low sound bare =
        let e : PlainWorkCall = record f { stage = Answer end } in
        let n : ℕ = key.layout.processes in
        let m : SheetWorld = mid w f.process f memory (Answer end) in
        let v : SheetWorld = there key w f.process f memory (Answer end) in
        let t : StepsAt e (Answer end) 0 (core_world key m) (core_world key v) = clip.work_steps n (plain key m) (plain key v) e (Answer end) 0 low (last_step key w f memory end well low) in
        let at : (core_world key m).situation f.process ≡ Working e = near n (plain key m) f.process low ∙ put_here w.situation f.process (Working e) f.process refl in
        let k : Leaves f.process (core_world key m) (core_world key v) = work_leaves e (Answer end) 0 (core_world key m) (core_world key v) sound low at t in
        led_by key m v f.process (call_events_by key.layout.shape (map Response (work_says f (Answer end)))) sound bare (record {
          event = Step f.process;
          reply = work_reply (does.Answers end);
          moves = (low, step_work (record { what = does.Answers end; work = e; mine = refl; at = at; good = good end refl; turn = turns_answers end refl t; is = refl }));
          sound = k.sound;
          bare = bare_on key m v f.process low bare k.buffers (λ q ne. t.open_edits q);
          did = step_did f.process (core_world key m) (work_reply (does.Answers end)) (call_events_by key.layout.shape (map Response (work_says f (Answer end)))) (ap answered_at at);
        })

    ends : (s : WorkStage) → Ends w f memory s f.process
    ends (Answer end) good well low sound bare = answers end good well low sound bare
    ends s good well low sound bare = still s refl sound bare

  work_led : (w : SheetWorld) (e : PlainWorkCall) (m2 : Memory ℕ) (word : ℕ) → IsWell (plain key w) → e.process < key.layout.processes → w.situation e.process ≡ Working e → WorkGoes e.stage → IsWork e
      → Performs (sheet.class_in key) (access_in key.layout (work.access_at key.layout.shape e e.stage)) e.process w.memory m2 word → IsSound (core_world key w) → IsBare key w
      → Led key w (there key w e.process (work.next_at e e.stage word) m2 (work.next_at e e.stage word).stage) e.process (call_events_by key.layout.shape (map Response (work_says (work.next_at e e.stage word) (work.next_at e e.stage word).stage)))
  work_led w e m2 word well low at go good performs sound bare =
      let f : PlainWorkCall = work.next_at e e.stage word in
      let n : ℕ = key.layout.processes in
      let m : SheetWorld = mid w e.process f m2 f.stage in
      let t : StepsAt e e.stage word (core_world key w) (core_world key m) = clip.work_steps n (plain key w) (plain key m) e e.stage word low (first_step key w e m2 word well low at go performs) in
      let at2 : (core_world key w).situation e.process ≡ Working e = near n (plain key w) e.process low ∙ at in
      let k : Leaves e.process (core_world key w) (core_world key m) = work_leaves e e.stage word (core_world key w) (core_world key m) sound low at2 t in
      let one : Led key w m e.process [] = led_by key w m e.process [] sound bare (record {
        event = Step e.process;
        reply = Stepped;
        moves = (low, step_work (record { what = does.GoesOn; work = e; mine = refl; at = at2; good = good; turn = turns_on word t (not_ended e.stage go); is = refl }));
        sound = k.sound;
        bare = bare_on key w m e.process low bare k.buffers (λ q ne. t.open_edits q);
        did = step_did e.process (core_world key w) (Stepped) [] (ap answered_at at2 ∙ silent e e.stage go);
      }) in
      let last : Ends w f m2 f.stage e.process = subst (Ends w f m2 f.stage) (next_process e word) (ends w f m2 f.stage) in
      led_on key w m (there key w e.process f m2 f.stage) e.process (call_events_by key.layout.shape (map Response (work_says f f.stage))) one
      (last (λ end over. answered_good e word go good end over) (well_on e.process (plain key w) (plain key m) (first key w e m2 word well low at go performs) well) low one.sound one.bare)

  pub works_led : KindLed key works
  works_led w e m2 word well low at fits go performs sound bare =
      let f : PlainWorkCall = work.next_at e e.stage word in
      let is : w.situation e.process ≡ Working e = at ∙ doing_going e e.stage go in
      let kept : stepped key w.memory w.hidden (w.situation e.process) ≡ w.hidden = ap (stepped key w.memory w.hidden) is in
      subst (λ (l : Ledger). Led key w (record { memory = m2; situation = put w.situation e.process (work_doing f f.stage); hidden = l }) e.process (call_events_by key.layout.shape (map Response (work_says f f.stage)))) (sym kept)
      (work_led w e m2 word well low is go fits.is performs sound bare)

  -- ---- the beginning, and where it goes on without touching a word

  begun : (w : SheetWorld) (e : PlainWorkCall) → e.process < key.layout.processes → w.situation e.process ≡ Idle (second_rest e.next) → IsAskedFor key.layout e.process (second_rest e.next) e.cell e → IsSound (core_world key w) → IsBare key w
      → Led key w (after_begin sheet key w e.process (Working e)) e.process (work_began key.layout.shape e e.stage)
  begun w e low idle asks sound bare =
      let n : ℕ = key.layout.processes in
      let v : SheetWorld = turned key w e e in
      let t = clip.work_begins n (plain key w) (plain key v) (second_rest e.next) e low (begins_so key w e idle asks) in
      let k = begin_leaves (second_rest e.next) e (core_world key w) (core_world key v) sound low t in
      subst (λ (s : WorkStage). Led key w v e.process (work_began key.layout.shape e s)) (sym asks.first)
      (led_by key w v e.process _ sound bare (record {
        event = BeginWork e.process (cell_at key.layout.shape e.cell);
        reply = Entered;
        moves = (
          low,
          inside_at key.layout.shape e.cell (subst (λ (m : ℕ). e.cell < m) (sym asks.cells) asks.inside),
          record { next = second_rest e.next; work = e; process_is = refl; cell_is = sym (index_at key.layout.shape e.cell); begins = t },
        );
        sound = k.sound;
        bare = bare_on key w v e.process low bare k.buffers (λ q ne. t.turn.open_edits q);
        did = λ q. refl;
      }))

  module _ (w : SheetWorld) (f g : PlainWorkCall) (low : f.process < key.layout.processes) (at : w.situation f.process ≡ Working f) (sound : IsSound (core_world key w)) (bare : IsBare key w) where
    abbrev v : SheetWorld
    v = turned key w f g

    clips : Turns f g (core_world key w) (core_world key v)
    clips = clip.work_turns key.layout.processes (plain key w) (plain key v) f g low (turns key w f g)

    at_core : (core_world key w).situation f.process ≡ Working f
    at_core = near key.layout.processes (plain key w) f.process low ∙ at

    at_stage : (s : WorkStage) → f.stage ≡ s → (core_world key w).situation f.process ≡ Working (work.at f s)
    at_stage s is = at_core ∙ ap (λ (z : WorkStage). Working (record f { stage = z })) is

    -- a turn of its own
    by_step : IsWork f → f.stage ≡ Read → TakesTurn f (core_world key w) (core_world key v) does.GoesOn → Leaves f.process (core_world key w) (core_world key v) → Led key w v f.process []
    by_step good is turn k = led_by key w v f.process [] sound bare (record {
      event = Step f.process;
      reply = Stepped;
      moves = (low, step_work (record { what = does.GoesOn; work = f; mine = refl; at = at_core; good = good; turn = turn; is = refl }));
      sound = k.sound;
      bare = bare_on key w v f.process low bare k.buffers (λ q ne. clips.open_edits q);
      did = step_did f.process (core_world key w) Stepped [] (ap answered_at at_core ∙ ap (work_answered f) is);
    })

    -- an offer
    by_offer : f.stage ≡ Wait → g ≡ offered f (local key.layout.shape f.content (entry_in f.inputs)) → Led key w v f.process []
    by_offer is from =
        let entry : Entry = local key.layout.shape f.content (entry_in f.inputs) in
        let value : PlainEvaluated = record { task = task_at key.layout.shape f; entry = entry } in
        let waits : Waits (core_world key w) f.process f = record { inside = low; works = at_core; waits = is } in
        let t : OffersAt f entry (core_world key w) (core_world key v) = record { turn = subst (λ (z : PlainWorkCall). Turns f z (core_world key w) (core_world key v)) from clips; is = refl } in
        let k = offer_leaves f entry (core_world key w) (core_world key v) sound low (at_stage Wait is) t in
        led_by key w v f.process [] sound bare (record {
          event = Offer value;
          reply = Stepped;
          moves = (record { work = f; waits = waits; is = refl }, record { work = f; waits = waits; mine = refl; offers = t });
          sound = k.sound;
          bare = bare_on key w v f.process low bare k.buffers (λ q ne. clips.open_edits q);
          did = λ q. none_only (f.process == q);
        })

  -- where a work goes on nothing begins
  read_quiet : (f : PlainWorkCall) (shape : Shape) (e : PlainWorkCall) → IsReading shape f e → [] ≡ work_began key.layout.shape e e.stage
  read_quiet f shape e (inl h) = by (nat_lt 0 (length h.inputs)) ∙ ap (λ (z : PlainWorkCall). work_began key.layout.shape z z.stage) (sym h.after)
    where
      by : (b : Bool) → [] ≡ (let z : PlainWorkCall = if b then record f { content = h.content; inputs = h.inputs; stage = LoadValue 0 } else record f { content = h.content; inputs = h.inputs; stage = LoadOwnValue } in work_began key.layout.shape z z.stage)
      by true = refl
      by false = refl
  read_quiet f shape e (inr h) = ap (λ (z : PlainWorkCall). work_began key.layout.shape z z.stage) (sym h)

  offered_quiet : (f : PlainWorkCall) (entry : Entry) (b : Bool) → [] ≡ work_began key.layout.shape (record f { entry = entry; stage = if b then Clear false else StoreValue }) (if b then Clear false else StoreValue)
  offered_quiet f entry true = refl
  offered_quiet f entry false = refl

  -- of the process of the work that goes on
  of_own : (w : SheetWorld) (f e : PlainWorkCall) → e.process ≡ f.process → [] ≡ work_began key.layout.shape e e.stage → Led key w (turned key w f e) f.process [] → Led key w (after_begin sheet key w e.process (Working e)) e.process (work_began key.layout.shape e e.stage)
  of_own w f e own quiet h = subst (λ (z : ℕ × List CallEvent). Led key w (after_begin sheet key w z.0 (Working e)) z.0 z.1) (λ i. (sym own i, quiet i)) h

  reads : (w : SheetWorld) (f e : PlainWorkCall) → f.process < key.layout.processes → w.situation f.process ≡ Working f → IsWork f → f.stage ≡ Read → IsReading key.layout.shape f e → IsSound (core_world key w) → IsBare key w → Led key w (turned key w f e) f.process []
  reads w f e low at good is (inl h) sound bare =
      let t : ReadsAt f h.content h.inputs (core_world key w) (core_world key (turned key w f e)) = record { turn = subst (λ (z : PlainWorkCall). Turns f z (core_world key w) (core_world key (turned key w f e))) h.after (clips w f e low at sound bare); is = h.is } in
      by_step w f e low at sound bare good is (turns_reads h.content h.inputs is t) (read_leaves f h.content h.inputs (core_world key w) (core_world key (turned key w f e)) sound low (at_stage w f e low at sound bare Read is) t)
  reads w f e low at good is (inr h) sound bare =
      let t : Turns f (lacks f) (core_world key w) (core_world key (turned key w f e)) = subst (λ (z : PlainWorkCall). Turns f z (core_world key w) (core_world key (turned key w f e))) h (clips w f e low at sound bare) in
      by_step w f e low at sound bare good is (turns_lacked is t) (lack_leaves f (core_world key w) (core_world key (turned key w f e)) sound low (at_stage w f e low at sound bare Read is) t)

  kin : (f e : PlainWorkCall) → IsReading key.layout.shape f e → e.process ≡ f.process
  kin f e (inl h) = ap (λ (z : PlainWorkCall). z.process) h.after ∙ read_process f h.content h.inputs
  kin f e (inr h) = ap (λ (z : PlainWorkCall). z.process) h

  goes_on : (w : SheetWorld) (e : PlainWorkCall) → e.process < key.layout.processes → MayWork key.layout (w.situation e.process) e → IsSound (core_world key w) → IsBare key w → Led key w (after_begin sheet key w e.process (Working e)) e.process (work_began key.layout.shape e e.stage)
  goes_on w e low (asked idle asks) sound bare = begun w e low idle asks sound bare
  goes_on w e low (read f at good is from) sound bare =
      let own : e.process ≡ f.process = kin f e from in
      let low2 : f.process < key.layout.processes = subst (λ (p : ℕ). p < key.layout.processes) own low in
      of_own w f e own (read_quiet f key.layout.shape e from) (reads w f e low2 (ap w.situation (sym own) ∙ at) good is from sound bare)
  goes_on w e low (calls.offered f at good is from) sound bare =
      let own : e.process ≡ f.process = ap (λ (z : PlainWorkCall). z.process) from in
      let low2 : f.process < key.layout.processes = subst (λ (p : ℕ). p < key.layout.processes) own low in
      of_own w f e own (offered_quiet f (local key.layout.shape f.content (entry_in f.inputs)) _ ∙ ap (λ (z : PlainWorkCall). work_began key.layout.shape z z.stage) (sym from)) (by_offer w f e low2 (ap w.situation (sym own) ∙ at) sound bare is from)

  pub works_begun : KindBegun key works
  works_begun w e well low fits go may sound bare =
      subst (λ (z : Situation). Led key w (after_begin sheet key w e.process z) e.process (began key.layout.shape z)) (sym (doing_going e e.stage go)) (goes_on w e low may sound bare)
