-- Shows: a run of the core for each begin and each step.
use Rattle.std.proofs.Common.{ℕ, ◌≡◌, ◌<◌, [], map, refl, sym, ap, subst, ◌∙◌}
use Rattle.ds_core.specs.ShowEvents.{show_reply}
use Rattle.ds_core.specs.declared.event.Event.TheVariants.{BeginShow, Step}
use Rattle.ds_core.specs.declared.reply.Reply.TheVariants.{Entered}
use Rattle.ds_shared_runs.specs.History.{report as step_show, show_answered, answered_at}
use Rattle.ds_layout.specs.Places.{cells_of}
use Rattle.ds_show.proofs.ShowMiddles.{step_leaves, begin_leaves}
use Rattle.ds_show.specs.ShowSteps as report
use Rattle.ds_show.specs.ShowSteps.{Steps, fresh}
use Rattle.ds_state.specs.Works.{PlainShowCall}
use Rattle.ds_state.specs.declared.show.ShowEnd.{ShowEnd}
use Rattle.ds_state.specs.declared.show.ShowStage.{ShowStage}
use Rattle.ds_state.specs.declared.show.ShowStage.TheVariants.{Answer}
use Rattle.ds_state.specs.declared.situation.Situation.TheVariants.{Idle, Showing}
use Rattle.ds_structure.proofs.Shows.{doing_going, next_same, here, there, first, first_step, last_step, begins_so}
use Rattle.ds_structure.proofs.Shows as shown
use Rattle.ds_structure.specs.Calls.{second_rest, ShowGoes, show_doing, show_says, shows}
use Rattle.ds_layout.specs.SheetMemory.{access_at}
use Rattle.ds_state.specs.Leaves.{Leaves}
use Rattle.ds_state.specs.Sound.{IsSound}
use Rattle.ds_state.specs.declared.situation.Situation.{Situation}
use Rattle.ds_words.specs.Memory.{Memory, Performs}
use Rattle.pm_base.proofs.Puts.{put_here}
use Rattle.pm_base.specs.Structures.{after_begin, put}
use Rattle.pm_base.specs.declared.history.Deed.TheVariants.{Response}
use Rattle.ds_structure.proofs.Passing.{well_on}
use Rattle.ds_structure.specs.Sheet.{Ledger, SheetWorld, plain, stepped, IsWell, sheet}
use Rattle.ds_structure.specs.declared.sheet.SheetKey.{SheetKey}
use Rattle.ds_structure_runs.specs.Runs.{core_world, began, call_events_by}
use Rattle.ds_structure_runs.proofs.Clipped as clip
use Rattle.ds_structure_runs.proofs.Clipped.{near}
use Rattle.ds_structure_runs.proofs.ByKind.{KindBegun, KindLed, step_did}
use Rattle.ds_structure_runs.proofs.Leading.{Led, led_by, led_none, led_on, bare_on}
use Rattle.ds_structure_runs.proofs.Tidy.{IsBare}

silent : (e : PlainShowCall) (s : ShowStage) → ShowGoes s → show_answered e s ≡ []
silent e (Answer end) g = absurd g
silent e _ g = refl

module _ (key : SheetKey) where
  -- the process p has come to a stage of its show
  abbrev mid : SheetWorld → ℕ → PlainShowCall → Memory ℕ → ShowStage → SheetWorld
  mid w p f memory s = record { memory = memory; situation = put w.situation p (Showing (record f { stage = s })); hidden = w.hidden }

  abbrev Ends : SheetWorld → PlainShowCall → Memory ℕ → ShowStage → ℕ → Type 0
  Ends w f memory s p = IsWell (here key w p f memory s) → p < key.layout.processes → IsSound (core_world key (mid w p f memory s)) → IsBare key (mid w p f memory s)
      → Led key (mid w p f memory s) (there key w p f memory s) p (call_events_by key.layout.shape (map Response (show_says f s)))

  module _ (w : SheetWorld) (f : PlainShowCall) (memory : Memory ℕ) where
    still : (s : ShowStage) → show_doing f s ≡ Showing (record f { stage = s }) → IsSound (core_world key (mid w f.process f memory s)) → IsBare key (mid w f.process f memory s) → Led key (mid w f.process f memory s) (there key w f.process f memory s) f.process []
    still s doing sound bare =
        subst (λ (z : Situation). Led key (mid w f.process f memory s) (record { memory = memory; situation = put w.situation f.process z; hidden = w.hidden }) f.process []) (sym doing)
        (led_none key (mid w f.process f memory s) f.process sound bare)

    answers : (end : ShowEnd) → Ends w f memory (Answer end) f.process
    answers end well low sound bare =
        let e : PlainShowCall = record f { stage = Answer end } in
        let n : ℕ = key.layout.processes in
        let m : SheetWorld = mid w f.process f memory (Answer end) in
        let v : SheetWorld = there key w f.process f memory (Answer end) in
        let t : Steps e 0 (core_world key m) (core_world key v) = clip.show_steps n (plain key m) (plain key v) e 0 low (last_step key w f memory end well low) in
        let at : (core_world key m).situation f.process ≡ Showing e = near n (plain key m) f.process low ∙ put_here w.situation f.process (Showing e) f.process refl in
        let k : Leaves f.process (core_world key m) (core_world key v) = step_leaves e 0 (core_world key m) (core_world key v) sound low at t in
        led_by key m v f.process (call_events_by key.layout.shape (map Response (show_says f (Answer end)))) sound bare (record {
          event = Step f.process;
          reply = show_reply (report.effect_at (Answer end));
          moves = (low, step_show (record { report = e; mine = refl; at = at; word = 0; steps = t; is = refl }));
          sound = k.sound;
          bare = bare_on key m v f.process low bare k.buffers (λ q ne. t.open_edits q);
          did = step_did f.process (core_world key m) (show_reply (report.effect_at (Answer end))) (call_events_by key.layout.shape (map Response (show_says f (Answer end)))) (ap answered_at at);
        })

    ends : (s : ShowStage) → Ends w f memory s f.process
    ends (Answer end) well low sound bare = answers end well low sound bare
    ends s well low sound bare = still s refl sound bare

  show_led : (w : SheetWorld) (e : PlainShowCall) (m2 : Memory ℕ) (word : ℕ) → IsWell (plain key w) → e.process < key.layout.processes → w.situation e.process ≡ Showing e → ShowGoes e.stage
      → Performs (sheet.class_in key) (access_at key.layout (report.access_at e.stage)) e.process w.memory m2 word → IsSound (core_world key w) → IsBare key w
      → Led key w (there key w e.process (report.got_at e word) m2 (report.got_at e word).stage) e.process (call_events_by key.layout.shape (map Response (show_says (report.got_at e word) (report.got_at e word).stage)))
  show_led w e m2 word well low at go performs sound bare =
      let f : PlainShowCall = report.got_at e word in
      let n : ℕ = key.layout.processes in
      let m : SheetWorld = mid w e.process f m2 f.stage in
      let t : Steps e word (core_world key w) (core_world key m) = clip.show_steps n (plain key w) (plain key m) e word low (first_step key w e m2 word well low at go performs) in
      let at2 : (core_world key w).situation e.process ≡ Showing e = near n (plain key w) e.process low ∙ at in
      let k : Leaves e.process (core_world key w) (core_world key m) = step_leaves e word (core_world key w) (core_world key m) sound low at2 t in
      let one : Led key w m e.process [] = led_by key w m e.process [] sound bare (record {
        event = Step e.process;
        reply = show_reply (report.effect_at e.stage);
        moves = (low, step_show (record { report = e; mine = refl; at = at2; word = word; steps = t; is = refl }));
        sound = k.sound;
        bare = bare_on key w m e.process low bare k.buffers (λ q ne. t.open_edits q);
        did = step_did e.process (core_world key w) (show_reply (report.effect_at e.stage)) [] (ap answered_at at2 ∙ silent e e.stage go);
      }) in
      let last : Ends w f m2 f.stage e.process = subst (Ends w f m2 f.stage) (next_same e e.stage word).process (ends w f m2 f.stage) in
      led_on key w m (there key w e.process f m2 f.stage) e.process (call_events_by key.layout.shape (map Response (show_says f f.stage))) one
      (last (well_on e.process (plain key w) (plain key m) (first key w e m2 word well low at go performs) well) low one.sound one.bare)

  pub shows_led : KindLed key shows
  shows_led w e m2 word well low at fits go performs sound bare =
      let f : PlainShowCall = report.got_at e word in
      let is : w.situation e.process ≡ Showing e = at ∙ doing_going e e.stage go in
      let kept : stepped key w.memory w.hidden (w.situation e.process) ≡ w.hidden = ap (stepped key w.memory w.hidden) is in
      subst (λ (l : Ledger). Led key w (record { memory = m2; situation = put w.situation e.process (show_doing f f.stage); hidden = l }) e.process (call_events_by key.layout.shape (map Response (show_says f f.stage)))) (sym kept)
      (show_led w e m2 word well low is go performs sound bare)

  show_begun : (w : SheetWorld) (p next : ℕ) → p < key.layout.processes → w.situation p ≡ Idle (second_rest next) → IsSound (core_world key w) → IsBare key w
      → Led key w (shown.began key w p next) p (began key.layout.shape (Showing (fresh p (second_rest next) (cells_of key.layout) key.layout.processes)))
  show_begun w p next low idle sound bare =
      let n : ℕ = key.layout.processes in
      let v : SheetWorld = shown.began key w p next in
      let t = clip.show_begins n (plain key w) (plain key v) p (second_rest next) low (begins_so key w p next idle) in
      let k = begin_leaves p (second_rest next) (core_world key w) (core_world key v) sound low t in
      led_by key w v p (began key.layout.shape (Showing (fresh p (second_rest next) (cells_of key.layout) key.layout.processes))) sound bare (record {
        event = BeginShow p;
        reply = Entered;
        moves = (low, record { next = second_rest next; begins = t });
        sound = k.sound;
        bare = bare_on key w v p low bare k.buffers (λ q ne. t.open_edits q);
        did = λ q. refl;
      })

  pub shows_begun : KindBegun key shows
  shows_begun w e well low fits go may sound bare =
      subst (λ (z : Situation). Led key w (after_begin sheet key w e.process z) e.process (began key.layout.shape z)) (ap Showing (sym may.fresh) ∙ sym (doing_going e e.stage go)) (show_begun w e.process e.next low may.idle sound bare)
