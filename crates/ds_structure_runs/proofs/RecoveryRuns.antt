-- Recoveries: a run of the core for each begin and each step.
use Rattle.std.proofs.Common.{ℕ, ◌≡◌, ◌<◌, [], map, refl, sym, ap, subst, ◌∙◌}
use Rattle.std.specs.Prelude.{Option, Bool}
use Rattle.ds_core.specs.RecoveryEvents.{recovery_reply}
use Rattle.ds_core.specs.declared.event.Event.TheVariants.{BeginRecover, Step}
use Rattle.ds_core.specs.declared.reply.Reply.TheVariants.{Entered}
use Rattle.ds_shared_runs.specs.History.{recovery as step_recovery, recovery_answered, answered_at}
use Rattle.ds_layout.specs.Places.{cells_of}
use Rattle.ds_recover.proofs.RecoveryLeaves.{recovery_leaves, begin_leaves}
use Rattle.ds_recover.specs.RecoverBegun.{MayRecover}
use Rattle.ds_recover.specs.RecoverySteps as recovery
use Rattle.ds_recover.specs.RecoverySteps.{Steps, open_edit_at, fresh}
use Rattle.ds_state.specs.Works.{PlainRecoverCall}
use Rattle.ds_state.specs.World.{PlainIssue}
use Rattle.ds_state.specs.declared.recovery.RecoverStage.{RecoverStage}
use Rattle.ds_state.specs.declared.recovery.RecoverStage.TheVariants.{Answer}
use Rattle.ds_state.specs.declared.situation.Situation.TheVariants.{Recovering}
use Rattle.ds_structure.proofs.Recoveries.{doing_going, open_going, next_same, here, there, first, first_step, last_step, begins_so}
use Rattle.ds_structure.proofs.Recoveries as recovered_so
use Rattle.ds_structure.proofs.Words.{answer_found}
use Rattle.ds_structure.specs.Calls.{RecoveryGoes, recovery_doing, recovery_says, recoveries}
use Rattle.ds_structure.specs.Sheet.{recovered}
use Rattle.ds_layout.specs.SheetMemory.{access_at}
use Rattle.ds_state.specs.Leaves.{Leaves}
use Rattle.ds_state.specs.Sound.{IsSound}
use Rattle.ds_state.specs.declared.situation.Situation.{Situation}
use Rattle.ds_words.specs.Memory.{Memory, Performs}
use Rattle.pm_base.proofs.Puts.{put_here, put_same}
use Rattle.pm_base.specs.Structures.{after_begin, put}
use Rattle.pm_base.specs.declared.history.Deed.TheVariants.{Response}
use Rattle.ds_structure.proofs.Passing.{well_on}
use Rattle.ds_structure.specs.Sheet.{Ledger, SheetWorld, plain, stepped, IsWell, sheet}
use Rattle.ds_structure.specs.declared.sheet.SheetKey.{SheetKey}
use Rattle.ds_structure_runs.specs.Runs.{core_world, began, call_events_by}
use Rattle.ds_structure_runs.proofs.Clipped as clip
use Rattle.ds_structure_runs.proofs.Clipped.{near}
use Rattle.ds_structure_runs.proofs.ByKind.{KindBegun, KindLed, step_did}
use Rattle.ds_structure_runs.proofs.Leading.{Led, led_by, led_none, led_on, bare_on}
use Rattle.ds_structure_runs.proofs.Tidy.{IsBare}

silent : (e : PlainRecoverCall) (s : RecoverStage) → RecoveryGoes s → recovery_answered e s ≡ []
silent e (Answer end) g = absurd g
silent e _ g = refl

module _ (key : SheetKey) where
  -- the process p has come to a stage of its show
  abbrev mid : SheetWorld → ℕ → PlainRecoverCall → Memory ℕ → RecoverStage → SheetWorld
  mid w p f memory s = record { memory = memory; situation = put w.situation p (Recovering (record f { stage = s })); hidden = w.hidden }

  abbrev Ends : SheetWorld → PlainRecoverCall → Memory ℕ → RecoverStage → ℕ → Type 0
  Ends w f memory s p = IsWell (here key w p f memory s) → p < key.layout.processes → IsSound (core_world key (mid w p f memory s)) → IsBare key (mid w p f memory s)
      → Led key (mid w p f memory s) (there key w p f memory s) p (call_events_by key.layout.shape (map Response (recovery_says f s)))

  module _ (w : SheetWorld) (f : PlainRecoverCall) (memory : Memory ℕ) where
    still : (s : RecoverStage) → RecoveryGoes s → IsSound (core_world key (mid w f.process f memory s)) → IsBare key (mid w f.process f memory s) → Led key (mid w f.process f memory s) (there key w f.process f memory s) f.process []
    still s go sound bare =
        let opens : w.hidden.open_edits ≡ (there key w f.process f memory s).hidden.open_edits = sym (λ i q. put_same w.hidden.open_edits f.process (open_edit_at (w.hidden.open_edits f.process) s) (sym (open_going (w.hidden.open_edits f.process) s go)) q i) in
        let doing : Recovering (record f { stage = s }) ≡ recovery_doing f s = sym (doing_going f s go) in
        subst (λ (z : Situation × (ℕ → Option PlainIssue)). Led key (mid w f.process f memory s) (record { memory = memory; situation = put w.situation f.process z.0; hidden = record w.hidden { open_edits = z.1 } }) f.process []) (λ i. (doing i, opens i))
        (led_none key (mid w f.process f memory s) f.process sound bare)

    answers : (end : Option Bool) → Ends w f memory (Answer end) f.process
    answers end well low sound bare =
        let e : PlainRecoverCall = record f { stage = Answer end } in
        let n : ℕ = key.layout.processes in
        let m : SheetWorld = mid w f.process f memory (Answer end) in
        let v : SheetWorld = there key w f.process f memory (Answer end) in
        let t : Steps e 0 (core_world key m) (core_world key v) = clip.recovery_steps n (plain key m) (plain key v) e 0 low (last_step key w f memory end well low) in
        let at : (core_world key m).situation f.process ≡ Recovering e = near n (plain key m) f.process low ∙ put_here w.situation f.process (Recovering e) f.process refl in
        let k : Leaves f.process (core_world key m) (core_world key v) = recovery_leaves e 0 (core_world key m) (core_world key v) sound low at t in
        led_by key m v f.process (call_events_by key.layout.shape (map Response (recovery_says f (Answer end)))) sound bare (record {
          event = Step f.process;
          reply = recovery_reply (recovery.effect_at e (Answer end));
          moves = (low, step_recovery (record { recovery = e; mine = refl; at = at; word = 0; steps = t; is = refl }));
          sound = k.sound;
          bare = bare_on key m v f.process low bare k.buffers t.others_open_edits;
          did = step_did f.process (core_world key m) (recovery_reply (recovery.effect_at e (Answer end))) (call_events_by key.layout.shape (map Response (recovery_says f (Answer end)))) (ap answered_at at);
        })

    ends : (s : RecoverStage) → Ends w f memory s f.process
    ends (Answer end) well low sound bare = answers end well low sound bare
    ends s well low sound bare = still s tt sound bare

  recovery_led : (w : SheetWorld) (e : PlainRecoverCall) (m2 : Memory ℕ) (word : ℕ) → IsWell (plain key w) → e.process < key.layout.processes → w.situation e.process ≡ Recovering e → RecoveryGoes e.stage
      → Performs (sheet.class_in key) (access_at key.layout (recovery.access_at e e.stage)) e.process w.memory m2 word → IsSound (core_world key w) → IsBare key w
      → Led key w (there key w e.process (recovery.got_at e word) m2 (recovery.got_at e word).stage) e.process (call_events_by key.layout.shape (map Response (recovery_says (recovery.got_at e word) (recovery.got_at e word).stage)))
  recovery_led w e m2 word well low at go performs sound bare =
      let f : PlainRecoverCall = recovery.got_at e word in
      let n : ℕ = key.layout.processes in
      let m : SheetWorld = mid w e.process f m2 f.stage in
      let t : Steps e word (core_world key w) (core_world key m) = clip.recovery_steps n (plain key w) (plain key m) e word low (first_step key w e m2 word well low at go performs) in
      let at2 : (core_world key w).situation e.process ≡ Recovering e = near n (plain key w) e.process low ∙ at in
      let k : Leaves e.process (core_world key w) (core_world key m) = recovery_leaves e word (core_world key w) (core_world key m) sound low at2 t in
      let one : Led key w m e.process [] = led_by key w m e.process [] sound bare (record {
        event = Step e.process;
        reply = recovery_reply (recovery.effect_at e e.stage);
        moves = (low, step_recovery (record { recovery = e; mine = refl; at = at2; word = word; steps = t; is = refl }));
        sound = k.sound;
        bare = bare_on key w m e.process low bare k.buffers t.others_open_edits;
        did = step_did e.process (core_world key w) (recovery_reply (recovery.effect_at e e.stage)) [] (ap answered_at at2 ∙ silent e e.stage go);
      }) in
      let last : Ends w f m2 f.stage e.process = subst (Ends w f m2 f.stage) (next_same e e.stage word).process (ends w f m2 f.stage) in
      led_on key w m (there key w e.process f m2 f.stage) e.process (call_events_by key.layout.shape (map Response (recovery_says f f.stage))) one
      (last (well_on e.process (plain key w) (plain key m) (first key w e m2 word well low at go performs) well) low one.sound one.bare)

  pub recoveries_led : KindLed key recoveries
  recoveries_led w e m2 word well low at fits go performs sound bare =
      let f : PlainRecoverCall = recovery.got_at e word in
      let is : w.situation e.process ≡ Recovering e = at ∙ doing_going e e.stage go in
      let kept : stepped key w.memory w.hidden (w.situation e.process) ≡ recovered w.hidden e word =
      ap (stepped key w.memory w.hidden) is ∙ ap (recovered w.hidden e) (sym (answer_found (sheet.class_in key) (access_at key.layout (recovery.access_at e e.stage)) e.process word w.memory m2 performs)) in
      subst (λ (l : Ledger). Led key w (record { memory = m2; situation = put w.situation e.process (recovery_doing f f.stage); hidden = l }) e.process (call_events_by key.layout.shape (map Response (recovery_says f f.stage)))) (sym kept)
      (recovery_led w e m2 word well low is go performs sound bare)

  recovery_begun : (w : SheetWorld) (p : ℕ) → IsWell (plain key w) → p < key.layout.processes → MayRecover (w.situation p) → IsSound (core_world key w) → IsBare key w
      → Led key w (recovered_so.began key w p) p (began key.layout.shape (Recovering (fresh p (cells_of key.layout) key.layout.processes)))
  recovery_begun w p well low free sound bare =
      let n : ℕ = key.layout.processes in
      let v : SheetWorld = recovered_so.began key w p in
      let t = clip.recovery_begins n (plain key w) (plain key v) p low refl (begins_so key w p well free) in
      let k = begin_leaves p (core_world key w) (core_world key v) sound low t in
      led_by key w v p (began key.layout.shape (Recovering (fresh p (cells_of key.layout) key.layout.processes))) sound bare (record {
        event = BeginRecover p;
        reply = Entered;
        moves = (low, t);
        sound = k.sound;
        bare = bare_on key w v p low bare k.buffers (λ q ne. t.begins.open_edits q);
        did = λ q. refl;
      })

  pub recoveries_begun : KindBegun key recoveries
  recoveries_begun w e well low fits go may sound bare =
      subst (λ (z : Situation). Led key w (after_begin sheet key w e.process z) e.process (began key.layout.shape z)) (ap Recovering (sym may.fresh) ∙ sym (doing_going e e.stage go)) (recovery_begun w e.process well low may.free sound bare)
