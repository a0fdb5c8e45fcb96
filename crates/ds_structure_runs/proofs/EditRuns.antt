-- Edits: a run of the core for each begin and each step.
use Rattle.std.proofs.Common.{ℕ, ◌≡◌, ◌<◌, List, [], ◌++◌, map, refl, sym, ap, subst, ◌∙◌}
use Rattle.std.specs.Prelude.{Option}
use Rattle.ds_core.specs.EditEvents.{edit_reply}
use Rattle.ds_core.specs.Requests.{PlainRequest}
use Rattle.ds_core.specs.declared.event.Event.TheVariants.{BeginEdit, Step}
use Rattle.ds_core.specs.declared.reply.Reply.TheVariants.{Begun}
use Rattle.ds_shared_runs.specs.History.{edit, edit_answered, answered_at}
use Rattle.ds_edit.proofs.EditLeaves.{edit_leaves, begin_leaves}
use Rattle.ds_edit.specs.EditSteps as edit_steps
use Rattle.ds_edit.specs.EditTakes.{Steps, counted_at, open_edit_at, turn_at}
use Rattle.ds_eval.proofs.Rounds.{inside_at, index_at}
use Rattle.ds_formula.specs.Cells.{cell_at}
use Rattle.ds_layout.specs.SheetMemory.{access_at}
use Rattle.ds_state.specs.Edits.{PlainEditCall}
use Rattle.ds_state.specs.Leaves.{Leaves}
use Rattle.ds_state.specs.Sound.{IsSound}
use Rattle.ds_state.specs.World.{PlainEdit, PlainIssue, PlainWorld, edit_of}
use Rattle.ds_state.specs.declared.situation.Situation.{Situation}
use Rattle.ds_state.specs.declared.situation.Situation.TheVariants.{Editing}
use Rattle.ds_state.specs.declared.stage.Outcome.{Outcome}
use Rattle.ds_state.specs.declared.stage.Stage.{Stage}
use Rattle.ds_state.specs.declared.stage.Stage.TheVariants.{Answer}
use Rattle.ds_words.specs.Memory.{Memory, Performs}
use Rattle.pm_base.proofs.Puts.{put_here, put_same}
use Rattle.pm_base.specs.Structures.{after_begin, put}
use Rattle.pm_base.specs.declared.history.Deed.TheVariants.{Response}
use Rattle.ds_structure.proofs.Edits.{doing_going, open_going, here, there, first, first_step, last_step, begins_so}
use Rattle.ds_structure.proofs.Passing.{well_on}
use Rattle.ds_structure.proofs.Words.{answer_found}
use Rattle.ds_structure.specs.Calls.{EditGoes, edit_doing, edit_says, IsEditOn, MayEdit, edits}
use Rattle.ds_structure.specs.Sheet.{Ledger, SheetWorld, plain, edited, stepped, IsWell, sheet}
use Rattle.ds_structure.specs.declared.sheet.SheetKey.{SheetKey}
use Rattle.ds_structure_runs.specs.Runs.{core_world, began, call_events_by}
use Rattle.ds_structure_runs.proofs.Clipped as clip
use Rattle.ds_structure_runs.proofs.Clipped.{near}
use Rattle.ds_structure_runs.proofs.ByKind.{KindBegun, KindLed, step_did}
use Rattle.ds_structure_runs.proofs.Leading.{Led, led_by, led_none, led_on, bare_on}
use Rattle.ds_structure_runs.proofs.Tidy.{IsBare}

silent : (e : PlainEditCall) (s : Stage) → EditGoes s → edit_answered e s ≡ []
silent e (Answer how) g = absurd g
silent e _ g = refl

module _ (key : SheetKey) where
  module _ (w : SheetWorld) (f : PlainEditCall) (memory : Memory ℕ) (counted : List PlainEdit) where
    -- the process has come to a stage of its edit
    abbrev pub mid : Stage → SheetWorld
    mid s = record { memory = memory; situation = put w.situation f.process (Editing (record f { stage = s })); hidden = record { counted = counted; open_edits = w.hidden.open_edits; before_crashes = w.hidden.before_crashes } }

    abbrev end : Stage → SheetWorld
    end s = there key w f memory counted s

    still : (s : Stage) → EditGoes s → IsSound (core_world key (mid s)) → IsBare key (mid s) → Led key (mid s) (end s) f.process []
    still s go sound bare =
        let opens : w.hidden.open_edits ≡ (end s).hidden.open_edits = sym (λ i q. put_same w.hidden.open_edits f.process (open_edit_at (w.hidden.open_edits f.process) s) (sym (open_going (w.hidden.open_edits f.process) s go)) q i) in
        let doing : Editing (record f { stage = s }) ≡ edit_doing f s = sym (doing_going f s go) in
        subst (λ (z : Situation × (ℕ → Option PlainIssue)). Led key (mid s) (record { memory = memory; situation = put w.situation f.process z.0; hidden = record { counted = counted; open_edits = z.1; before_crashes = w.hidden.before_crashes } }) f.process []) (λ i. (doing i, opens i))
        (led_none key (mid s) f.process sound bare)

    answers : (how : Outcome) → IsWell (here key w f memory counted (Answer how)) → f.process < key.layout.processes → IsSound (core_world key (mid (Answer how))) → IsBare key (mid (Answer how))
        → Led key (mid (Answer how)) (end (Answer how)) f.process (call_events_by key.layout.shape (map Response (edit_says f (Answer how))))
    answers how well low sound bare =
        let e : PlainEditCall = record f { stage = Answer how } in
        let n : ℕ = key.layout.processes in
        let old : PlainWorld = plain key (mid (Answer how)) in
        let new : PlainWorld = plain key (end (Answer how)) in
        let t : Steps e 0 (core_world key (mid (Answer how))) (core_world key (end (Answer how))) = clip.edit_steps n old new e 0 low (last_step key w f memory counted how well low) in
        let at : (core_world key (mid (Answer how))).situation f.process ≡ Editing e = near n old f.process low ∙ put_here w.situation f.process (Editing e) f.process refl in
        let k : Leaves f.process (core_world key (mid (Answer how))) (core_world key (end (Answer how))) = edit_leaves e 0 (core_world key (mid (Answer how))) (core_world key (end (Answer how))) sound low at t in
        led_by key (mid (Answer how)) (end (Answer how)) f.process (call_events_by key.layout.shape (map Response (edit_says f (Answer how)))) sound bare (record {
          event = Step f.process;
          reply = edit_reply (turn_at n f.number (Answer how));
          moves = (low, edit (record { edit = e; mine = refl; at = at; word = 0; steps = t; is = refl }));
          sound = k.sound;
          bare = bare_on key (mid (Answer how)) (end (Answer how)) f.process low bare k.buffers t.others_open_edits;
          did = step_did f.process (core_world key (mid (Answer how))) (edit_reply (turn_at n f.number (Answer how))) (call_events_by key.layout.shape (map Response (edit_says f (Answer how)))) (ap answered_at at);
        })

    ends : (s : Stage) → IsWell (here key w f memory counted s) → f.process < key.layout.processes → IsSound (core_world key (mid s)) → IsBare key (mid s) → Led key (mid s) (end s) f.process (call_events_by key.layout.shape (map Response (edit_says f s)))
    ends (Answer how) well low sound bare = answers how well low sound bare
    ends s well low sound bare = still s tt sound bare

  edit_led : (w : SheetWorld) (e : PlainEditCall) (m2 : Memory ℕ) (word : ℕ) → IsWell (plain key w) → e.process < key.layout.processes → w.situation e.process ≡ Editing e → EditGoes e.stage
      → Performs (sheet.class_in key) (access_at key.layout (edit_steps.access_at e e.stage)) e.process w.memory m2 word → IsSound (core_world key w) → IsBare key w
      → Led key w (there key w (edit_steps.got_at e word) m2 (w.hidden.counted ++ counted_at (edit_of e) e.stage word) (edit_steps.got_at e word).stage) e.process (call_events_by key.layout.shape (map Response (edit_says (edit_steps.got_at e word) (edit_steps.got_at e word).stage)))
  edit_led w e m2 word well low at go performs sound bare =
      let f : PlainEditCall = edit_steps.got_at e word in
      let counted : List PlainEdit = w.hidden.counted ++ counted_at (edit_of e) e.stage word in
      let n : ℕ = key.layout.processes in
      let m : SheetWorld = mid w f m2 counted f.stage in
      let t : Steps e word (core_world key w) (core_world key m) = clip.edit_steps n (plain key w) (plain key m) e word low (first_step key w e m2 word well low at go performs) in
      let at2 : (core_world key w).situation e.process ≡ Editing e = near n (plain key w) e.process low ∙ at in
      let k : Leaves e.process (core_world key w) (core_world key m) = edit_leaves e word (core_world key w) (core_world key m) sound low at2 t in
      let one : Led key w m e.process [] = led_by key w m e.process [] sound bare (record {
        event = Step e.process;
        reply = edit_reply (turn_at n e.number e.stage);
        moves = (low, edit (record { edit = e; mine = refl; at = at2; word = word; steps = t; is = refl }));
        sound = k.sound;
        bare = bare_on key w m e.process low bare k.buffers t.others_open_edits;
        did = step_did e.process (core_world key w) (edit_reply (turn_at n e.number e.stage)) [] (ap answered_at at2 ∙ silent e e.stage go);
      }) in
      led_on key w m (there key w f m2 counted f.stage) e.process (call_events_by key.layout.shape (map Response (edit_says f f.stage))) one
      (ends w f m2 counted f.stage (well_on e.process (plain key w) (plain key m) (first key w e m2 word well low at go performs) well) low one.sound one.bare)

  pub edits_led : KindLed key edits
  edits_led w e m2 word well low at fits go performs sound bare =
      let f : PlainEditCall = edit_steps.got_at e word in
      let is : w.situation e.process ≡ Editing e = at ∙ doing_going e e.stage go in
      let kept : stepped key w.memory w.hidden (w.situation e.process) ≡ edited w.hidden e word =
      ap (stepped key w.memory w.hidden) is ∙ ap (edited w.hidden e) (sym (answer_found (sheet.class_in key) (access_at key.layout (edit_steps.access_at e e.stage)) e.process word w.memory m2 performs)) in
      subst (λ (l : Ledger). Led key w (record { memory = m2; situation = put w.situation e.process (edit_doing f f.stage); hidden = l }) e.process (call_events_by key.layout.shape (map Response (edit_says f f.stage)))) (sym kept)
      (edit_led w e m2 word well low is go performs sound bare)

  edit_begun : (w : SheetWorld) (e : PlainEditCall) → e.process < key.layout.processes → IsEditOn key.layout e → MayEdit key.layout (w.situation e.process) e → IsSound (core_world key w) → IsBare key w
      → Led key w (after_begin sheet key w e.process (Editing e)) e.process (began key.layout.shape (Editing e))
  edit_begun w e low fits may sound bare =
      let n : ℕ = key.layout.processes in
      let v : SheetWorld = after_begin sheet key w e.process (Editing e) in
      let t = clip.edit_begins n (plain key w) (plain key v) e low (begins_so key w e may) in
      let k = begin_leaves e (core_world key w) (core_world key v) sound fits.is fits.sheet may.refs t in
      let asked : PlainRequest = record { process = e.process; cell = cell_at key.layout.shape e.cell; text = e.text } in
      led_by key w v e.process (began key.layout.shape (Editing e)) sound bare (record {
        event = BeginEdit asked;
        reply = Begun e.number;
        moves = (
          low,
          inside_at key.layout.shape e.cell (subst (λ (m : ℕ). e.cell < m) (sym fits.sheet.cells) fits.is.cell),
          record {
            edit = e;
            asked = record { asked = ap (λ (c : ℕ). let d : PlainEdit = record { process = e.process; number = e.number; cell = c; text = e.text } in d) (sym (index_at key.layout.shape e.cell)); is = fits.is; sheet = fits.sheet; refs = may.refs; only = may.only };
            begins = t;
          },
        );
        sound = k.sound;
        bare = bare_on key w v e.process low bare k.buffers t.others_open_edits;
        did = λ q. refl;
      })

  pub edits_begun : KindBegun key edits
  edits_begun w e well low fits go may sound bare =
      subst (λ (z : Situation). Led key w (after_begin sheet key w e.process z) e.process (began key.layout.shape z)) (sym (doing_going e e.stage go)) (edit_begun w e low fits may sound bare)
