-- Each run of a sheet as a structure is a run of the core.
use Rattle.std.proofs.Common.{ℕ, ◌≡◌, ◌≢◌, ◌<◌, ◌==◌, List, [], ◌∷◌, ◌++◌, map, refl, sym, ap, subst, ◌∙◌, Bool, true, false}
use Rattle.std.proofs.lemmas.List.{append-nil, append_assoc}
use Rattle.std.specs.Prelude.{if◌then◌else◌}
use mathlib.Core.Logic.{dite}
use native.Mathlib.Decide.{ℕ_discrete}
use Rattle.pm_base.specs.Structures.{In}
use Rattle.ds_core.specs.declared.event.Event.TheVariants as core
use Rattle.ds_core.specs.declared.reply.Reply.TheVariants as reply
use Rattle.ds_shared_runs.proofs.Histories.{run_both, answered_both, stood_both}
use Rattle.ds_shared_runs.specs.declared.history.CallEvent.{CallEvent}
use Rattle.ds_shared_runs.specs.History.{Happened, IsStanding, answered_by}
use Rattle.ds_layout.specs.Places.{words_of, place_of}
use Rattle.ds_layout.specs.declared.place.Place.{Place}
use Rattle.ds_layout.proofs.Places.{IsPlace-place_of, number_of-place_of}
use Rattle.ds_layout.proofs.Sheet.{evicts_at, crashes_at, stops_at}
use Rattle.ds_shared_runs.proofs.Converted.{histories_are_runs}
use Rattle.ds_shared_runs.proofs.Right.{answered_so}
use Rattle.ds_state.proofs.Accesses.{evict_sound}
use Rattle.ds_state.proofs.Buffers.{buffered}
use Rattle.ds_state.proofs.CrashSound.{crash_sound}
use Rattle.ds_state.proofs.Leaves.{stop_leaves}
use Rattle.ds_state.proofs.New.{new_sound}
use Rattle.ds_state.specs.Crashes.{CrashesTo, StopsIn}
use Rattle.ds_state.specs.Events.{Evicts}
use Rattle.ds_state.specs.Fresh.{IsNew}
use Rattle.ds_state.specs.Sound.{IsSound}
use Rattle.ds_state.specs.declared.situation.Situation.{Situation}
use Rattle.ds_state.specs.declared.situation.Situation.TheVariants.{Idle, Stopped, Editing, Working, Recovering, Showing, Migrating}
use Rattle.ds_words.specs.Memory.{Memory, Performs, EvictsAt, StopsAt, Crashes}
use Rattle.ds_words.specs.declared.access.Access.{Access}
use Rattle.pm_base.proofs.Puts.{put_here, put_else, put_same}
use Rattle.pm_base.proofs.Running.{runs}
use Rattle.pm_base.specs.Runs as layer
use Rattle.pm_base.specs.Runs.{deeds_of, deeds_by, history_of}
use Rattle.pm_base.specs.Structures.{IsStructure, after_begin, after_step, after_evict, after_stop, after_crash, first_world}
use Rattle.pm_base.specs.declared.history.Deed.{Deed}
use Rattle.pm_base.specs.declared.history.Deed.TheVariants.{Began, Response}
use Rattle.pm_base.specs.declared.history.Event.{Event}
use Rattle.pm_base.specs.declared.history.Event.TheVariants.{Begin, Step, Evict, Stop, Crash}
use Rattle.ds_structure.proofs.Recoveries.{stopped_buffer}
use Rattle.ds_structure.proofs.Structure.{new_sheet}
use Rattle.ds_structure.specs.Calls.{edits, works, shows, recoveries}
use Rattle.ds_structure.specs.Sheet.{SheetWorld, plain, IsWell, CallBegins, begins_edit, begins_work, begins_show, begins_recovery, CallSteps, steps_edit, steps_work, steps_show, steps_recovery, sheet}
use Rattle.ds_structure.specs.declared.response.Response as told
use Rattle.ds_structure.specs.declared.sheet.SheetKey.{SheetKey}
use Rattle.ds_structure_runs.specs.Runs.{core_world, began, call_events_of, call_events_by, Follows, IsTheCores, RunsAreTheCores, IsMoment, RunsHaveTheHeadline}
use Rattle.ds_structure_runs.proofs.ByKind.{kind_begun, kind_led}
use Rattle.ds_structure_runs.proofs.Clipped.{near, stays}
use Rattle.ds_structure_runs.proofs.EditRuns.{edits_led, edits_begun}
use Rattle.ds_structure_runs.proofs.Leading.{Led, led_by, led_none, none_only, only, bare_on}
use Rattle.ds_structure_runs.proofs.RecoveryRuns.{recoveries_led, recoveries_begun}
use Rattle.ds_structure_runs.proofs.ShowRuns.{shows_led, shows_begun}
use Rattle.ds_structure_runs.proofs.Tidy.{IsBare, tidy}
use Rattle.ds_structure_runs.proofs.WorkRuns.{works_led, works_begun}

-- ---- what processes did

module _ (key : SheetKey) where
  pub events_both : (xs ys : List (Deed Situation told.Response)) → call_events_by key.layout.shape (xs ++ ys) ≡ call_events_by key.layout.shape xs ++ call_events_by key.layout.shape ys
  events_both [] ys = refl
  events_both (x ∷ xs) ys = ap (λ (l : List CallEvent). call_events_of key.layout.shape x ++ l) (events_both xs ys) ∙ sym (append_assoc (call_events_of key.layout.shape x) (call_events_by key.layout.shape xs) (call_events_by key.layout.shape ys))

  if_events : (b : Bool) (ds : List (Deed Situation told.Response)) → (if b then call_events_by key.layout.shape ds else []) ≡ call_events_by key.layout.shape (if b then ds else [])
  if_events true ds = refl
  if_events false ds = refl

  -- ---- each event

  begins : (w : SheetWorld) (p : ℕ) (now : Situation) → IsWell (plain key w) → p < key.layout.processes → CallBegins key p (w.situation p) now → IsSound (core_world key w) → IsBare key w → Led key w (after_begin sheet key w p now) p (began key.layout.shape now)
  begins w p now well low (begins_edit k) = kind_begun key edits (edits_begun key) w p now well low k
  begins w p now well low (begins_work k) = kind_begun key works (works_begun key) w p now well low k
  begins w p now well low (begins_show k) = kind_begun key shows (shows_begun key) w p now well low k
  begins w p now well low (begins_recovery k) = kind_begun key recoveries (recoveries_begun key) w p now well low k

  steps : (w : SheetWorld) (p : ℕ) (access : Access ℕ) (answer : ℕ) (now : Situation) (says : List told.Response) (m2 : Memory ℕ) → IsWell (plain key w) → p < key.layout.processes → CallSteps key p (w.situation p) access answer now says
      → Performs (sheet.class_in key) access p w.memory m2 answer → IsSound (core_world key w) → IsBare key w → Led key w (after_step sheet key w p now m2) p (call_events_by key.layout.shape (map Response says))
  steps w p access answer now says m2 well low (steps_edit k) = kind_led key edits (edits_led key) w p access answer now says m2 well low k
  steps w p access answer now says m2 well low (steps_work k) = kind_led key works (works_led key) w p access answer now says m2 well low k
  steps w p access answer now says m2 well low (steps_show k) = kind_led key shows (shows_led key) w p access answer now says m2 well low k
  steps w p access answer now says m2 well low (steps_recovery k) = kind_led key recoveries (recoveries_led key) w p access answer now says m2 well low k

  evicts : (w : SheetWorld) (n : ℕ) (m2 : Memory ℕ) → n < words_of key.layout → EvictsAt n w.memory m2 → IsSound (core_world key w) → IsBare key w → Led key w (after_evict sheet key w n m2) 0 []
  evicts w n m2 low h sound bare =
      let v : SheetWorld = after_evict sheet key w n m2 in
      let r : Place = place_of key.layout n in
      let t : Evicts r (core_world key w) (core_world key v) = record {
        layout = refl;
        memory = evicts_at key.layout w.memory m2 r (IsPlace-place_of key.layout n low) (subst (λ (k : ℕ). EvictsAt k w.memory m2) (sym (number_of-place_of key.layout n)) h);
        situation = λ q. refl;
        counted = refl;
        open_edits = λ q. refl;
      } in
      led_by key w v 0 [] sound bare (record {
        event = core.Evict r;
        reply = reply.Evicted;
        moves = t;
        sound = (evict_sound r (core_world key w) (core_world key v) sound (buffered (core_world key w) sound) t).0;
        bare = record { buffers = λ q high. h.buffer q ∙ bare.buffers q high; open_edits = bare.open_edits };
        did = λ q. none_only (0 == q);
      })

  stops_one : (w : SheetWorld) (p : ℕ) (m2 : Memory ℕ) → p < key.layout.processes → StopsAt p w.memory m2 → w.situation p ≢ Stopped → IsSound (core_world key w) → IsBare key w → Led key w (after_stop sheet key w p m2) 0 []
  stops_one w p m2 low h running sound bare =
      let v : SheetWorld = after_stop sheet key w p m2 in
      let n : ℕ = key.layout.processes in
      let t : StopsIn p (core_world key w) (core_world key v) = record {
        runs = λ is. running (sym (near n (plain key w) p low) ∙ is);
        layout = refl;
        memory = stops_at key.layout w.memory m2 p h;
        situation = near n (plain key v) p low ∙ put_here w.situation p Stopped p refl;
        others = λ q ne. stays n (plain key w) (plain key v) q (put_else w.situation p Stopped q ne);
        counted = refl;
        open_edits = λ q. refl;
      } in
      let k = stop_leaves p (core_world key w) (core_world key v) sound low t in
      led_by key w v 0 [] sound bare (record {
        event = core.Stop p;
        reply = reply.Stopped;
        moves = (low, t);
        sound = k.sound;
        bare = bare_on key w v p low bare k.buffers (λ q ne. refl);
        did = λ q. none_only (0 == q);
      })

  still : (w : SheetWorld) (p : ℕ) (m2 : Memory ℕ) → IsWell (plain key w) → p < key.layout.processes → StopsAt p w.memory m2 → w.situation p ≡ Stopped → IsSound (core_world key w) → IsBare key w → Led key w (after_stop sheet key w p m2) 0 []
  still w p m2 well low h at sound bare =
      let empty : w.memory.buffer p ≡ [] = stopped_buffer key w p well low at in
      let buffer : (q : ℕ) → w.memory.buffer q ≡ m2.buffer q = λ q. dite (ℕ_discrete q p)
      (λ same. ap w.memory.buffer same ∙ (empty ∙ (sym h.mine ∙ ap m2.buffer (sym same))))
      (λ other. sym (h.others q other)) in
      let is : w ≡ after_stop sheet key w p m2 = λ i. record {
        memory = record { cached = λ r. sym (h.cached r) i; persisted = λ r. sym (h.persisted r) i; buffer = λ q. buffer q i };
        situation = λ q. sym (put_same w.situation p Stopped at q) i;
        hidden = w.hidden;
      } in
      subst (λ (v : SheetWorld). Led key w v 0 []) is (led_none key w 0 sound bare)

  stops : (w : SheetWorld) (p : ℕ) (m2 : Memory ℕ) → IsWell (plain key w) → p < key.layout.processes → StopsAt p w.memory m2 → IsSound (core_world key w) → IsBare key w → Led key w (after_stop sheet key w p m2) 0 []
  stops w p m2 well low h sound bare = by (w.situation p) refl
    where
      by : (s : Situation) → w.situation p ≡ s → Led key w (after_stop sheet key w p m2) 0 []
      by Stopped at = still w p m2 well low h at sound bare
      by (Idle n) at = stops_one w p m2 low h (λ is. cc) sound bare
      by (Editing e) at = stops_one w p m2 low h (λ is. cc) sound bare
      by (Working e) at = stops_one w p m2 low h (λ is. cc) sound bare
      by (Recovering e) at = stops_one w p m2 low h (λ is. cc) sound bare
      by (Showing e) at = stops_one w p m2 low h (λ is. cc) sound bare
      by (Migrating e) at = stops_one w p m2 low h (λ is. cc) sound bare

  crashes : (w : SheetWorld) (m2 : Memory ℕ) → Crashes w.memory m2 → IsSound (core_world key w) → IsBare key w → Led key w (after_crash sheet key w m2) 0 []
  crashes w m2 h sound bare =
      let v : SheetWorld = after_crash sheet key w m2 in
      let t : CrashesTo (core_world key w) (core_world key v) = record {
        layout = refl;
        memory = crashes_at key.layout w.memory m2 h;
        situation = λ q low. near key.layout.processes (plain key v) q low;
        counted = refl;
        open_edits = λ q. refl;
      } in
      led_by key w v 0 [] sound bare (record {
        event = core.Crash;
        reply = reply.Crashed;
        moves = t;
        sound = crash_sound (core_world key w) (core_world key v) sound t;
        bare = record { buffers = λ q high. h.buffer q; open_edits = bare.open_edits };
        did = λ q. none_only (0 == q);
      })

  -- what an event leads to, with what it tells
  record Moved (w : SheetWorld) (event : Event Situation) (says : List told.Response) (v : SheetWorld) : Type 0 where
    by : ℕ
    tells : List CallEvent
    led : Led key w v by tells
    same : (q : ℕ) → only by tells q ≡ call_events_by key.layout.shape (deeds_of q event says)

  moved : (w : SheetWorld) (event : Event Situation) (says : List told.Response) (v : SheetWorld) → IsWell (plain key w) → IsSound (core_world key w) → IsBare key w → layer.Moves sheet key w event says v → Moved w event says v
  moved w (Begin p now) says v well sound bare m = subst (Moved w (Begin p now) says) (sym m.2) (record { by = p; tells = began key.layout.shape now; led = begins w p now well m.0 m.1 sound bare; same = λ q. ap (λ (l : List CallEvent). if p == q then l else []) (sym (append-nil (began key.layout.shape now))) ∙ if_events (p == q) (Began now ∷ []) })
  moved w (Step p) says v well sound bare m = subst (Moved w (Step p) says) (sym m.lands) (record { by = p; tells = call_events_by key.layout.shape (map Response says); led = steps w p m.access m.answer m.now says v.memory well m.low m.takes m.performs sound bare; same = λ q. if_events (p == q) (map Response says) })
  moved w (Evict n) says v well sound bare m = subst (Moved w (Evict n) says) (sym m.2) (record { by = 0; tells = []; led = evicts w n v.memory m.0 m.1 sound bare; same = λ q. sym (none_only (0 == q)) })
  moved w (Stop p) says v well sound bare m = subst (Moved w (Stop p) says) (sym m.2) (record { by = 0; tells = []; led = stops w p v.memory well m.0 m.1 sound bare; same = λ q. sym (none_only (0 == q)) })
  moved w Crash says v well sound bare m = subst (Moved w Crash says) (sym m.1) (record { by = 0; tells = []; led = crashes w v.memory m.0 sound bare; same = λ q. sym (none_only (0 == q)) })

  -- ---- runs

  new_core : (w : SheetWorld) → layer.IsNew sheet key w → IsNew (core_world key w)
  new_core w new = subst (λ (z : SheetWorld). IsNew (core_world key z)) (sym new.is) (
      let n = new_sheet key w.memory new.memory in
      record { edition = n.edition; memory = n.memory; situation = λ q low. near key.layout.processes (plain key (first_world sheet key w.memory)) q low ∙ n.situation q low; counted = n.counted; open_edits = n.open_edits })

  new_bare : (w : SheetWorld) → layer.IsNew sheet key w → IsBare key w
  new_bare w new = subst (IsBare key) (sym new.is) (record { buffers = λ q high. new.memory.buffer q; open_edits = λ q high. refl })

  abbrev tail_of : {X : Type 0} → List X → List X
  tail_of [] = []
  tail_of (x ∷ xs) = xs

  -- the moments of a run that goes with a history
  moment_of : (hs since until : List (layer.Happened sheet key)) (happened : List Happened) → hs ≡ since ++ until → Follows key.layout.shape (history_of sheet key hs) happened → IsMoment key happened (history_of sheet key until)
  moment_of hs [] until happened is f = subst (λ (l : List (layer.Happened sheet key)). IsMoment key happened (history_of sheet key l)) is (record { later = []; earlier = happened; parts = refl; follows = f })
  moment_of [] (x ∷ since) until happened is f = absurd (cc)
  moment_of (h ∷ hs) (x ∷ since) until happened is f =
      let m : IsMoment key f.1 (history_of sheet key until) = moment_of hs since until f.1 (ap tail_of is) f.4 in
      record { later = f.0 ++ m.later; earlier = m.earlier; parts = f.2 ∙ (ap (λ (l : List Happened). f.0 ++ l) m.parts ∙ sym (append_assoc f.0 m.later m.earlier)); follows = m.follows }

  -- with what the next event asks
  record Come (first last : SheetWorld) (hs : List (layer.Happened sheet key)) : Type 0 where
    is : IsTheCores key first last hs
    bare : IsBare key last
    follows : Follows key.layout.shape (history_of sheet key hs) is.happened

  comes : IsStructure sheet key → (first last : SheetWorld) (hs : List (layer.Happened sheet key)) → layer.IsNew sheet key first → layer.Run sheet key first hs last → Come first last hs
  comes structure first last [] new run =
      let here : first ≡ last = sym run in
      let fresh : IsNew (core_world key first) = new_core first new in
      let bare : IsBare key first = new_bare first new in
      record {
        is = record {
          happened = [];
          new = fresh;
          run = ap (core_world key) run;
          stood = tt;
          standing = subst (λ (z : SheetWorld). IsStanding (core_world key z)) here (record { sound = new_sound (core_world key first) fresh; tidy = tidy key first bare });
          did = λ p. refl;
          moments = λ since until parts. moment_of [] since until [] parts refl;
        };
        bare = subst (IsBare key) here bare;
        follows = refl;
      }
  comes structure first last (h ∷ hs) new run =
      let before : Come first h.before hs = comes structure first h.before hs new run.1 in
      let well : IsWell (plain key h.before) = (runs sheet key structure first h.before hs new run.1).sound in
      let m : Moved h.before h.entry.event h.entry.responses last = moved h.before h.entry.event h.entry.responses last well before.is.standing.sound before.bare run.0 in
      let did : (p : ℕ) → answered_by p (m.led.happened ++ before.is.happened) ≡ call_events_by key.layout.shape (deeds_by p (history_of sheet key (h ∷ hs))) =
      λ p. answered_both p m.led.happened before.is.happened ∙ ((λ i. (m.led.did p ∙ m.same p) i ++ before.is.did p i) ∙ sym (events_both (deeds_of p h.entry.event h.entry.responses) (deeds_by p (history_of sheet key hs)))) in
      let follows : Follows key.layout.shape (history_of sheet key (h ∷ hs)) (m.led.happened ++ before.is.happened) = (m.led.happened, before.is.happened, refl, (λ p. m.led.did p ∙ m.same p), before.follows) in
      record {
        is = record {
          happened = m.led.happened ++ before.is.happened;
          new = before.is.new;
          run = run_both (core_world key first) (core_world key h.before) (core_world key last) before.is.happened m.led.happened before.is.run m.led.run;
          stood = stood_both m.led.happened before.is.happened m.led.stood before.is.stood;
          standing = record { sound = m.led.sound; tidy = tidy key last m.led.bare };
          did = did;
          moments = λ since until parts. moment_of (h ∷ hs) since until (m.led.happened ++ before.is.happened) parts follows;
        };
        bare = m.led.bare;
        follows = follows;
      }

  pub are_the_cores : IsStructure sheet key → RunsAreTheCores key
  are_the_cores structure first last hs new run = (comes structure first last hs new run).is

  pub have_the_headline : RunsAreTheCores key → RunsHaveTheHeadline key
  have_the_headline cores first last hs new run =
      let c : IsTheCores key first last hs = cores first last hs new run in (
        c,
        λ few.
            let r = histories_are_runs (core_world key first) (core_world key last) c.happened c.new c.run c.stood c.standing few in
            record { run = r; right = λ p t inside. answered_so (core_world key first) c.happened (core_world key last) r p t (subst (λ (l : List CallEvent). In l t) (sym (c.did p)) inside) },
      )
