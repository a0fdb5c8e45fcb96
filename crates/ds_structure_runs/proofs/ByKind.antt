-- What each kind of calls owes for a run of the core.
use Rattle.std.proofs.Common.{ℕ, ◌≡◌, ◌<◌, ◌==◌, List, [], map, sym, ap, subst, ◌∙◌}
use Rattle.std.specs.Prelude.{if◌then◌else◌}
use Rattle.ds_core.specs.declared.event.Event.TheVariants.{Step}
use Rattle.ds_core.specs.declared.reply.Reply.{Reply}
use Rattle.ds_shared_runs.specs.declared.history.CallEvent.{CallEvent}
use Rattle.ds_shared_runs.specs.History.{answered_at, answered_from}
use Rattle.ds_state.specs.Sound.{IsSound}
use Rattle.ds_state.specs.World.{PlainWorld}
use Rattle.ds_state.specs.declared.situation.Situation.{Situation}
use Rattle.ds_words.specs.Memory.{Memory, Performs}
use Rattle.ds_words.specs.declared.access.Access.{Access}
use Rattle.pm_base.specs.Structures.{Calls, BeginsOf, StepsOf, after_begin, after_step}
use Rattle.pm_base.specs.declared.history.Deed.TheVariants.{Response}
use Rattle.ds_structure.specs.Sheet.{SheetWorld, plain, IsWell, sheet}
use Rattle.ds_structure.specs.declared.response.Response as told
use Rattle.ds_structure.specs.declared.sheet.SheetKey.{SheetKey}
use Rattle.ds_structure_runs.specs.Runs.{core_world, began, call_events_by}
use Rattle.ds_structure_runs.proofs.Leading.{Led, only}
use Rattle.ds_structure_runs.proofs.Tidy.{IsBare}

-- a step is answered to its process alone
pub step_did : (p : ℕ) (w : PlainWorld) (reply : Reply) (ts : List CallEvent) → answered_at (w.situation p) ≡ ts → (q : ℕ) → answered_from q w (Step p) reply ≡ only p ts q
step_did p w reply ts is q = ap (λ (z : List CallEvent). if p == q then z else []) is

abbrev pub KindLed : {C E : Type 0} → SheetKey → Calls SheetKey Situation told.Response C E → Type 0
KindLed {C} key c = (w : SheetWorld) (call : C) (m2 : Memory ℕ) (answer : ℕ) → IsWell (plain key w) → c.process call < key.layout.processes → w.situation (c.process call) ≡ c.doing call → c.fits key call → c.goes call
    → Performs (sheet.class_in key) (c.access key call) (c.process call) w.memory m2 answer → IsSound (core_world key w) → IsBare key w
    → Led key w (after_step sheet key w (c.process call) (c.doing (c.next call answer)) m2) (c.process call) (call_events_by key.layout.shape (map Response (c.says (c.next call answer))))

abbrev pub KindBegun : {C E : Type 0} → SheetKey → Calls SheetKey Situation told.Response C E → Type 0
KindBegun {C} key c = (w : SheetWorld) (call : C) → IsWell (plain key w) → c.process call < key.layout.processes → c.fits key call → c.goes call → c.begins key (w.situation (c.process call)) call → IsSound (core_world key w) → IsBare key w
    → Led key w (after_begin sheet key w (c.process call) (c.doing call)) (c.process call) (began key.layout.shape (c.doing call))

module _ {C E : Type 0} (key : SheetKey) (c : Calls SheetKey Situation told.Response C E) where
  pub kind_begun : KindBegun key c → (w : SheetWorld) (p : ℕ) (now : Situation) → IsWell (plain key w) → p < key.layout.processes → BeginsOf c key p (w.situation p) now → IsSound (core_world key w) → IsBare key w
      → Led key w (after_begin sheet key w p now) p (began key.layout.shape now)
  kind_begun each w p now well low k sound bare =
      let low2 : c.process k.call < key.layout.processes = subst (λ (q : ℕ). q < key.layout.processes) (sym k.own) low in
      let may : c.begins key (w.situation (c.process k.call)) k.call = subst (λ (q : ℕ). c.begins key (w.situation q) k.call) (sym k.own) k.may in
      subst (λ (z : ℕ × Situation). Led key w (after_begin sheet key w z.0 z.1) z.0 (began key.layout.shape z.1)) (λ i. (k.own i, sym k.lands i)) (each w k.call well low2 k.fits k.goes may sound bare)

  pub kind_led : KindLed key c → (w : SheetWorld) (p : ℕ) (access : Access ℕ) (answer : ℕ) (now : Situation) (says : List told.Response) (m2 : Memory ℕ) → IsWell (plain key w) → p < key.layout.processes
      → StepsOf c key p (w.situation p) access answer now says → Performs (sheet.class_in key) access p w.memory m2 answer → IsSound (core_world key w) → IsBare key w
      → Led key w (after_step sheet key w p now m2) p (call_events_by key.layout.shape (map Response says))
  kind_led each w p access answer now says m2 well low k performs sound bare =
      let low2 : c.process k.call < key.layout.processes = subst (λ (q : ℕ). q < key.layout.processes) (sym k.own) low in
      let at : w.situation (c.process k.call) ≡ c.doing k.call = ap w.situation k.own ∙ k.at in
      let does_so : Performs (sheet.class_in key) (c.access key k.call) (c.process k.call) w.memory m2 answer = subst (λ (z : Access ℕ × ℕ). Performs (sheet.class_in key) z.0 z.1 w.memory m2 answer) (λ i. (k.asks i, sym k.own i)) performs in
      subst (λ (z : ℕ × Situation × List told.Response). Led key w (after_step sheet key w z.0 z.1 m2) z.0 (call_events_by key.layout.shape (map Response z.2))) (λ i. (k.own i, sym k.lands i, sym k.tells i)) (each w k.call m2 answer well low2 at k.fits k.goes does_so sound bare)
