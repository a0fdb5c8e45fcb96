-- A call that may begin on a board finds its first word.
use Rattle.std.proofs.Common.{ℕ, ◌≡◌, ◌∙◌, ◌<◌, List, [], length, refl, sym, ap, subst, inl, inr, arith}
use Rattle.ds_eval.specs.declared.inputs.Entry.{Entry}
use Rattle.ds_eval.specs.Inputs.{entry_in}
use Rattle.ds_eval.specs.Local.{local}
use Rattle.std.specs.Prelude.{Some, nat_lt, Bool, true, false, if◌then◌else◌}
use Rattle.atomic_table.specs.Table.{Me}
use Rattle.ds_words.specs.declared.access.Access.{Access}
use Rattle.ds_words.specs.declared.access.Access.TheVariants.{Nothing, Load, Store, Or, SwapIf, Flush, Back}
use Rattle.ds_layout.specs.declared.layout.Layout.{Layout}
use Rattle.ds_layout.specs.declared.place.Place.{Place}
use Rattle.ds_layout.specs.declared.place.Place.TheVariants as place
use Rattle.ds_layout.specs.Places.{words_of, cells_of, IsPlace}
use Rattle.ds_layout.specs.SheetMemory.{access_at, NamesPlace, is_place}
use Rattle.ds_layout.proofs.Places.{number_of_below}
use Rattle.ds_layout.proofs.Sheet.{IsPlace-is_place}
use Rattle.ds_edit.proofs.Named.{each_named}
use Rattle.ds_edit.specs.EditSteps as edit_steps
use Rattle.ds_recover.specs.RecoverySteps as recovery_steps
use Rattle.ds_recover.specs.RecoverySteps.{fresh}
use Rattle.ds_show.specs.ShowSteps as show_steps
use Rattle.ds_state.specs.Edits.{PlainEditCall}
use Rattle.ds_state.specs.Works.{PlainWorkCall, PlainShowCall, PlainRecoverCall}
use Rattle.ds_state.specs.RecoverStages.{IsRecovery}
use Rattle.ds_state.specs.declared.recovery.RecoverStage.{RecoverStage}
use Rattle.ds_state.specs.declared.recovery.RecoverStage.TheVariants as recover_stage
use Rattle.ds_state.specs.declared.show.ShowStage.{ShowStage}
use Rattle.ds_state.specs.declared.show.ShowStage.TheVariants as show_stage
use Rattle.ds_state.specs.declared.situation.Situation.{Situation}
use Rattle.ds_state.specs.declared.situation.Situation.TheVariants.{Idle, Stopped}
use Rattle.ds_state.specs.declared.stage.Stage.{Stage}
use Rattle.ds_state.specs.declared.stage.Stage.TheVariants as edit_stage
use Rattle.ds_state.specs.declared.work.WorkStage.{WorkStage}
use Rattle.ds_state.specs.declared.work.WorkStage.TheVariants as work_stage
use Rattle.ds_work.specs.Reading.{IsReading}
use Rattle.ds_work.specs.WorkSteps as work_steps
use Rattle.pm_base.specs.Structures.{Calls, Serves}
use Rattle.pm_board.specs.declared.board.View.{View}
use Rattle.pm_board.specs.Machines.{CanBegin, IsServed}
use Rattle.pm_board.specs.Views.{RunsOne, Sits}
use Rattle.ds_structure.specs.Calls.{EditGoes, ShowGoes, RecoveryGoes, IsEditOn, IsRecoveryOn, access_in, names_place, edits, works, shows, recoveries}
use Rattle.ds_structure.specs.Calls as calls
use Rattle.ds_structure.specs.Sheet.{sheet}
use Rattle.ds_structure.specs.declared.response.Response.{Response}
use Rattle.ds_structure.specs.declared.sheet.SheetKey.{SheetKey}

-- the seat of a process that may begin from what it does
pub can_begin : {C E : Type 0} (c : Calls SheetKey Situation Response C E) (key : SheetKey) (me : Me ℕ (View Situation Response)) (call : C) (now : Situation) → Sits me (c.process call) now → c.begins key now call → CanBegin sheet c key me call
can_begin c key me call now h may = record { seat = h.runs.seat; at = h.runs.at; own = h.runs.own; seen = h.runs.seen; looked = h.runs.looked; may = inl (subst (λ (s : Situation). c.begins key s call) (sym h.does) may) }

-- ... and of one that may begin after a stop
pub can_recover : {C E : Type 0} (c : Calls SheetKey Situation Response C E) (key : SheetKey) (me : Me ℕ (View Situation Response)) (call : C) → RunsOne me (c.process call) → c.begins key Stopped call → CanBegin sheet c key me call
can_recover c key me call h may = record { seat = h.seat; at = h.at; own = h.own; seen = h.seen; looked = h.looked; may = inr may }

pub goes_edit : (s : Stage) → s ≡ edit_stage.StoreHeader → EditGoes s
goes_edit s is = subst EditGoes (sym is) tt

pub edit_served : (key : SheetKey) (e : PlainEditCall) → e.stage ≡ edit_stage.StoreHeader → IsEditOn key.layout e → Serves (words_of key.layout) (access_at key.layout (edit_steps.access_at e e.stage)) []
edit_served key e is on = subst (λ (s : Stage). NamesPlace key.layout (edit_steps.access_at e s) → Serves (words_of key.layout) (access_at key.layout (edit_steps.access_at e s)) []) (sym is)
    (λ there. number_of_below key.layout (edit_steps.header_place e) there) (each_named key.layout e on.sheet on.is)

pub show_served : (key : SheetKey) (e : PlainShowCall) → e.stage ≡ show_stage.LoadAnnounce 0 → Serves (words_of key.layout) (access_at key.layout (show_steps.access_at e.stage)) []
show_served key e is = subst (λ (s : ShowStage). Serves (words_of key.layout) (access_at key.layout (show_steps.access_at s)) []) (sym is) (number_of_below key.layout (place.Announce 0) (let some = key.layout.some in omega arith))

pub goes_show : (s : ShowStage) → s ≡ show_stage.LoadAnnounce 0 → ShowGoes s
goes_show s is = subst ShowGoes (sym is) tt

pub recovery_served : (key : SheetKey) (e : PlainRecoverCall) → e.stage ≡ recover_stage.LoadVersion → Serves (words_of key.layout) (access_at key.layout (recovery_steps.access_at e e.stage)) []
recovery_served key e is = subst (λ (s : RecoverStage). Serves (words_of key.layout) (access_at key.layout (recovery_steps.access_at e s)) []) (sym is) (number_of_below key.layout place.Version tt)

pub goes_recovery : (s : RecoverStage) → s ≡ recover_stage.LoadVersion → RecoveryGoes s
goes_recovery s is = subst RecoveryGoes (sym is) tt

pub recovery_on : (layout : Layout) (e : PlainRecoverCall) → IsRecovery e → e ≡ fresh e.process (cells_of layout) layout.processes → IsRecoveryOn layout e
recovery_on layout e is from = record { is = is; cells = sym (ap (λ (z : PlainRecoverCall). z.cells) from); processes = sym (ap (λ (z : PlainRecoverCall). z.processes) from) }

-- ---- works

-- the access asks nothing of the buffer
abbrev pub AsksNone : Access Place → Type 0
AsksNone (Flush r) = ⊥
AsksNone Back = ⊥
AsksNone _ = Unit {0}

served_in : (layout : Layout) (a : Access Place) → AsksNone a → Serves (words_of layout) (access_in layout a) []
served_in layout Nothing none = tt
served_in layout (Load r) none = by (is_place layout r) refl
  where
    by : (b : Bool) → is_place layout r ≡ b → Serves (words_of layout) (if b then access_at layout (Load r) else Nothing) []
    by true is = number_of_below layout r (IsPlace-is_place layout r is)
    by false is = tt
served_in layout (Store r v) none = by (is_place layout r) refl
  where
    by : (b : Bool) → is_place layout r ≡ b → Serves (words_of layout) (if b then access_at layout (Store r v) else Nothing) []
    by true is = number_of_below layout r (IsPlace-is_place layout r is)
    by false is = tt
served_in layout (Or r k) none = by (is_place layout r) refl
  where
    by : (b : Bool) → is_place layout r ≡ b → Serves (words_of layout) (if b then access_at layout (Or r k) else Nothing) []
    by true is = number_of_below layout r (IsPlace-is_place layout r is)
    by false is = tt
served_in layout (SwapIf r o v) none = by (is_place layout r) refl
  where
    by : (b : Bool) → is_place layout r ≡ b → Serves (words_of layout) (if b then access_at layout (SwapIf r o v) else Nothing) []
    by true is = number_of_below layout r (IsPlace-is_place layout r is)
    by false is = tt
served_in layout (Flush r) none = absurd none
served_in layout Back none = absurd none

abbrev AsksNow : Layout → PlainWorkCall → Type 0
AsksNow layout e = AsksNone (work_steps.access_at layout.shape e e.stage)

read_none : (layout : Layout) (f e : PlainWorkCall) → IsReading layout.shape f e → AsksNow layout e
read_none layout f e (inl h) = subst (AsksNow layout) (sym h.after) (by (nat_lt 0 (length h.inputs)))
  where
    by : (b : Bool) → AsksNow layout (if b then record f { content = h.content; inputs = h.inputs; stage = work_stage.LoadValue 0 } else record f { content = h.content; inputs = h.inputs; stage = work_stage.LoadOwnValue })
    by true = tt
    by false = tt
read_none layout f e (inr h) = subst (AsksNow layout) (sym h) tt

offered_none : (layout : Layout) (f : PlainWorkCall) (entry : Entry) (b : Bool) → AsksNow layout (record f { entry = entry; stage = if b then work_stage.Clear false else work_stage.StoreValue })
offered_none layout f entry true = tt
offered_none layout f entry false = tt

none_yet : (layout : Layout) (now : Situation) (e : PlainWorkCall) → calls.MayWork layout now e → AsksNow layout e
none_yet layout now e (calls.asked idle asks) = subst (λ (s : WorkStage). AsksNone (work_steps.access_at layout.shape e s)) (sym asks.first) tt
none_yet layout now e (calls.read f at good is from) = read_none layout f e from
none_yet layout now e (calls.offered f at good is from) = subst (AsksNow layout) (sym from) (offered_none layout f (local layout.shape f.content (entry_in f.inputs)) _)

pub work_served : (key : SheetKey) (now : Situation) (e : PlainWorkCall) → calls.MayWork key.layout now e → Serves (words_of key.layout) (access_in key.layout (work_steps.access_at key.layout.shape e e.stage)) []
work_served key now e may = served_in key.layout (work_steps.access_at key.layout.shape e e.stage) (none_yet key.layout now e may)
