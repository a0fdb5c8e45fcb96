-- What each kind of calls says of itself: its process, what that does in it, how it begins, and where it may have come.
use Rattle.std.specs.Prelude.{ℕ, ◌≡◌}
use Rattle.ds_core.specs.declared.event.Event.TheVariants.{BeginEdit, BeginWork, BeginShow, BeginRecover}
use Rattle.ds_core.specs.declared.reply.Reply.TheVariants.{Begun, Entered}
use Rattle.ds_edit.specs.Begun.{RefersTo}
use Rattle.ds_formula.specs.Cells.{cell_at}
use Rattle.ds_layout.specs.declared.layout.Layout.{Layout}
use Rattle.ds_layout.specs.declared.place.Edition.TheVariants.{Second}
use Rattle.ds_shared_runs.specs.declared.history.CallEvent.{CallEvent}
use Rattle.ds_shared_runs.specs.declared.history.CallEvent.TheVariants.{Began}
use Rattle.ds_state.specs.CallsFit.{IsSheetOf, HasRefs}
use Rattle.ds_state.specs.Edits.{PlainEditCall, IsEdit}
use Rattle.ds_state.specs.Works.{PlainWorkCall, PlainShowCall, PlainRecoverCall}
use Rattle.ds_state.specs.declared.show.ShowEnd.{ShowEnd}
use Rattle.ds_state.specs.declared.show.ShowStage.TheVariants as show_stage
use Rattle.ds_state.specs.declared.situation.Situation.{Situation}
use Rattle.ds_state.specs.declared.situation.Situation.TheVariants.{Editing, Working, Recovering, Showing}
use Rattle.ds_state.specs.declared.stage.Stage.TheVariants.{StoreHeader}
use Rattle.pm_base.specs.Structures.{Came}
use Rattle.ds_structure.specs.Calls.{edits, recoveries, shows}
use Rattle.ds_structure_shared.specs.Works.{WorkCame}

-- of a call: its process; what that does in it; how it begins; and that another call has come from it
pub record Rules (C : Type 0) : Type 1 where
  pub process : C → ℕ
  pub doing : C → Situation
  pub begins : Layout → C → CallEvent
  pub came : Layout → C → C → Type 0

-- the edit is before its first step, writes the second layout, and its references are the cells of its text
pub record IsFirst (layout : Layout) (e : PlainEditCall) : Type 0 where
  pub is : IsEdit e
  pub sheet : IsSheetOf layout e
  pub edition : e.edition ≡ Second
  pub refs : HasRefs layout.shape e.text e.refs
  pub only : RefersTo layout.shape e.text e.refs
  pub first : e.stage ≡ StoreHeader

-- the rules of an edit
abbrev pub edit_rules : Rules PlainEditCall
edit_rules = record {
  process = λ e. e.process;
  doing = Editing;
  begins = λ layout e. Began (BeginEdit (record { process = e.process; cell = cell_at layout.shape e.cell; text = e.text })) (Begun e.number);
  came = λ layout first e. Came edits first e;
}

-- of a work
abbrev pub work_rules : Rules PlainWorkCall
work_rules = record {
  process = λ e. e.process;
  doing = Working;
  begins = λ layout e. Began (BeginWork e.process (cell_at layout.shape e.cell)) Entered;
  came = WorkCame;
}

-- of a recovery
abbrev pub recover_rules : Rules PlainRecoverCall
recover_rules = record {
  process = λ e. e.process;
  doing = Recovering;
  begins = λ layout e. Began (BeginRecover e.process) Entered;
  came = λ layout first e. Came recoveries first e;
}

-- of a show
abbrev pub show_rules : Rules PlainShowCall
show_rules = record {
  process = λ e. e.process;
  doing = Showing;
  begins = λ layout e. Began (BeginShow e.process) Entered;
  came = λ layout first e. Came shows first e;
}

-- the show has ended so
abbrev pub IsEnded : PlainShowCall → ShowEnd → Type 0
IsEnded e end = e.stage ≡ show_stage.Answer end
