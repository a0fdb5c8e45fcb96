-- Each event of a world is the same event of the world without what is said of processes that the sheet has not.
use Rattle.std.proofs.Common.{ℕ, ◌≡◌, ◌<◌, ◌≤◌, sym, ap, subst, ◌∙◌, Bool, nat_lt}
use Rattle.std.proofs.lemmas.Bool.{lt-ltb, le-ltb}
use Rattle.std.specs.Prelude.{if◌then◌else◌}
use Rattle.ds_edit.specs.EditTakes as edits
use Rattle.ds_recover.specs.RecoverBegun as recover_begun
use Rattle.ds_recover.specs.RecoverBegun.{MayRecover}
use Rattle.ds_recover.specs.RecoverySteps as recoveries
use Rattle.ds_show.specs.ShowSteps as reports
use Rattle.ds_state.specs.Edits.{PlainEditCall}
use Rattle.ds_state.specs.LayoutsFit.{IsMoving}
use Rattle.ds_state.specs.Value.{first_rest}
use Rattle.ds_state.specs.Works.{PlainWorkCall, PlainRecoverCall, PlainShowCall}
use Rattle.ds_state.specs.World.{PlainWorld}
use Rattle.ds_state.specs.declared.situation.Rest.{Rest}
use Rattle.ds_state.specs.declared.situation.Situation.{Situation}
use Rattle.ds_state.specs.declared.situation.Situation.TheVariants.{Idle}
use Rattle.ds_state.specs.declared.work.WorkStage.{WorkStage}
use Rattle.ds_work.specs.WorkSteps.{StepsAt, Turns, BeginsWork}
use Rattle.ds_structure_runs.specs.Runs.{clipped}

-- of a process of the sheet nothing changes
pub near : (n : ℕ) (w : PlainWorld) (q : ℕ) → q < n → (clipped n w).situation q ≡ w.situation q
near n w q low = ap (λ (b : Bool). if b then w.situation q else Idle first_rest) (lt-ltb q n low)

pub far : (n : ℕ) (w : PlainWorld) (q : ℕ) → n ≤ q → (clipped n w).situation q ≡ Idle first_rest
far n w q high = ap (λ (b : Bool). if b then w.situation q else Idle first_rest) (le-ltb q n high)

-- what stays stays
pub stays : (n : ℕ) (old new : PlainWorld) (q : ℕ) → new.situation q ≡ old.situation q → (clipped n new).situation q ≡ (clipped n old).situation q
stays n old new q is = ap (λ (s : Situation). if nat_lt q n then s else Idle first_rest) is

module _ (n : ℕ) (old new : PlainWorld) where
  pub edit_steps : (e : PlainEditCall) (word : ℕ) → e.process < n → edits.Steps e word old new → edits.Steps e word (clipped n old) (clipped n new)
  edit_steps e word low t = record { layout = t.layout; memory = t.memory; situation = near n new e.process low ∙ t.situation; others = λ q ne. stays n old new q (t.others q ne); counted = t.counted; open_edits = t.open_edits; others_open_edits = t.others_open_edits }

  pub edit_begins : (e : PlainEditCall) → e.process < n → edits.Begins e old new → edits.Begins e (clipped n old) (clipped n new)
  edit_begins e low t = record { layout = t.layout; memory = t.memory; idle = near n old e.process low ∙ t.idle; first = t.first; situation = near n new e.process low ∙ t.situation; others = λ q ne. stays n old new q (t.others q ne); counted = t.counted; open_edits = t.open_edits; others_open_edits = t.others_open_edits }

  pub work_steps : (e : PlainWorkCall) (s : WorkStage) (word : ℕ) → e.process < n → StepsAt e s word old new → StepsAt e s word (clipped n old) (clipped n new)
  work_steps e s word low t = record { plain = t.plain; layout = t.layout; memory = t.memory; situation = near n new e.process low ∙ t.situation; others = λ q ne. stays n old new q (t.others q ne); counted = t.counted; open_edits = t.open_edits }

  pub work_turns : (e f : PlainWorkCall) → e.process < n → Turns e f old new → Turns e f (clipped n old) (clipped n new)
  work_turns e f low t = record { layout = t.layout; memory = t.memory; situation = near n new e.process low ∙ t.situation; others = λ q ne. stays n old new q (t.others q ne); counted = t.counted; open_edits = t.open_edits }

  pub work_begins : (next : Rest) (e : PlainWorkCall) → e.process < n → BeginsWork next e old new → BeginsWork next e (clipped n old) (clipped n new)
  work_begins next e low t = record { turn = work_turns e _ low t.turn; was = near n old e.process low ∙ t.was; next_is = t.next_is; cells = t.cells; processes = t.processes; cell = t.cell }

  pub show_steps : (e : PlainShowCall) (word : ℕ) → e.process < n → reports.Steps e word old new → reports.Steps e word (clipped n old) (clipped n new)
  show_steps e word low t = record { layout = t.layout; memory = t.memory; situation = near n new e.process low ∙ t.situation; others = λ q ne. stays n old new q (t.others q ne); counted = t.counted; open_edits = t.open_edits }

  pub show_begins : (p : ℕ) (next : Rest) → p < n → reports.Begins p next old new → reports.Begins p next (clipped n old) (clipped n new)
  show_begins p next low t = record { layout = t.layout; memory = t.memory; idle = near n old p low ∙ t.idle; situation = near n new p low ∙ t.situation; others = λ q ne. stays n old new q (t.others q ne); counted = t.counted; open_edits = t.open_edits }

  pub recovery_steps : (e : PlainRecoverCall) (word : ℕ) → e.process < n → recoveries.Steps e word old new → recoveries.Steps e word (clipped n old) (clipped n new)
  recovery_steps e word low t = record { layout = t.layout; memory = t.memory; situation = near n new e.process low ∙ t.situation; others = λ q ne. stays n old new q (t.others q ne); counted = t.counted; open_edits = t.open_edits; others_open_edits = t.others_open_edits }

  pub recovery_begins : (p : ℕ) → p < n → n ≡ old.layout.processes → recover_begun.IsBegun old p new → recover_begun.IsBegun (clipped n old) p (clipped n new)
  recovery_begins p low is t = record {
    free = subst MayRecover (sym (near n old p low)) t.free;
    alone = λ q inside ne moving. t.alone q inside ne (subst IsMoving (near n old q (subst (λ (k : ℕ). q < k) (sym is) inside)) moving);
    begins = record { layout = t.begins.layout; memory = t.begins.memory; situation = near n new p low ∙ t.begins.situation; others = λ q ne. stays n old new q (t.begins.others q ne); counted = t.begins.counted; open_edits = t.begins.open_edits };
  }
