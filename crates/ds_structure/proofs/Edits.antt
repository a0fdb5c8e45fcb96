-- Edits are calls of the structure.
use Rattle.std.proofs.Common.{ℕ, ◌≡◌, ◌+◌, ◌<◌, List, [], ◌++◌, length, refl, sym, ap, subst, ◌∙◌, inl, inr, le_refl}
use Rattle.std.proofs.lemmas.List.{append-nil}
use Rattle.std.specs.Prelude.{Option, Some, None}
use Rattle.ds_words.specs.Memory.{Memory, Performs}
use Rattle.ds_layout.specs.declared.place.Edition.{Edition}
use Rattle.ds_layout.specs.declared.place.Edition.TheVariants.{Second}
use Rattle.ds_layout.specs.SheetMemory.{access_at}
use Rattle.ds_state.specs.Edits.{PlainEditCall}
use Rattle.ds_state.specs.World.{PlainEdit, PlainIssue, PlainWorld, edit_of}
use Rattle.ds_state.specs.CallsFit.{CallFits, IdleFits}
use Rattle.ds_state.specs.LayoutsFit.{LayoutFits, IsMoving}
use Rattle.ds_state.specs.declared.stage.Outcome.{Outcome}
use Rattle.ds_state.specs.declared.stage.Outcome.TheVariants.{Done, Overtaken}
use Rattle.ds_state.specs.declared.stage.Stage.{Stage}
use Rattle.ds_state.specs.declared.stage.Stage.TheVariants.{Answer}
use Rattle.ds_state.specs.declared.situation.Rest.{Rest}
use Rattle.ds_state.specs.declared.situation.Situation.{Situation}
use Rattle.ds_state.specs.declared.situation.Situation.TheVariants.{Idle, Editing}
use Rattle.ds_state.proofs.Spent.{answer_law}
use Rattle.ds_edit.specs.EditSteps as edit_steps
use Rattle.ds_edit.specs.EditAnswers.{IsTrueOf}
use Rattle.ds_edit.specs.EditTakes.{Steps, Begins, rest_before, rest_behind, after, counted_at, open_edit_at}
use Rattle.ds_edit.proofs.EditLeaves.{edit_leaves, begin_leaves}
use Rattle.ds_edit.proofs.Truth.{answer_true}
use Rattle.ds_edit.proofs.Possible.{can_perform}
use Rattle.pm_base.specs.Structures.{AreCalls, KindBegins, KindSteps, Goes, GoesTelling, after_begin, put}
use Rattle.pm_base.proofs.Puts.{put_here, put_else, put_same}
use Rattle.ds_structure.specs.Calls.{second_rest, EditGoes, edit_doing, edit_says, IsEditOn, MayEdit, edits}
use Rattle.ds_structure.specs.Sheet.{Ledger, SheetWorld, plain, edited, stepped, IsWell, IsTrueOutcome, IsTrue, begins_edit, steps_edit, sheet}
use Rattle.ds_structure.specs.declared.response.Response.{Response}
use Rattle.ds_structure.specs.declared.sheet.SheetKey.{SheetKey}
use Rattle.ds_structure.proofs.Passing.{Passed, Answers, passed_on, passed_none, well_on, goes, goes_telling}
use Rattle.ds_structure.proofs.Seconds.{version_grows, noted_second}
use Rattle.ds_structure.proofs.Words.{answer_found, nothing_kept, performed, serves}

pub doing_going : (e : PlainEditCall) (s : Stage) → EditGoes s → edit_doing e s ≡ Editing (record e { stage = s })
doing_going e (Answer how) g = absurd g
doing_going e _ g = refl

after_going : (e : PlainEditCall) (s : Stage) (word : ℕ) → EditGoes s → after e s word ≡ Editing (record e { stage = edit_steps.next_at e s word })
after_going e (Answer how) word g = absurd g
after_going e _ word g = refl

pub open_going : (o : Option PlainIssue) (s : Stage) → EditGoes s → open_edit_at o s ≡ o
open_going o (Answer how) g = absurd g
open_going o _ g = refl

true_answered : (w : PlainWorld) (e : PlainEdit) (since : ℕ) (how : Outcome) → IsTrueOf w e since how → IsTrueOutcome w.counted e how
true_answered w e since Done h = h
true_answered w e since (Overtaken noted seen) h = h.0

module _ (key : SheetKey) where
  module _ (w : SheetWorld) (f : PlainEditCall) (memory : Memory ℕ) (counted : List PlainEdit) where
    -- the process has come to a stage of its edit
    abbrev pub here : Stage → PlainWorld
    here s = plain key (record { memory = memory; situation = put w.situation f.process (Editing (record f { stage = s })); hidden = record { counted = counted; open_edits = w.hidden.open_edits; before_crashes = w.hidden.before_crashes } })

    -- ... and is answered, where only that is left
    abbrev pub there : Stage → SheetWorld
    there s = record { memory = memory; situation = put w.situation f.process (edit_doing f s); hidden = record { counted = counted; open_edits = put w.hidden.open_edits f.process (open_edit_at (w.hidden.open_edits f.process) s); before_crashes = w.hidden.before_crashes } }

    pub same_open : w.hidden.open_edits ≡ put w.hidden.open_edits f.process (w.hidden.open_edits f.process)
    same_open = sym (λ i q. put_same w.hidden.open_edits f.process (w.hidden.open_edits f.process) refl q i)

    -- where a step is left it is there already
    still : (s : Stage) → EditGoes s → IsWell (here s) → Answers f.process (here s) (plain key (there s)) w.hidden.before_crashes []
    still s go well =
        let opens : w.hidden.open_edits ≡ (there s).hidden.open_edits = same_open ∙ ap (put w.hidden.open_edits f.process) (sym (open_going (w.hidden.open_edits f.process) s go)) in
        let doing : Editing (record f { stage = s }) ≡ edit_doing f s = sym (doing_going f s go) in
        record {
          passed = subst (λ (z : Situation × (ℕ → Option PlainIssue)). Passed f.process (here s) (plain key (record { memory = memory; situation = put w.situation f.process z.0; hidden = record { counted = counted; open_edits = z.1; before_crashes = w.hidden.before_crashes } }))) (λ i. (doing i, opens i))
              (passed_none f.process (here s) well.sound (λ moving. subst IsMoving (put_here w.situation f.process (Editing (record f { stage = s })) f.process refl) moving));
          tells = λ t none. absurd none;
        }

    -- the step that answers
    pub last_step : (how : Outcome) → IsWell (here (Answer how)) → f.process < key.layout.processes → Steps (record f { stage = Answer how }) 0 (here (Answer how)) (plain key (there (Answer how)))
    last_step how well low =
        let e : PlainEditCall = record f { stage = Answer how } in
        let old : PlainWorld = here (Answer how) in
        let idle : Situation = Idle (second_rest (f.number + 1)) in
        let at : old.situation f.process ≡ Editing e = put_here w.situation f.process (Editing e) f.process refl in
        let noted : rest_behind e ≡ second_rest (f.number + 1) = knows (noted_second old f.edition well.second (subst (λ (z : Situation). LayoutFits old f.process z) at (well.sound.layouts f.process low))) in
        record {
          layout = refl;
          memory = (refl, record { cached = λ r. refl; persisted = λ r. refl; buffer = λ q. refl });
          situation = put_here w.situation f.process idle f.process refl ∙ ap Idle (sym noted);
          others = λ q n. put_else w.situation f.process idle q n ∙ sym (put_else w.situation f.process (Editing e) q n);
          counted = sym (append-nil counted);
          open_edits = put_here w.hidden.open_edits f.process None f.process refl;
          others_open_edits = λ q n. put_else w.hidden.open_edits f.process None q n;
        }
      where
        knows : f.edition ≡ Second → rest_behind (record f { stage = Answer how }) ≡ second_rest (f.number + 1)
        knows is = ap (λ (d : Edition). (let r : Rest = record { number = f.number + 1; edition = d } in r)) is

    answers : (how : Outcome) → IsWell (here (Answer how)) → f.process < key.layout.processes → Answers f.process (here (Answer how)) (plain key (there (Answer how))) w.hidden.before_crashes (edit_says f (Answer how))
    answers how well low =
        let e : PlainEditCall = record f { stage = Answer how } in
        let old : PlainWorld = here (Answer how) in
        let new : PlainWorld = plain key (there (Answer how)) in
        let idle : Situation = Idle (second_rest (f.number + 1)) in
        let at : old.situation f.process ≡ Editing e = put_here w.situation f.process (Editing e) f.process refl in
        let t : Steps e 0 old new = last_step how well low in
        let answered_now = answer_true e how old well.sound low refl at in
        record {
          passed = record { leaves = edit_leaves e 0 old new well.sound low at t; version = le_refl _; rests = λ moving. subst IsMoving (put_here w.situation f.process idle f.process refl) moving };
          tells = λ u inside. elim inside [
            | inl is ↦ subst (λ (z : Response). IsTrue new w.hidden.before_crashes f.process z) is (record { own = refl; spent = answer_law old e how well.sound low at refl; holds = true_answered old (edit_of e) answered_now.since how answered_now.holds })
            | inr none ↦ absurd none
          ];
        }

    pub ends : (s : Stage) → IsWell (here s) → f.process < key.layout.processes → Answers f.process (here s) (plain key (there s)) w.hidden.before_crashes (edit_says f s)
    ends (Answer how) well low = answers how well low
    ends s well low = still s tt well

  -- a step
  module _ (w : SheetWorld) (e : PlainEditCall) (m2 : Memory ℕ) (word : ℕ) (well : IsWell (plain key w)) (low : e.process < key.layout.processes) (at : w.situation e.process ≡ Editing e) (go : EditGoes e.stage)
      (performs : Performs (sheet.class_in key) (access_at key.layout (edit_steps.access_at e e.stage)) e.process w.memory m2 word) where
    abbrev f : PlainEditCall
    f = edit_steps.got_at e word

    abbrev counted : List PlainEdit
    counted = w.hidden.counted ++ counted_at (edit_of e) e.stage word

    abbrev mid : PlainWorld
    mid = here w f m2 counted f.stage

    pub first_step : Steps e word (plain key w) mid
    first_step = record {
      layout = refl;
      memory = performed key (edit_steps.access_at e e.stage) e.process word w.memory m2 (can_perform e (plain key w) well.sound low at) performs;
      situation = put_here w.situation e.process (Editing f) e.process refl ∙ sym (after_going e e.stage word go);
      others = λ q n. put_else w.situation e.process (Editing f) q n;
      counted = refl;
      open_edits = sym (open_going (w.hidden.open_edits e.process) e.stage go);
      others_open_edits = λ q n. refl;
    }

    pub first : Passed e.process (plain key w) mid
    first = record {
      leaves = edit_leaves e word (plain key w) mid well.sound low at first_step;
      version = version_grows (plain key w) mid.memory e.process (edit_steps.access_at e e.stage) word well.sound low first_step.memory;
      rests = λ moving. subst IsMoving (put_here w.situation e.process (Editing f) e.process refl) moving;
    }

    pub edit_step : Answers e.process (plain key w) (plain key (there w f m2 counted f.stage)) w.hidden.before_crashes (edit_says f f.stage)
    edit_step =
        let last = ends w f m2 counted f.stage (well_on e.process (plain key w) mid first well) low in
        record { passed = passed_on e.process (plain key w) mid (plain key (there w f m2 counted f.stage)) first last.passed; tells = last.tells }

  pub edits_step : KindSteps sheet key edits
  edits_step w e m2 word well low at fits go performs =
      let f : PlainEditCall = edit_steps.got_at e word in
      let is : w.situation e.process ≡ Editing e = at ∙ doing_going e e.stage go in
      let kept : stepped key w.memory w.hidden (w.situation e.process) ≡ edited w.hidden e word =
      ap (stepped key w.memory w.hidden) is ∙ ap (edited w.hidden e) (sym (answer_found (sheet.class_in key) (access_at key.layout (edit_steps.access_at e e.stage)) e.process word w.memory m2 performs)) in
      subst (λ (l : Ledger). GoesTelling sheet key w (record { memory = m2; situation = put w.situation e.process (edit_doing f f.stage); hidden = l }) e.process (edit_says f f.stage)) (sym kept)
      (goes_telling key w (there w f m2 (w.hidden.counted ++ counted_at (edit_of e) e.stage word) f.stage) e.process (edit_says f f.stage) well refl (edit_step w e m2 word well low is go performs))

  -- ---- the beginning

  -- an idle process has an empty buffer
  pub idle_buffer : (w : SheetWorld) (p : ℕ) (next : Rest) → IsWell (plain key w) → p < key.layout.processes → w.situation p ≡ Idle next → w.memory.buffer p ≡ []
  idle_buffer w p next well low idle =
      let fits : IdleFits (plain key w) p next = subst (λ (s : Situation). CallFits (plain key w) p s) idle (well.sound.calls p low) in
      nothing_kept key.layout (w.memory.buffer p) fits.buffer

  pub begins_so : (w : SheetWorld) (e : PlainEditCall) → MayEdit key.layout (w.situation e.process) e → Begins e (plain key w) (plain key (after_begin sheet key w e.process (Editing e)))
  begins_so w e may =
      let issue : Option PlainIssue = Some (record { edit = edit_of e; since = length w.hidden.counted }) in
      let knows : second_rest e.number ≡ rest_before e = ap (λ (d : Edition). (let r : Rest = record { number = e.number; edition = d } in r)) (sym may.edition) in
      record {
        layout = refl;
        memory = record { cached = λ r. refl; persisted = λ r. refl; buffer = λ q. refl };
        idle = may.idle ∙ ap Idle knows;
        first = may.first;
        situation = put_here w.situation e.process (Editing e) e.process refl;
        others = λ q n. put_else w.situation e.process (Editing e) q n;
        counted = refl;
        open_edits = put_here w.hidden.open_edits e.process issue e.process refl;
        others_open_edits = λ q n. put_else w.hidden.open_edits e.process issue q n;
      }

  edit_begins : (w : SheetWorld) (e : PlainEditCall) → IsWell (plain key w) → e.process < key.layout.processes → IsEditOn key.layout e → MayEdit key.layout (w.situation e.process) e → Goes sheet key w (after_begin sheet key w e.process (Editing e))
  edit_begins w e well low fits may =
      let new : SheetWorld = after_begin sheet key w e.process (Editing e) in
      let t = begins_so w e may in
      goes key w new e.process well refl (record {
        leaves = begin_leaves e (plain key w) (plain key new) well.sound fits.is fits.sheet may.refs t;
        version = le_refl _;
        rests = λ moving. subst IsMoving (put_here w.situation e.process (Editing e) e.process refl) moving;
      })

  pub edits_begin : KindBegins sheet key edits
  edits_begin w e well low fits go may =
      subst (λ (z : Situation). Goes sheet key w (after_begin sheet key w e.process z)) (sym (doing_going e e.stage go)) (edit_begins w e well low fits may)

  pub edits_hold : AreCalls sheet key edits
  edits_hold = record {
    begins = λ w e well low fits go may. (begins_edit (record { call = e; fits = fits; goes = go; own = refl; may = may; lands = refl }), idle_buffer w e.process (second_rest e.number) well low may.idle);
    serves = λ w e well low at fits go. serves key (edit_steps.access_at e e.stage) e.process w.memory (can_perform e (plain key w) well.sound low (at ∙ doing_going e e.stage go));
    steps = λ e answer fits go. steps_edit (record { call = e; fits = fits; goes = go; own = refl; at = refl; asks = refl; lands = refl; tells = refl });
    process = λ e answer. refl;
    apart = λ e end go over. subst EditGoes over.1 go;
  }
