-- Works are calls of the structure.
use Rattle.std.proofs.Common.{ℕ, ◌≡◌, ◌<◌, List, [], length, refl, sym, ap, subst, ◌∙◌, inl, inr, le_refl}
use Rattle.std.specs.Prelude.{Bool, true, false, nat_lt, if◌then◌else◌}
use Rattle.ds_words.specs.Memory.{Memory, Performs}
use Rattle.ds_eval.specs.declared.inputs.Input.{Input}
use Rattle.ds_eval.specs.Local.{local}
use Rattle.ds_eval.specs.Inputs.{entry_in}
use Rattle.ds_formula.specs.Plain.{PlainContent}
use Rattle.ds_layout.specs.declared.place.Edition.{Edition}
use Rattle.ds_layout.specs.declared.place.Edition.TheVariants.{Second}
use Rattle.ds_words.specs.declared.access.Access.{Access}
use Rattle.ds_layout.specs.SheetMemory.{CanPerform}
use Rattle.ds_layout.specs.declared.layout.Layout.{Layout}
use Rattle.ds_state.specs.Works.{PlainWorkCall, IsWork}
use Rattle.ds_state.specs.World.{PlainWorld}
use Rattle.ds_state.specs.CallsFit.{CallFits}
use Rattle.ds_state.specs.KnownWork as known
use Rattle.ds_state.specs.LayoutsFit.{LayoutFits, IsMoving}
use Rattle.ds_state.specs.declared.situation.Rest.{Rest}
use Rattle.ds_state.specs.declared.situation.Situation.{Situation}
use Rattle.ds_state.specs.declared.situation.Situation.TheVariants.{Idle, Working}
use Rattle.ds_state.specs.declared.work.WorkEnd.{WorkEnd}
use Rattle.ds_state.specs.declared.work.WorkStage.{WorkStage}
use Rattle.ds_state.specs.declared.work.WorkStage.TheVariants.{Read, Wait, LoadValue, LoadOwnValue, Answer}
use Rattle.ds_work.specs.Reading.{IsReading}
use Rattle.ds_work.specs.WorkSteps as work
use Rattle.ds_work.specs.WorkSteps.{StepsAt, Turns, ReadsAt, LacksAt, OffersAt, BeginsWork, IsPlainStep, read_from, lacks, offered, rest_of, after}
use Rattle.ds_work.specs.WorkTakes.{IsAskedFor}
use Rattle.ds_work.specs.WorkRank.{steps_left}
use Rattle.ds_work.proofs.Next.{next_noted}
use Rattle.ds_work.proofs.Ranks.{each_falls}
use Rattle.ds_work.proofs.Turning.{falls_plain}
use Rattle.ds_work.proofs.WorkLeaves.{work_leaves, read_leaves, lack_leaves, offer_leaves, begin_leaves}
use Rattle.ds_work.proofs.WorkNamed.{can_perform}
use Rattle.ds_layout.specs.Places.{words_of}
use Rattle.pm_base.specs.Structures.{Serves, AreCalls, KindBegins, KindSteps, Goes, GoesTelling, after_begin, put}
use Rattle.pm_base.proofs.Puts.{put_here, put_else}
use Rattle.ds_state.specs.Leaves.{Leaves}
use Rattle.ds_structure.specs.Calls.{second_rest, WorkGoes, WorkEnds, work_doing, work_says, IsWorkOn, MayWork, asked, read, access_in, works}
use Rattle.ds_structure.specs.Calls as calls
use Rattle.ds_structure.specs.Sheet.{Ledger, SheetWorld, plain, stepped, IsWell, IsTrue, begins_work, steps_work, sheet}
use Rattle.ds_structure.specs.declared.response.Response.{Response}
use Rattle.ds_structure.specs.declared.sheet.SheetKey.{SheetKey}
use Rattle.ds_structure.specs.declared.work.WorkPause.{WorkPause}
use Rattle.ds_structure.specs.declared.work.WorkPause.TheVariants.{Reads, Waits, Answers}
use Rattle.ds_structure.proofs.Edits.{idle_buffer}
use Rattle.ds_structure.proofs.Passing as passing
use Rattle.ds_structure.proofs.Passing.{Passed, passed_on, passed_none, well_on, goes, goes_telling}
use Rattle.ds_structure.proofs.Seconds.{version_grows, noted_second}
use Rattle.ds_structure.proofs.Words.{named_in, nothing_kept, performed, serves}

pub doing_going : (e : PlainWorkCall) (s : WorkStage) → WorkGoes s → work_doing e s ≡ Working (record e { stage = s })
doing_going e (Answer end) g = absurd g
doing_going e Read g = absurd g
doing_going e Wait g = absurd g
doing_going e _ g = refl

after_going : (e : PlainWorkCall) (s : WorkStage) (word : ℕ) → WorkGoes s → after e s word ≡ Working (work.next_at e s word)
after_going e (Answer end) word g = absurd g
after_going e Read word g = absurd g
after_going e Wait word g = absurd g
after_going e _ word g = refl

pub plain_going : (s : WorkStage) → WorkGoes s → IsPlainStep s
plain_going Read g = absurd g
plain_going Wait g = absurd g
plain_going _ g = tt

apart : (s : WorkStage) (end : WorkPause) → WorkGoes s → WorkEnds s end → ⊥
apart s Reads go is = subst WorkGoes is go
apart s Waits go is = subst WorkGoes is go
apart s (Answers end) go is = subst WorkGoes is go

-- what was read stays the process's
pub read_process : (e : PlainWorkCall) (content : PlainContent) (inputs : List Input) → (read_from e content inputs).process ≡ e.process
read_process e content inputs = go (nat_lt 0 (length inputs))
  where
    go : (b : Bool) → (if b then record e { content = content; inputs = inputs; stage = LoadValue 0 } else record e { content = content; inputs = inputs; stage = LoadOwnValue }).process ≡ e.process
    go true = refl
    go false = refl

-- a step of a work leaves its process
pub next_process : (e : PlainWorkCall) (word : ℕ) → (work.next_at e e.stage word).process ≡ e.process
next_process e word = ap (λ (z : PlainWorkCall). z.process) (next_noted e word e.stage)

-- while a work reads or waits its buffer is empty
quiet : (w : PlainWorld) (f : PlainWorkCall) (s : WorkStage) → f.stage ≡ s → known.work_held f s ≡ known.empty → CallFits w f.process (Working f) → w.memory.buffer f.process ≡ []
quiet w f s is held fits = subst (known.WorkHolds w f) (ap (known.work_held f) is ∙ held) fits.buffer

module _ (key : SheetKey) where
  -- the process p is at a stage of its work
  abbrev pub here : SheetWorld → ℕ → PlainWorkCall → Memory ℕ → WorkStage → PlainWorld
  here w p f memory s = plain key (record { memory = memory; situation = put w.situation p (Working (record f { stage = s })); hidden = w.hidden })

  -- ... and is answered, where only that is left
  abbrev pub there : SheetWorld → ℕ → PlainWorkCall → Memory ℕ → WorkStage → SheetWorld
  there w p f memory s = record { memory = memory; situation = put w.situation p (work_doing f s); hidden = w.hidden }

  module _ (w : SheetWorld) (f : PlainWorkCall) (memory : Memory ℕ) where
    -- the step that answers
    pub last_step : (end : WorkEnd) → IsWell (here w f.process f memory (Answer end)) → f.process < key.layout.processes → StepsAt (record f { stage = Answer end }) (Answer end) 0 (here w f.process f memory (Answer end)) (plain key (there w f.process f memory (Answer end)))
    last_step end well low =
        let e : PlainWorkCall = record f { stage = Answer end } in
        let old : PlainWorld = here w f.process f memory (Answer end) in
        let idle : Situation = Idle (second_rest f.next) in
        let at : old.situation f.process ≡ Working e = put_here w.situation f.process (Working e) f.process refl in
        let noted : rest_of e ≡ second_rest f.next = knows (noted_second old f.edition well.second (subst (λ (z : Situation). LayoutFits old f.process z) at (well.sound.layouts f.process low))) in
        record {
          plain = tt;
          layout = refl;
          memory = (refl, record { cached = λ r. refl; persisted = λ r. refl; buffer = λ q. refl });
          situation = put_here w.situation f.process idle f.process refl ∙ ap Idle (sym noted);
          others = λ q n. put_else w.situation f.process idle q n ∙ sym (put_else w.situation f.process (Working e) q n);
          counted = refl;
          open_edits = λ q. refl;
        }
      where
        knows : f.edition ≡ Second → rest_of (record f { stage = Answer end }) ≡ second_rest f.next
        knows is = ap (λ (d : Edition). (let r : Rest = record { number = f.next; edition = d } in r)) is

    answers : (end : WorkEnd) → IsWell (here w f.process f memory (Answer end)) → f.process < key.layout.processes → passing.Answers f.process (here w f.process f memory (Answer end)) (plain key (there w f.process f memory (Answer end))) w.hidden.before_crashes (work_says f (Answer end))
    answers end well low =
        let e : PlainWorkCall = record f { stage = Answer end } in
        let old : PlainWorld = here w f.process f memory (Answer end) in
        let new : PlainWorld = plain key (there w f.process f memory (Answer end)) in
        let idle : Situation = Idle (second_rest f.next) in
        let at : old.situation f.process ≡ Working e = put_here w.situation f.process (Working e) f.process refl in
        let t : StepsAt e (Answer end) 0 old new = last_step end well low in
        record {
          passed = record { leaves = work_leaves e (Answer end) 0 old new well.sound low at t; version = le_refl _; rests = λ moving. subst IsMoving (put_here w.situation f.process idle f.process refl) moving };
          tells = λ u inside. elim inside [
            | inl is ↦ subst (λ (z : Response). IsTrue new w.hidden.before_crashes f.process z) is tt
            | inr none ↦ absurd none
          ];
        }

    still : (s : WorkStage) → work_doing f s ≡ Working (record f { stage = s }) → IsWell (here w f.process f memory s) → passing.Answers f.process (here w f.process f memory s) (plain key (there w f.process f memory s)) w.hidden.before_crashes []
    still s doing well = record {
      passed = subst (λ (z : Situation). Passed f.process (here w f.process f memory s) (plain key (record { memory = memory; situation = put w.situation f.process z; hidden = w.hidden }))) (sym doing)
          (passed_none f.process (here w f.process f memory s) well.sound (λ moving. subst IsMoving (put_here w.situation f.process (Working (record f { stage = s })) f.process refl) moving));
      tells = λ t none. absurd none;
    }

    pub ends : (s : WorkStage) → IsWell (here w f.process f memory s) → f.process < key.layout.processes → passing.Answers f.process (here w f.process f memory s) (plain key (there w f.process f memory s)) w.hidden.before_crashes (work_says f s)
    ends (Answer end) well low = answers end well low
    ends s well low = still s refl well

  -- a step
  module _ (w : SheetWorld) (e : PlainWorkCall) (m2 : Memory ℕ) (word : ℕ) (well : IsWell (plain key w)) (low : e.process < key.layout.processes) (at : w.situation e.process ≡ Working e) (go : WorkGoes e.stage)
      (performs : Performs (sheet.class_in key) (access_in key.layout (work.access_at key.layout.shape e e.stage)) e.process w.memory m2 word) where
    abbrev f : PlainWorkCall
    f = work.next_at e e.stage word

    abbrev mid : PlainWorld
    mid = here w e.process f m2 f.stage

    can : CanPerform key.layout (plain key w).memory e.process (work.access_at key.layout.shape e e.stage)
    can = can_perform (plain key w) e well.sound low e.stage at

    pub first_step : StepsAt e e.stage word (plain key w) mid
    first_step = record {
      plain = plain_going e.stage go;
      layout = refl;
      memory = performed key (work.access_at key.layout.shape e e.stage) e.process word w.memory m2 can
          (subst (λ (a : Access ℕ). Performs (sheet.class_in key) a e.process w.memory m2 word) (named_in key.layout (work.access_at key.layout.shape e e.stage) can.0) performs);
      situation = put_here w.situation e.process (Working f) e.process refl ∙ sym (after_going e e.stage word go);
      others = λ q n. put_else w.situation e.process (Working f) q n;
      counted = refl;
      open_edits = λ q. refl;
    }

    pub first : Passed e.process (plain key w) mid
    first = record {
      leaves = work_leaves e e.stage word (plain key w) mid well.sound low at first_step;
      version = version_grows (plain key w) mid.memory e.process (work.access_at key.layout.shape e e.stage) word well.sound low first_step.memory;
      rests = λ moving. subst IsMoving (put_here w.situation e.process (Working f) e.process refl) moving;
    }

    pub work_step : passing.Answers e.process (plain key w) (plain key (there w e.process f m2 f.stage)) w.hidden.before_crashes (work_says f f.stage)
    work_step =
        let own : f.process ≡ e.process = next_process e word in
        let each : IsWell (here w e.process f m2 f.stage) → e.process < key.layout.processes → passing.Answers e.process mid (plain key (there w e.process f m2 f.stage)) w.hidden.before_crashes (work_says f f.stage) =
        subst (λ (p : ℕ). IsWell (here w p f m2 f.stage) → p < key.layout.processes → passing.Answers p (here w p f m2 f.stage) (plain key (there w p f m2 f.stage)) w.hidden.before_crashes (work_says f f.stage)) own (ends w f m2 f.stage) in
        let last = each (well_on e.process (plain key w) mid first well) low in
        record { passed = passed_on e.process (plain key w) mid (plain key (there w e.process f m2 f.stage)) first last.passed; tells = last.tells }

  pub works_step : KindSteps sheet key works
  works_step w e m2 word well low at fits go performs =
      let f : PlainWorkCall = work.next_at e e.stage word in
      let is : w.situation e.process ≡ Working e = at ∙ doing_going e e.stage go in
      let kept : stepped key w.memory w.hidden (w.situation e.process) ≡ w.hidden = ap (stepped key w.memory w.hidden) is in
      subst (λ (l : Ledger). GoesTelling sheet key w (record { memory = m2; situation = put w.situation e.process (work_doing f f.stage); hidden = l }) e.process (work_says f f.stage)) (sym kept)
      (goes_telling key w (there w e.process f m2 f.stage) e.process (work_says f f.stage) well refl (work_step w e m2 word well low is go performs))

  -- ---- the beginning, and where it goes on without touching a word

  abbrev pub turned : SheetWorld → PlainWorkCall → PlainWorkCall → SheetWorld
  turned w f g = after_begin sheet key w f.process (Working g)

  pub turns : (w : SheetWorld) (f g : PlainWorkCall) → Turns f g (plain key w) (plain key (turned w f g))
  turns w f g = record {
    layout = refl;
    memory = record { cached = λ r. refl; persisted = λ r. refl; buffer = λ q. refl };
    situation = put_here w.situation f.process (Working g) f.process refl;
    others = λ q n. put_else w.situation f.process (Working g) q n;
    counted = refl;
    open_edits = λ q. refl;
  }

  goes_to : (w : SheetWorld) (f g : PlainWorkCall) → IsWell (plain key w) → Leaves f.process (plain key w) (plain key (turned w f g)) → Goes sheet key w (turned w f g)
  goes_to w f g well k = goes key w (turned w f g) f.process well refl (record { leaves = k; version = le_refl _; rests = λ moving. subst IsMoving (put_here w.situation f.process (Working g) f.process refl) moving })

  at_stage : (w : SheetWorld) (f : PlainWorkCall) (s : WorkStage) → w.situation f.process ≡ Working f → f.stage ≡ s → w.situation f.process ≡ Working (work.at f s)
  at_stage w f s is here_is = is ∙ ap (λ (z : WorkStage). Working (record f { stage = z })) here_is

  -- of the process of the work that goes on
  of_own : (w : SheetWorld) (f g e : PlainWorkCall) → e ≡ g → g.process ≡ f.process → Goes sheet key w (turned w f g) → Goes sheet key w (after_begin sheet key w e.process (Working e))
  of_own w f g e is own h = subst (λ (z : ℕ × PlainWorkCall). Goes sheet key w (after_begin sheet key w z.0 (Working z.1))) (λ i. (sym (ap (λ (z : PlainWorkCall). z.process) is ∙ own) i, sym is i)) h

  reads : (w : SheetWorld) (f e : PlainWorkCall) → IsWell (plain key w) → f.process < key.layout.processes → w.situation f.process ≡ Working f → f.stage ≡ Read → IsReading key.layout.shape f e → Goes sheet key w (after_begin sheet key w e.process (Working e))
  reads w f e well low is at_read (inl h) =
      let g : PlainWorkCall = read_from f h.content h.inputs in
      let t : ReadsAt f h.content h.inputs (plain key w) (plain key (turned w f g)) = record { turn = turns w f g; is = h.is } in
      of_own w f g e h.after (read_process f h.content h.inputs) (goes_to w f g well (read_leaves f h.content h.inputs (plain key w) (plain key (turned w f g)) well.sound low (at_stage w f Read is at_read) t))
  reads w f e well low is at_read (inr h) =
      of_own w f (lacks f) e h refl (goes_to w f (lacks f) well (lack_leaves f (plain key w) (plain key (turned w f (lacks f))) well.sound low (at_stage w f Read is at_read) (turns w f (lacks f))))

  takes : (w : SheetWorld) (f e : PlainWorkCall) → IsWell (plain key w) → f.process < key.layout.processes → w.situation f.process ≡ Working f → f.stage ≡ Wait → e ≡ offered f (local key.layout.shape f.content (entry_in f.inputs)) → Goes sheet key w (after_begin sheet key w e.process (Working e))
  takes w f e well low is at_wait from =
      let entry = local key.layout.shape f.content (entry_in f.inputs) in
      let g : PlainWorkCall = offered f entry in
      let t : OffersAt f entry (plain key w) (plain key (turned w f g)) = record { turn = turns w f g; is = refl } in
      of_own w f g e from refl (goes_to w f g well (offer_leaves f entry (plain key w) (plain key (turned w f g)) well.sound low (at_stage w f Wait is at_wait) t))

  pub begins_so : (w : SheetWorld) (e : PlainWorkCall) → w.situation e.process ≡ Idle (second_rest e.next) → IsAskedFor key.layout e.process (second_rest e.next) e.cell e → BeginsWork (second_rest e.next) e (plain key w) (plain key (turned w e e))
  begins_so w e idle asks = record {
    turn = record {
      layout = refl;
      memory = record { cached = λ r. refl; persisted = λ r. refl; buffer = λ q. refl };
      situation = put_here w.situation e.process (Working e) e.process refl ∙ ap (λ (z : WorkStage). Working (record e { stage = z })) asks.first;
      others = λ q n. put_else w.situation e.process (Working e) q n;
      counted = refl;
      open_edits = λ q. refl;
    };
    was = idle;
    next_is = asks.next_is;
    cells = asks.cells;
    processes = asks.processes;
    cell = asks.inside;
  }

  begins : (w : SheetWorld) (e : PlainWorkCall) → IsWell (plain key w) → e.process < key.layout.processes → w.situation e.process ≡ Idle (second_rest e.next) → IsAskedFor key.layout e.process (second_rest e.next) e.cell e → Goes sheet key w (after_begin sheet key w e.process (Working e))
  begins w e well low idle asks = goes_to w e e well (begin_leaves (second_rest e.next) e (plain key w) (plain key (turned w e e)) well.sound low (begins_so w e idle asks))

  -- the process of a work that goes on
  kin : (f e : PlainWorkCall) → IsReading key.layout.shape f e → e.process ≡ f.process
  kin f e (inl h) = ap (λ (z : PlainWorkCall). z.process) h.after ∙ read_process f h.content h.inputs
  kin f e (inr h) = ap (λ (z : PlainWorkCall). z.process) h

  -- what a work that may begin has before it
  pub record Ready (w : SheetWorld) (e : PlainWorkCall) : Type 0 where
    pub goes_on : Goes sheet key w (after_begin sheet key w e.process (Working e))
    pub empty : w.memory.buffer e.process ≡ []

  ready_from : (w : SheetWorld) (e f : PlainWorkCall) → e.process ≡ f.process → IsWell (plain key w) → e.process < key.layout.processes → w.situation e.process ≡ Working f → (s : WorkStage) → f.stage ≡ s → known.work_held f s ≡ known.empty
      → (f.process < key.layout.processes → w.situation f.process ≡ Working f → Goes sheet key w (after_begin sheet key w e.process (Working e))) → Ready w e
  ready_from w e f own well low at s is held go =
      let low2 : f.process < key.layout.processes = subst (λ (p : ℕ). p < key.layout.processes) own low in
      let at2 : w.situation f.process ≡ Working f = ap w.situation (sym own) ∙ at in
      let fits : CallFits (plain key w) f.process (Working f) = subst (λ (z : Situation). CallFits (plain key w) f.process z) at2 (well.sound.calls f.process low2) in
      record { goes_on = go low2 at2; empty = ap w.memory.buffer own ∙ nothing_kept key.layout (w.memory.buffer f.process) (quiet (plain key w) f s is held fits) }

  ready : (w : SheetWorld) (e : PlainWorkCall) → IsWell (plain key w) → e.process < key.layout.processes → MayWork key.layout (w.situation e.process) e → Ready w e
  ready w e well low (asked idle asks) = record { goes_on = begins w e well low idle asks; empty = idle_buffer key w e.process (second_rest e.next) well low idle }
  ready w e well low (read f at good is from) = ready_from w e f (kin f e from) well low at Read is refl (λ low2 at2. reads w f e well low2 at2 is from)
  ready w e well low (calls.offered f at good is from) = ready_from w e f (ap (λ (z : PlainWorkCall). z.process) from) well low at Wait is refl (λ low2 at2. takes w f e well low2 at2 is from)

  pub works_begin : KindBegins sheet key works
  works_begin w e well low fits go may =
      subst (λ (z : Situation). Goes sheet key w (after_begin sheet key w e.process z)) (sym (doing_going e e.stage go)) (ready w e well low may).goes_on

  pub works_hold : AreCalls sheet key works
  works_hold = record {
    begins = λ w e well low fits go may. (begins_work (record { call = e; fits = fits; goes = go; own = refl; may = may; lands = refl }), (ready w e well low may).empty);
    serves = λ w e well low at fits go.
        let can = can_perform (plain key w) e well.sound low e.stage (at ∙ doing_going e e.stage go) in
        subst (λ (a : Access ℕ). Serves (words_of key.layout) a (w.memory.buffer e.process)) (sym (named_in key.layout (work.access_at key.layout.shape e e.stage) can.0))
        (serves key (work.access_at key.layout.shape e e.stage) e.process w.memory can);
    steps = λ e answer fits go. steps_work (record { call = e; fits = fits; goes = go; own = refl; at = refl; asks = refl; lands = refl; tells = refl });
    process = λ e answer. next_process e answer;
    apart = λ e end go over. apart e.stage end go over;
  }

-- ---- one step

-- a work of the sheet is one of it after its step, too
pub fits_still : (layout : Layout) (e f : PlainWorkCall) (word : ℕ) → f ≡ work.next_at e e.stage word → IsWork f → IsWorkOn layout e → IsWorkOn layout f
fits_still layout e f word is good on =
    let noted = next_noted e word e.stage in
    record {
      is = good;
      cells = on.cells ∙ sym (ap (λ (z : PlainWorkCall). z.cells) is ∙ ap (λ (z : PlainWorkCall). z.cells) noted);
      processes = on.processes ∙ sym (ap (λ (z : PlainWorkCall). z.processes) is ∙ ap (λ (z : PlainWorkCall). z.processes) noted);
    }

-- a step of a work leaves fewer steps
pub fewer_left : (e f : PlainWorkCall) (word : ℕ) → f ≡ work.next_at e e.stage word → IsWork e → WorkGoes e.stage → steps_left f.cells f < steps_left e.cells e
fewer_left e f word is good go =
    let fewer : steps_left e.cells (work.next_at e e.stage word) < steps_left e.cells e = falls_plain e.cells e (work.next_at e e.stage word) e.stage (each_falls e.cells word e good) (plain_going e.stage go) (λ end over. subst WorkGoes over go) in
    let cells : f.cells ≡ e.cells = ap (λ (z : PlainWorkCall). z.cells) is ∙ ap (λ (z : PlainWorkCall). z.cells) (next_noted e word e.stage) in
    subst (λ (z : ℕ × PlainWorkCall). steps_left z.0 z.1 < steps_left e.cells e) (λ i. (sym cells i, sym is i)) fewer
