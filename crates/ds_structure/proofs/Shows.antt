-- Shows are calls of the structure.
use Rattle.std.proofs.Common.{ℕ, ◌≡◌, ◌+◌, ◌<◌, List, [], ◌++◌, refl, sym, ap, subst, ◌∙◌, inl, inr, arith, le_refl}
use Rattle.std.proofs.lemmas.List.{append_assoc}
use Rattle.std.specs.Prelude.{Bool, true, false, nat_lt, ◌==◌, if◌then◌else◌}
use Rattle.ds_words.specs.Memory.{Memory, Performs}
use Rattle.ds_layout.specs.declared.layout.Layout.{Layout}
use Rattle.ds_layout.specs.declared.place.Edition.{Edition}
use Rattle.ds_layout.specs.declared.place.Edition.TheVariants.{Second}
use Rattle.ds_layout.specs.Places.{cells_of}
use Rattle.ds_layout.specs.SheetMemory.{access_at}
use Rattle.ds_state.specs.KnownShow.{AreScratch, reads_pending, reads_clean, noted}
use Rattle.ds_state.specs.LayoutsFit.{LayoutFits, IsMoving}
use Rattle.ds_state.specs.ShowStages.{IsShow}
use Rattle.ds_state.specs.Works.{PlainShowCall}
use Rattle.ds_state.specs.World.{PlainEdit, PlainWorld}
use Rattle.ds_state.specs.declared.show.ShowEnd.{ShowEnd}
use Rattle.ds_state.specs.declared.show.ShowEnd.TheVariants.{Settled, Unsettled}
use Rattle.ds_state.specs.declared.show.ShowStage.{ShowStage}
use Rattle.ds_state.specs.declared.show.ShowStage.TheVariants.{LoadAnnounce, LoadMark, LoadValue, LoadKind, AgainMark, AgainAnnounce, Answer}
use Rattle.ds_state.specs.declared.situation.Rest.{Rest}
use Rattle.ds_state.specs.declared.situation.Situation.{Situation}
use Rattle.ds_state.specs.declared.situation.Situation.TheVariants.{Idle, Showing}
use Rattle.ds_show.specs.ShowSteps as report
use Rattle.ds_show.specs.ShowSteps.{Steps, Begins, rest_of, after, fresh, answered}
use Rattle.ds_show.specs.ShowMiddles.{IsToldShow}
use Rattle.ds_show.proofs.ShowLaws as laws
use Rattle.ds_show.proofs.ShowMiddles.{step_leaves, begin_leaves, show_settled}
use Rattle.pm_base.specs.Structures.{AreCalls, KindBegins, KindSteps, Goes, GoesTelling, after_begin, put}
use Rattle.pm_base.proofs.Puts.{put_here, put_else}
use Rattle.ds_structure.specs.Calls.{second_rest, ShowGoes, show_doing, show_says, IsShowOn, shows}
use Rattle.ds_structure.specs.Sheet.{Ledger, SheetWorld, plain, stepped, IsWell, WereScratch, IsTrue, begins_show, steps_show, sheet}
use Rattle.ds_structure.specs.declared.response.Response.{Response}
use Rattle.ds_structure.specs.declared.response.Response.TheVariants.{Shown}
use Rattle.ds_structure.specs.declared.sheet.SheetKey.{SheetKey}
use Rattle.ds_structure.proofs.Edits.{idle_buffer}
use Rattle.ds_structure.proofs.Passing.{Passed, Answers, passed_on, passed_none, well_on, goes, goes_telling}
use Rattle.ds_structure.proofs.Seconds.{version_grows, noted_second}
use Rattle.ds_structure.proofs.Words.{performed, serves}

pub doing_going : (e : PlainShowCall) (s : ShowStage) → ShowGoes s → show_doing e s ≡ Showing (record e { stage = s })
doing_going e (Answer end) g = absurd g
doing_going e _ g = refl

after_going : (e : PlainShowCall) (s : ShowStage) (word : ℕ) → ShowGoes s → after e s word ≡ Showing (report.next_at e s word)
after_going e (Answer end) word g = absurd g
after_going e _ word g = refl

-- the same process and number, on the same sheet
pub record Same (e f : PlainShowCall) : Type 0 where
  pub process : f.process ≡ e.process
  pub next : f.next ≡ e.next
  pub cells : f.cells ≡ e.cells
  pub processes : f.processes ≡ e.processes

same : (e f : PlainShowCall) → f.process ≡ e.process → f.next ≡ e.next → f.cells ≡ e.cells → f.processes ≡ e.processes → Same e f
same e f a b c d = record { process = a; next = b; cells = c; processes = d }

same_if : (e : PlainShowCall) (b : Bool) (f g : PlainShowCall) → Same e f → Same e g → Same e (if b then f else g)
same_if e true f g x y = x
same_if e false f g x y = y

-- a step of a show leaves its process, its number and its sheet
pub next_same : (e : PlainShowCall) (s : ShowStage) (word : ℕ) → Same e (report.next_at e s word)
next_same e (LoadAnnounce i) word = same_if e (reads_pending word) _ _ (same _ _ refl refl refl refl) (same_if e (nat_lt (i + 1) e.processes) _ _ (same _ _ refl refl refl refl) (same _ _ refl refl refl refl))
next_same e (LoadMark i) word = same_if e (reads_clean e.processes word) _ _ (same_if e (nat_lt (i + 1) e.cells) _ _ (same _ _ refl refl refl refl) (same _ _ refl refl refl refl)) (same _ _ refl refl refl refl)
next_same e (LoadValue i) word = same _ _ refl refl refl refl
next_same e (LoadKind i) word = same_if e (nat_lt (i + 1) e.cells) _ _ (same _ _ refl refl refl refl) (same _ _ refl refl refl refl)
next_same e (AgainMark i) word = same_if e (word == noted e.marks i) _ _ (same_if e (nat_lt (i + 1) e.cells) _ _ (same _ _ refl refl refl refl) (same _ _ refl refl refl refl)) (same _ _ refl refl refl refl)
next_same e (AgainAnnounce i) word = same_if e (word == noted e.announcements i) _ _ (same_if e (nat_lt (i + 1) e.processes) _ _ (same _ _ refl refl refl refl) (same _ _ refl refl refl refl)) (same _ _ refl refl refl refl)
next_same e (Answer end) word = same _ _ refl refl refl refl

-- a settled show has the values from scratch of the first linearized edits
scratch : (w : PlainWorld) (before : List (List PlainEdit)) (p : ℕ) (e : PlainShowCall) (held : List PlainEdit) → IsToldShow w p e held → WereScratch w.layout.shape w.counted before (answered e)
scratch w before p e held h = record {
  front = h.mid.counted;
  was = inl (h.was.lasts.added ++ h.lasts.added, h.lasts.counted ∙ (ap (λ (z : List PlainEdit). z ++ h.lasts.added) h.was.lasts.counted ∙ append_assoc h.mid.counted h.was.lasts.added h.lasts.added));
  right = subst (λ (l : Layout). AreScratch l.shape h.mid.counted (answered e)) (sym h.was.lasts.layout ∙ sym h.lasts.layout) h.was.right;
}

module _ (key : SheetKey) where
  -- the process p is at a stage of its show
  abbrev pub here : SheetWorld → ℕ → PlainShowCall → Memory ℕ → ShowStage → PlainWorld
  here w p f memory s = plain key (record { memory = memory; situation = put w.situation p (Showing (record f { stage = s })); hidden = w.hidden })

  -- ... and is answered, where only that is left
  abbrev pub there : SheetWorld → ℕ → PlainShowCall → Memory ℕ → ShowStage → SheetWorld
  there w p f memory s = record { memory = memory; situation = put w.situation p (show_doing f s); hidden = w.hidden }

  module _ (w : SheetWorld) (f : PlainShowCall) (memory : Memory ℕ) where
    -- the step that answers
    pub last_step : (end : ShowEnd) → IsWell (here w f.process f memory (Answer end)) → f.process < key.layout.processes → Steps (record f { stage = Answer end }) 0 (here w f.process f memory (Answer end)) (plain key (there w f.process f memory (Answer end)))
    last_step end well low =
        let e : PlainShowCall = record f { stage = Answer end } in
        let old : PlainWorld = here w f.process f memory (Answer end) in
        let idle : Situation = Idle (second_rest f.next) in
        let at : old.situation f.process ≡ Showing e = put_here w.situation f.process (Showing e) f.process refl in
        let noted : rest_of e ≡ second_rest f.next = knows (noted_second old f.edition well.second (subst (λ (z : Situation). LayoutFits old f.process z) at (well.sound.layouts f.process low))) in
        record {
          layout = refl;
          memory = (refl, record { cached = λ r. refl; persisted = λ r. refl; buffer = λ q. refl });
          situation = put_here w.situation f.process idle f.process refl ∙ ap Idle (sym noted);
          others = λ q n. put_else w.situation f.process idle q n ∙ sym (put_else w.situation f.process (Showing e) q n);
          counted = refl;
          open_edits = λ q. refl;
        }
      where
        knows : f.edition ≡ Second → rest_of (record f { stage = Answer end }) ≡ second_rest f.next
        knows is = ap (λ (d : Edition). (let r : Rest = record { number = f.next; edition = d } in r)) is

    answers : (end : ShowEnd) → IsWell (here w f.process f memory (Answer end)) → f.process < key.layout.processes → Answers f.process (here w f.process f memory (Answer end)) (plain key (there w f.process f memory (Answer end))) w.hidden.before_crashes (show_says f (Answer end))
    answers end well low =
        let e : PlainShowCall = record f { stage = Answer end } in
        let old : PlainWorld = here w f.process f memory (Answer end) in
        let new : PlainWorld = plain key (there w f.process f memory (Answer end)) in
        let idle : Situation = Idle (second_rest f.next) in
        let at : old.situation f.process ≡ Showing e = put_here w.situation f.process (Showing e) f.process refl in
        let t : Steps e 0 old new = last_step end well low in
        record {
          passed = record { leaves = step_leaves e 0 old new well.sound low at t; version = le_refl _; rests = λ moving. subst IsMoving (put_here w.situation f.process idle f.process refl) moving };
          tells = λ u inside. elim inside [
            | inl is ↦ subst (λ (z : Response). IsTrue new w.hidden.before_crashes f.process z) is (says end refl at)
            | inr none ↦ absurd none
          ];
        }
      where
        says : (how : ShowEnd) → Answer end ≡ Answer how → (here w f.process f memory (Answer end)).situation f.process ≡ Showing (record f { stage = Answer end }) → IsTrue (plain key (there w f.process f memory (Answer end))) w.hidden.before_crashes f.process (Shown (record f { stage = Answer end }) how)
        says Settled is at = scratch (here w f.process f memory (Answer end)) w.hidden.before_crashes f.process (record f { stage = Answer end }) []
            (show_settled (here w f.process f memory (Answer end)) f.process (record f { stage = Answer end }) [] well.middles low at is (λ d none. absurd (let l = none.1 in omega arith)))
        says (Unsettled r word) is at = tt

    still : (s : ShowStage) → show_doing f s ≡ Showing (record f { stage = s }) → IsWell (here w f.process f memory s) → Answers f.process (here w f.process f memory s) (plain key (there w f.process f memory s)) w.hidden.before_crashes []
    still s doing well = record {
      passed = subst (λ (z : Situation). Passed f.process (here w f.process f memory s) (plain key (record { memory = memory; situation = put w.situation f.process z; hidden = w.hidden }))) (sym doing)
          (passed_none f.process (here w f.process f memory s) well.sound (λ moving. subst IsMoving (put_here w.situation f.process (Showing (record f { stage = s })) f.process refl) moving));
      tells = λ t none. absurd none;
    }

    pub ends : (s : ShowStage) → IsWell (here w f.process f memory s) → f.process < key.layout.processes → Answers f.process (here w f.process f memory s) (plain key (there w f.process f memory s)) w.hidden.before_crashes (show_says f s)
    ends (Answer end) well low = answers end well low
    ends s well low = still s refl well

  -- a step
  module _ (w : SheetWorld) (e : PlainShowCall) (m2 : Memory ℕ) (word : ℕ) (well : IsWell (plain key w)) (low : e.process < key.layout.processes) (at : w.situation e.process ≡ Showing e) (go : ShowGoes e.stage)
      (performs : Performs (sheet.class_in key) (access_at key.layout (report.access_at e.stage)) e.process w.memory m2 word) where
    abbrev f : PlainShowCall
    f = report.got_at e word

    abbrev mid : PlainWorld
    mid = here w e.process f m2 f.stage

    pub first_step : Steps e word (plain key w) mid
    first_step = record {
      layout = refl;
      memory = performed key (report.access_at e.stage) e.process word w.memory m2 (laws.accesses e (plain key w) well.sound low at) performs;
      situation = put_here w.situation e.process (Showing f) e.process refl ∙ sym (after_going e e.stage word go);
      others = λ q n. put_else w.situation e.process (Showing f) q n;
      counted = refl;
      open_edits = λ q. refl;
    }

    pub first : Passed e.process (plain key w) mid
    first = record {
      leaves = step_leaves e word (plain key w) mid well.sound low at first_step;
      version = version_grows (plain key w) mid.memory e.process (report.access_at e.stage) word well.sound low first_step.memory;
      rests = λ moving. subst IsMoving (put_here w.situation e.process (Showing f) e.process refl) moving;
    }

    pub show_step : Answers e.process (plain key w) (plain key (there w e.process f m2 f.stage)) w.hidden.before_crashes (show_says f f.stage)
    show_step =
        let own : f.process ≡ e.process = (next_same e e.stage word).process in
        let each : IsWell (here w e.process f m2 f.stage) → e.process < key.layout.processes → Answers e.process mid (plain key (there w e.process f m2 f.stage)) w.hidden.before_crashes (show_says f f.stage) =
        subst (λ (p : ℕ). IsWell (here w p f m2 f.stage) → p < key.layout.processes → Answers p (here w p f m2 f.stage) (plain key (there w p f m2 f.stage)) w.hidden.before_crashes (show_says f f.stage)) own (ends w f m2 f.stage) in
        let last = each (well_on e.process (plain key w) mid first well) low in
        record { passed = passed_on e.process (plain key w) mid (plain key (there w e.process f m2 f.stage)) first last.passed; tells = last.tells }

  pub shows_step : KindSteps sheet key shows
  shows_step w e m2 word well low at fits go performs =
      let f : PlainShowCall = report.got_at e word in
      let is : w.situation e.process ≡ Showing e = at ∙ doing_going e e.stage go in
      let kept : stepped key w.memory w.hidden (w.situation e.process) ≡ w.hidden = ap (stepped key w.memory w.hidden) is in
      subst (λ (l : Ledger). GoesTelling sheet key w (record { memory = m2; situation = put w.situation e.process (show_doing f f.stage); hidden = l }) e.process (show_says f f.stage)) (sym kept)
      (goes_telling key w (there w e.process f m2 f.stage) e.process (show_says f f.stage) well refl (show_step w e m2 word well low is go performs))

  -- ---- the beginning

  abbrev pub began : SheetWorld → ℕ → ℕ → SheetWorld
  began w p next = after_begin sheet key w p (Showing (fresh p (second_rest next) (cells_of key.layout) key.layout.processes))

  pub begins_so : (w : SheetWorld) (p next : ℕ) → w.situation p ≡ Idle (second_rest next) → Begins p (second_rest next) (plain key w) (plain key (began w p next))
  begins_so w p next idle =
      let now : Situation = Showing (fresh p (second_rest next) (cells_of key.layout) key.layout.processes) in
      record {
        layout = refl;
        memory = record { cached = λ r. refl; persisted = λ r. refl; buffer = λ q. refl };
        idle = idle;
        situation = put_here w.situation p now p refl;
        others = λ q n. put_else w.situation p now q n;
        counted = refl;
        open_edits = λ q. refl;
      }

  show_begins : (w : SheetWorld) (p next : ℕ) → IsWell (plain key w) → p < key.layout.processes → w.situation p ≡ Idle (second_rest next) → Goes sheet key w (after_begin sheet key w p (Showing (fresh p (second_rest next) (cells_of key.layout) key.layout.processes)))
  show_begins w p next well low idle =
      let now : Situation = Showing (fresh p (second_rest next) (cells_of key.layout) key.layout.processes) in
      let new : SheetWorld = after_begin sheet key w p now in
      let t = begins_so w p next idle in
      goes key w new p well refl (record {
        leaves = begin_leaves p (second_rest next) (plain key w) (plain key new) well.sound low t;
        version = le_refl _;
        rests = λ moving. subst IsMoving (put_here w.situation p now p refl) moving;
      })

  pub shows_begin : KindBegins sheet key shows
  shows_begin w e well low fits go may =
      subst (λ (z : Situation). Goes sheet key w (after_begin sheet key w e.process z)) (ap Showing (sym may.fresh) ∙ sym (doing_going e e.stage go)) (show_begins w e.process e.next well low may.idle)

  pub shows_hold : AreCalls sheet key shows
  shows_hold = record {
    begins = λ w e well low fits go may. (begins_show (record { call = e; fits = fits; goes = go; own = refl; may = may; lands = refl }), idle_buffer key w e.process (second_rest e.next) well low may.idle);
    serves = λ w e well low at fits go. serves key (report.access_at e.stage) e.process w.memory (laws.accesses e (plain key w) well.sound low (at ∙ doing_going e e.stage go));
    steps = λ e answer fits go. steps_show (record { call = e; fits = fits; goes = go; own = refl; at = refl; asks = refl; lands = refl; tells = refl });
    process = λ e answer. (next_same e e.stage answer).process;
    apart = λ e end go over. subst ShowGoes over go;
  }

-- ---- one step

falls_going : (e f : PlainShowCall) (s : ShowStage) → ShowGoes s → report.Falls e s f → report.rank f < report.rank (record e { stage = s })
falls_going e f (Answer end) g h = absurd g
falls_going e f _ g h = h

-- a step of a show leaves fewer steps
pub fewer_left : (e f : PlainShowCall) (word : ℕ) → f ≡ report.got_at e word → IsShow e → ShowGoes e.stage → report.rank f < report.rank e
fewer_left e f word is good go = subst (λ (z : PlainShowCall). report.rank z < report.rank e) (sym is) (falls_going e (report.got_at e word) e.stage go (laws.each_falls e word good))

-- a show of the sheet is one of it after its step, too
pub fits_still : (layout : Layout) (e f : PlainShowCall) (word : ℕ) → f ≡ report.got_at e word → IsShow f → IsShowOn layout e → IsShowOn layout f
fits_still layout e f word is good on = record {
  is = good;
  cells = on.cells ∙ sym (ap (λ (z : PlainShowCall). z.cells) is ∙ (next_same e e.stage word).cells);
  processes = on.processes ∙ sym (ap (λ (z : PlainShowCall). z.processes) is ∙ (next_same e e.stage word).processes);
}
