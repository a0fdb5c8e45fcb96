-- Recoveries are calls of the structure.
use Rattle.std.proofs.Common.{ℕ, ◌≡◌, ◌<◌, ◌/◌, ◌-◌, List, [], ◌∷◌, refl, sym, ap, subst, ◌∙◌, inl, inr, arith, suc, zero, le_refl}
use Rattle.std.specs.Prelude.{Contains, Option, Some, None, Bool, true, false, ◌==◌, ◌&&◌, if◌then◌else◌}
use Rattle.std.proofs.lemmas.Bool.{eqb-true, eq-eqb}
use Rattle.ds_words.specs.Memory.{Memory, Performs}
use Rattle.ds_layout.specs.declared.announcement.Announcement.{Announcement}
use Rattle.ds_layout.specs.declared.announcement.Phase.TheVariants as phase
use Rattle.ds_layout.specs.declared.layout.Layout.{Layout}
use Rattle.ds_layout.specs.declared.place.Edition.{Edition}
use Rattle.ds_layout.specs.declared.place.Edition.TheVariants.{Second}
use Rattle.ds_layout.specs.declared.place.Place.TheVariants as place
use Rattle.ds_layout.specs.Announcement.{announcement_of}
use Rattle.ds_layout.specs.Bits.{bit_in}
use Rattle.ds_layout.specs.Head.{head_of}
use Rattle.ds_layout.specs.Places.{cells_of}
use Rattle.ds_layout.specs.SheetMemory.{access_at}
use Rattle.ds_state.specs.CallsFit.{CallFits, RecoveryFits, StoppedFits}
use Rattle.ds_state.specs.KnownRecovery.{phase_for, Tells}
use Rattle.ds_state.specs.LayoutsFit.{LayoutFits, IsMoving}
use Rattle.ds_state.specs.RecoverStages.{IsRecovery}
use Rattle.ds_state.specs.Spent.{IsSpent}
use Rattle.ds_state.specs.Works.{PlainRecoverCall}
use Rattle.ds_state.specs.World.{PlainEdit, PlainIssue, PlainWorld, phase_among, is_edit_of}
use Rattle.ds_state.specs.declared.recovery.RecoverStage.{RecoverStage}
use Rattle.ds_state.specs.declared.recovery.RecoverStage.TheVariants as stages
use Rattle.ds_state.specs.declared.recovery.RecoverStage.TheVariants.{Answer}
use Rattle.ds_state.specs.declared.situation.Rest.{Rest}
use Rattle.ds_state.specs.declared.situation.Situation.{Situation}
use Rattle.ds_state.specs.declared.situation.Situation.TheVariants.{Idle, Stopped, Editing, Working, Recovering, Showing, Migrating}
use Rattle.ds_state.specs.declared.spread.Spread.{Spread}
use Rattle.ds_state.specs.declared.spread.Spread.TheVariants as spreads
use Rattle.ds_recover.specs.RecoverySteps as recovery
use Rattle.ds_recover.specs.RecoverySteps.{Steps, after, next_number, rest_after, open_edit_at, end_of, number_of, fresh, RepeatsAs}
use Rattle.ds_recover.specs.RecoverBegun.{MayRecover, IsBegun}
use Rattle.ds_recover.proofs.RecoveryLaws as laws
use Rattle.ds_recover.proofs.RecoveryRank.{each_falls}
use Rattle.ds_recover.proofs.RecoveryLeaves.{recovery_leaves, begin_leaves}
use Rattle.pm_base.specs.Structures.{AreCalls, KindBegins, KindSteps, Goes, GoesTelling, after_begin, put}
use Rattle.pm_base.proofs.Puts.{put_here, put_else, put_same}
use Rattle.ds_structure.specs.Calls.{second_rest, RecoveryGoes, recovery_doing, recovery_says, IsRecoveryOn, recoveries}
use Rattle.ds_structure.specs.Sheet.{Ledger, SheetWorld, plain, recovered, stepped, IsWell, CountsAs, IsTrue, begins_recovery, steps_recovery, sheet}
use Rattle.ds_structure.specs.declared.response.Response.{Response}
use Rattle.ds_structure.specs.declared.response.Response.TheVariants.{Recovered}
use Rattle.ds_structure.specs.declared.sheet.SheetKey.{SheetKey}
use Rattle.ds_structure.proofs.Edits.{idle_buffer}
use Rattle.ds_structure.proofs.Passing.{Passed, Answers, passed_on, passed_none, well_on, goes, goes_telling}
use Rattle.ds_structure.proofs.Seconds.{version_grows, noted_second}
use Rattle.ds_structure.proofs.Words.{answer_found, nothing_kept, performed, serves}

pub doing_going : (e : PlainRecoverCall) (s : RecoverStage) → RecoveryGoes s → recovery_doing e s ≡ Recovering (record e { stage = s })
doing_going e (Answer how) g = absurd g
doing_going e _ g = refl

after_going : (e : PlainRecoverCall) (s : RecoverStage) (word : ℕ) → RecoveryGoes s → after e s word ≡ Recovering (recovery.next_at e s word)
after_going e (Answer how) word g = absurd g
after_going e _ word g = refl

pub open_going : (o : Option PlainIssue) (s : RecoverStage) → RecoveryGoes s → open_edit_at o s ≡ o
open_going o (Answer how) g = absurd g
open_going o _ g = refl

-- the same process, on the same sheet
pub record Same (e f : PlainRecoverCall) : Type 0 where
  pub process : f.process ≡ e.process
  pub cells : f.cells ≡ e.cells
  pub processes : f.processes ≡ e.processes

same : (e f : PlainRecoverCall) → f.process ≡ e.process → f.cells ≡ e.cells → f.processes ≡ e.processes → Same e f
same e f a b c = record { process = a; cells = b; processes = c }

same_if : (e : PlainRecoverCall) (b : Bool) (f g : PlainRecoverCall) → Same e f → Same e g → Same e (if b then f else g)
same_if e true f g x y = x
same_if e false f g x y = y

same_announced : (e : PlainRecoverCall) (word : ℕ) (o : Option Announcement) → Same e (recovery.announced_from e word o)
same_announced e word None = same _ _ refl refl refl
same_announced e word (Some a) = same _ _ refl refl refl

same_spread : (e : PlainRecoverCall) (cell : ℕ) (s : Spread) (word : ℕ) → Same e (recovery.spread_next e cell s word)
same_spread e cell (spreads.LoadRow part) word = same _ _ refl refl refl
same_spread e cell (spreads.OrTold d) word = same _ _ refl refl refl
same_spread e cell (spreads.FlushTold d) word = same _ _ refl refl refl
same_spread e cell (spreads.BackTold d) word = same _ _ refl refl refl

-- a step of a recovery leaves its process and its sheet
pub next_same : (e : PlainRecoverCall) (s : RecoverStage) (word : ℕ) → Same e (recovery.next_at e s word)
next_same e stages.LoadVersion word = same _ _ refl refl refl
next_same e stages.FlushVersion word = same _ _ refl refl refl
next_same e stages.BackVersion word = same _ _ refl refl refl
next_same e (stages.LoadMark cell) word = same_if e (recovery.reads_held e.process word) _ _ (same _ _ refl refl refl) (same _ _ refl refl refl)
next_same e (stages.FlushValue cell) word = same _ _ refl refl refl
next_same e (stages.FlushKind cell) word = same _ _ refl refl refl
next_same e (stages.BackValue cell) word = same _ _ refl refl refl
next_same e (stages.BackKind cell) word = same _ _ refl refl refl
next_same e (stages.Telling cell spread) word = same_spread e cell spread word
next_same e (stages.Give cell) word = same_if e (word == e.mark) _ _ (same _ _ refl refl refl) (same _ _ refl refl refl)
next_same e (stages.GiveDirty cell) word = same _ _ refl refl refl
next_same e (stages.FlushGiven cell) word = same _ _ refl refl refl
next_same e (stages.BackGiven cell) word = same _ _ refl refl refl
next_same e stages.LoadAnnounce word = same_announced e word (announcement_of word)
next_same e stages.LoadHeader word = same _ _ refl refl refl
next_same e stages.LoadHead word = same_if e (recovery.is_shown e.process (number_of e) (head_of e.processes word)) _ _ (same _ _ refl refl refl) (same _ _ refl refl refl)
next_same e stages.FlushHead word = same _ _ refl refl refl
next_same e stages.BackHead word = same _ _ refl refl refl
next_same e stages.LoadDone word = same_if e (bit_in word (number_of e) == 1) _ _ (same _ _ refl refl refl) (same _ _ refl refl refl)
next_same e (stages.OrMark how) word = same _ _ refl refl refl
next_same e (stages.FlushMark how) word = same _ _ refl refl refl
next_same e (stages.BackMark how) word = same _ _ refl refl refl
next_same e (stages.StoreOutcome how) word = same _ _ refl refl refl
next_same e (stages.FlushOutcome how) word = same _ _ refl refl refl
next_same e (stages.BackOutcome how) word = same _ _ refl refl refl
next_same e (stages.Answer how) word = same _ _ refl refl refl

-- ---- what it reports

is_edit : (e : PlainEdit) (p n : ℕ) → is_edit_of p n e ≡ true → (e.process ≡ p) × (e.number ≡ n)
is_edit e p n is = both (e.process == p) (e.number == n) refl refl is
  where
    both : (a b : Bool) → (e.process == p) ≡ a → (e.number == n) ≡ b → (a && b) ≡ true → (e.process ≡ p) × (e.number ≡ n)
    both true true x y t = (eqb-true e.process p x, eqb-true e.number n y)
    both true false x y t = absurd (cc)
    both false b x y t = absurd (cc)

edit_is : (e : PlainEdit) (p n : ℕ) → e.process ≡ p → e.number ≡ n → is_edit_of p n e ≡ true
edit_is e p n x y = rw (eq-eqb e.process p x, eq-eqb e.number n y) refl

counts_done : (es : List PlainEdit) (p n : ℕ) → phase_among es p n ≡ phase.Done → CountsAs es p n true
counts_done [] p n is = absurd (cc)
counts_done (e ∷ es) p n is = by (counts_done es p n) (is_edit_of p n e) refl is
  where
    by : (phase_among es p n ≡ phase.Done → CountsAs es p n true) → (b : Bool) → is_edit_of p n e ≡ b → (if b then phase.Done else phase_among es p n) ≡ phase.Done → CountsAs (e ∷ es) p n true
    by again true hit t = (e, (0, (omega arith), refl), (is_edit e p n hit).0, (is_edit e p n hit).1)
    by again false miss t = let r = again t in (r.0, (suc r.1.0, (let l = r.1.1 in omega arith), r.1.2), r.2, r.3)

counts_not : (es : List PlainEdit) (p n : ℕ) → phase_among es p n ≡ phase.NotDone → CountsAs es p n false
counts_not [] p n is = λ d there own num. absurd (let l = there.1 in omega arith)
counts_not (e ∷ es) p n is = by (counts_not es p n) (is_edit_of p n e) refl is
  where
    by : (phase_among es p n ≡ phase.NotDone → CountsAs es p n false) → (b : Bool) → is_edit_of p n e ≡ b → (if b then phase.Done else phase_among es p n) ≡ phase.NotDone → CountsAs (e ∷ es) p n false
    by again true hit t = absurd (cc)
    by again false miss t = λ d there own num. in_list d there own num
      where
        in_list : (d : PlainEdit) → Contains (e ∷ es) d → d.process ≡ p → d.number ≡ n → ⊥
        in_list d (zero, l, same) own num = (let yes : is_edit_of p n e ≡ true = edit_is e p n (ap (λ (z : PlainEdit). z.process) same ∙ own) (ap (λ (z : PlainEdit). z.number) same ∙ num) in cc)
        in_list d (suc j, l, same) own num = again t d (j, (omega arith), same) own num

counts_as : (es : List PlainEdit) (p n : ℕ) (how : Bool) → phase_among es p n ≡ phase_for how → CountsAs es p n how
counts_as es p n true is = counts_done es p n is
counts_as es p n false is = counts_not es p n is

spent_by : (w : PlainWorld) (p n word : ℕ) (how : Bool) → Tells word how → w.memory.persisted (place.Announce p) ≡ word → n ≡ word / 4 - 1 → IsSpent w p n
spent_by w p n word true t there is = let k = t.is in omega (arith, there, k, is)
spent_by w p n word false t there is = let k = t.is in omega (arith, there, k, is)

tells : (e : PlainRecoverCall) (how : Option Bool) (w : PlainWorld) (before : List (List PlainEdit)) → RecoveryFits w e.process (record e { stage = Answer how }) → RepeatsAs w e.process (end_of e how) → IsTrue w before e.process (Recovered (record e { stage = Answer how }) (end_of e how))
tells e None w before fits says = tt
tells e (Some how) w before fits says = record {
  spent = spent_by w e.process (number_of e) e.announcement how fits.resolved.2 fits.resolved.1 refl;
  holds = counts_as w.counted e.process (number_of e) how says.1;
}

module _ (key : SheetKey) where
  -- the process p is at a stage of its recovery
  abbrev pub here : SheetWorld → ℕ → PlainRecoverCall → Memory ℕ → RecoverStage → PlainWorld
  here w p f memory s = plain key (record { memory = memory; situation = put w.situation p (Recovering (record f { stage = s })); hidden = w.hidden })

  -- ... and is answered, where only that is left
  abbrev pub there : SheetWorld → ℕ → PlainRecoverCall → Memory ℕ → RecoverStage → SheetWorld
  there w p f memory s = record { memory = memory; situation = put w.situation p (recovery_doing f s); hidden = record w.hidden { open_edits = put w.hidden.open_edits p (open_edit_at (w.hidden.open_edits p) s) } }

  module _ (w : SheetWorld) (f : PlainRecoverCall) (memory : Memory ℕ) where
    pub same_open : w.hidden.open_edits ≡ put w.hidden.open_edits f.process (w.hidden.open_edits f.process)
    same_open = sym (λ i q. put_same w.hidden.open_edits f.process (w.hidden.open_edits f.process) refl q i)

    still : (s : RecoverStage) → RecoveryGoes s → IsWell (here w f.process f memory s) → Answers f.process (here w f.process f memory s) (plain key (there w f.process f memory s)) w.hidden.before_crashes []
    still s go well =
        let opens : w.hidden.open_edits ≡ (there w f.process f memory s).hidden.open_edits = same_open ∙ ap (put w.hidden.open_edits f.process) (sym (open_going (w.hidden.open_edits f.process) s go)) in
        let doing : Recovering (record f { stage = s }) ≡ recovery_doing f s = sym (doing_going f s go) in
        record {
          passed = subst (λ (z : Situation × (ℕ → Option PlainIssue)). Passed f.process (here w f.process f memory s) (plain key (record { memory = memory; situation = put w.situation f.process z.0; hidden = record w.hidden { open_edits = z.1 } }))) (λ i. (doing i, opens i))
              (passed_none f.process (here w f.process f memory s) well.sound (λ moving. subst IsMoving (put_here w.situation f.process (Recovering (record f { stage = s })) f.process refl) moving));
          tells = λ t none. absurd none;
        }

    -- the step that answers
    pub last_step : (how : Option Bool) → IsWell (here w f.process f memory (Answer how)) → f.process < key.layout.processes → Steps (record f { stage = Answer how }) 0 (here w f.process f memory (Answer how)) (plain key (there w f.process f memory (Answer how)))
    last_step how well low =
        let e : PlainRecoverCall = record f { stage = Answer how } in
        let old : PlainWorld = here w f.process f memory (Answer how) in
        let idle : Situation = Idle (second_rest (next_number f.announcement how)) in
        let at : old.situation f.process ≡ Recovering e = put_here w.situation f.process (Recovering e) f.process refl in
        let noted : rest_after e how ≡ second_rest (next_number f.announcement how) = knows (noted_second old f.edition well.second (subst (λ (z : Situation). LayoutFits old f.process z) at (well.sound.layouts f.process low))) in
        record {
          layout = refl;
          memory = (refl, record { cached = λ r. refl; persisted = λ r. refl; buffer = λ q. refl });
          situation = put_here w.situation f.process idle f.process refl ∙ ap Idle (sym noted);
          others = λ q n. put_else w.situation f.process idle q n ∙ sym (put_else w.situation f.process (Recovering e) q n);
          counted = refl;
          open_edits = put_here w.hidden.open_edits f.process None f.process refl;
          others_open_edits = λ q n. put_else w.hidden.open_edits f.process None q n;
        }
      where
        knows : f.edition ≡ Second → rest_after (record f { stage = Answer how }) how ≡ second_rest (next_number f.announcement how)
        knows is = ap (λ (d : Edition). (let r : Rest = record { number = next_number f.announcement how; edition = d } in r)) is

    answers : (how : Option Bool) → IsWell (here w f.process f memory (Answer how)) → f.process < key.layout.processes → Answers f.process (here w f.process f memory (Answer how)) (plain key (there w f.process f memory (Answer how))) w.hidden.before_crashes (recovery_says f (Answer how))
    answers how well low =
        let e : PlainRecoverCall = record f { stage = Answer how } in
        let old : PlainWorld = here w f.process f memory (Answer how) in
        let new : PlainWorld = plain key (there w f.process f memory (Answer how)) in
        let idle : Situation = Idle (second_rest (next_number f.announcement how)) in
        let at : old.situation f.process ≡ Recovering e = put_here w.situation f.process (Recovering e) f.process refl in
        let t : Steps e 0 old new = last_step how well low in
        record {
          passed = record { leaves = recovery_leaves e 0 old new well.sound low at t; version = le_refl _; rests = λ moving. subst IsMoving (put_here w.situation f.process idle f.process refl) moving };
          tells = λ u inside. elim inside [
            | inl is ↦ subst (λ (z : Response). IsTrue new w.hidden.before_crashes f.process z) is (same_told how (tells e how old w.hidden.before_crashes (laws.fits_of e old well.sound low at) (laws.repeated e how old well.sound low at refl)))
            | inr none ↦ absurd none
          ];
        }
      where
        same_told : (o : Option Bool) → IsTrue (here w f.process f memory (Answer how)) w.hidden.before_crashes f.process (Recovered (record f { stage = Answer how }) (end_of f o))
            → IsTrue (plain key (there w f.process f memory (Answer how))) w.hidden.before_crashes f.process (Recovered (record f { stage = Answer how }) (end_of f o))
        same_told None h = tt
        same_told (Some k) h = record { spent = h.spent; holds = h.holds }

    pub ends : (s : RecoverStage) → IsWell (here w f.process f memory s) → f.process < key.layout.processes → Answers f.process (here w f.process f memory s) (plain key (there w f.process f memory s)) w.hidden.before_crashes (recovery_says f s)
    ends (Answer how) well low = answers how well low
    ends s well low = still s tt well

  -- a step
  module _ (w : SheetWorld) (e : PlainRecoverCall) (m2 : Memory ℕ) (word : ℕ) (well : IsWell (plain key w)) (low : e.process < key.layout.processes) (at : w.situation e.process ≡ Recovering e) (go : RecoveryGoes e.stage)
      (performs : Performs (sheet.class_in key) (access_at key.layout (recovery.access_at e e.stage)) e.process w.memory m2 word) where
    abbrev f : PlainRecoverCall
    f = recovery.got_at e word

    abbrev mid : PlainWorld
    mid = here w e.process f m2 f.stage

    pub first_step : Steps e word (plain key w) mid
    first_step = record {
      layout = refl;
      memory = performed key (recovery.access_at e e.stage) e.process word w.memory m2 (laws.accesses e (plain key w) well.sound low at) performs;
      situation = put_here w.situation e.process (Recovering f) e.process refl ∙ sym (after_going e e.stage word go);
      others = λ q n. put_else w.situation e.process (Recovering f) q n;
      counted = refl;
      open_edits = sym (open_going (w.hidden.open_edits e.process) e.stage go);
      others_open_edits = λ q n. refl;
    }

    pub first : Passed e.process (plain key w) mid
    first = record {
      leaves = recovery_leaves e word (plain key w) mid well.sound low at first_step;
      version = version_grows (plain key w) mid.memory e.process (recovery.access_at e e.stage) word well.sound low first_step.memory;
      rests = λ moving. subst IsMoving (put_here w.situation e.process (Recovering f) e.process refl) moving;
    }

    pub recovery_step : Answers e.process (plain key w) (plain key (there w e.process f m2 f.stage)) w.hidden.before_crashes (recovery_says f f.stage)
    recovery_step =
        let own : f.process ≡ e.process = (next_same e e.stage word).process in
        let each : IsWell (here w e.process f m2 f.stage) → e.process < key.layout.processes → Answers e.process mid (plain key (there w e.process f m2 f.stage)) w.hidden.before_crashes (recovery_says f f.stage) =
        subst (λ (p : ℕ). IsWell (here w p f m2 f.stage) → p < key.layout.processes → Answers p (here w p f m2 f.stage) (plain key (there w p f m2 f.stage)) w.hidden.before_crashes (recovery_says f f.stage)) own (ends w f m2 f.stage) in
        let last = each (well_on e.process (plain key w) mid first well) low in
        record { passed = passed_on e.process (plain key w) mid (plain key (there w e.process f m2 f.stage)) first last.passed; tells = last.tells }

  pub recoveries_step : KindSteps sheet key recoveries
  recoveries_step w e m2 word well low at fits go performs =
      let f : PlainRecoverCall = recovery.got_at e word in
      let is : w.situation e.process ≡ Recovering e = at ∙ doing_going e e.stage go in
      let kept : stepped key w.memory w.hidden (w.situation e.process) ≡ recovered w.hidden e word =
      ap (stepped key w.memory w.hidden) is ∙ ap (recovered w.hidden e) (sym (answer_found (sheet.class_in key) (access_at key.layout (recovery.access_at e e.stage)) e.process word w.memory m2 performs)) in
      subst (λ (l : Ledger). GoesTelling sheet key w (record { memory = m2; situation = put w.situation e.process (recovery_doing f f.stage); hidden = l }) e.process (recovery_says f f.stage)) (sym kept)
      (goes_telling key w (there w e.process f m2 f.stage) e.process (recovery_says f f.stage) well refl (recovery_step w e m2 word well low is go performs))

  -- ---- the beginning

  abbrev pub began : SheetWorld → ℕ → SheetWorld
  began w p = after_begin sheet key w p (Recovering (fresh p (cells_of key.layout) key.layout.processes))

  pub begins_so : (w : SheetWorld) (p : ℕ) → IsWell (plain key w) → MayRecover (w.situation p) → IsBegun (plain key w) p (plain key (began w p))
  begins_so w p well free =
      let now : Situation = Recovering (fresh p (cells_of key.layout) key.layout.processes) in
      record {
        free = free;
        alone = λ q inside other. well.second.settled q inside;
        begins = record {
          layout = refl;
          memory = record { cached = λ r. refl; persisted = λ r. refl; buffer = λ q. refl };
          situation = put_here w.situation p now p refl;
          others = λ q n. put_else w.situation p now q n;
          counted = refl;
          open_edits = λ q. refl;
        };
      }

  recovery_begins : (w : SheetWorld) (p : ℕ) → IsWell (plain key w) → p < key.layout.processes → MayRecover (w.situation p) → Goes sheet key w (after_begin sheet key w p (Recovering (fresh p (cells_of key.layout) key.layout.processes)))
  recovery_begins w p well low free =
      let now : Situation = Recovering (fresh p (cells_of key.layout) key.layout.processes) in
      let new : SheetWorld = after_begin sheet key w p now in
      let t = begins_so w p well free in
      goes key w new p well refl (record {
        leaves = begin_leaves p (plain key w) (plain key new) well.sound low t;
        version = le_refl _;
        rests = λ moving. subst IsMoving (put_here w.situation p now p refl) moving;
      })

  pub recoveries_begin : KindBegins sheet key recoveries
  recoveries_begin w e well low fits go may =
      subst (λ (z : Situation). Goes sheet key w (after_begin sheet key w e.process z)) (ap Recovering (sym may.fresh) ∙ sym (doing_going e e.stage go)) (recovery_begins w e.process well low may.free)

  -- a stopped process has an empty buffer
  pub stopped_buffer : (w : SheetWorld) (p : ℕ) → IsWell (plain key w) → p < key.layout.processes → w.situation p ≡ Stopped → w.memory.buffer p ≡ []
  stopped_buffer w p well low at =
      let fits : StoppedFits (plain key w) p = subst (λ (s : Situation). CallFits (plain key w) p s) at (well.sound.calls p low) in
      nothing_kept key.layout (w.memory.buffer p) fits.buffer

  free_buffer : (w : SheetWorld) (p : ℕ) → IsWell (plain key w) → p < key.layout.processes → (s : Situation) → w.situation p ≡ s → MayRecover s → w.memory.buffer p ≡ []
  free_buffer w p well low (Idle next) at free = idle_buffer key w p next well low at
  free_buffer w p well low Stopped at free = stopped_buffer w p well low at
  free_buffer w p well low (Editing e) at free = absurd free
  free_buffer w p well low (Working e) at free = absurd free
  free_buffer w p well low (Recovering e) at free = absurd free
  free_buffer w p well low (Showing e) at free = absurd free
  free_buffer w p well low (Migrating e) at free = absurd free

  pub recoveries_hold : AreCalls sheet key recoveries
  recoveries_hold = record {
    begins = λ w e well low fits go may. (begins_recovery (record { call = e; fits = fits; goes = go; own = refl; may = may; lands = refl }), free_buffer w e.process well low (w.situation e.process) refl may.free);
    serves = λ w e well low at fits go. serves key (recovery.access_at e e.stage) e.process w.memory (laws.accesses e (plain key w) well.sound low (at ∙ doing_going e e.stage go));
    steps = λ e answer fits go. steps_recovery (record { call = e; fits = fits; goes = go; own = refl; at = refl; asks = refl; lands = refl; tells = refl });
    process = λ e answer. (next_same e e.stage answer).process;
    apart = λ e end go over. subst RecoveryGoes over.1 go;
  }

-- ---- one step

falls_going : (e f : PlainRecoverCall) (s : RecoverStage) → RecoveryGoes s → recovery.Falls e s f → recovery.rank e.cells f.stage < recovery.rank e.cells s
falls_going e f (Answer how) g h = absurd g
falls_going e f _ g h = h

-- a step of a recovery leaves fewer steps
pub fewer_left : (e f : PlainRecoverCall) (word : ℕ) → f ≡ recovery.got_at e word → IsRecovery e → RecoveryGoes e.stage → recovery.rank f.cells f.stage < recovery.rank e.cells e.stage
fewer_left e f word is good go =
    let h : recovery.rank e.cells (recovery.got_at e word).stage < recovery.rank e.cells e.stage = falls_going e (recovery.got_at e word) e.stage go (each_falls e word good) in
    subst (λ (z : ℕ × RecoverStage). recovery.rank z.0 z.1 < recovery.rank e.cells e.stage) (λ i. (sym (ap (λ (z : PlainRecoverCall). z.cells) is ∙ (next_same e e.stage word).cells) i, sym (ap (λ (z : PlainRecoverCall). z.stage) is) i)) h

-- a recovery of the sheet is one of it after its step, too
pub fits_still : (layout : Layout) (e f : PlainRecoverCall) (word : ℕ) → f ≡ recovery.got_at e word → IsRecovery f → IsRecoveryOn layout e → IsRecoveryOn layout f
fits_still layout e f word is good on = record {
  is = good;
  cells = on.cells ∙ sym (ap (λ (z : PlainRecoverCall). z.cells) is ∙ (next_same e e.stage word).cells);
  processes = on.processes ∙ sym (ap (λ (z : PlainRecoverCall). z.processes) is ∙ (next_same e e.stage word).processes);
}
