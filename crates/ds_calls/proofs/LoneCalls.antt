-- A whole work that is alone: what it leaves.
use Rattle.std.proofs.Common.{ℕ, ◌≡◌, ◌<◌, refl, ap, sym, ◌∙◌, subst, List}
use Rattle.ds_work.specs.WorkSteps.{rest_of}
use Rattle.ds_state.specs.declared.situation.Rest.{Rest}
use Rattle.ds_layout.specs.declared.place.Place.TheVariants.{Index}
use Rattle.ds_state.specs.Works.{PlainWorkCall, PlainShowCall, PlainRecoverCall, PlainMigrateCall}
use Rattle.ds_state.specs.Edits.{PlainEditCall}
use Rattle.ds_state.specs.World.{PlainWorld}
use Rattle.ds_state.specs.Value.{WorldValue, world_of, IsGood}
use Rattle.ds_state.specs.KnownWork.{WorkFits}
use Rattle.ds_state.specs.CallsFit.{CallFits}
use Rattle.ds_state.specs.Sound.{IsSound}
use Rattle.ds_state.specs.declared.situation.Situation.{Situation}
use Rattle.ds_state.specs.declared.situation.Situation.TheVariants.{Idle, Editing, Working, Recovering, Showing, Migrating}
use Rattle.ds_state.specs.declared.work.WorkEnd.{WorkEnd}
use Rattle.ds_state.specs.declared.work.WorkStage.{WorkStage}
use Rattle.ds_state.specs.declared.work.WorkStage.TheVariants as stages
use Rattle.ds_state.specs.declared.turn.Turn.{Turn}
use Rattle.ds_state.specs.declared.turn.Turn.TheVariants as taken
use Rattle.ds_work.specs.WorkAnswers.{mark_now}
use Rattle.ds_work.specs.WorkShows.{shown_in, EndsShowing, ShowsAt}
use Rattle.ds_work.specs.WorkAlone.{IsAloneAt, IsAlone, EndsAlone, GoesAlone}
use Rattle.ds_work.proofs.WorkAlone.{turn_alone, offer_alone}
use Rattle.ds_state.specs.declared.answer.Answer.{Answer}
use Rattle.ds_state.specs.declared.answer.Answer.TheVariants.{Work}
use Rattle.ds_core.specs.StepEvents.{StepsBy, edits, works, reports, recoveries, migrations}
use Rattle.ds_core.specs.Takes.{Fits}
use Rattle.ds_core.specs.WorkEvents.{work_reply, WorkStepsBy, TakesEntry}
use Rattle.ds_core.specs.declared.event.Event.{Event}
use Rattle.ds_core.specs.declared.reply.Reply.{Reply}
use Rattle.ds_core.specs.declared.reply.Reply.TheVariants.{Stepped, Answered}
use Rattle.ds_calls.specs.Wanted.{wants, wanted, wanted_at, evaluated}
use Rattle.ds_calls.specs.Whole.{Goes, stays, goes, Finishes}
use Rattle.ds_calls.specs.Lone.{AreIdle}
use Rattle.ds_calls.proofs.Leaving.{EndLeaves, LeavesAt, Since, IsGiven}
use Rattle.ds_calls.proofs.LoneTurns.{OthersIdle, LeavesAfter, given_now, since_turn, since_offer, turn_leaves, offer_leaves}

abbrev row_in : PlainWorld → ℕ → ℕ → ℕ
row_in w c part = w.memory.cached (Index c part)

-- ---- under way

-- the process's work on the cell is under way, alone since the first world
pub record Under (first : PlainWorld) (p c : ℕ) (v : WorldValue) : Type 0 where
  pub work : PlainWorkCall
  pub mine : work.process ≡ p
  pub of_cell : work.cell ≡ c
  pub at : (world_of v).situation p ≡ Working work
  pub there : p < v.sheet.layout.processes
  pub alone : IsAlone (row_in first c) (shown_in first c) (world_of v) work
  pub since : Since first (world_of v) p c
  pub leaves : LeavesAt first (world_of v) work work.stage

-- the process's work on the cell has ended so
pub record Over (first : PlainWorld) (p c : ℕ) (answer : Answer) (v : WorldValue) : Type 0 where
  pub end : WorkEnd
  pub is : answer ≡ Work end
  pub work : PlainWorkCall
  pub of_cell : work.cell ≡ c
  pub so : EndsAlone (row_in first c) (world_of v) work end
  pub showing : EndsShowing (shown_in first c) (shown_in (world_of v) c) end
  pub since : Since first (world_of v) p c
  pub leaves : EndLeaves first (world_of v) c end
  pub n : Rest
  pub idle : (world_of v).situation p ≡ Idle n

module _ (first : PlainWorld) (p c : ℕ) (all : AreIdle first) (old new : WorldValue) (sound : IsSound (world_of old)) (u : Under first p c old) where
  others_at : (q : ℕ) → q ≡ p → OthersIdle (world_of old) q
  others_at q same = λ r l other. (
      let away : r ≡ p → ⊥ = λ is. other (is ∙ sym same) in
      let idle = all.each r (subst (λ y. r < y.processes) u.since.layout l) in
      (idle.0, u.since.others r away ∙ idle.1))

  same_work : (q : ℕ) (f : PlainWorkCall) → q ≡ p → (world_of old).situation q ≡ Working f → f ≡ u.work
  same_work q f same is = let one : Working f ≡ Working u.work = sym is ∙ ap (λ x. (world_of old).situation x) same ∙ u.at in cc

  no_edit : (f : PlainEditCall) → (world_of old).situation p ≡ Editing f → ⊥
  no_edit f is = let bad : Editing f ≡ Working u.work = sym is ∙ u.at in cc

  no_show : (f : PlainShowCall) → (world_of old).situation p ≡ Showing f → ⊥
  no_show f is = let bad : Showing f ≡ Working u.work = sym is ∙ u.at in cc

  no_migration : (f : PlainMigrateCall) → (world_of old).situation p ≡ Migrating f → ⊥
  no_migration f is = let bad : Migrating f ≡ Working u.work = sym is ∙ u.at in cc

  no_recovery : (f : PlainRecoverCall) → (world_of old).situation p ≡ Recovering f → ⊥
  no_recovery f is = let bad : Recovering f ≡ Working u.work = sym is ∙ u.at in cc

  -- what is known of the work, by any name
  module _ (e : PlainWorkCall) (one : e ≡ u.work) where
    its : e.process ≡ p
    its = ap (λ (x : PlainWorkCall). x.process) one ∙ u.mine

    cell_is : e.cell ≡ c
    cell_is = ap (λ (x : PlainWorkCall). x.cell) one ∙ u.of_cell

    here : (world_of old).situation e.process ≡ Working e
    here = ap (λ q. (world_of old).situation q) its ∙ u.at ∙ ap (λ x. Working x) (sym one)

    low : e.process < old.sheet.layout.processes
    low = subst (λ q. q < old.sheet.layout.processes) (sym its) u.there

    fits : WorkFits (world_of old) e.process e
    fits = subst (λ (x : Situation). CallFits (world_of old) e.process x) here (sound.calls e.process low)

    alone : IsAlone (row_in first c) (shown_in first c) (world_of old) e
    alone = subst (λ (x : PlainWorkCall). IsAlone (row_in first c) (shown_in first c) (world_of old) x) (sym one) u.alone

    since : Since first (world_of old) e.process e.cell
    since = subst (λ q. Since first (world_of old) q e.cell) (sym its) (subst (λ d. Since first (world_of old) p d) (sym cell_is) u.since)

    since_back : Since first (world_of new) e.process e.cell → Since first (world_of new) p c
    since_back h = subst (λ q. Since first (world_of new) q c) its (subst (λ d. Since first (world_of new) e.process d) cell_is h)

    leaves : LeavesAt first (world_of old) e e.stage
    leaves = subst (λ (x : PlainWorkCall). LeavesAt first (world_of old) x x.stage) (sym one) u.leaves

    goes_on : GoesAlone (row_in first c) (shown_in first c) e (world_of new) taken.GoesOn → Since first (world_of new) e.process e.cell → LeavesAfter first e (world_of new) taken.GoesOn → Under first p c new
    goes_on g s l =
        let same : Working l.0 ≡ Working g.0 = sym l.1 ∙ g.3 in
        let f : l.0 ≡ g.0 = cc in
        record {
          work = g.0;
          mine = g.2 ∙ its;
          of_cell = g.1 ∙ cell_is;
          at = ap (λ q. (world_of new).situation q) (sym its) ∙ g.3;
          there = subst (λ y. p < y.processes) (sym (s.layout ∙ sym u.since.layout)) u.there;
          alone = g.4;
          since = since_back s;
          leaves = subst (λ (x : PlainWorkCall). LeavesAt first (world_of new) x x.stage) f l.2;
        }

    ends_so : (end : WorkEnd) (answer : Answer) → answer ≡ Work end → GoesAlone (row_in first c) (shown_in first c) e (world_of new) (taken.Answers end) → Since first (world_of new) e.process e.cell → LeavesAfter first e (world_of new) (taken.Answers end) → Over first p c answer new
    ends_so end answer is g s l = record {
      end = end;
      is = is;
      work = e;
      of_cell = cell_is;
      so = g.1;
      showing = subst (λ d. EndsShowing (shown_in first c) (shown_in (world_of new) d) end) cell_is g.2;
      since = since_back s;
      leaves = subst (λ d. EndLeaves first (world_of new) d end) cell_is l;
      n = rest_of e;
      idle = ap (λ q. (world_of new).situation q) (sym its) ∙ g.0;
    }

  -- ---- a step

  module _ (reply : Reply) (h : WorkStepsBy old p reply new) where
    one : h.steps.work ≡ u.work
    one = same_work p h.steps.work refl h.steps.works

    turned : GoesAlone (row_in first c) (shown_in first c) h.steps.work (world_of new) h.what
    turned = turn_alone (row_in first c) (shown_in first c) h.steps.work (world_of old) (world_of new) sound (low h.steps.work one) (here h.steps.work one) h.steps.is (alone h.steps.work one) h.what h.steps.turn

    since_so : Since first (world_of new) h.steps.work.process h.steps.work.cell
    since_so = since_turn first h.steps.work (world_of old) (world_of new) h.what h.steps.turn (since h.steps.work one)

    leaves_so : LeavesAfter first h.steps.work (world_of new) h.what
    leaves_so = turn_leaves first h.steps.work (world_of old) (world_of new) (fits h.steps.work one) h.steps.is h.what h.steps.turn (leaves h.steps.work one)

    stepped : (what : Turn WorkEnd) → Stepped ≡ work_reply what → GoesAlone (row_in first c) (shown_in first c) h.steps.work (world_of new) what → LeavesAfter first h.steps.work (world_of new) what → Under first p c new
    stepped taken.GoesOn is g l = goes_on h.steps.work one g since_so l
    stepped (taken.Answers end) is g l = absurd (cc)

    answered : (what : Turn WorkEnd) (answer : Answer) → Answered answer ≡ work_reply what → GoesAlone (row_in first c) (shown_in first c) h.steps.work (world_of new) what → LeavesAfter first h.steps.work (world_of new) what → Over first p c answer new
    answered (taken.Answers end) answer is g l = ends_so h.steps.work one end answer (let same : answer ≡ Work end = cc in same) g since_so l
    answered taken.GoesOn answer is g l = absurd (cc)

  step_goes : StepsBy old p Stepped new → Under first p c new
  step_goes (works h) = stepped Stepped h h.what h.is (turned Stepped h) (leaves_so Stepped h)
  step_goes (edits h) = absurd (no_edit h.steps.edit h.steps.at)
  step_goes (reports h) = absurd (no_show h.steps.show h.steps.at)
  step_goes (recoveries h) = absurd (no_recovery h.steps.recovery h.steps.at)
  step_goes (migrations h) = absurd (no_migration h.steps.migration h.steps.at)

  pub step_ends : (answer : Answer) → StepsBy old p (Answered answer) new → Over first p c answer new
  step_ends answer (works h) = answered (Answered answer) h h.what answer h.is (turned (Answered answer) h) (leaves_so (Answered answer) h)
  step_ends answer (edits h) = absurd (no_edit h.steps.edit h.steps.at)
  step_ends answer (reports h) = absurd (no_show h.steps.show h.steps.at)
  step_ends answer (recoveries h) = absurd (no_recovery h.steps.recovery h.steps.at)
  step_ends answer (migrations h) = absurd (no_migration h.steps.migration h.steps.at)

  -- ---- an offer

  offer_goes : TakesEntry old (evaluated old.sheet.layout.shape u.work) new → Under first p c new
  offer_goes h =
      let o = h.offered in
      let e : PlainWorkCall = o.work in
      let value = evaluated old.sheet.layout.shape u.work in
      let one : e ≡ u.work = same_work u.work.process e u.mine o.waits.works in
      let a : IsAlone (row_in first c) (shown_in first c) (world_of old) e = alone e one in
      let mark : mark_now (world_of old) e ≡ e.mark = subst (λ (s : WorkStage). IsAloneAt (row_in first c) (world_of old) e s) o.waits.waits a.at in
      let shows = subst (λ (s : WorkStage). ShowsAt (shown_in first c) (shown_in (world_of old) e.cell) e s) o.waits.waits a.shows in
      let own : shown_in (world_of old) e.cell ≡ shown_in first e.cell = shows.1 ∙ ap (λ d. shown_in first d) (sym (cell_is e one)) in
      let given : IsGiven first e.cell value.entry =
      given_now first (world_of old) e sound (fits e one) (here e one) (others_at e.process (its e one)) o.waits.waits mark (since e one) own value.entry o.offers.is in
      goes_on e one
      (offer_alone (row_in first c) (shown_in first c) e (world_of old) (world_of new) a value.entry o.waits.waits o.offers.turn)
      (since_offer first e (world_of old) (world_of new) value.entry o.offers (since e one))
      (Rattle.ds_work.specs.WorkSteps.offered e value.entry, o.offers.turn.situation, offer_leaves first e (world_of old) (world_of new) value.entry o.waits.waits o.offers given (leaves e one))

  -- ---- the event that it wants

  by_stage : (s : WorkStage) → u.work.stage ≡ s → Fits old (wanted_at p old.sheet.layout.shape u.work s) Stepped new → Under first p c new
  by_stage stages.Wait is fits = offer_goes fits.takes
  by_stage s is fits = step_goes fits.takes

  pub event_goes : Fits old (wants old p) Stepped new → Under first p c new
  event_goes fits = by_stage u.work.stage refl (subst (λ (event : Event). Fits old event Stepped new) (ap (λ (s : Situation). wanted p old.sheet.layout.shape s) u.at) fits)

-- ---- over a call

-- a work under way in a good world
pub record GoodUnder (first : PlainWorld) (p c : ℕ) (v : WorldValue) : Type 0 where
  pub good : IsGood v
  pub under : Under first p c v

run_goes : (first : PlainWorld) (p c : ℕ) → AreIdle first → (begun : WorldValue) (events : List Event) (replies : List Reply) (new : WorldValue) → GoodUnder first p c begun → Goes p begun events replies new → GoodUnder first p c new
run_goes first p c all begun events replies new g stays = g
run_goes first p c all begun events replies new g (goes es rs old n so_far fits) =
    let k = run_goes first p c all begun es rs old g so_far in
    record { good = fits.good; under = event_goes first p c all old new k.good.sound k.under fits }

-- work that is alone and under way leaves, once it is driven to its end, what such work leaves
pub call_ends : (first : PlainWorld) (p c : ℕ) → AreIdle first → (begun : WorldValue) (answer : Answer) (new : WorldValue) → GoodUnder first p c begun → Finishes p begun answer new → Over first p c answer new
call_ends first p c all begun answer new g f =
    let k = run_goes first p c all begun f.events f.replies f.last g f.goes in
    step_ends first p c all f.last new k.good.sound k.under answer f.answers.takes
