-- A run is made event by event.
use Rattle.std.proofs.Common.{ℕ, ◌≡◌, ◌≤◌, ◌+◌, List, [], ◌∷◌, refl, sym, ◌∙◌, subst, arith, zero, suc, length, Some}
use Rattle.ds_formula.specs.declared.cells.Shape.{Shape}
use Rattle.ds_state.specs.Value.{WorldValue, world_of}
use Rattle.ds_core.specs.Takes.{Takes}
use Rattle.ds_core.specs.Moments.{Ledger, Moment, MomentFits, empty_ledger}
use Rattle.ds_core.specs.LedgerSteps.{WordsMove, LedgerMoves}
use Rattle.ds_core.specs.Headline.{Happens, ReportsFit, WorksFit, ForgottenFit, RunFits}
use Rattle.ds_core.specs.declared.event.Event.{Event}
use Rattle.ds_core.specs.declared.reply.Reply.{Reply}

-- one event, from moment to moment
pub record StepFits (place : ℕ) (shape : Shape) (m : Moment) (event : Event) (reply : Reply) (n : Moment) : Type 0 where
  pub layout : n.world.sheet.layout ≡ m.world.sheet.layout
  pub takes : Takes m.world event reply n.world
  pub words : WordsMove (world_of m.world).memory event reply (world_of n.world).memory
  pub ledger : LedgerMoves place shape m.ledger event reply n.ledger

-- from a ledger and a place on
pub record RunOn (place : ℕ) (shape : Shape) (ledger : Ledger) (old : WorldValue) (events : List Event) (replies : List Reply) (new : WorldValue) : Type 0 where
  pub moment : ℕ → Moment
  pub first : moment 0 ≡ record { world = old; ledger = ledger }
  pub last : (moment (length events)).world ≡ new
  pub answered : length replies ≡ length events
  pub layouts : (i : ℕ) → i ≤ length events → (moment i).world.sheet.layout ≡ old.sheet.layout
  pub steps : (i : ℕ) (event : Event) (reply : Reply) → Happens events replies i event reply → StepFits (place + i) shape (moment i) event reply (moment (i + 1))
  pub fits : (i : ℕ) → i ≤ length events → MomentFits (moment i)

-- no events lead on from a moment that fits
unfoldable pub nothing_on : (place : ℕ) (shape : Shape) (ledger : Ledger) (old new : WorldValue) → new ≡ old → MomentFits (record { world = old; ledger = ledger }) → RunOn place shape ledger old [] [] new
nothing_on place shape ledger old new same fits = record {
  moment = λ i. record { world = old; ledger = ledger };
  first = refl;
  last = sym same;
  answered = refl;
  layouts = λ i lt. refl;
  steps = λ i event reply happens. absurd (let none = happens.event_is in cc);
  fits = λ i lt. fits;
}

abbrev pub shifted : Moment → (ℕ → Moment) → ℕ → Moment
shifted m f zero = m
shifted m f (suc i) = f i

module _ (place : ℕ) (shape : Shape) (ledger : Ledger) (old : WorldValue) (event : Event) (reply : Reply) (events : List Event) (replies : List Reply) (mid new : WorldValue) (next : Ledger) (fits : MomentFits (record { world = old; ledger = ledger })) (step : StepFits place shape (record { world = old; ledger = ledger }) event reply (record { world = mid; ledger = next })) (rest : RunOn (place + 1) shape next mid events replies new) where
  abbrev start : Moment
  start = record { world = old; ledger = ledger }

  abbrev moments : ℕ → Moment
  moments = shifted start rest.moment

  pub layouts_on : (i : ℕ) → i ≤ length (event ∷ events) → (moments i).world.sheet.layout ≡ old.sheet.layout
  layouts_on zero lt = refl
  layouts_on (suc i) lt = rest.layouts i (omega arith) ∙ step.layout

  pub fits_on : (i : ℕ) → i ≤ length (event ∷ events) → MomentFits (moments i)
  fits_on zero lt = fits
  fits_on (suc i) lt = rest.fits i (omega arith)

  first_step : StepFits place shape start event reply (rest.moment 0)
  first_step = subst (λ (m : Moment). StepFits place shape start event reply m) (sym rest.first) step

  one_event : (x y : Event) → Some x ≡ Some y → x ≡ y
  one_event x y is = cc

  one_reply : (x y : Reply) → Some x ≡ Some y → x ≡ y
  one_reply x y is = cc

  pub steps_on : (i : ℕ) (e : Event) (r : Reply) → Happens (event ∷ events) (reply ∷ replies) i e r → StepFits (place + i) shape (moments i) e r (moments (i + 1))
  steps_on zero e r happens =
      let here : place ≡ place + 0 = omega arith in
      subst (λ n. StepFits n shape start e r (moments 1)) here
      (subst (λ (x : Event). StepFits place shape start x r (moments 1)) (one_event event e happens.event_is)
      (subst (λ (x : Reply). StepFits place shape start event x (moments 1)) (one_reply reply r happens.reply_is) first_step))
  steps_on (suc i) e r happens =
      let there : place + 1 + i ≡ place + suc i = omega arith in
      let after : suc (i + 1) ≡ suc i + 1 = omega arith in
      subst (λ n. StepFits n shape (rest.moment i) e r (moments (suc i + 1))) there
      (subst (λ n. StepFits (place + 1 + i) shape (rest.moment i) e r (moments n)) after
      (rest.steps i e r (record { event_is = happens.event_is; reply_is = happens.reply_is })))

  unfoldable pub event_on : RunOn place shape ledger old (event ∷ events) (reply ∷ replies) new
  event_on = record {
    moment = moments;
    first = refl;
    last = rest.last;
    answered = (let same = rest.answered in omega arith);
    layouts = layouts_on;
    steps = steps_on;
    fits = fits_on;
  }

module _ (old : WorldValue) (events : List Event) (replies : List Reply) (new : WorldValue) (run : RunOn 0 old.sheet.layout.shape empty_ledger old events replies new) where
  pub at_place : (k : ℕ) (event : Event) (reply : Reply) → Happens events replies k event reply → StepFits k old.sheet.layout.shape (run.moment k) event reply (run.moment (k + 1))
  at_place k event reply happens = let same : 0 + k ≡ k = omega arith in subst (λ n. StepFits n old.sheet.layout.shape (run.moment k) event reply (run.moment (k + 1))) same (run.steps k event reply happens)

  -- from the empty ledger on, a run fits whose shows and works do, and whose forgotten edits were not announced
  unfoldable pub fits_all : ReportsFit run.moment events replies → WorksFit run.moment events replies → ForgottenFit run.moment events replies → RunFits old events replies new
  fits_all reports works forgotten = record {
    moment = run.moment;
    first = run.first;
    last = run.last;
    answered = run.answered;
    layout = run.layouts;
    takes = λ k event reply happens. (at_place k event reply happens).takes;
    words = λ k event reply happens. (at_place k event reply happens).words;
    ledger = λ k event reply happens. (at_place k event reply happens).ledger;
    fits = run.fits;
    reports = reports;
    works = works;
    forgotten = forgotten;
  }
