-- Each history is a run.
use Rattle.std.proofs.Common.{ℕ, ◌≡◌, ◌≤◌, ◌<◌, ◌+◌, List, [], ◌∷◌, ◌++◌, length, length-append, refl, sym, ap, subst, ◌∙◌, arith}
use Rattle.std.proofs.lemmas.List.{length-replicate}
use Rattle.ds_layout.specs.Places.{cells_of}
use Rattle.ds_state.specs.World.{PlainWorld}
use Rattle.ds_state.specs.Fresh.{IsNew}
use Rattle.ds_state.specs.Reports.{no_reports}
use Rattle.ds_state.specs.Sound.{IsSound}
use Rattle.ds_state.specs.Underway.{reports_in, shows_under_way}
use Rattle.ds_state.specs.Value.{WorldValue, world_of, IsGood, first_rest}
use Rattle.ds_state.specs.declared.situation.Situation.TheVariants.{Idle}
use Rattle.ds_state.specs.declared.reports.TheConstants.{SETTLED_MOST}
use Rattle.ds_state.proofs.Underway.{none_where}
use Rattle.ds_core.specs.Takes.{WorldRun}
use Rattle.ds_core.proofs.EachRun.{runs_have_headline}
use Rattle.ds_shared_runs.specs.History.{Happened, Run, Stood, IsTidy, IsStanding, Moves}
use Rattle.ds_shared_runs.specs.Runs.{events_of, replies_of, begun_in, begun_by, IsRun}
use Rattle.ds_shared_runs.proofs.Values.{tab_length, tab_low, value_on, value_is}
use Rattle.ds_shared_runs.specs.declared.history.CallEvent.{CallEvent}
use Rattle.pm_base.specs.Structures.{In}
use Rattle.ds_shared_runs.specs.History.{answered_from}
use Rattle.ds_shared_runs.specs.CallEvents.{StandsAt}
use Rattle.ds_shared_runs.proofs.Answered.{run_more, answered_last, answered_still}
use Rattle.ds_shared_runs.proofs.Events.{Advanced, advances}

events_length : (hs : List Happened) → length (events_of hs) ≡ length hs
events_length [] = refl
events_length (h ∷ hs) = let n = events_length hs in let l = length-append (events_of hs) (h.event ∷ []) in omega (arith, n, l)

none_there : (since until : List Happened) (h : Happened) → [] ≡ since ++ h ∷ until → ⊥
none_there [] until h is = cc
none_there (y ∷ ys) until h is = cc

-- so far
record SoFar (first : PlainWorld) (hs : List Happened) (last : PlainWorld) : Type 0 where
  old : WorldValue
  new : WorldValue
  fresh : IsNew (world_of old)
  good : IsGood old
  run : WorldRun old (events_of hs) (replies_of hs) new
  first_is : world_of old ≡ first
  last_is : world_of new ≡ last
  good_now : IsGood new
  few : new.settled + shows_under_way new.situations ≤ begun_in hs
  call_events : (since until : List Happened) (h : Happened) (p : ℕ) (t : CallEvent) → hs ≡ since ++ h ∷ until → In (answered_from p h.before h.event h.reply) t → StandsAt old (events_of hs) (replies_of hs) new run p t (length until)

-- a new sheet
begins : (w : PlainWorld) → IsNew w → IsStanding w → SoFar w [] w
begins w new standing =
    let t : IsTidy w = standing.tidy in
    let v : WorldValue = value_on w t 0 0 (no_reports w.layout.processes (cells_of w.layout)) in
    let none : shows_under_way v.situations ≡ 0 = none_where v.situations (Idle first_rest) (λ p low. (let l = tab_length w.situation w.layout.processes in let in_sheet : p < w.layout.processes = omega (arith, l, low) in
    ap reports_in (tab_low w.situation w.layout.processes (Idle first_rest) p in_sheet ∙ new.situation p in_sheet))) in
    let good : IsGood v = record {
      sound = subst IsSound (sym (value_is w t 0 0 (no_reports w.layout.processes (cells_of w.layout)))) standing.sound;
      situations = tab_length w.situation w.layout.processes;
      open_edits = tab_length w.open_edits w.layout.processes;
      reports = record { cells = refl; processes = length-replicate w.layout.processes [] };
      answered = record { closed = []; as_many = refl; once = tt; count = λ e none. absurd (let l = none.1 in omega (arith, l)); answered = λ e issue none at is. absurd (let l = none.1 in omega (arith, l)) };
      counts = omega (arith, none);
    } in record {
      old = v;
      new = v;
      fresh = subst IsNew (sym (value_is w t 0 0 (no_reports w.layout.processes (cells_of w.layout)))) new;
      good = good;
      run = refl;
      first_is = value_is w t 0 0 (no_reports w.layout.processes (cells_of w.layout));
      last_is = value_is w t 0 0 (no_reports w.layout.processes (cells_of w.layout));
      good_now = good;
      few = omega (arith, none);
      call_events = λ since until h p t is here. absurd (none_there since until h is);
    }

goes_on : (first last : PlainWorld) (h : Happened) (hs : List Happened) → SoFar first hs h.before → Moves h.before h.event h.reply last → IsStanding h.before → IsStanding last → begun_in hs + begun_by h.event ≤ SETTLED_MOST → SoFar first (h ∷ hs) last
goes_on first last h hs s m stood standing few =
    let m' : Moves (world_of s.new) h.event h.reply last = subst (λ (z : PlainWorld). Moves z h.event h.reply last) (sym s.last_is) m in
    let so_many = s.few in
    let a : Advanced s.new h.event h.reply last = advances s.new s.good_now last standing h.event h.reply m' (omega (arith, so_many, few)) in
    let more = a.few in record {
      old = s.old;
      new = a.next;
      fresh = s.fresh;
      good = s.good;
      run = run_more s.old s.new a.next (events_of hs) h.event (replies_of hs) h.reply s.run a.fits;
      first_is = s.first_is;
      last_is = a.is;
      good_now = a.fits.good;
      few = omega (arith, so_many, more);
      call_events = answered_so a;
    }
  where
    answered_so : (a : Advanced s.new h.event h.reply last) → (since until : List Happened) (x : Happened) (p : ℕ) (t : CallEvent) → h ∷ hs ≡ since ++ x ∷ until → In (answered_from p x.before x.event x.reply) t
        → StandsAt s.old (events_of (h ∷ hs)) (replies_of (h ∷ hs)) a.next (run_more s.old s.new a.next (events_of hs) h.event (replies_of hs) h.reply s.run a.fits) p t (length until)
    answered_so a [] until x p t is here =
        let first_is : h ≡ x = cc in
        let rest_is : hs ≡ until = cc in
        let long : length (events_of hs) ≡ length until = events_length hs ∙ ap length rest_is in
        subst (StandsAt s.old (events_of (h ∷ hs)) (replies_of (h ∷ hs)) a.next (run_more s.old s.new a.next (events_of hs) h.event (replies_of hs) h.reply s.run a.fits) p t) long
        (answered_last s.old s.new a.next (events_of hs) (replies_of hs) s.run h last p t a.fits s.last_is stood.sound m (subst (λ (z : Happened). In (answered_from p z.before z.event z.reply) t) (sym first_is) here))
    answered_so a (y ∷ ys) until x p t is here =
        let rest_is : hs ≡ ys ++ x ∷ until = cc in
        answered_still s.old s.new a.next (events_of hs) h.event (replies_of hs) h.reply s.run a.fits p t (length until) (s.call_events ys until x p t rest_is here)

so_far : (first last : PlainWorld) (hs : List Happened) → IsNew first → Run first hs last → Stood hs → IsStanding last → begun_in hs ≤ SETTLED_MOST → SoFar first hs last
so_far first last [] new is stood standing few = subst (λ (w : PlainWorld). SoFar first [] w) (sym is) (begins first new (subst IsStanding is standing))
so_far first last (h ∷ hs) new run stood standing few = goes_on first last h hs (so_far first h.before hs new run.1 stood.1 stood.0 (omega (arith, few))) run.0 stood.0 standing few

pub histories_are_runs : (first last : PlainWorld) (hs : List Happened) → IsNew first → Run first hs last → Stood hs → IsStanding last → begun_in hs ≤ SETTLED_MOST → IsRun first hs last
histories_are_runs first last hs new run stood standing few =
    let s = so_far first last hs new run stood standing few in record {
      old = s.old;
      new = s.new;
      fresh = s.fresh;
      good = s.good;
      run = s.run;
      first_is = s.first_is;
      last_is = s.last_is;
      call_events = s.call_events;
      headline = runs_have_headline s.old (events_of hs) (replies_of hs) s.new s.fresh s.good s.run;
    }
