-- The headline of every run.
use Rattle.std.proofs.Common.{ℕ, ◌≡◌, ◌≤◌, ◌+◌, List, [], ◌∷◌, refl, ap, sym, ◌∙◌, arith, zero, suc, length, None, true, false, Some}
use Rattle.ds_layout.specs.declared.layout.Layout.{Layout}
use Rattle.ds_state.specs.Value.{WorldValue, world_of, IsGood}
use Rattle.ds_state.specs.Fresh.{IsNew}
use Rattle.ds_core.specs.Takes.{WorldRun, world_at}
use Rattle.ds_core.specs.Moments.{Ledger, empty_ledger}
use Rattle.ds_core.specs.Headline.{HasHeadline}
use Rattle.ds_core.specs.declared.event.Event.{Event}
use Rattle.ds_core.specs.declared.reply.Reply.{Reply}
use Rattle.ds_core.proofs.Closing.{headline}
use Rattle.ds_core.proofs.NewIdle.{new_idle}
use Rattle.ds_core.proofs.Ledgers.{IsOf, fits_of, doubts, numbered, no_some, one_some}
use Rattle.ds_core.proofs.Told.{Tells}
use Rattle.ds_core.proofs.EachEvent.{Next, next}
use Rattle.ds_core.proofs.Reported.{shows_fit}
use Rattle.ds_core.proofs.Worked.{works_fit}
use Rattle.ds_core.proofs.Forgotten.{forgotten_fit}
use Rattle.ds_core.proofs.Carry.{RunOn, nothing_on, event_on, fits_all}

-- a run from a ledger and a place on, whose moments are those of the worlds
record Follows (layout : Layout) (place : ℕ) (l : Ledger) (old : WorldValue) (events : List Event) (replies : List Reply) (new : WorldValue) (run : WorldRun old events replies new) : Type 0 where
  on : RunOn place layout.shape l old events replies new
  worlds : (k : ℕ) → k ≤ length events → (on.moment k).world ≡ world_at old events replies new run k
  good : (k : ℕ) → k ≤ length events → IsGood (on.moment k).world

-- with one event more in front
module _ (layout : Layout) (place : ℕ) (l : Ledger) (old : WorldValue) (event : Event) (reply : Reply) (events : List Event) (replies : List Reply) (new : WorldValue) (h : IsOf layout l old) (run : WorldRun old (event ∷ events) (reply ∷ replies) new) (tells : Tells l old) where
  n : Next place layout l old event reply run.0
  n = next place layout l old run.0 h tells run.1.good event reply run.1.takes

  module _ (rest : Follows layout (place + 1) n.ledger run.0 events replies new run.2) where
    abbrev longer : RunOn place layout.shape l old (event ∷ events) (reply ∷ replies) new
    longer = event_on place layout.shape l old event reply events replies run.0 new n.ledger (fits_of layout l old h) n.fits rest.on

    same_worlds : (k : ℕ) → k ≤ length (event ∷ events) → (longer.moment k).world ≡ world_at old (event ∷ events) (reply ∷ replies) new run k
    unfolding event_on
    same_worlds zero lt = refl
    same_worlds (suc k) lt = rest.worlds k (omega arith)

    good_worlds : (k : ℕ) → k ≤ length (event ∷ events) → IsGood (longer.moment k).world
    unfolding event_on
    good_worlds zero lt = h.good
    good_worlds (suc k) lt = rest.good k (omega arith)

    one_more : Follows layout place l old (event ∷ events) (reply ∷ replies) new run
    one_more = record { on = longer; worlds = same_worlds; good = good_worlds }

follows : (layout : Layout) (place : ℕ) (l : Ledger) (old : WorldValue) (events : List Event) (replies : List Reply) (new : WorldValue) → IsOf layout l old → Tells l old → (run : WorldRun old events replies new) → Follows layout place l old events replies new run
unfolding nothing_on
follows layout place l old [] [] new h tells run = record { on = nothing_on place layout.shape l old new run (fits_of layout l old h); worlds = λ k lt. refl; good = λ k lt. h.good }
follows layout place l old (event ∷ events) (reply ∷ replies) new h tells run =
    let m = n layout place l old event reply events replies new h run tells in
    one_more layout place l old event reply events replies new h run tells (follows layout (place + 1) m.ledger run.0 events replies new m.after m.tells run.2)
follows layout place l old [] (reply ∷ replies) new h tells run = absurd run
follows layout place l old (event ∷ events) [] new h tells run = absurd run

first_ledger : (v : WorldValue) → IsGood v → IsNew (world_of v) → IsOf v.sheet.layout empty_ledger v
first_ledger v good new = record {
  good = good;
  same = refl;
  counted = sym new.counted;
  none = λ p is. refl;
  some = λ p issue is. absurd (no_some ((world_of v).open_edits p) issue (new.open_edits p) is);
  numbers = λ p n is. (let f = new_idle v good new p in one_some (numbered ((world_of v).situation p)) n 0 is (ap numbered f.is ∙ ap (λ k. Some k) f.zero));
}

first_tells : (v : WorldValue) → IsGood v → IsNew (world_of v) → Tells empty_ledger v
first_tells v good new = record {
  told = λ p c is. absurd (no_some None c refl is);
  opens = λ p issue is. absurd (no_some ((world_of v).open_edits p) issue (new.open_edits p) is);
  announced = λ p lt doubt none. absurd (let bad : false ≡ true = sym (ap doubts (new.situation p lt)) ∙ doubt in cc);
}

-- every run from a new world has the headline, with its own worlds
pub runs_have_headline : (old : WorldValue) (events : List Event) (replies : List Reply) (new : WorldValue) → IsNew (world_of old) → IsGood old → (run : WorldRun old events replies new) → HasHeadline old events replies new run
unfolding headline fits_all
runs_have_headline old events replies new fresh good run =
    let f = follows old.sheet.layout 0 empty_ledger old events replies new (first_ledger old good fresh) (first_tells old good fresh) run in
    record { is = headline old events replies new (fits_all old events replies new f.on (shows_fit old events replies new f.on f.good fresh) (works_fit old events replies new f.on f.good fresh) (forgotten_fit old events replies new f.on f.good)); worlds = f.worlds }
