-- A show that begins keeps a world good.
use Rattle.std.proofs.Common.{ℕ, ◌≡◌, ◌<◌, ◌+◌, length, get_or, set, refl, ap, sym, ◌∙◌, subst, arith, Ok, Err}
use Rattle.std.specs.Prelude.{Result, IfErr, IsErrAnd}
use Rattle.std.proofs.Math.ListN.{length-set}
use Rattle.std.proofs.lemmas.List.{get_or-set_same, get_or-set_other, get_or_default}
use Rattle.ds_layout.specs.Places.{cells_of}
use Rattle.ds_state.specs.Works.{PlainShowCall}
use Rattle.ds_state.specs.World.{PlainWorld}
use Rattle.ds_state.specs.Underway.{shows_under_way}
use Rattle.ds_state.specs.Value.{WorldValue, world_of, IsGood, IsReserved}
use Rattle.ds_state.specs.declared.reports.TheConstants.{SETTLED_MOST}
use Rattle.ds_state.specs.declared.refusal.Refusal.{Refusal}
use Rattle.ds_state.specs.declared.refusal.Refusal.TheVariants as refusal
use Rattle.ds_state.specs.declared.situation.Situation.{Situation}
use Rattle.ds_state.specs.declared.situation.Situation.TheVariants.{Idle, Stopped, Editing, Working, Recovering, Showing, Migrating}
use Rattle.ds_state.proofs.Underway.{after_set}
use Rattle.ds_show.specs.ShowSteps.{rest_of, Begins, fresh}
use Rattle.ds_state.specs.Refusals.{next_edit}
use Rattle.ds_show.specs.ShowBegun.{RefusesIdle, Refuses}
use Rattle.ds_show.proofs.ShowKeeps.{begin_keeps}
use Rattle.ds_state.specs.Value.{first_rest}
use Rattle.ds_state.specs.declared.situation.Rest.{Rest}

-- the world in which the show is under way
abbrev pub entered : WorldValue → PlainShowCall → WorldValue
entered v e = record v { situations = set v.situations e.process (Showing e) }

module _ (v : WorldValue) (e : PlainShowCall) (room : ℕ) (kept : IsReserved v room) (low : e.process < v.sheet.layout.processes) (idle : (world_of v).situation e.process ≡ Idle (rest_of e))
    (first : e ≡ fresh e.process (rest_of e) (cells_of v.sheet.layout) v.sheet.layout.processes) (counts : v.settled + shows_under_way v.situations < SETTLED_MOST) where
  there : e.process < length v.situations
  there = let s = kept.good.situations in omega arith

  pub entered_begins : Begins e.process (rest_of e) (world_of v) (world_of (entered v e))
  entered_begins = record {
    layout = refl;
    memory = record { cached = λ r. refl; persisted = λ r. refl; buffer = λ q. refl };
    idle = idle;
    situation = get_or-set_same v.situations e.process (Showing e) (Idle first_rest) there ∙ ap (λ (x : PlainShowCall). Showing x) first;
    others = λ q ne. get_or-set_other v.situations e.process q (Showing e) (Idle first_rest) ne;
    counted = refl;
    open_edits = λ q. refl;
  }

  pub entered_kept : IsReserved (entered v e) room
  entered_kept = record {
    good = record {
      sound = (begin_keeps e.process (rest_of e) (world_of v) (world_of (entered v e)) kept.good.sound low entered_begins).sound;
      situations = length-set v.situations e.process (Showing e) ∙ kept.good.situations;
      open_edits = kept.good.open_edits;
      reports = kept.good.reports;
      answered = kept.good.answered;
      counts = (let one = after_set v.situations e.process (Showing e) (Idle first_rest) there in omega arith);
    };
    reserved = kept.reserved;
  }

-- the situation that was read is the process's
pub situation_at : (v : WorldValue) (process : ℕ) (read : Situation) → IsGood v → process < v.sheet.layout.processes → read ≡ get_or v.situations process read → (world_of v).situation process ≡ read
situation_at v process read good low is = get_or_default v.situations process (Idle first_rest) read (let s = good.situations in omega arith) ∙ sym is

-- why a process that is not idle may not begin a show
pub refuses_of : (v : WorldValue) (process : ℕ) (s : Situation) (r : Refusal) → (world_of v).situation process ≡ s → Err r ≡ next_edit s → Refuses v process r
refuses_of v process (Idle m) r at is = absurd (cc)
refuses_of v process Stopped r at is = rw at (let same : r ≡ refusal.Stopped = cc in same)
refuses_of v process (Editing e) r at is = rw at (let same : r ≡ refusal.Busy = cc in same)
refuses_of v process (Working e) r at is = rw at (let same : r ≡ refusal.Busy = cc in same)
refuses_of v process (Recovering e) r at is = rw at (let same : r ≡ refusal.Busy = cc in same)
refuses_of v process (Showing e) r at is = rw at (let same : r ≡ refusal.Busy = cc in same)
refuses_of v process (Migrating e) r at is = rw at (let same : r ≡ refusal.Busy = cc in same)

-- why an idle one may not
pub refuses_idle : (v : WorldValue) (process : ℕ) (next : Rest) (s : Situation) (r : Refusal) → (world_of v).situation process ≡ s → Ok next ≡ next_edit s → RefusesIdle v r → Refuses v process r
refuses_idle v process next (Idle m) r at is h = rw at h
refuses_idle v process next Stopped r at is h = absurd (cc)
refuses_idle v process next (Editing e) r at is h = absurd (cc)
refuses_idle v process next (Working e) r at is h = absurd (cc)
refuses_idle v process next (Recovering e) r at is h = absurd (cc)
refuses_idle v process next (Showing e) r at is h = absurd (cc)
refuses_idle v process next (Migrating e) r at is h = absurd (cc)

-- so it is idle, with that number
pub idle_of : (w : PlainWorld) (process : ℕ) (next : Rest) (s : Situation) → w.situation process ≡ s → Ok next ≡ next_edit s → w.situation process ≡ Idle next
idle_of w process next (Idle m) at is = at ∙ (let same : m ≡ next = cc in ap (λ (n : Rest). Idle n) same)
idle_of w process next Stopped at is = absurd (cc)
idle_of w process next (Editing e) at is = absurd (cc)
idle_of w process next (Working e) at is = absurd (cc)
idle_of w process next (Recovering e) at is = absurd (cc)
idle_of w process next (Showing e) at is = absurd (cc)
idle_of w process next (Migrating e) at is = absurd (cc)
