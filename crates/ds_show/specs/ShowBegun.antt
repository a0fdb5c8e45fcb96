-- How a show begins, or is refused.
use Rattle.std.specs.Prelude.{ℕ, ◌≡◌, ◌<◌, ◌+◌}
use Rattle.ds_state.specs.World.{PlainWorld}
use Rattle.ds_state.specs.Value.{WorldValue, world_of}
use Rattle.ds_state.specs.Underway.{shows_under_way}
use Rattle.ds_state.specs.declared.reports.TheConstants.{SETTLED_MOST}
use Rattle.ds_state.specs.declared.refusal.Refusal.{Refusal}
use Rattle.ds_state.specs.declared.refusal.Refusal.TheVariants as refusal
use Rattle.ds_state.specs.declared.situation.Situation.{Situation}
use Rattle.ds_state.specs.declared.situation.Situation.TheVariants.{Idle, Stopped, Editing, Working, Recovering, Showing, Migrating}
use Rattle.ds_show.specs.ShowSteps.{Begins}
use Rattle.ds_state.specs.declared.situation.Rest.{Rest}

-- an idle process's show begins
pub record IsBegun (old : PlainWorld) (p : ℕ) (new : PlainWorld) : Type 0 where
  pub next : Rest
  pub begins : Begins p next old new

-- why an idle process may not begin a show: there are too many settled and under way, so that no more can be counted;
-- else an allocation fails
abbrev pub RefusesIdle : WorldValue → Refusal → Type 0
RefusesIdle v refusal.Busy = ⊥
RefusesIdle v refusal.Stopped = ⊥
RefusesIdle v (refusal.Text fault) = ⊥
RefusesIdle v refusal.RecordsFull = v.settled + shows_under_way v.situations ≡ SETTLED_MOST
RefusesIdle v refusal.NoMemory = v.settled + shows_under_way v.situations < SETTLED_MOST
RefusesIdle v (refusal.Migrating q) = ⊥
RefusesIdle v (refusal.NotStopped q) = ⊥

-- why a process may not begin a show, by its situation
abbrev pub RefusesIn : WorldValue → Situation → Refusal → Type 0
RefusesIn v (Idle number) r = RefusesIdle v r
RefusesIn v Stopped r = r ≡ refusal.Stopped
RefusesIn v (Editing e) r = r ≡ refusal.Busy
RefusesIn v (Working e) r = r ≡ refusal.Busy
RefusesIn v (Recovering e) r = r ≡ refusal.Busy
RefusesIn v (Showing e) r = r ≡ refusal.Busy
RefusesIn v (Migrating e) r = r ≡ refusal.Busy

-- why this process may not begin a show
abbrev pub Refuses : WorldValue → ℕ → Refusal → Type 0
Refuses v process r = RefusesIn v ((world_of v).situation process) r
