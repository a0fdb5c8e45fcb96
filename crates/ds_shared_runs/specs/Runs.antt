-- The history of a table as a run of the core.
use Rattle.std.specs.Prelude.{ℕ, ◌≡◌, ◌+◌, List, [], ◌∷◌, ◌++◌, length}
use Rattle.ds_state.specs.World.{PlainWorld}
use Rattle.ds_state.specs.Fresh.{IsNew}
use Rattle.ds_state.specs.Value.{WorldValue, world_of, IsGood}
use Rattle.ds_core.specs.Takes.{WorldRun}
use Rattle.ds_core.specs.Headline.{HasHeadline}
use Rattle.ds_core.specs.declared.event.Event.{Event}
use Rattle.ds_core.specs.declared.event.Event.TheVariants.{BeginShow}
use Rattle.ds_core.specs.declared.reply.Reply.{Reply}
use Rattle.ds_shared_runs.specs.declared.history.CallEvent.{CallEvent}
use Rattle.pm_base.specs.Structures.{In}
use Rattle.ds_shared_runs.specs.History.{Happened, answered_from}
use Rattle.ds_shared_runs.specs.CallEvents.{StandsAt}

-- its events, the first one first
abbrev pub events_of : List Happened → List Event
events_of [] = []
events_of (h ∷ hs) = events_of hs ++ h.event ∷ []

-- their replies
abbrev pub replies_of : List Happened → List Reply
replies_of [] = []
replies_of (h ∷ hs) = replies_of hs ++ h.reply ∷ []

-- 1 where the event begins a show, else 0
abbrev pub begun_by : Event → ℕ
begun_by (BeginShow p) = 1
begun_by _ = 0

-- how many shows were begun
abbrev pub begun_in : List Happened → ℕ
begun_in [] = 0
begun_in (h ∷ hs) = begun_in hs + begun_by h.event

-- a run of the core has just these events and replies, begins with the first world, which is new, ends in the last one,
-- and has the headline; what each process was answered stands in it, at the place that is how many events came before
pub record IsRun (first : PlainWorld) (hs : List Happened) (last : PlainWorld) : Type 0 where
  pub old : WorldValue
  pub new : WorldValue
  pub fresh : IsNew (world_of old)
  pub good : IsGood old
  pub run : WorldRun old (events_of hs) (replies_of hs) new
  pub first_is : world_of old ≡ first
  pub last_is : world_of new ≡ last
  pub call_events : (since until : List Happened) (h : Happened) (p : ℕ) (t : CallEvent) → hs ≡ since ++ h ∷ until → In (answered_from p h.before h.event h.reply) t → StandsAt old (events_of hs) (replies_of hs) new run p t (length until)
  pub headline : HasHeadline old (events_of hs) (replies_of hs) new run
