-- What the answer of a show says of the worlds of its call.
use Rattle.std.specs.Prelude.{ℕ, ◌≡◌, ◌≢◌, ◌<◌, ◌⊎◌, ◌++◌, List, [], ◌∷◌}
use Rattle.ds_eval.specs.declared.value.Value.{Value}
use Rattle.ds_layout.specs.declared.place.Place.{Place}
use Rattle.ds_layout.specs.declared.place.Place.TheVariants.{Mark, Announce}
use Rattle.ds_state.specs.Works.{PlainShowCall}
use Rattle.ds_state.specs.World.{PlainEdit, PlainWorld}
use Rattle.ds_layout.specs.Mark.{IsClean}
use Rattle.ds_state.specs.KnownShow.{IsPendingWord, moment_of, AreScratch, IsStill}
use Rattle.ds_show.specs.ShowSteps.{Steps, Begins, answered}
use Rattle.ds_state.specs.Rely.{Rely}
use Rattle.ds_state.specs.Sound.{IsSound}
use Rattle.ds_state.specs.declared.show.ShowEnd.{ShowEnd}
use Rattle.ds_state.specs.declared.show.ShowEnd.TheVariants.{Settled, Unsettled}
use Rattle.ds_state.specs.declared.situation.Situation.TheVariants.{Showing}
use Rattle.ds_state.specs.declared.situation.Rest.{Rest}

-- a step of the process's own show
pub record OwnStep (p : ℕ) (old new : PlainWorld) : Type 0 where
  pub show : PlainShowCall
  pub word : ℕ
  pub mine : show.process ≡ p
  pub was : old.situation p ≡ Showing show
  pub steps : Steps show word old new

-- one event while the process shows: its own step, or what leaves it all that it may rely on
abbrev pub Passes : ℕ → PlainWorld → PlainWorld → Type 0
Passes p old new = OwnStep p old new ⊎ Rely p old new

-- the process's show begins in a sound world, and its begin leaves this one
pub record HasBegun (p : ℕ) (now : PlainWorld) : Type 0 where
  pub before : PlainWorld
  pub next : Rest
  pub sound : IsSound before
  pub real : p < before.layout.processes
  pub begins : Begins p next before now

-- the worlds of a call up to now, the latest first: the last one is that after its begin
abbrev pub Call : ℕ → PlainWorld → List PlainWorld → Type 0
Call p now [] = HasBegun p now
Call p now (w ∷ past) = IsSound w × Passes p w now × Call p w past

-- the world is one of the call
abbrev pub IsOf : PlainWorld → PlainWorld → List PlainWorld → Type 0
IsOf v now [] = v ≡ now
IsOf v now (w ∷ past) = (v ≡ now) ⊎ IsOf v w past

-- the second world is one of the call, and the first is an earlier one of it
abbrev pub AreInTurn : PlainWorld → PlainWorld → PlainWorld → List PlainWorld → Type 0
AreInTurn earlier v now [] = ⊥
AreInTurn earlier v now (w ∷ past) = ((v ≡ now) × IsOf earlier w past) ⊎ AreInTurn earlier v w past

-- at one world of the call no announcement was pending, every cell was clean, and these values are those from scratch
-- of what was linearized then; that is a front of what is linearized now
pub record WasStill (now : PlainWorld) (past : List PlainWorld) (values : List Value) : Type 0 where
  pub moment : PlainWorld
  pub of : IsOf moment now past
  pub still : IsStill moment.layout (moment_of moment)
  pub right : AreScratch moment.layout.shape moment.counted values
  pub more : List PlainEdit
  pub counted : now.counted ≡ moment.counted ++ more

-- this word of a mark, or of an announcement, says that it is not at rest
abbrev pub IsRestless : Place → ℕ → Type 0
IsRestless (Mark c) word = IsClean word → ⊥
IsRestless (Announce q) word = IsPendingWord word
IsRestless place word = ⊥

-- at one world of the call the place held the word, which is bad, or was another one earlier in the call
pub record WasOff (now : PlainWorld) (past : List PlainWorld) (place : Place) (word : ℕ) (Bad : Type 0) : Type 0 where
  pub moment : PlainWorld
  pub of : IsOf moment now past
  pub held : moment.memory.cached place ≡ word
  pub why : Bad ⊎ ((earlier : PlainWorld) × AreInTurn earlier moment now past × (earlier.memory.cached place ≢ word))

-- what the answer of a show says of the worlds of its call
abbrev pub IsTrueShow : PlainWorld → List PlainWorld → PlainShowCall → ShowEnd → Type 0
IsTrueShow now past e Settled = WasStill now past (answered e)
IsTrueShow now past e (Unsettled place word) = WasOff now past place word (IsRestless place word)
