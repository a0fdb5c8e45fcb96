-- Work and shows leave the headers of their process's records as they are.
use Rattle.std.proofs.Common.{ℕ, ◌≡◌, ◌<◌, subst}
use Rattle.ds_words.specs.Memory.{Memory, SameMemory}
use Rattle.ds_layout.specs.declared.place.Place.{Place}
use Rattle.ds_layout.specs.declared.place.Place.TheVariants.{Header}
use Rattle.ds_layout.specs.SheetMemory.{PerformsAt}
use Rattle.ds_state.specs.Works.{PlainWorkCall}
use Rattle.ds_state.specs.CallsFit.{CallFits}
use Rattle.ds_state.specs.KnownWork.{WorkFits}
use Rattle.ds_state.specs.Sound.{IsSound}
use Rattle.ds_state.specs.Value.{WorldValue, world_of}
use Rattle.ds_state.specs.declared.situation.Situation.{Situation}
use Rattle.ds_state.specs.declared.situation.Situation.TheVariants.{Working}
use Rattle.ds_state.specs.declared.show.ShowStage.{ShowStage}
use Rattle.ds_state.specs.declared.show.ShowStage.TheVariants as stages
use Rattle.ds_show.specs.ShowSteps as shows
use Rattle.ds_state.specs.declared.turn.Turn.{Turn}
use Rattle.ds_state.specs.declared.work.WorkEnd.{WorkEnd}
use Rattle.ds_work.specs.WorkTakes as works
use Rattle.ds_core.specs.ShowEvents.{ShowStepsBy}
use Rattle.ds_core.specs.WorkEvents.{WorkStepsBy}
use Rattle.ds_core.specs.declared.reply.Reply.{Reply}
use Rattle.ds_core.proofs.Headers.{SidesStay, sides_same, work_sides}

-- a show loads, and nothing else
loads : (s : ShowStage) (q : ℕ) (old new : Memory Place) (word : ℕ) → PerformsAt (shows.access_at s) q old new word → SameMemory old new
loads (stages.LoadAnnounce i) q old new word h = h.1
loads (stages.LoadMark i) q old new word h = h.1
loads (stages.LoadValue i) q old new word h = h.1
loads (stages.LoadKind i) q old new word h = h.1
loads (stages.AgainMark i) q old new word h = h.1
loads (stages.AgainAnnounce i) q old new word h = h.1
loads (stages.Answer end) q old new word h = h.1

-- a step of a show leaves each header of its process's records the sides that it had
pub show_sides : (p n : ℕ) (old new : WorldValue) (reply : Reply) → ShowStepsBy old p reply new → SidesStay (world_of old).memory (world_of new).memory (Header p n)
show_sides p n old new reply h =
    sides_same (world_of old).memory (world_of new).memory (Header p n) (loads h.steps.show.stage h.steps.show.process (world_of old).memory (world_of new).memory h.steps.word h.steps.steps.memory)

module _ (p n : ℕ) (old new : WorldValue) (sound : IsSound (world_of old)) (e : PlainWorkCall) (inside : p < old.sheet.layout.processes) (is : (world_of old).situation p ≡ Working e) where
  fits : WorkFits (world_of old) p e
  fits = subst (λ (x : Situation). CallFits (world_of old) p x) is (sound.calls p inside)

  still : SameMemory (world_of old).memory (world_of new).memory → SidesStay (world_of old).memory (world_of new).memory (Header p n)
  still same = sides_same (world_of old).memory (world_of new).memory (Header p n) same

  by_taken : (what : Turn WorkEnd) → works.TakesTurn e (world_of old) (world_of new) what → SidesStay (world_of old).memory (world_of new).memory (Header p n)
  by_taken what (works.steps word t on) = work_sides p n old.sheet.layout.shape (world_of old) (world_of new) e word fits.buffer t.memory
  by_taken what (works.reads content inputs at t) = still t.turn.memory
  by_taken what (works.lacked at t) = still t.memory
  by_taken what (works.answers end at t) = still t.memory.1

-- a step of work leaves each header of its process's records the sides that it had
pub work_sides_of : (p n : ℕ) (old new : WorldValue) (reply : Reply) → IsSound (world_of old) → WorkStepsBy old p reply new → SidesStay (world_of old).memory (world_of new).memory (Header p n)
work_sides_of p n old new reply sound h = by_taken p n old new sound h.steps.work h.steps.inside h.steps.works h.what h.steps.turn
