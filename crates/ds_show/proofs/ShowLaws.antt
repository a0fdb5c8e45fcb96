-- The laws of shows, at a show's own stage.
use Rattle.std.proofs.Common.{ℕ, ◌≡◌, ◌<◌, ◌≤◌, ◌+◌, ◌*◌, subst}
use Rattle.ds_layout.specs.declared.layout.Layout.{Layout}
use Rattle.ds_layout.specs.Places.{cells_of}
use Rattle.ds_layout.specs.SheetMemory.{CanPerform, NamesPlace}
use Rattle.ds_state.specs.Works.{PlainShowCall}
use Rattle.ds_state.specs.World.{PlainWorld}
use Rattle.ds_state.specs.KnownShow.{ShowFits}
use Rattle.ds_state.specs.ShowStages.{IsShow}
use Rattle.ds_show.specs.ShowSteps.{access_at, next_at, Begins, Steps, Falls, rank}
use Rattle.ds_state.specs.CallsFit.{CallFits}
use Rattle.ds_state.specs.Rely.{Keeps}
use Rattle.ds_state.specs.Sound.{IsSound}
use Rattle.ds_state.specs.declared.situation.Situation.{Situation}
use Rattle.ds_state.specs.declared.situation.Situation.TheVariants.{Showing}
use Rattle.ds_show.proofs.ShowKeeps as keeps
use Rattle.ds_show.proofs.ShowKeeps.{step_keeps, begin_keeps, falls, few, possible}
use Rattle.ds_state.specs.declared.situation.Rest.{Rest}

fits_of : (e : PlainShowCall) (w : PlainWorld) → IsSound w → e.process < w.layout.processes → w.situation e.process ≡ Showing e → ShowFits w e.process e
fits_of e w sound real is = subst (λ (s : Situation). CallFits w e.process s) is (sound.calls e.process real)

-- each step of a show leaves a sound world sound, and what the others rely on
pub steps : (e : PlainShowCall) (word : ℕ) (old new : PlainWorld) → IsSound old → e.process < old.layout.processes → old.situation e.process ≡ Showing e → Steps e word old new → Keeps e.process old new
steps e word old new sound real is t = step_keeps e e.stage word old new sound is t (fits_of e old sound real is)

-- in a sound world a show can perform the access of its stage
pub accesses : (e : PlainShowCall) (w : PlainWorld) → IsSound w → e.process < w.layout.processes → w.situation e.process ≡ Showing e → CanPerform w.layout w.memory e.process (access_at e.stage)
accesses e w sound real is = let f = fits_of e w sound real is in possible w e.process e f.0 f.1

-- each access of a show names a place of its sheet
pub named : (layout : Layout) (e : PlainShowCall) → cells_of layout ≡ e.cells → layout.processes ≡ e.processes → IsShow e → NamesPlace layout (access_at e.stage)
named layout e cells processes is = keeps.named layout e cells processes e.stage is.stage

-- each step of a show but the answer's leaves fewer, at its own stage
pub each_falls : (e : PlainShowCall) (word : ℕ) → IsShow e → Falls e e.stage (next_at e e.stage word)
each_falls e word is = falls e e.stage word is.stage

-- a show has at most two steps left for each process, four for each cell, and the answer's, at its own stage
pub each_few : (e : PlainShowCall) → rank e ≤ 2 * e.processes + 4 * e.cells + 1
each_few e = few e e.stage

-- the begin of a show leaves a sound world sound, and what the others rely on
pub begins : (p : ℕ) (next : Rest) (old new : PlainWorld) → IsSound old → p < old.layout.processes → Begins p next old new → Keeps p old new
begins p next old new sound real b = begin_keeps p next old new sound real b
