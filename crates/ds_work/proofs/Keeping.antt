-- A work keeps the layout that its process noted.
use Rattle.std.proofs.Common.{ℕ, ◌≡◌, ◌<◌, ◌≤◌, refl, ap, ◌∙◌, subst, Some, inl, length}
use Rattle.ds_layout.specs.declared.place.Edition.TheVariants.{First, Second}
use Rattle.ds_state.specs.Editions.{Agrees, most_in}
use Rattle.ds_state.specs.LayoutsFit.{LayoutFits}
use Rattle.ds_state.specs.Sound.{IsSound, IsOfSheet}
use Rattle.ds_state.specs.declared.situation.Situation.{Situation}
use Rattle.ds_layout.specs.declared.place.Edition.{Edition}
use Rattle.ds_state.specs.World.{PlainEdit, PlainWorld}
use Rattle.ds_state.specs.Works.{PlainWorkCall}
use Rattle.ds_state.specs.declared.work.WorkStage.{WorkStage}
use Rattle.ds_state.specs.declared.work.WorkStage.TheVariants.{Answer}
use Rattle.ds_state.specs.declared.situation.Situation.TheVariants.{Working}
use Rattle.ds_state.proofs.Frames.{Goes, notes, noted_in}
use Rattle.ds_work.specs.WorkSteps.{at, after, StepsAt, Turns}
use Rattle.ds_work.proofs.Next.{next_noted}

noted_after : (e : PlainWorkCall) (s : WorkStage) (word : ℕ) → noted_in (after e s word) ≡ Some e.edition
noted_after e (Answer end) word = refl
noted_after e s word = ap (λ (x : PlainWorkCall). Some x.edition) (next_noted e word s)

-- a step of work goes on with the layout that the process noted
pub work_goes : (e : PlainWorkCall) (s : WorkStage) (word : ℕ) (old new : PlainWorld) → e.process < old.layout.processes → old.situation e.process ≡ Working (at e s) → StepsAt e s word old new → Goes e.process old new
work_goes e s word old new real was t = notes e.edition real (ap noted_in was) (ap noted_in t.situation ∙ noted_after e s word)

-- a turn of work that touches no word goes on with the layout that the process noted
pub turn_goes : (e f : PlainWorkCall) (s : WorkStage) (old new : PlainWorld) → e.process < old.layout.processes → old.situation e.process ≡ Working (at e s) → f.edition ≡ e.edition → Turns e f old new → Goes e.process old new
turn_goes e f s old new real was same t = notes e.edition real (ap noted_in was) (ap noted_in t.situation ∙ ap (λ (d : Edition). Some d) same)

-- both sides say the layout that a work notes
pub noted_of : (e : PlainWorkCall) (s : WorkStage) (w : PlainWorld) → IsSound w → e.process < w.layout.processes → w.situation e.process ≡ Working (at e s) → Agrees w.memory e.edition
noted_of e s w sound real was = subst (λ (x : Situation). LayoutFits w e.process x) was (sound.layouts e.process real)

-- so a linearized edit's text fits it
pub fits_noted : (w : PlainWorld) (edition : Edition) (f : PlainEdit) → IsOfSheet w f → Agrees w.memory edition → length f.text ≤ most_in edition
fits_noted w First f h a = h.short (inl a.cached)
fits_noted w Second f h a = h.text.short
