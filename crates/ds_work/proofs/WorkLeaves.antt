-- What each step of work leaves all others, and what its other turns do.
use Rattle.std.proofs.Common.{ℕ, ◌≡◌, ◌<◌, List, sym, ◌∙◌}
use Rattle.ds_formula.specs.Plain.{PlainContent}
use Rattle.ds_eval.specs.declared.inputs.Entry as entries
use Rattle.ds_eval.specs.declared.inputs.Input.{Input}
use Rattle.ds_state.specs.declared.situation.Rest.{Rest}
use Rattle.ds_state.specs.Works.{PlainWorkCall, PlainShowCall}
use Rattle.ds_state.specs.World.{PlainWorld}
use Rattle.ds_state.specs.Leaves.{Leaves}
use Rattle.ds_state.specs.Sound.{IsSound}
use Rattle.ds_state.specs.Rely.{Keeps}
use Rattle.ds_state.specs.declared.work.WorkStage.{WorkStage}
use Rattle.ds_state.specs.declared.work.WorkStage.TheVariants as works
use Rattle.ds_state.specs.declared.situation.Situation.TheVariants.{Working, Showing}
use Rattle.ds_state.proofs.Leaves.{leaves_same, middles_left}
use Rattle.ds_work.specs.WorkSteps.{at, after, lacks, read_from, offered, StepsAt, Turns, ReadsAt, LacksAt, OffersAt, BeginsWork}
use Rattle.ds_work.proofs.EachWork as laws

-- it is no show
no_show : (e : PlainWorkCall) (s : WorkStage) (word : ℕ) (f : PlainShowCall) → after e s word ≡ Showing f → ⊥
no_show e (works.Answer end) word f is = cc
no_show e s word f is = cc

turn_leaves : (e g : PlainWorkCall) (old new : PlainWorld) → Keeps e.process old new → Turns e g old new → Leaves e.process old new
turn_leaves e g old new k t = leaves_same e.process old new k t.counted (middles_left e.process old new k (λ f is. let both : Working g ≡ Showing f = sym t.situation ∙ is in cc))

-- what a step of work leaves is what a process's doing leaves
pub work_leaves : (e : PlainWorkCall) (stage : WorkStage) (word : ℕ) (old new : PlainWorld) → IsSound old → e.process < old.layout.processes → old.situation e.process ≡ Working (at e stage) → StepsAt e stage word old new → Leaves e.process old new
work_leaves e stage word old new sound real was t =
    let k = laws.work_steps_keep e stage word old new sound real was t in
    leaves_same e.process old new k t.counted (middles_left e.process old new k (λ f is. no_show e stage word f (sym t.situation ∙ is)))

-- the same, of the reading of the content
pub read_leaves : (e : PlainWorkCall) (content : PlainContent) (inputs : List Input) (old new : PlainWorld) → IsSound old → e.process < old.layout.processes → old.situation e.process ≡ Working (at e works.Read) → ReadsAt e content inputs old new → Leaves e.process old new
read_leaves e content inputs old new sound real was t = turn_leaves e (read_from e content inputs) old new (laws.reads_keep e content inputs old new sound real was t) t.turn

-- the same, of a reading that is out of memory
pub lack_leaves : (e : PlainWorkCall) (old new : PlainWorld) → IsSound old → e.process < old.layout.processes → old.situation e.process ≡ Working (at e works.Read) → LacksAt e old new → Leaves e.process old new
lack_leaves e old new sound real was t = turn_leaves e (lacks e) old new (laws.lacks_keep e old new sound real was t) t

-- the same, of an offer
pub offer_leaves : (e : PlainWorkCall) (entry : entries.Entry) (old new : PlainWorld) → IsSound old → e.process < old.layout.processes → old.situation e.process ≡ Working (at e works.Wait) → OffersAt e entry old new → Leaves e.process old new
offer_leaves e entry old new sound real was t = turn_leaves e (offered e entry) old new (laws.offer_keep e entry old new sound real was t) t.turn

-- what the begin of work leaves is what a process's doing leaves
pub begin_leaves : (next : Rest) (e : PlainWorkCall) (old new : PlainWorld) → IsSound old → e.process < old.layout.processes → BeginsWork next e old new → Leaves e.process old new
begin_leaves next e old new sound real b = turn_leaves e (at e works.LoadMark) old new (laws.begins_keep next e old new sound real b) b.turn
