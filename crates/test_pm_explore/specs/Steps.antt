-- The steps of a process of a queue, right or flawed.
use Rattle.std.specs.Prelude.{ℕ, ◌*◌, ◌≡◌, ◌<◌, List}
use Rattle.ds_words.specs.declared.access.Access.{Access}
use Rattle.ds_words.specs.declared.access.Class.TheVariants.{Owned}
use Rattle.pm_base.specs.Structures.{Structure}
use Rattle.pm_explore.specs.Explored.{list_of}
use Rattle.pm_explore.specs.declared.explored.Landed.{Landed}
use Rattle.pq.specs.Calls.{enqueue_access, enqueue_next, dequeue_access, dequeue_next, recover_access, recover_next, EnqueueFits, EnqueueGoes, DequeueFits, DequeueGoes, RecoverFits, RecoverGoes}
use Rattle.pq.specs.Places.{nodes}
use Rattle.pq.specs.Queue.{enqueue_doing, enqueue_says, dequeue_doing, dequeue_says, recover_doing, recover_says}
use Rattle.pq.specs.declared.calls.Doing.{Doing}
use Rattle.pq.specs.declared.calls.Doing.TheVariants.{Idle, Enqueueing, Dequeueing, Recovering, Stopped}
use Rattle.pq.specs.declared.calls.Response.{Response}
use Rattle.pq.specs.declared.enqueue.Enqueue.{Enqueue}
use Rattle.pq.specs.declared.enqueue.EnqueueStage.{EnqueueStage}
use Rattle.pq.specs.declared.enqueue.EnqueueStage.TheVariants as enqueue
use Rattle.pq.specs.declared.dequeue.Dequeue.{Dequeue}
use Rattle.pq.specs.declared.dequeue.DequeueStage.{DequeueStage}
use Rattle.pq.specs.declared.dequeue.DequeueStage.TheVariants as dequeue
use Rattle.pq.specs.declared.recover.Recover.{Recover}
use Rattle.pq.specs.declared.recover.RecoverStage.{RecoverStage}
use Rattle.pq.specs.declared.recover.RecoverStage.TheVariants as recover
use Rattle.pq.specs.declared.recover.Found.TheVariants as found
use Rattle.test_pm_explore.specs.declared.flaws.Flaw.{Flaw}
use Rattle.test_pm_explore.specs.declared.flaws.Flaw.TheVariants.{LinkNotFlushed, TailBeforeLink, HeadBeforeResult, EvidenceBeforeWalk, Forgets}

-- the stage to which a flaw turns one of an enqueue
abbrev pub flawed_enqueue : Flaw → EnqueueStage → EnqueueStage
flawed_enqueue LinkNotFlushed (enqueue.FlushNext a y) = enqueue.StoreLinked a y
flawed_enqueue TailBeforeLink (enqueue.FlushNext a y) = enqueue.SwapTail a y
flawed_enqueue _ s = s

-- ... one of a dequeue
abbrev pub flawed_dequeue : Flaw → DequeueStage → DequeueStage
flawed_dequeue HeadBeforeResult (dequeue.StoreResult a y c) = dequeue.SwapHead a y c
flawed_dequeue _ s = s

-- ... and one of a recovery, which comes after another
abbrev pub flawed_recover : Flaw → RecoverStage → RecoverStage → RecoverStage
flawed_recover Forgets before recover.LoadTail = recover.Done found.NotEnqueued
flawed_recover EvidenceBeforeWalk recover.BackAnnounce recover.LoadTail = recover.LoadLinked
flawed_recover EvidenceBeforeWalk recover.LoadLinked (recover.Done found.NotEnqueued) = recover.LoadTail
flawed_recover EvidenceBeforeWalk (recover.FindNode a) recover.LoadLinked = recover.Done found.NotEnqueued
flawed_recover _ before s = s

-- an enqueue after a step that was answered so
abbrev pub then_enqueue : Flaw → Enqueue → ℕ → Enqueue
then_enqueue f c word = let d = enqueue_next c word in record d { stage = flawed_enqueue f d.stage }

-- a dequeue after a step that was answered so
abbrev pub then_dequeue : Flaw → Dequeue → ℕ → Dequeue
then_dequeue f c word = let d = dequeue_next c word in record d { stage = flawed_dequeue f d.stage }

-- a recovery after a step that was answered so
abbrev pub then_recover : Flaw → Recover → ℕ → Recover
then_recover f c word = let d = recover_next c word in record d { stage = flawed_recover f c.stage d.stage }

-- a process that does this makes the access, and, answered so, goes on to that and is answered this
abbrev pub StepIs : Flaw → Doing → Access ℕ → ℕ → Doing → List Response → Type 0
StepIs f (Enqueueing c) access answer after says = EnqueueFits c × EnqueueGoes c.stage × (access ≡ enqueue_access c) × (after ≡ enqueue_doing (then_enqueue f c answer) (then_enqueue f c answer).stage) × (says ≡ enqueue_says (then_enqueue f c answer) (then_enqueue f c answer).stage)
StepIs f (Dequeueing c) access answer after says = DequeueFits c × DequeueGoes c.stage × (access ≡ dequeue_access c) × (after ≡ dequeue_doing (then_dequeue f c answer) (then_dequeue f c answer).stage) × (says ≡ dequeue_says (then_dequeue f c answer) (then_dequeue f c answer).stage)
StepIs f (Recovering c) access answer after says = RecoverFits c × RecoverGoes c.stage × (access ≡ recover_access c) × (after ≡ recover_doing (then_recover f c answer) (then_recover f c answer).stage) × (says ≡ recover_says (then_recover f c answer) (then_recover f c answer).stage)
StepIs f _ access answer after says = ⊥

-- a process that does this takes no step
abbrev pub NoStep : Doing → Type 0
NoStep now = (f : Flaw) (access : Access ℕ) (answer : ℕ) (after : Doing) (says : List Response) → StepIs f now access answer after says → ⊥

-- each step of it makes this access
abbrev pub StepAsks : Doing → Access ℕ → Type 0
StepAsks now asked = (f : Flaw) (access : Access ℕ) (answer : ℕ) (after : Doing) (says : List Response) → StepIs f now access answer after says → access ≡ asked

-- each step of it that is answered so lands there
abbrev pub StepLands : Flaw → Doing → ℕ → Landed Doing Response → Type 0
StepLands f now answer landed = (access : Access ℕ) (after : Doing) (says : List Response) → StepIs f now access answer after says → (after ≡ landed.doing) × (says ≡ list_of landed.says)

-- where an enqueue's step lands
abbrev pub LandsEnqueue : Enqueue → Landed Doing Response → Type 0
LandsEnqueue c landed = (enqueue_doing c c.stage ≡ landed.doing) × (enqueue_says c c.stage ≡ list_of landed.says)

-- where a dequeue's step lands
abbrev pub LandsDequeue : Dequeue → Landed Doing Response → Type 0
LandsDequeue c landed = (dequeue_doing c c.stage ≡ landed.doing) × (dequeue_says c c.stage ≡ list_of landed.says)

-- where a recovery's step lands
abbrev pub LandsRecover : Recover → Landed Doing Response → Type 0
LandsRecover c landed = (recover_doing c c.stage ≡ landed.doing) × (recover_says c c.stage ≡ list_of landed.says)

-- a process that does the one thing may begin the other
abbrev pub MayBegin : Doing → Doing → Type 0
MayBegin (Idle u) (Enqueueing c) = u < 2 * c.operation
MayBegin (Idle u) (Dequeueing c) = u < 2 * c.operation
MayBegin Stopped (Recovering c) = Unit {0}
MayBegin _ call = ⊥

-- a queue of two processes with this flaw
abbrev pub flawed_queue : Structure Flaw Doing Response
flawed_queue = record {
  Hidden = Unit {0};
  words = λ f. 8 * nodes 2;
  class_in = λ f r. Owned;
  apart = λ f. 8 * nodes 2;
  first_word = λ f r. 0;
  processes = λ f. 2;
  first = Idle 0;
  stopped = Stopped;
  begins = λ f p now after. MayBegin now after;
  steps = λ f p now access answer after says. StepIs f now access answer after says;
  first_hidden = λ f. tt;
  hidden_after = λ f w event memory. tt;
  sound = λ f w. Unit {0};
  is_right = λ f w p t. Unit {0};
}
