-- The steps of the queue are those of the one without a flaw.
use Rattle.std.proofs.Common.{ℕ, ◌≡◌, ◌<◌, List, refl, sym, ◌∙◌, subst, arith, ⊎_elim}
use Rattle.std.specs.Prelude.{Option, Some, None, MatchOption}
use Rattle.ds_words.specs.declared.access.Access.{Access}
use Rattle.pm_base.specs.Structures.{BeginsOf, StepsOf}
use Rattle.pq.specs.Calls.{EnqueueGoes, DequeueGoes, RecoverGoes}
use Rattle.pq.specs.Places.{Belongs}
use Rattle.pq.specs.Queue.{queue, enqueues, dequeues, recoveries, enqueue_doing, dequeue_doing, recover_doing, MayEnqueue, MayDequeue, MayRecover}
use Rattle.pq.specs.declared.calls.Doing.{Doing}
use Rattle.pq.specs.declared.calls.Doing.TheVariants.{Idle, Enqueueing, Dequeueing, Recovering, Stopped, Torn}
use Rattle.pq.specs.declared.calls.Response.{Response}
use Rattle.pq.specs.declared.enqueue.Enqueue.{Enqueue}
use Rattle.pq.specs.declared.enqueue.EnqueueStage.{EnqueueStage}
use Rattle.pq.specs.declared.enqueue.EnqueueStage.TheVariants as enqueue
use Rattle.pq.specs.declared.dequeue.Dequeue.{Dequeue}
use Rattle.pq.specs.declared.dequeue.DequeueStage.{DequeueStage}
use Rattle.pq.specs.declared.dequeue.DequeueStage.TheVariants as dequeue
use Rattle.pq.specs.declared.recover.Recover.{Recover}
use Rattle.pq.specs.declared.recover.RecoverStage.{RecoverStage}
use Rattle.pq.specs.declared.recover.RecoverStage.TheVariants as recover
use Rattle.pm_explore.specs.Explored.{Rests, AsksFor}
use Rattle.test_pm_explore.specs.TwoProcesses.{two_processes}
use Rattle.test_pm_explore.specs.Steps.{StepIs, MayBegin, NoStep, StepAsks}
use Rattle.test_pm_explore.specs.declared.flaws.Flaw.TheVariants.{Nothing}

low_process : (p n : ℕ) → p < n → n < 16384 → p < 16777216
low_process p n a b = omega (arith, a, b)

low_operation : (p n i : ℕ) → p < n → n < 16384 → Belongs p i → i < 16777216
low_operation p n i a b own = let c = own.1 in omega (arith, a, b, c)

-- a call of which a step is left is what its process does
enqueue_is : (c : Enqueue) (s : EnqueueStage) → EnqueueGoes s → enqueue_doing c s ≡ Enqueueing c
enqueue_is c enqueue.StoreValue go = refl
enqueue_is c enqueue.FlushValue go = refl
enqueue_is c enqueue.BackValue go = refl
enqueue_is c enqueue.StoreAnnounce go = refl
enqueue_is c enqueue.FlushAnnounce go = refl
enqueue_is c enqueue.BackAnnounce go = refl
enqueue_is c enqueue.LoadTail go = refl
enqueue_is c (enqueue.LoadNext a) go = refl
enqueue_is c (enqueue.SwapNext a) go = refl
enqueue_is c (enqueue.FlushNext a y) go = refl
enqueue_is c (enqueue.BackNext a y) go = refl
enqueue_is c (enqueue.StoreLinked a y) go = refl
enqueue_is c (enqueue.FlushLinked a y) go = refl
enqueue_is c (enqueue.BackLinked a y) go = refl
enqueue_is c (enqueue.SwapTail a y) go = refl
enqueue_is c enqueue.Done go = absurd go
enqueue_is c enqueue.Torn go = absurd go

-- a call of which a step is left is what its process does
dequeue_is : (c : Dequeue) (s : DequeueStage) → DequeueGoes s → dequeue_doing c s ≡ Dequeueing c
dequeue_is c dequeue.StoreAnnounce go = refl
dequeue_is c dequeue.FlushAnnounce go = refl
dequeue_is c dequeue.BackAnnounce go = refl
dequeue_is c dequeue.LoadHead go = refl
dequeue_is c (dequeue.LoadNext a) go = refl
dequeue_is c dequeue.StoreEmpty go = refl
dequeue_is c dequeue.FlushEmpty go = refl
dequeue_is c dequeue.BackEmpty go = refl
dequeue_is c (dequeue.FlushNext a y) go = refl
dequeue_is c (dequeue.BackNext a y) go = refl
dequeue_is c (dequeue.SwapTaker a y) go = refl
dequeue_is c (dequeue.FlushTaker a y d) go = refl
dequeue_is c (dequeue.BackTaker a y d) go = refl
dequeue_is c (dequeue.StoreResult a y d) go = refl
dequeue_is c (dequeue.FlushResult a y d) go = refl
dequeue_is c (dequeue.BackResult a y d) go = refl
dequeue_is c (dequeue.SwapHead a y d) go = refl
dequeue_is c (dequeue.LoadValue y) go = refl
dequeue_is c dequeue.DoneEmpty go = absurd go
dequeue_is c (dequeue.Done x) go = absurd go
dequeue_is c dequeue.Torn go = absurd go

-- a call of which a step is left is what its process does
recover_is : (c : Recover) (s : RecoverStage) → RecoverGoes s → recover_doing c s ≡ Recovering c
recover_is c recover.LoadAnnounce go = refl
recover_is c recover.FlushAnnounce go = refl
recover_is c recover.BackAnnounce go = refl
recover_is c recover.LoadTail go = refl
recover_is c (recover.FindNode a) go = refl
recover_is c (recover.FlushNext a) go = refl
recover_is c (recover.BackNext a) go = refl
recover_is c recover.LoadLinked go = refl
recover_is c recover.LoadHead go = refl
recover_is c (recover.FindNext a) go = refl
recover_is c (recover.LoadTaker a y) go = refl
recover_is c (recover.FlushTaker a y) go = refl
recover_is c (recover.BackTaker a y) go = refl
recover_is c recover.LoadResult go = refl
recover_is c recover.FlushEmpty go = refl
recover_is c recover.BackEmpty go = refl
recover_is c (recover.LoadValue y) go = refl
recover_is c (recover.Done f) go = absurd go
recover_is c recover.Torn go = absurd go

enqueue_steps : (n p : ℕ) (now : Doing) (access : Access ℕ) (answer : ℕ) (after : Doing) (says : List Response) → StepsOf enqueues n p now access answer after says → StepIs Nothing now access answer after says
enqueue_steps n p now access answer after says m =
    let c : Enqueue = m.call in
    let f = m.fits in
    subst (λ (z : Doing). StepIs Nothing z access answer after says) (sym (m.at ∙ enqueue_is c c.stage m.goes))
    ((low_process c.process n f.1 f.0, low_operation c.process n c.operation f.1 f.0 f.2, f.3), m.goes, m.asks, m.lands, m.tells)

dequeue_steps : (n p : ℕ) (now : Doing) (access : Access ℕ) (answer : ℕ) (after : Doing) (says : List Response) → StepsOf dequeues n p now access answer after says → StepIs Nothing now access answer after says
dequeue_steps n p now access answer after says m =
    let c : Dequeue = m.call in
    let f = m.fits in
    subst (λ (z : Doing). StepIs Nothing z access answer after says) (sym (m.at ∙ dequeue_is c c.stage m.goes))
    ((low_process c.process n f.1 f.0, low_operation c.process n c.operation f.1 f.0 f.2, f.3), m.goes, m.asks, m.lands, m.tells)

recover_steps : (n p : ℕ) (now : Doing) (access : Access ℕ) (answer : ℕ) (after : Doing) (says : List Response) → StepsOf recoveries n p now access answer after says → StepIs Nothing now access answer after says
recover_steps n p now access answer after says m =
    let c : Recover = m.call in
    let f = m.fits in
    subst (λ (z : Doing). StepIs Nothing z access answer after says) (sym (m.at ∙ recover_is c c.stage m.goes))
    ((low_process c.process n f.1 f.0, f.2, f.3), m.goes, m.asks, m.lands, m.tells)

-- each step of the queue is one of the queue without a flaw
pub steps_are : (n p : ℕ) (now : Doing) (access : Access ℕ) (answer : ℕ) (after : Doing) (says : List Response) → queue.steps n p now access answer after says → StepIs Nothing now access answer after says
steps_are n p now access answer after says s = ⊎_elim
    (λ e. enqueue_steps n p now access answer after says e)
    (λ more. ⊎_elim (λ d. dequeue_steps n p now access answer after says d) (λ r. recover_steps n p now access answer after says r) more) s

may_enqueue : (n : ℕ) (now : Doing) (c : Enqueue) → MayEnqueue n now c → EnqueueGoes c.stage → MayBegin now (enqueue_doing c c.stage)
may_enqueue n (Idle u) c may go = subst (MayBegin (Idle u)) (sym (enqueue_is c c.stage go)) may.0
may_enqueue n (Enqueueing d) c may go = absurd may
may_enqueue n (Dequeueing d) c may go = absurd may
may_enqueue n (Recovering d) c may go = absurd may
may_enqueue n Stopped c may go = absurd may
may_enqueue n Torn c may go = absurd may

may_dequeue : (n : ℕ) (now : Doing) (c : Dequeue) → MayDequeue n now c → DequeueGoes c.stage → MayBegin now (dequeue_doing c c.stage)
may_dequeue n (Idle u) c may go = subst (MayBegin (Idle u)) (sym (dequeue_is c c.stage go)) may.0
may_dequeue n (Enqueueing d) c may go = absurd may
may_dequeue n (Dequeueing d) c may go = absurd may
may_dequeue n (Recovering d) c may go = absurd may
may_dequeue n Stopped c may go = absurd may
may_dequeue n Torn c may go = absurd may

may_recover : (n : ℕ) (now : Doing) (c : Recover) → MayRecover n now c → RecoverGoes c.stage → MayBegin now (recover_doing c c.stage)
may_recover n Stopped c may go = subst (MayBegin Stopped) (sym (recover_is c c.stage go)) tt
may_recover n (Idle u) c may go = absurd may
may_recover n (Enqueueing d) c may go = absurd may
may_recover n (Dequeueing d) c may go = absurd may
may_recover n (Recovering d) c may go = absurd may
may_recover n Torn c may go = absurd may

-- each begin of the queue is one of the queue without a flaw
pub begins_are : (n p : ℕ) (now after : Doing) → queue.begins n p now after → MayBegin now after
begins_are n p now after b = ⊎_elim
    (λ (e : BeginsOf enqueues n p now after). subst (MayBegin now) (sym e.lands) (may_enqueue n now e.call e.may e.goes))
    (λ more. ⊎_elim
    (λ (d : BeginsOf dequeues n p now after). subst (MayBegin now) (sym d.lands) (may_dequeue n now d.call d.may d.goes))
    (λ (r : BeginsOf recoveries n p now after). subst (MayBegin now) (sym r.lands) (may_recover n now r.call r.may r.goes)) more) b

-- the next access is that of the queue without a flaw
pub wants_are : (k p : ℕ) (now : Doing) (o : Option (Access ℕ)) → MatchOption o (NoStep now) (StepAsks now) → MatchOption o (Rests two_processes k p now) (AsksFor two_processes k p now)
wants_are k p now None none = λ access answer after says s. none Nothing access answer after says (steps_are 2 p now access answer after says s)
wants_are k p now (Some a) asks = λ access answer after says s. asks Nothing access answer after says (steps_are 2 p now access answer after says s)
