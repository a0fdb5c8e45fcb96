-- How the calls on the queue end.
use Rattle.std.proofs.Common.{ℕ, ◌≡◌, ◌∙◌, List, [], ◌∷◌, ◌++◌, refl, sym, ap, subst, arith}
use Rattle.std.proofs.lemmas.List.{append-nil}
use Rattle.std.specs.Prelude.{Option, Some, None, MatchOption}
use Rattle.atomic_table.specs.Table.{Me}
use Rattle.pm_base.specs.Structures.{Calls}
use Rattle.pm_base.specs.declared.history.Deed.TheVariants as deed
use Rattle.pm_board.specs.declared.board.View.{View}
use Rattle.pm_board.specs.Machines.{answered_so, Grows, Ran, still, steps, Breaks, before_all, within, Settles}
use Rattle.pm_board.specs.Views.{deeds_at, seated, RunsOne}
use Rattle.pq.specs.Calls.{EnqueueGoes, DequeueGoes, RecoverGoes, first_enqueue, first_dequeue, first_recovery}
use Rattle.pq.specs.Queue.{queue, enqueues, enqueue_doing, enqueue_says, EnqueueEnds, dequeues, dequeue_doing, dequeue_says, DequeueEnds, recoveries, recover_doing, recover_says, RecoverEnds}
use Rattle.pq.specs.declared.enqueue.Enqueue.{Enqueue}
use Rattle.pq.specs.declared.enqueue.EnqueueStage.{EnqueueStage}
use Rattle.pq.specs.declared.enqueue.EnqueueStage.TheVariants as enqueue
use Rattle.pq.specs.declared.dequeue.Dequeue.{Dequeue}
use Rattle.pq.specs.declared.dequeue.DequeueStage.{DequeueStage}
use Rattle.pq.specs.declared.dequeue.DequeueStage.TheVariants as dequeue
use Rattle.pq.specs.declared.recover.Recover.{Recover}
use Rattle.pq.specs.declared.recover.RecoverStage.{RecoverStage}
use Rattle.pq.specs.declared.recover.RecoverStage.TheVariants as recover
use Rattle.pq.specs.declared.calls.Doing.{Doing}
use Rattle.pq.specs.declared.calls.Response.{Response}
use Rattle.pq.specs.declared.calls.Ended.{Ended}
use Rattle.pq_shared.specs.Endings.{HasEnded, EnqueueLeaves, DequeueLeaves, RecoverLeaves, BreaksEnqueue, BreaksDequeue, BreaksRecovery, IsEnqueued, IsDequeued, IsRecovered}

abbrev Sat : Type 0
Sat = Me ℕ (View Doing Response)

-- ---- calls of any kind: what holds of the call stays so, and nothing is answered before its end

module _ {C : Type 0} (c : Calls ℕ Doing Response C Ended) (Kept : C → Type 0) (stays : (d : C) (word : ℕ) → Kept d → Kept (c.next d word)) (quiet : (d : C) → c.goes d → c.says d ≡ []) where
  ran_kept : (first call : C) (ts : List Response) (n : ℕ) → Kept first → c.says first ≡ [] → Ran c first call ts n → Kept call × (ts ≡ c.says call)
  ran_kept first call ts n kept start still = (kept, sym start)
  ran_kept first call us m kept start (steps d ts n word ran go) =
      let r = ran_kept first d ts n kept start ran in
      (stays d word r.0, ap (λ (l : List Response). c.says (c.next d word) ++ l) (r.1 ∙ quiet d go) ∙ append-nil (c.says (c.next d word)))

  has_ended : (n process : ℕ) (first : C) (old me : Sat) (call : C) (end : Ended) (Leaves : Doing → List Response → Type 0) (k : ℕ) → Kept first → c.says first ≡ [] → c.process first ≡ process → (Kept call → c.process call ≡ process)
      → (Kept call → c.ends call end → Leaves (c.doing call) (c.says call)) → Settles queue c n first old me call end k → HasEnded old me process (c.doing first) Leaves (c.rank first) k
  has_ended n process first old me call end Leaves k kept start begun own leaves h =
      let r = ran_kept first call h.is.responses k kept start h.is.ran in record {
        now = c.doing call;
        answers = c.says call;
        leaves = leaves r.0 h.ends;
        sits = record {
          runs = record { seat = seated (c.process call) (c.doing call) h.buffer h.is.held; at = h.is.at; own = own r.0; seen = _; looked = h.is.grows.seen };
          does = refl;
        };
        done = ap (λ d. d.done) (ap deeds_at h.is.at) ∙ (h.is.done ∙ ap (λ (l : List Response). answered_so l ++ (deed.Began (c.doing first) ∷ (deeds_at old).done)) r.1);
        grows = subst (λ d. Grows process (deeds_at old) d k) (sym (ap deeds_at h.is.at)) (subst (λ (p : ℕ). Grows p (deeds_at old) h.is.held k) begun h.is.grows);
        few = (let most = h.few in omega (arith, most));
      }

  runs_on : (n process : ℕ) (first : C) (old me : Sat) (call : C) (k : ℕ) → Kept first → c.says first ≡ [] → ((d : C) → Kept d → c.process d ≡ process) → RunsOne old process → Breaks queue c n first old me call k → RunsOne me process
  runs_on n process first old me call k kept start own runs before_all = runs
  runs_on n process first old me call k kept start own runs (within m d x j is few goes) = record { seat = seated (c.process d) (c.doing d) x is.held; at = is.at; own = own d (ran_kept first d is.responses j kept start is.ran).0; seen = _; looked = is.grows.seen }

-- ---- enqueues

quiet_enqueue : (c : Enqueue) (s : EnqueueStage) → EnqueueGoes s → enqueue_says c s ≡ []
quiet_enqueue c enqueue.StoreValue go = refl
quiet_enqueue c enqueue.FlushValue go = refl
quiet_enqueue c enqueue.BackValue go = refl
quiet_enqueue c enqueue.StoreAnnounce go = refl
quiet_enqueue c enqueue.FlushAnnounce go = refl
quiet_enqueue c enqueue.BackAnnounce go = refl
quiet_enqueue c enqueue.LoadTail go = refl
quiet_enqueue c (enqueue.LoadNext a) go = refl
quiet_enqueue c (enqueue.SwapNext a) go = refl
quiet_enqueue c (enqueue.FlushNext a y) go = refl
quiet_enqueue c (enqueue.BackNext a y) go = refl
quiet_enqueue c (enqueue.StoreLinked a y) go = refl
quiet_enqueue c (enqueue.FlushLinked a y) go = refl
quiet_enqueue c (enqueue.BackLinked a y) go = refl
quiet_enqueue c (enqueue.SwapTail a y) go = refl
quiet_enqueue c enqueue.Done go = absurd go
quiet_enqueue c enqueue.Torn go = absurd go

enqueue_leaves : (c : Enqueue) (s : EnqueueStage) (e : Ended) → EnqueueEnds s e → EnqueueLeaves c.operation c.value e (enqueue_doing c s) (enqueue_says c s)
enqueue_leaves c enqueue.Done e is = subst (λ (z : Ended). EnqueueLeaves c.operation c.value z (enqueue_doing c enqueue.Done) (enqueue_says c enqueue.Done)) (sym is) (refl, refl)
enqueue_leaves c enqueue.Torn e is = subst (λ (z : Ended). EnqueueLeaves c.operation c.value z (enqueue_doing c enqueue.Torn) (enqueue_says c enqueue.Torn)) (sym is) (refl, refl)
enqueue_leaves c enqueue.StoreValue e is = absurd is
enqueue_leaves c enqueue.FlushValue e is = absurd is
enqueue_leaves c enqueue.BackValue e is = absurd is
enqueue_leaves c enqueue.StoreAnnounce e is = absurd is
enqueue_leaves c enqueue.FlushAnnounce e is = absurd is
enqueue_leaves c enqueue.BackAnnounce e is = absurd is
enqueue_leaves c enqueue.LoadTail e is = absurd is
enqueue_leaves c (enqueue.LoadNext a) e is = absurd is
enqueue_leaves c (enqueue.SwapNext a) e is = absurd is
enqueue_leaves c (enqueue.FlushNext a y) e is = absurd is
enqueue_leaves c (enqueue.BackNext a y) e is = absurd is
enqueue_leaves c (enqueue.StoreLinked a y) e is = absurd is
enqueue_leaves c (enqueue.FlushLinked a y) e is = absurd is
enqueue_leaves c (enqueue.BackLinked a y) e is = absurd is
enqueue_leaves c (enqueue.SwapTail a y) e is = absurd is

-- the process, the operation and the value of an enqueue
abbrev KeepsEnqueue : ℕ → ℕ → ℕ → Enqueue → Type 0
KeepsEnqueue p i x c = (c.process ≡ p) × (c.operation ≡ i) × (c.value ≡ x)

-- how an enqueue comes out, by what its fuse was asked
pub enqueue_out : (A B : ℕ → Type 0) (n p i x : ℕ) (first : Enqueue) (old me : Sat) (c : Enqueue) (r : Option Ended) → first ≡ first_enqueue n p i x → RunsOne old p
    → MatchOption r ((k : ℕ) × A k × Breaks queue enqueues n first old me c k) (λ e. (k : ℕ) × B k × Settles queue enqueues n first old me c e k)
    → MatchOption r ((k : ℕ) × A k × BreaksEnqueue old me n p i x k) (λ e. (k : ℕ) × B k × IsEnqueued old me n p i x e k)
enqueue_out A B n p i x first old me c None is runs h = (h.0, h.1, (c, subst (λ (d : Enqueue). Breaks queue enqueues n d old me c h.0) is h.2))
enqueue_out A B n p i x first old me c (Some e) is runs h = (
  h.0,
  h.1,
  has_ended enqueues (KeepsEnqueue p i x) (λ d word k. k) (λ d go. quiet_enqueue d d.stage go) n p (first_enqueue n p i x) old me c e (EnqueueLeaves i x e) h.0 (refl, refl, refl) refl refl (λ k. k.0)
      (λ k end. subst (λ (j : ℕ). EnqueueLeaves j x e (enqueues.doing c) (enqueues.says c)) k.1 (subst (λ (v : ℕ). EnqueueLeaves c.operation v e (enqueues.doing c) (enqueues.says c)) k.2 (enqueue_leaves c c.stage e end))) (subst (λ (d : Enqueue). Settles queue enqueues n d old me c e h.0) is h.2),
)

-- whatever came of it, the seat runs its process alone
pub enqueue_runs : (A B : ℕ → Type 0) (n p i x : ℕ) (old me : Sat) (r : Option Ended) → RunsOne old p → MatchOption r ((k : ℕ) × A k × BreaksEnqueue old me n p i x k) (λ e. (k : ℕ) × B k × IsEnqueued old me n p i x e k) → RunsOne me p
enqueue_runs A B n p i x old me None runs h = runs_on enqueues (KeepsEnqueue p i x) (λ d word k. k) (λ d go. quiet_enqueue d d.stage go) n p (first_enqueue n p i x) old me h.2.0 h.0 (refl, refl, refl) refl (λ d k. k.0) runs h.2.1
enqueue_runs A B n p i x old me (Some e) runs h = h.2.sits.runs

-- ---- dequeues

quiet_dequeue : (c : Dequeue) (s : DequeueStage) → DequeueGoes s → dequeue_says c s ≡ []
quiet_dequeue c dequeue.StoreAnnounce go = refl
quiet_dequeue c dequeue.FlushAnnounce go = refl
quiet_dequeue c dequeue.BackAnnounce go = refl
quiet_dequeue c dequeue.LoadHead go = refl
quiet_dequeue c (dequeue.LoadNext a) go = refl
quiet_dequeue c dequeue.StoreEmpty go = refl
quiet_dequeue c dequeue.FlushEmpty go = refl
quiet_dequeue c dequeue.BackEmpty go = refl
quiet_dequeue c (dequeue.FlushNext a y) go = refl
quiet_dequeue c (dequeue.BackNext a y) go = refl
quiet_dequeue c (dequeue.SwapTaker a y) go = refl
quiet_dequeue c (dequeue.FlushTaker a y d) go = refl
quiet_dequeue c (dequeue.BackTaker a y d) go = refl
quiet_dequeue c (dequeue.StoreResult a y d) go = refl
quiet_dequeue c (dequeue.FlushResult a y d) go = refl
quiet_dequeue c (dequeue.BackResult a y d) go = refl
quiet_dequeue c (dequeue.SwapHead a y d) go = refl
quiet_dequeue c (dequeue.LoadValue y) go = refl
quiet_dequeue c dequeue.DoneEmpty go = absurd go
quiet_dequeue c (dequeue.Done x) go = absurd go
quiet_dequeue c dequeue.Torn go = absurd go

dequeue_leaves : (c : Dequeue) (s : DequeueStage) (e : Ended) → DequeueEnds s e → DequeueLeaves c.operation e (dequeue_doing c s) (dequeue_says c s)
dequeue_leaves c dequeue.DoneEmpty e is = subst (λ (z : Ended). DequeueLeaves c.operation z (dequeue_doing c dequeue.DoneEmpty) (dequeue_says c dequeue.DoneEmpty)) (sym is) (refl, refl)
dequeue_leaves c (dequeue.Done x) e is = subst (λ (z : Ended). DequeueLeaves c.operation z (dequeue_doing c (dequeue.Done x)) (dequeue_says c (dequeue.Done x))) (sym is) (refl, refl)
dequeue_leaves c dequeue.Torn e is = subst (λ (z : Ended). DequeueLeaves c.operation z (dequeue_doing c dequeue.Torn) (dequeue_says c dequeue.Torn)) (sym is) (refl, refl)
dequeue_leaves c dequeue.StoreAnnounce e is = absurd is
dequeue_leaves c dequeue.FlushAnnounce e is = absurd is
dequeue_leaves c dequeue.BackAnnounce e is = absurd is
dequeue_leaves c dequeue.LoadHead e is = absurd is
dequeue_leaves c (dequeue.LoadNext a) e is = absurd is
dequeue_leaves c dequeue.StoreEmpty e is = absurd is
dequeue_leaves c dequeue.FlushEmpty e is = absurd is
dequeue_leaves c dequeue.BackEmpty e is = absurd is
dequeue_leaves c (dequeue.FlushNext a y) e is = absurd is
dequeue_leaves c (dequeue.BackNext a y) e is = absurd is
dequeue_leaves c (dequeue.SwapTaker a y) e is = absurd is
dequeue_leaves c (dequeue.FlushTaker a y d) e is = absurd is
dequeue_leaves c (dequeue.BackTaker a y d) e is = absurd is
dequeue_leaves c (dequeue.StoreResult a y d) e is = absurd is
dequeue_leaves c (dequeue.FlushResult a y d) e is = absurd is
dequeue_leaves c (dequeue.BackResult a y d) e is = absurd is
dequeue_leaves c (dequeue.SwapHead a y d) e is = absurd is
dequeue_leaves c (dequeue.LoadValue y) e is = absurd is

-- the process and the operation of a dequeue
abbrev KeepsDequeue : ℕ → ℕ → Dequeue → Type 0
KeepsDequeue p i c = (c.process ≡ p) × (c.operation ≡ i)

-- how a dequeue comes out
pub dequeue_out : (A B : ℕ → Type 0) (n p i : ℕ) (first : Dequeue) (old me : Sat) (c : Dequeue) (r : Option Ended) → first ≡ first_dequeue n p i → RunsOne old p
    → MatchOption r ((k : ℕ) × A k × Breaks queue dequeues n first old me c k) (λ e. (k : ℕ) × B k × Settles queue dequeues n first old me c e k)
    → MatchOption r ((k : ℕ) × A k × BreaksDequeue old me n p i k) (λ e. (k : ℕ) × B k × IsDequeued old me n p i e k)
dequeue_out A B n p i first old me c None is runs h = (h.0, h.1, (c, subst (λ (d : Dequeue). Breaks queue dequeues n d old me c h.0) is h.2))
dequeue_out A B n p i first old me c (Some e) is runs h = (
  h.0,
  h.1,
  has_ended dequeues (KeepsDequeue p i) (λ d word k. k) (λ d go. quiet_dequeue d d.stage go) n p (first_dequeue n p i) old me c e (DequeueLeaves i e) h.0 (refl, refl) refl refl (λ k. k.0)
      (λ k end. subst (λ (j : ℕ). DequeueLeaves j e (dequeues.doing c) (dequeues.says c)) k.1 (dequeue_leaves c c.stage e end)) (subst (λ (d : Dequeue). Settles queue dequeues n d old me c e h.0) is h.2),
)

-- whatever came of it, the seat runs its process alone
pub dequeue_runs : (A B : ℕ → Type 0) (n p i : ℕ) (old me : Sat) (r : Option Ended) → RunsOne old p → MatchOption r ((k : ℕ) × A k × BreaksDequeue old me n p i k) (λ e. (k : ℕ) × B k × IsDequeued old me n p i e k) → RunsOne me p
dequeue_runs A B n p i old me None runs h = runs_on dequeues (KeepsDequeue p i) (λ d word k. k) (λ d go. quiet_dequeue d d.stage go) n p (first_dequeue n p i) old me h.2.0 h.0 (refl, refl) refl (λ d k. k.0) runs h.2.1
dequeue_runs A B n p i old me (Some e) runs h = h.2.sits.runs

-- ---- recoveries

quiet_recovery : (c : Recover) (s : RecoverStage) → RecoverGoes s → recover_says c s ≡ []
quiet_recovery c recover.LoadAnnounce go = refl
quiet_recovery c recover.FlushAnnounce go = refl
quiet_recovery c recover.BackAnnounce go = refl
quiet_recovery c recover.LoadTail go = refl
quiet_recovery c (recover.FindNode a) go = refl
quiet_recovery c (recover.FlushNext a) go = refl
quiet_recovery c (recover.BackNext a) go = refl
quiet_recovery c recover.LoadLinked go = refl
quiet_recovery c recover.LoadHead go = refl
quiet_recovery c (recover.FindNext a) go = refl
quiet_recovery c (recover.LoadTaker a y) go = refl
quiet_recovery c (recover.FlushTaker a y) go = refl
quiet_recovery c (recover.BackTaker a y) go = refl
quiet_recovery c recover.LoadResult go = refl
quiet_recovery c recover.FlushEmpty go = refl
quiet_recovery c recover.BackEmpty go = refl
quiet_recovery c (recover.LoadValue y) go = refl
quiet_recovery c (recover.Done f) go = absurd go
quiet_recovery c recover.Torn go = absurd go

recover_leaves : (c : Recover) (s : RecoverStage) (e : Ended) → RecoverEnds s e → RecoverLeaves c.announced e (recover_doing c s) (recover_says c s)
recover_leaves c (recover.Done f) e is = subst (λ (z : Ended). RecoverLeaves c.announced z (recover_doing c (recover.Done f)) (recover_says c (recover.Done f))) (sym is) (refl, refl)
recover_leaves c recover.Torn e is = subst (λ (z : Ended). RecoverLeaves c.announced z (recover_doing c recover.Torn) (recover_says c recover.Torn)) (sym is) (refl, refl)
recover_leaves c recover.LoadAnnounce e is = absurd is
recover_leaves c recover.FlushAnnounce e is = absurd is
recover_leaves c recover.BackAnnounce e is = absurd is
recover_leaves c recover.LoadTail e is = absurd is
recover_leaves c (recover.FindNode a) e is = absurd is
recover_leaves c (recover.FlushNext a) e is = absurd is
recover_leaves c (recover.BackNext a) e is = absurd is
recover_leaves c recover.LoadLinked e is = absurd is
recover_leaves c recover.LoadHead e is = absurd is
recover_leaves c (recover.FindNext a) e is = absurd is
recover_leaves c (recover.LoadTaker a y) e is = absurd is
recover_leaves c (recover.FlushTaker a y) e is = absurd is
recover_leaves c (recover.BackTaker a y) e is = absurd is
recover_leaves c recover.LoadResult e is = absurd is
recover_leaves c recover.FlushEmpty e is = absurd is
recover_leaves c recover.BackEmpty e is = absurd is
recover_leaves c (recover.LoadValue y) e is = absurd is

-- the process of a recovery
abbrev KeepsRecovery : ℕ → Recover → Type 0
KeepsRecovery p c = c.process ≡ p

-- a recovery that was broken off
pub recovery_broken : (n p : ℕ) (first : Recover) (old me : Sat) (c : Recover) (k : ℕ) → first ≡ first_recovery n p → RunsOne old p → Breaks queue recoveries n first old me c k → RunsOne me p
recovery_broken n p first old me c k is runs h = runs_on recoveries (KeepsRecovery p) (λ d word k. k) (λ d go. quiet_recovery d d.stage go) n p (first_recovery n p) old me c k refl refl (λ d k. k) runs (subst (λ (d : Recover). Breaks queue recoveries n d old me c k) is h)

-- which call it was
pub recovery_breaks : (n p : ℕ) (first : Recover) (old me : Sat) (c : Recover) (k : ℕ) → first ≡ first_recovery n p → Breaks queue recoveries n first old me c k → BreaksRecovery old me n p k
recovery_breaks n p first old me c k is h = (c, subst (λ (d : Recover). Breaks queue recoveries n d old me c k) is h)

-- one that has ended
pub recovered : (n p : ℕ) (first : Recover) (old me : Sat) (c : Recover) (e : Ended) (k : ℕ) → first ≡ first_recovery n p → Settles queue recoveries n first old me c e k → IsRecovered old me n p (record { announced = c.announced; ended = e }) k
recovered n p first old me c e k is h = has_ended recoveries (KeepsRecovery p) (λ d word k. k) (λ d go. quiet_recovery d d.stage go) n p (first_recovery n p) old me c e (RecoverLeaves c.announced e) k refl refl refl (λ k. k) (λ k end. recover_leaves c c.stage e end) (subst (λ (d : Recover). Settles queue recoveries n d old me c e k) is h)
