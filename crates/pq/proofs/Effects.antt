-- Each operation takes effect at a step of its own call.
use Rattle.std.proofs.Common.{ℕ, suc, ◌≡◌, ◌⊎◌, ◌==◌, refl, sym, ap, subst, ◌∙◌, inl, inr, arith, List, [], ◌∷◌, Bool, if◌then◌else◌, eq-eqb, ne_eqb}
use Rattle.std.proofs.lemmas.Bool.{cases_Bool}
use mathlib.Core.Logic.{dite}
use native.Mathlib.Decide.{ℕ_discrete}
use Rattle.pm_base.proofs.Puts.{put_here}
use Rattle.pm_base.proofs.Running.{runs}
use Rattle.pm_base.specs.Runs.{Happened, Run, IsNew, Moves}
use Rattle.pm_base.specs.declared.history.Event.{Event}
use Rattle.pm_base.specs.declared.history.Event.TheVariants.{Begin, Step, Evict, Stop, Crash}
use Rattle.pq.specs.Places.{Belongs, nodes}
use Rattle.pq.specs.History.{History, Has, HasNot, linking, claiming, emptying, Words, words_of}
use Rattle.pq.specs.Sound.{IsSound}
use Rattle.pq.specs.Knows.{KnowsEnqueue, KnowsDequeue, Knows}
use Rattle.pq.specs.Queue.{enqueue_then, dequeue_then, recover_then, step_then, queue}
use Rattle.pq.specs.Runs.{IsAt, LinksAt, ClaimsAt, WasLinked, WasClaimed, EffectsInCalls}
use Rattle.pq.specs.declared.enqueue.Enqueue.{Enqueue}
use Rattle.pq.specs.declared.enqueue.EnqueueStage.{EnqueueStage}
use Rattle.pq.specs.declared.enqueue.EnqueueStage.TheVariants as enqueue
use Rattle.pq.specs.declared.dequeue.Dequeue.{Dequeue}
use Rattle.pq.specs.declared.dequeue.DequeueStage.{DequeueStage}
use Rattle.pq.specs.declared.dequeue.DequeueStage.TheVariants as dequeue
use Rattle.pq.specs.declared.recover.RecoverStage.{RecoverStage}
use Rattle.pq.specs.declared.recover.RecoverStage.TheVariants as recover
use Rattle.pq.specs.declared.calls.Doing.{Doing}
use Rattle.pq.specs.declared.calls.Doing.TheVariants.{Idle, Enqueueing, Dequeueing, Recovering, Stopped, Torn}
use Rattle.pq.proofs.Numbers.{one_process, belongs_above}
use Rattle.pq.proofs.Logs.{extends_added, has_of_kept, has_of_marked}
use Rattle.pq.proofs.Acts.{if_true}
use Rattle.pq.proofs.Moves.{Queue}
use Rattle.pq.proofs.Structure.{is_left, cut_has, queue_moves, queue_holds}
use Rattle.pq.proofs.Runs.{has_of, not_in, own_operation}

links_either : (b : Bool) (g h : History) (i : ℕ) → (Has g.links i → Has h.links i) → Has (if b then g else h).links i → Has h.links i
links_either b g h i f t = elim (cases_Bool b) [
  | inl e ↦ f (subst (λ (z : Bool). Has (if z then g else h).links i) e t)
  | inr e ↦ subst (λ (z : Bool). Has (if z then g else h).links i) e t
]

claims_either : (b : Bool) (g h : History) (i : ℕ) → (Has g.claims i → Has h.claims i) → Has (if b then g else h).claims i → Has h.claims i
claims_either b g h i f t = elim (cases_Bool b) [
  | inl e ↦ f (subst (λ (z : Bool). Has (if z then g else h).claims i) e t)
  | inr e ↦ subst (λ (z : Bool). Has (if z then g else h).claims i) e t
]

-- ---- links

-- the enqueue j of the value x is the one that took effect
abbrev Links : History → ℕ → ℕ → ℕ → History → Type 0
Links h j x i g = Has g.links i → Has h.links i ⊎ ((j ≡ i) × (x ≡ g.value i) × HasNot h.links i)

enqueue_links : (n : ℕ) (v : Words) (h : History) (p j x i : ℕ) → IsSound (nodes n) v h → Belongs p j → (s : EnqueueStage) → KnowsEnqueue v h p j x s → Links h j x i (enqueue_then h v j x s)
enqueue_links n v h p j x i sound mine enqueue.StoreValue k t = inl t
enqueue_links n v h p j x i sound mine enqueue.FlushValue k t = inl t
enqueue_links n v h p j x i sound mine enqueue.BackValue k t = inl t
enqueue_links n v h p j x i sound mine enqueue.StoreAnnounce k t = inl t
enqueue_links n v h p j x i sound mine enqueue.FlushAnnounce k t = inl t
enqueue_links n v h p j x i sound mine enqueue.BackAnnounce k t = inl t
enqueue_links n v h p j x i sound mine enqueue.LoadTail k t = inl t
enqueue_links n v h p j x i sound mine (enqueue.LoadNext a) k t = inl t
enqueue_links n v h p j x i sound mine (enqueue.FlushNext a y) k t = inl t
enqueue_links n v h p j x i sound mine (enqueue.BackNext a y) k t = inl (has_of_kept h.links _ i t)
enqueue_links n v h p j x i sound mine (enqueue.StoreLinked a y) k t = inl t
enqueue_links n v h p j x i sound mine (enqueue.FlushLinked a y) k t = inl t
enqueue_links n v h p j x i sound mine (enqueue.BackLinked a y) k t = inl (has_of_marked h.links _ i t)
enqueue_links n v h p j x i sound mine (enqueue.SwapTail a y) k t = inl t
enqueue_links n v h p j x i sound mine enqueue.Done k t = inl t
enqueue_links n v h p j x i sound mine enqueue.Torn k t = inl t
enqueue_links n v h p j x i sound mine (enqueue.SwapNext a) k t = dite (ℕ_discrete (v.next.now a) 0)
    (λ z.
    let u : Has (linking h j x).links i = subst (λ (b : Bool). Has (if b then linking h j x else h).links i) (eq-eqb (v.next.now a) 0 z) t in
    subst (λ (g : History). Has h.links i ⊎ ((j ≡ i) × (x ≡ g.value i) × HasNot h.links i)) (if_true (v.next.now a == 0) (linking h j x) h (eq-eqb (v.next.now a) 0 z)) (dite (ℕ_discrete i j)
    (λ same. inr (sym same, sym (put_here h.value j x i same), (λ has. k.1 (subst (Has h.links) same has))))
    (λ ne. inl ((extends_added (nodes n) h.links j sound.links k.1 (λ e. (let a2 = belongs_above p j mine in omega (arith, a2, e)))).none i ne u))))
    (λ nz. inl (subst (λ (b : Bool). Has (if b then linking h j x else h).links i) (ne_eqb (v.next.now a) 0 nz) t))

dequeue_links : (v : Words) (h : History) (j i : ℕ) (s : DequeueStage) → Has (dequeue_then h v j s).links i → Has h.links i
dequeue_links v h j i dequeue.StoreAnnounce t = t
dequeue_links v h j i dequeue.FlushAnnounce t = t
dequeue_links v h j i dequeue.BackAnnounce t = t
dequeue_links v h j i dequeue.LoadHead t = t
dequeue_links v h j i dequeue.StoreEmpty t = t
dequeue_links v h j i dequeue.FlushEmpty t = t
dequeue_links v h j i dequeue.BackEmpty t = t
dequeue_links v h j i (dequeue.FlushNext a y) t = t
dequeue_links v h j i (dequeue.BackNext a y) t = has_of_kept h.links _ i t
dequeue_links v h j i (dequeue.FlushTaker a y d) t = t
dequeue_links v h j i (dequeue.BackTaker a y d) t = t
dequeue_links v h j i (dequeue.StoreResult a y d) t = t
dequeue_links v h j i (dequeue.FlushResult a y d) t = t
dequeue_links v h j i (dequeue.BackResult a y d) t = t
dequeue_links v h j i (dequeue.SwapHead a y d) t = t
dequeue_links v h j i (dequeue.LoadValue y) t = t
dequeue_links v h j i dequeue.DoneEmpty t = t
dequeue_links v h j i (dequeue.Done x) t = t
dequeue_links v h j i dequeue.Torn t = t
dequeue_links v h j i (dequeue.LoadNext a) t = links_either (v.next.now a == 0) (emptying h j) h i (λ z. z) t
dequeue_links v h j i (dequeue.SwapTaker a y) t = links_either (v.taker.now y == 0) (claiming h j) h i (λ z. z) t

recover_links : (h : History) (i : ℕ) (s : RecoverStage) → Has (recover_then h s).links i → Has h.links i
recover_links h i recover.LoadAnnounce t = t
recover_links h i recover.FlushAnnounce t = t
recover_links h i recover.BackAnnounce t = t
recover_links h i recover.LoadTail t = t
recover_links h i (recover.FindNode a) t = t
recover_links h i (recover.FlushNext a) t = t
recover_links h i (recover.BackNext a) t = has_of_kept h.links _ i t
recover_links h i recover.LoadLinked t = t
recover_links h i recover.LoadHead t = t
recover_links h i (recover.FindNext a) t = t
recover_links h i (recover.LoadTaker a y) t = t
recover_links h i (recover.FlushTaker a y) t = t
recover_links h i (recover.BackTaker a y) t = t
recover_links h i recover.LoadResult t = t
recover_links h i recover.FlushEmpty t = t
recover_links h i recover.BackEmpty t = t
recover_links h i (recover.LoadValue y) t = t
recover_links h i (recover.Done f) t = t
recover_links h i recover.Torn t = t

-- ---- claims

-- the dequeue j is the one that took effect
abbrev Claims : History → ℕ → ℕ → History → Type 0
Claims h j i g = Has g.claims i → Has h.claims i ⊎ ((j ≡ i) × HasNot h.claims i)

dequeue_claims : (n : ℕ) (v : Words) (h : History) (p j i : ℕ) → IsSound (nodes n) v h → Belongs p j → (s : DequeueStage) → KnowsDequeue v h p j s → Claims h j i (dequeue_then h v j s)
dequeue_claims n v h p j i sound mine dequeue.StoreAnnounce k t = inl t
dequeue_claims n v h p j i sound mine dequeue.FlushAnnounce k t = inl t
dequeue_claims n v h p j i sound mine dequeue.BackAnnounce k t = inl t
dequeue_claims n v h p j i sound mine dequeue.LoadHead k t = inl t
dequeue_claims n v h p j i sound mine dequeue.StoreEmpty k t = inl t
dequeue_claims n v h p j i sound mine dequeue.FlushEmpty k t = inl t
dequeue_claims n v h p j i sound mine dequeue.BackEmpty k t = inl t
dequeue_claims n v h p j i sound mine (dequeue.FlushNext a y) k t = inl t
dequeue_claims n v h p j i sound mine (dequeue.BackNext a y) k t = inl t
dequeue_claims n v h p j i sound mine (dequeue.FlushTaker a y d) k t = inl t
dequeue_claims n v h p j i sound mine (dequeue.BackTaker a y d) k t = inl (has_of_kept h.claims _ i t)
dequeue_claims n v h p j i sound mine (dequeue.StoreResult a y d) k t = inl t
dequeue_claims n v h p j i sound mine (dequeue.FlushResult a y d) k t = inl t
dequeue_claims n v h p j i sound mine (dequeue.BackResult a y d) k t = inl (has_of_marked h.claims _ i t)
dequeue_claims n v h p j i sound mine (dequeue.SwapHead a y d) k t = inl t
dequeue_claims n v h p j i sound mine (dequeue.LoadValue y) k t = inl t
dequeue_claims n v h p j i sound mine dequeue.DoneEmpty k t = inl t
dequeue_claims n v h p j i sound mine (dequeue.Done x) k t = inl t
dequeue_claims n v h p j i sound mine dequeue.Torn k t = inl t
dequeue_claims n v h p j i sound mine (dequeue.LoadNext a) k t = inl (claims_either (v.next.now a == 0) (emptying h j) h i (λ z. z) t)
dequeue_claims n v h p j i sound mine (dequeue.SwapTaker a y) k t = dite (ℕ_discrete (v.taker.now y) 0)
    (λ z.
    let u : Has (claiming h j).claims i = subst (λ (b : Bool). Has (if b then claiming h j else h).claims i) (eq-eqb (v.taker.now y) 0 z) t in
    dite (ℕ_discrete i j)
    (λ same. inr (sym same, (λ has. k.1.claims (subst (Has h.claims) same has))))
    (λ ne. inl ((extends_added (nodes n) h.claims j sound.claims k.1.claims (λ e. (let a2 = belongs_above p j mine in omega (arith, a2, e)))).none i ne u)))
    (λ nz. inl (subst (λ (b : Bool). Has (if b then claiming h j else h).claims i) (ne_eqb (v.taker.now y) 0 nz) t))

enqueue_claims : (v : Words) (h : History) (j x i : ℕ) (s : EnqueueStage) → Has (enqueue_then h v j x s).claims i → Has h.claims i
enqueue_claims v h j x i enqueue.StoreValue t = t
enqueue_claims v h j x i enqueue.FlushValue t = t
enqueue_claims v h j x i enqueue.BackValue t = t
enqueue_claims v h j x i enqueue.StoreAnnounce t = t
enqueue_claims v h j x i enqueue.FlushAnnounce t = t
enqueue_claims v h j x i enqueue.BackAnnounce t = t
enqueue_claims v h j x i enqueue.LoadTail t = t
enqueue_claims v h j x i (enqueue.LoadNext a) t = t
enqueue_claims v h j x i (enqueue.FlushNext a y) t = t
enqueue_claims v h j x i (enqueue.BackNext a y) t = t
enqueue_claims v h j x i (enqueue.StoreLinked a y) t = t
enqueue_claims v h j x i (enqueue.FlushLinked a y) t = t
enqueue_claims v h j x i (enqueue.BackLinked a y) t = t
enqueue_claims v h j x i (enqueue.SwapTail a y) t = t
enqueue_claims v h j x i enqueue.Done t = t
enqueue_claims v h j x i enqueue.Torn t = t
enqueue_claims v h j x i (enqueue.SwapNext a) t = claims_either (v.next.now a == 0) (linking h j x) h i (λ z. z) t

recover_claims : (h : History) (i : ℕ) (s : RecoverStage) → Has (recover_then h s).claims i → Has h.claims i
recover_claims h i recover.LoadAnnounce t = t
recover_claims h i recover.FlushAnnounce t = t
recover_claims h i recover.BackAnnounce t = t
recover_claims h i recover.LoadTail t = t
recover_claims h i (recover.FindNode a) t = t
recover_claims h i (recover.FlushNext a) t = t
recover_claims h i (recover.BackNext a) t = t
recover_claims h i recover.LoadLinked t = t
recover_claims h i recover.LoadHead t = t
recover_claims h i (recover.FindNext a) t = t
recover_claims h i (recover.LoadTaker a y) t = t
recover_claims h i (recover.FlushTaker a y) t = t
recover_claims h i (recover.BackTaker a y) t = has_of_kept h.claims _ i t
recover_claims h i recover.LoadResult t = t
recover_claims h i recover.FlushEmpty t = t
recover_claims h i recover.BackEmpty t = t
recover_claims h i (recover.LoadValue y) t = t
recover_claims h i (recover.Done f) t = t
recover_claims h i recover.Torn t = t

-- ---- steps

-- a step of the process links the operation
record Linking (h g : History) (now : Doing) (i : ℕ) : Type 0 where
  call : Enqueue
  runs_it : now ≡ Enqueueing call
  is : call.operation ≡ i
  value : call.value ≡ g.value i
  none : HasNot h.links i

-- a step of the process claims a node for the operation
record Claiming (h : History) (now : Doing) (i : ℕ) : Type 0 where
  call : Dequeue
  runs_it : now ≡ Dequeueing call
  is : call.operation ≡ i
  none : HasNot h.claims i

step_links : (n : ℕ) (v : Words) (h : History) (p : ℕ) (now : Doing) (i : ℕ) → IsSound (nodes n) v h → Knows v h p now → Has (step_then h v now).links i → Has h.links i ⊎ Linking h (step_then h v now) now i
step_links n v h p (Idle u) i sound k t = inl t
step_links n v h p (Enqueueing c) i sound k t = elim (enqueue_links n v h p c.operation c.value i sound k.1 c.stage k.2 t) [
  | inl old ↦ inl old
  | inr new ↦ inr (record { call = c; runs_it = refl; is = new.0; value = new.1; none = new.2 })
]
step_links n v h p (Dequeueing c) i sound k t = inl (dequeue_links v h c.operation i c.stage t)
step_links n v h p (Recovering c) i sound k t = inl (recover_links h i c.stage t)
step_links n v h p Stopped i sound k t = inl t
step_links n v h p Torn i sound k t = inl t

step_claims : (n : ℕ) (v : Words) (h : History) (p : ℕ) (now : Doing) (i : ℕ) → IsSound (nodes n) v h → Knows v h p now → Has (step_then h v now).claims i → Has h.claims i ⊎ Claiming h now i
step_claims n v h p (Idle u) i sound k t = inl t
step_claims n v h p (Enqueueing c) i sound k t = inl (enqueue_claims v h c.operation c.value i c.stage t)
step_claims n v h p (Dequeueing c) i sound k t = elim (dequeue_claims n v h p c.operation i sound k.1 c.stage k.2 t) [
  | inl old ↦ inl old
  | inr new ↦ inr (record { call = c; runs_it = refl; is = new.0; none = new.1 })
]
step_claims n v h p (Recovering c) i sound k t = inl (recover_claims h i c.stage t)
step_claims n v h p Stopped i sound k t = inl t
step_claims n v h p Torn i sound k t = inl t

-- the operation of an enqueue is one of its process
enqueue_owns : (v : Words) (h : History) (q : ℕ) (now : Doing) (c : Enqueue) → Knows v h q now → now ≡ Enqueueing c → Belongs q c.operation
enqueue_owns v h q now c k is =
    let k2 : Knows v h q (Enqueueing c) = subst (Knows v h q) is k in
    k2.1

-- ---- events

module _ (n p i : ℕ) (mine : Belongs p i) where
  -- the operation was linked before, with its value, or is linked by this event
  links_by : (h : Happened queue n) (event : Event Doing) (w2 : Queue) → h.entry.event ≡ event → queue.sound n h.before → Moves queue n h.before event h.entry.responses w2 → Has w2.hidden.links i → (Has h.before.hidden.links i × (w2.hidden.value i ≡ h.before.hidden.value i)) ⊎ LinksAt n h p i (w2.hidden.value i)
  links_by h (Begin q call) w2 at s m t = inl (subst (λ (z : Queue). Has z.hidden.links i) m.2 t, ap (λ (z : Queue). z.hidden.value i) m.2)
  links_by h (Evict r) w2 at s m t = inl (subst (λ (z : Queue). Has z.hidden.links i) m.2 t, ap (λ (z : Queue). z.hidden.value i) m.2)
  links_by h (Stop q) w2 at s m t = inl (subst (λ (z : Queue). Has z.hidden.links i) m.2 t, ap (λ (z : Queue). z.hidden.value i) m.2)
  links_by h Crash w2 at s m t =
      let v : Words = words_of h.before.memory in
      let old : History = h.before.hidden in
      let left = is_left (nodes n) v.next old.links.at old.links s.0.links in
      inl (cut_has (nodes n) old.links _ s.0.links left.least left.most i (subst (λ (z : Queue). Has z.hidden.links i) m.1 t), ap (λ (z : Queue). z.hidden.value i) m.1)
  links_by h (Step q) w2 at s m t =
      let v : Words = words_of h.before.memory in
      let old : History = h.before.hidden in
      let d = queue_moves n h.before q m.access m.answer m.now h.entry.responses w2.memory s m.low m.takes m.performs in
      elim (step_links n v old q (h.before.situation q) i s.0 (s.1 q m.low).0 (subst (λ (z : Queue). Has z.hidden.links i) m.lands t)) [
        | inl has ↦ inl (has, ap (λ (z : Queue). z.hidden.value i) m.lands ∙ d.later.values i has)
        | inr new ↦ (
            let now = subst (λ (z : Queue). Has z.hidden.links i) m.lands t in
            let same : q ≡ p = one_process q p i (subst (Belongs q) new.is (enqueue_owns v old q (h.before.situation q) new.call (s.1 q m.low).0 new.runs_it)) mine in
            inr (record {
              steps = at ∙ ap (λ (z : ℕ). (let e : Event Doing = Step z in e)) same;
              call = new.call;
              runs = ap h.before.situation (sym same) ∙ new.runs_it;
              is = new.is;
              value = new.value ∙ ap (λ (z : Queue). z.hidden.value i) (sym m.lands);
              new = not_in (nodes n) old.links i s.0.links new.none;
              effect = subst (λ (z : ℕ). (k : ℕ) × IsAt (step_then old v (h.before.situation z)).links k i) same (_, record { first = now.above; last = now.within; is = now.there });
            }))
      ]

  claims_by : (h : Happened queue n) (event : Event Doing) (w2 : Queue) → h.entry.event ≡ event → queue.sound n h.before → Moves queue n h.before event h.entry.responses w2 → Has w2.hidden.claims i → Has h.before.hidden.claims i ⊎ ClaimsAt n h p i
  claims_by h (Begin q call) w2 at s m t = inl (subst (λ (z : Queue). Has z.hidden.claims i) m.2 t)
  claims_by h (Evict r) w2 at s m t = inl (subst (λ (z : Queue). Has z.hidden.claims i) m.2 t)
  claims_by h (Stop q) w2 at s m t = inl (subst (λ (z : Queue). Has z.hidden.claims i) m.2 t)
  claims_by h Crash w2 at s m t =
      let v : Words = words_of h.before.memory in
      let old : History = h.before.hidden in
      let left = is_left (nodes n) v.taker (λ k. old.links.at (suc k)) old.claims s.0.claims in
      inl (cut_has (nodes n) old.claims _ s.0.claims left.least left.most i (subst (λ (z : Queue). Has z.hidden.claims i) m.1 t))
  claims_by h (Step q) w2 at s m t =
      let v : Words = words_of h.before.memory in
      let old : History = h.before.hidden in
      elim (step_claims n v old q (h.before.situation q) i s.0 (s.1 q m.low).0 (subst (λ (z : Queue). Has z.hidden.claims i) m.lands t)) [
        | inl has ↦ inl has
        | inr new ↦ (
            let now = subst (λ (z : Queue). Has z.hidden.claims i) m.lands t in
            let same : q ≡ p = one_process q p i (subst (Belongs q) new.is (own_operation v old q (h.before.situation q) new.call (s.1 q m.low).0 new.runs_it)) mine in
            inr (record {
              steps = at ∙ ap (λ (z : ℕ). (let e : Event Doing = Step z in e)) same;
              call = new.call;
              runs = ap h.before.situation (sym same) ∙ new.runs_it;
              is = new.is;
              new = not_in (nodes n) old.claims i s.0.claims new.none;
              effect = subst (λ (z : ℕ). (k : ℕ) × IsAt (step_then old v (h.before.situation z)).claims k i) same (_, record { first = now.above; last = now.within; is = now.there });
            }))
      ]

  none_at_first : (first last : Queue) → IsNew queue n first → last ≡ first → (Has last.hidden.links i → ⊥) × (Has last.hidden.claims i → ⊥)
  none_at_first first last new run = (
    (λ t. let u = subst (λ (z : Queue). Has z.hidden.links i) (run ∙ new.is) t in let a = u.above in let b = u.within in omega (arith, a, b)),
    (λ t. let u = subst (λ (z : Queue). Has z.hidden.claims i) (run ∙ new.is) t in let a = u.above in let b = u.within in omega (arith, a, b)),
  )

  was_linked : (first last : Queue) (hs : List (Happened queue n)) → IsNew queue n first → Run queue n first hs last → Has last.hidden.links i → WasLinked n p i (last.hidden.value i) hs
  was_linked first last [] new run t = (none_at_first first last new run).0 t
  was_linked first last (h ∷ hs) new run t =
      let r = runs queue n (queue_holds n) first h.before hs new run.1 in
      elim (links_by h h.entry.event last refl r.sound run.0 t) [
        | inl old ↦ inr (subst (λ (x : ℕ). WasLinked n p i x hs) (sym old.1) (was_linked first h.before hs new run.1 old.0))
        | inr now ↦ inl now
      ]

  was_claimed : (first last : Queue) (hs : List (Happened queue n)) → IsNew queue n first → Run queue n first hs last → Has last.hidden.claims i → WasClaimed n p i hs
  was_claimed first last [] new run t = (none_at_first first last new run).1 t
  was_claimed first last (h ∷ hs) new run t =
      let r = runs queue n (queue_holds n) first h.before hs new run.1 in
      elim (claims_by h h.entry.event last refl r.sound run.0 t) [
        | inl old ↦ inr (was_claimed first h.before hs new run.1 old)
        | inr now ↦ inl now
      ]

pub effects_in_calls : (n : ℕ) → EffectsInCalls n
effects_in_calls n first last hs p i new run mine =
    let r = runs queue n (queue_holds n) first last hs new run in (
      (λ k at. was_linked n p i mine first last hs new run (has_of (nodes n) last.hidden.links k i r.sound.0.links at).0),
      (λ k at. was_claimed n p i mine first last hs new run (has_of (nodes n) last.hidden.claims k i r.sound.0.claims at).0),
    )
