-- A recovery answers of the operation that its process announced last.
use Rattle.std.proofs.Common.{ℕ, suc, zero, ◌≡◌, ◌≢◌, ◌⊎◌, ◌+◌, ◌*◌, ◌/◌, ◌%◌, ◌<◌, ◌≤◌, ◌==◌, refl, sym, ap, subst, ◌∙◌, inl, inr, ⊎_elim, arith, List, [], ◌∷◌, Bool, true, false, if◌then◌else◌, eq-eqb, ne_eqb}
use Rattle.std.specs.Prelude.{nat_lt}
use mathlib.Core.Logic.{dite}
use native.Mathlib.Decide.{ℕ_discrete}
use Rattle.pm_base.specs.Structures.{BeginsOf, StepsOf}
use Rattle.pm_base.specs.Runs.{Happened, Run, IsNew, Moves}
use Rattle.pm_base.specs.declared.history.Event.{Event}
use Rattle.pm_base.specs.declared.history.Event.TheVariants.{Begin, Step, Evict, Stop, Crash}
use Rattle.pm_base.proofs.Puts.{put_here, put_else}
use Rattle.pm_base.proofs.Running.{runs}
use Rattle.pq.specs.Places.{Belongs, nodes}
use Rattle.pq.specs.History.{History, Log, Side, Words, words_of, Both, Spent}
use Rattle.pq.specs.Knows.{Knows}
use Rattle.pq.specs.Sound.{IsSound}
use Rattle.pq.specs.Calls.{RecoverGoes, EnqueueGoes, DequeueGoes, recover_stage, recover_announced, recover_next}
use Rattle.pq.specs.Queue.{queue, enqueues, dequeues, recoveries, enqueue_doing, dequeue_doing, recover_doing, recover_says, found_says, MayRecover}
use Rattle.pq.specs.Runs.{AnswersFor, IsAt, RecoveriesAnswerForTheLast}
use Rattle.pq.specs.declared.places.TheConstants.{EMPTY, MOST_NODES}
use Rattle.pq.specs.declared.enqueue.Enqueue.{Enqueue}
use Rattle.pq.specs.declared.enqueue.EnqueueStage.{EnqueueStage}
use Rattle.pq.specs.declared.enqueue.EnqueueStage.TheVariants as enqueue
use Rattle.pq.specs.declared.dequeue.Dequeue.{Dequeue}
use Rattle.pq.specs.declared.dequeue.DequeueStage.{DequeueStage}
use Rattle.pq.specs.declared.dequeue.DequeueStage.TheVariants as dequeue
use Rattle.pq.specs.declared.recover.Recover.{Recover}
use Rattle.pq.specs.declared.recover.Found.TheVariants as found
use Rattle.pq.specs.declared.recover.RecoverStage.{RecoverStage}
use Rattle.pq.specs.declared.recover.RecoverStage.TheVariants as recover
use Rattle.pq.specs.declared.calls.Doing.{Doing}
use Rattle.pq.specs.declared.calls.Doing.TheVariants.{Idle, Enqueueing, Dequeueing, Recovering, Stopped, Torn}
use Rattle.pq.specs.declared.calls.Response.{Response}
use Rattle.pq.proofs.Moves.{Queue}
use Rattle.pq.proofs.Structure.{queue_holds}

module _ (n : ℕ) where
  -- what a recovery that announced this has passed where it is at this stage: which kind of operation that was
  abbrev Way : ℕ → RecoverStage → Type 0
  Way u recover.LoadAnnounce = Unit {0}
  Way u recover.FlushAnnounce = Unit {0}
  Way u recover.BackAnnounce = Unit {0}
  Way u recover.LoadTail = (u ≢ 0) × (u % 2 ≡ 0)
  Way u (recover.FindNode a) = (u ≢ 0) × (u % 2 ≡ 0)
  Way u (recover.FlushNext a) = (u ≢ 0) × (u % 2 ≡ 0)
  Way u (recover.BackNext a) = (u ≢ 0) × (u % 2 ≡ 0)
  Way u recover.LoadLinked = (u ≢ 0) × (u % 2 ≡ 0)
  Way u recover.LoadHead = (u ≢ 0) × (u % 2 ≢ 0)
  Way u (recover.FindNext a) = (u ≢ 0) × (u % 2 ≢ 0)
  Way u (recover.LoadTaker a y) = (u ≢ 0) × (u % 2 ≢ 0)
  Way u (recover.FlushTaker a y) = (u ≢ 0) × (u % 2 ≢ 0)
  Way u (recover.BackTaker a y) = (u ≢ 0) × (u % 2 ≢ 0)
  Way u recover.LoadResult = (u ≢ 0) × (u % 2 ≢ 0)
  Way u recover.FlushEmpty = (u ≢ 0) × (u % 2 ≢ 0)
  Way u recover.BackEmpty = (u ≢ 0) × (u % 2 ≢ 0)
  Way u (recover.LoadValue y) = (u ≢ 0) × (u % 2 ≢ 0)
  Way u (recover.Done f) = AnswersFor n u (found_says (u / 2) f)
  Way u recover.Torn = Unit {0}

  either_way : (P : RecoverStage → Type 0) (b : Bool) (s t : RecoverStage) → P s → P t → P (if b then s else t)
  either_way P true s t one other = one
  either_way P false s t one other = other

  -- the kind is that of what was announced
  by_kind_way : (u : ℕ) → Way u (recover_stage u 0 recover.BackAnnounce 0)
  by_kind_way u = dite (ℕ_discrete u 0)
      (λ (z : u ≡ 0). rw (eq-eqb u 0 z) (inl (z, refl)))
      (λ (nz : u ≢ 0). rw (ne_eqb u 0 nz) (dite (ℕ_discrete (u % 2) 0)
      (λ (even : u % 2 ≡ 0). rw (eq-eqb (u % 2) 0 even) (nz, even))
      (λ (odd : u % 2 ≢ 0). rw (ne_eqb (u % 2) 0 odd) (nz, odd))))

  next_way : (u turns : ℕ) (s : RecoverStage) (word : ℕ) → RecoverGoes s → Way u s → Way (recover_announced s u word) (recover_stage u turns s word)
  next_way u turns recover.LoadAnnounce word go k = either_way (Way (recover_announced recover.LoadAnnounce u word)) (nat_lt word 33554432) recover.FlushAnnounce recover.Torn tt tt
  next_way u turns recover.FlushAnnounce word go k = tt
  next_way u turns recover.BackAnnounce word go k = by_kind_way u
  next_way u turns recover.LoadTail word go k = either_way (Way u) (nat_lt word MOST_NODES) (recover.FindNode word) recover.Torn k tt
  next_way u turns (recover.FindNode a) word go k =
      either_way (Way u) (word == 0) recover.LoadLinked _ k
      (either_way (Way u) (word == u / 2) (recover.FlushNext a) _ k
      (either_way (Way u) (turns == 0) recover.Torn _ tt
      (either_way (Way u) (nat_lt word MOST_NODES) (recover.FindNode word) recover.Torn k tt)))
  next_way u turns (recover.FlushNext a) word go k = k
  next_way u turns (recover.BackNext a) word go k = inr (inl (k.0, k.1, inl refl))
  next_way u turns recover.LoadLinked word go k = either_way (Way u) (word == 0) (recover.Done found.NotEnqueued) (recover.Done found.WasEnqueued) (inr (inl (k.0, k.1, inr refl))) (inr (inl (k.0, k.1, inl refl)))
  next_way u turns recover.LoadHead word go k = either_way (Way u) (nat_lt word MOST_NODES) (recover.FindNext word) recover.Torn k tt
  next_way u turns (recover.FindNext a) word go k = either_way (Way u) (word == 0) recover.LoadResult _ k (either_way (Way u) (nat_lt word MOST_NODES) (recover.LoadTaker a word) recover.Torn k tt)
  next_way u turns (recover.LoadTaker a y) word go k =
      either_way (Way u) (word == 0) recover.LoadResult _ k
      (either_way (Way u) (word == u / 2) (recover.FlushTaker a y) _ k
      (either_way (Way u) (turns == 0) recover.Torn (recover.FindNext y) tt k))
  next_way u turns (recover.FlushTaker a y) word go k = k
  next_way u turns (recover.BackTaker a y) word go k = k
  next_way u turns recover.LoadResult word go k =
      either_way (Way u) (word == 0) (recover.Done found.NotDequeued) _ (inr (inr (k.0, k.1, inr (inr refl))))
      (either_way (Way u) (word == EMPTY) recover.FlushEmpty _ k
      (either_way (Way u) (nat_lt word MOST_NODES) (recover.LoadValue word) recover.Torn k tt))
  next_way u turns recover.FlushEmpty word go k = k
  next_way u turns recover.BackEmpty word go k = inr (inr (k.0, k.1, inr (inl refl)))
  next_way u turns (recover.LoadValue y) word go k = inr (inr (k.0, k.1, inl (word, refl)))
  next_way u turns (recover.Done f) word go k = absurd go
  next_way u turns recover.Torn word go k = absurd go

  -- so it is with what a process does
  abbrev OnWay : Doing → Type 0
  OnWay (Recovering c) = Way c.announced c.stage
  OnWay _ = Unit {0}

  recovers : (c : Recover) (s : RecoverStage) → c.stage ≡ s → Way c.announced c.stage → OnWay (recover_doing c s)
  recovers c recover.LoadAnnounce is k = k
  recovers c recover.FlushAnnounce is k = k
  recovers c recover.BackAnnounce is k = k
  recovers c recover.LoadTail is k = k
  recovers c (recover.FindNode a) is k = k
  recovers c (recover.FlushNext a) is k = k
  recovers c (recover.BackNext a) is k = k
  recovers c recover.LoadLinked is k = k
  recovers c recover.LoadHead is k = k
  recovers c (recover.FindNext a) is k = k
  recovers c (recover.LoadTaker a y) is k = k
  recovers c (recover.FlushTaker a y) is k = k
  recovers c (recover.BackTaker a y) is k = k
  recovers c recover.LoadResult is k = k
  recovers c recover.FlushEmpty is k = k
  recovers c recover.BackEmpty is k = k
  recovers c (recover.LoadValue y) is k = k
  recovers c (recover.Done f) is k = tt
  recovers c recover.Torn is k = tt

  -- a recovery under way does just that
  doing_recovering : (c : Recover) (s : RecoverStage) → RecoverGoes s → recover_doing c s ≡ Recovering c
  doing_recovering c recover.LoadAnnounce go = refl
  doing_recovering c recover.FlushAnnounce go = refl
  doing_recovering c recover.BackAnnounce go = refl
  doing_recovering c recover.LoadTail go = refl
  doing_recovering c (recover.FindNode a) go = refl
  doing_recovering c (recover.FlushNext a) go = refl
  doing_recovering c (recover.BackNext a) go = refl
  doing_recovering c recover.LoadLinked go = refl
  doing_recovering c recover.LoadHead go = refl
  doing_recovering c (recover.FindNext a) go = refl
  doing_recovering c (recover.LoadTaker a y) go = refl
  doing_recovering c (recover.FlushTaker a y) go = refl
  doing_recovering c (recover.BackTaker a y) go = refl
  doing_recovering c recover.LoadResult go = refl
  doing_recovering c recover.FlushEmpty go = refl
  doing_recovering c recover.BackEmpty go = refl
  doing_recovering c (recover.LoadValue y) go = refl
  doing_recovering c (recover.Done f) go = absurd go
  doing_recovering c recover.Torn go = absurd go

  -- how it ends
  ends : (c : Recover) (s : RecoverStage) (u : ℕ) → Way c.announced s → recover_doing c s ≡ Idle u → AnswersFor n u (recover_says c s)
  ends c recover.LoadAnnounce u k is = absurd (cc)
  ends c recover.FlushAnnounce u k is = absurd (cc)
  ends c recover.BackAnnounce u k is = absurd (cc)
  ends c recover.LoadTail u k is = absurd (cc)
  ends c (recover.FindNode a) u k is = absurd (cc)
  ends c (recover.FlushNext a) u k is = absurd (cc)
  ends c (recover.BackNext a) u k is = absurd (cc)
  ends c recover.LoadLinked u k is = absurd (cc)
  ends c recover.LoadHead u k is = absurd (cc)
  ends c (recover.FindNext a) u k is = absurd (cc)
  ends c (recover.LoadTaker a y) u k is = absurd (cc)
  ends c (recover.FlushTaker a y) u k is = absurd (cc)
  ends c (recover.BackTaker a y) u k is = absurd (cc)
  ends c recover.LoadResult u k is = absurd (cc)
  ends c recover.FlushEmpty u k is = absurd (cc)
  ends c recover.BackEmpty u k is = absurd (cc)
  ends c (recover.LoadValue y) u k is = absurd (cc)
  ends c (recover.Done f) u k is = let same : c.announced ≡ u = cc in subst (λ (v : ℕ). AnswersFor n v (found_says (c.announced / 2) f)) same k
  ends c recover.Torn u k is = absurd (cc)

  -- no other call is a recovery
  enqueue_way : (c : Enqueue) (s : EnqueueStage) → OnWay (enqueue_doing c s)
  enqueue_way c enqueue.StoreValue = tt
  enqueue_way c enqueue.FlushValue = tt
  enqueue_way c enqueue.BackValue = tt
  enqueue_way c enqueue.StoreAnnounce = tt
  enqueue_way c enqueue.FlushAnnounce = tt
  enqueue_way c enqueue.BackAnnounce = tt
  enqueue_way c enqueue.LoadTail = tt
  enqueue_way c (enqueue.LoadNext a) = tt
  enqueue_way c (enqueue.SwapNext a) = tt
  enqueue_way c (enqueue.FlushNext a y) = tt
  enqueue_way c (enqueue.BackNext a y) = tt
  enqueue_way c (enqueue.StoreLinked a y) = tt
  enqueue_way c (enqueue.FlushLinked a y) = tt
  enqueue_way c (enqueue.BackLinked a y) = tt
  enqueue_way c (enqueue.SwapTail a y) = tt
  enqueue_way c enqueue.Done = tt
  enqueue_way c enqueue.Torn = tt

  dequeue_way : (c : Dequeue) (s : DequeueStage) → OnWay (dequeue_doing c s)
  dequeue_way c dequeue.StoreAnnounce = tt
  dequeue_way c dequeue.FlushAnnounce = tt
  dequeue_way c dequeue.BackAnnounce = tt
  dequeue_way c dequeue.LoadHead = tt
  dequeue_way c (dequeue.LoadNext a) = tt
  dequeue_way c dequeue.StoreEmpty = tt
  dequeue_way c dequeue.FlushEmpty = tt
  dequeue_way c dequeue.BackEmpty = tt
  dequeue_way c (dequeue.FlushNext a y) = tt
  dequeue_way c (dequeue.BackNext a y) = tt
  dequeue_way c (dequeue.SwapTaker a y) = tt
  dequeue_way c (dequeue.FlushTaker a y d) = tt
  dequeue_way c (dequeue.BackTaker a y d) = tt
  dequeue_way c (dequeue.StoreResult a y d) = tt
  dequeue_way c (dequeue.FlushResult a y d) = tt
  dequeue_way c (dequeue.BackResult a y d) = tt
  dequeue_way c (dequeue.SwapHead a y d) = tt
  dequeue_way c (dequeue.LoadValue y) = tt
  dequeue_way c dequeue.DoneEmpty = tt
  dequeue_way c (dequeue.Done x) = tt
  dequeue_way c dequeue.Torn = tt

  enqueue_none : (c : Enqueue) (s : EnqueueStage) (d : Recover) → Recovering d ≡ enqueue_doing c s → ⊥
  enqueue_none c enqueue.StoreValue d is = cc
  enqueue_none c enqueue.FlushValue d is = cc
  enqueue_none c enqueue.BackValue d is = cc
  enqueue_none c enqueue.StoreAnnounce d is = cc
  enqueue_none c enqueue.FlushAnnounce d is = cc
  enqueue_none c enqueue.BackAnnounce d is = cc
  enqueue_none c enqueue.LoadTail d is = cc
  enqueue_none c (enqueue.LoadNext a) d is = cc
  enqueue_none c (enqueue.SwapNext a) d is = cc
  enqueue_none c (enqueue.FlushNext a y) d is = cc
  enqueue_none c (enqueue.BackNext a y) d is = cc
  enqueue_none c (enqueue.StoreLinked a y) d is = cc
  enqueue_none c (enqueue.FlushLinked a y) d is = cc
  enqueue_none c (enqueue.BackLinked a y) d is = cc
  enqueue_none c (enqueue.SwapTail a y) d is = cc
  enqueue_none c enqueue.Done d is = cc
  enqueue_none c enqueue.Torn d is = cc

  dequeue_none : (c : Dequeue) (s : DequeueStage) (r : Recover) → Recovering r ≡ dequeue_doing c s → ⊥
  dequeue_none c dequeue.StoreAnnounce r is = cc
  dequeue_none c dequeue.FlushAnnounce r is = cc
  dequeue_none c dequeue.BackAnnounce r is = cc
  dequeue_none c dequeue.LoadHead r is = cc
  dequeue_none c (dequeue.LoadNext a) r is = cc
  dequeue_none c dequeue.StoreEmpty r is = cc
  dequeue_none c dequeue.FlushEmpty r is = cc
  dequeue_none c dequeue.BackEmpty r is = cc
  dequeue_none c (dequeue.FlushNext a y) r is = cc
  dequeue_none c (dequeue.BackNext a y) r is = cc
  dequeue_none c (dequeue.SwapTaker a y) r is = cc
  dequeue_none c (dequeue.FlushTaker a y d) r is = cc
  dequeue_none c (dequeue.BackTaker a y d) r is = cc
  dequeue_none c (dequeue.StoreResult a y d) r is = cc
  dequeue_none c (dequeue.FlushResult a y d) r is = cc
  dequeue_none c (dequeue.BackResult a y d) r is = cc
  dequeue_none c (dequeue.SwapHead a y d) r is = cc
  dequeue_none c (dequeue.LoadValue y) r is = cc
  dequeue_none c dequeue.DoneEmpty r is = cc
  dequeue_none c (dequeue.Done x) r is = cc
  dequeue_none c dequeue.Torn r is = cc

  -- a recovery begins with the load of its announcement
  begins_first : (now : Doing) (c : Recover) → MayRecover n now c → Way c.announced c.stage
  begins_first Stopped c may = subst (Way c.announced) (sym may.0) tt
  begins_first (Idle u) c may = absurd may
  begins_first (Enqueueing d) c may = absurd may
  begins_first (Dequeueing d) c may = absurd may
  begins_first (Recovering d) c may = absurd may
  begins_first Torn c may = absurd may

  module _ (p : ℕ) where
    one : (before last : Queue) (event : Event Doing) (says : List Response) → Moves queue n before event says last → OnWay (before.situation p) → OnWay (last.situation p)
    one before last (Begin q call) says m k = subst (λ (w : Queue). OnWay (w.situation p)) (sym m.2) (dite (ℕ_discrete q p)
        (λ same. subst OnWay (sym (put_here before.situation q call p (sym same))) (subst (λ (z : ℕ). OnWay call) same (begins_at q (before.situation q) call m.1)))
        (λ other. subst OnWay (sym (put_else before.situation q call p (λ e. other (sym e)))) k))
      where
        begins_at : (q : ℕ) (now call : Doing) → queue.begins n q now call → OnWay call
        begins_at q now call by = elim by [
          | inl b ↦ subst OnWay (sym b.lands) (enqueue_way b.call b.call.stage)
          | inr other ↦ (elim other [
            | inl b ↦ subst OnWay (sym b.lands) (dequeue_way b.call b.call.stage)
            | inr b ↦ subst OnWay (sym b.lands) (recovers b.call b.call.stage refl (begins_first now b.call b.may))
          ])
        ]
    one before last (Step q) says m k = subst (λ (w : Queue). OnWay (w.situation p)) (sym m.lands) (dite (ℕ_discrete q p)
        (λ same. subst OnWay (sym (put_here before.situation q m.now p (sym same))) (elim m.takes [
          | inl d ↦ subst OnWay (sym d.lands) (enqueue_way (enqueues.next d.call m.answer) (enqueues.next d.call m.answer).stage)
          | inr other ↦ (elim other [
            | inl d ↦ subst OnWay (sym d.lands) (dequeue_way (dequeues.next d.call m.answer) (dequeues.next d.call m.answer).stage)
            | inr d ↦ (
                let was : OnWay (Recovering d.call) = subst OnWay (ap before.situation (sym same) ∙ (d.at ∙ doing_recovering d.call d.call.stage d.goes)) k in
                let way = next_way d.call.announced d.call.turns d.call.stage m.answer d.goes was in
                subst OnWay (sym d.lands) (recovers (recover_next d.call m.answer) (recover_next d.call m.answer).stage refl way))
          ])
        ]))
        (λ other. subst OnWay (sym (put_else before.situation q m.now p (λ e. other (sym e)))) k))
    one before last (Evict r) says m k = subst (λ (w : Queue). OnWay (w.situation p)) (sym m.2) k
    one before last (Stop q) says m k = subst (λ (w : Queue). OnWay (w.situation p)) (sym m.2) (dite (ℕ_discrete q p)
        (λ same. subst OnWay (sym (put_here before.situation q Stopped p (sym same))) tt)
        (λ other. subst OnWay (sym (put_else before.situation q Stopped p (λ e. other (sym e)))) k))
    one before last Crash says m k = subst (λ (w : Queue). OnWay (w.situation p)) (sym m.1) tt

    way : (first last : Queue) (hs : List (Happened queue n)) → IsNew queue n first → Run queue n first hs last → OnWay (last.situation p)
    way first last [] new run = subst (λ (w : Queue). OnWay (w.situation p)) (sym (run ∙ new.is)) tt
    way first last (h ∷ hs) new run = one h.before last h.entry.event h.entry.responses run.0 (way first h.before hs new run.1)

    -- an operation that has a place was announced, or a later one
    spent : (log : Log) (announce : Side) (u i k : ℕ) → Both announce p u → ((j : ℕ) → j < log.count → Belongs p (log.at (suc j)) → Spent announce p (log.at (suc j))) → Belongs p i → IsAt log k i → 2 * i ≤ u
    spent log announce u i zero both each mine at = let f = at.first in absurd (omega (arith, f))
    spent log announce u i (suc j) both each mine at =
        let last = at.last in
        let s = each j (omega (arith, last)) (subst (Belongs p) (sym at.is) mine) in
        let less : 2 * log.at (suc j) ≤ u = subst (λ (z : ℕ). 2 * log.at (suc j) ≤ z) both.0 s.0 in
        subst (λ (z : ℕ). 2 * z ≤ u) at.is less

pub recoveries_answer : (n : ℕ) → RecoveriesAnswerForTheLast n
recoveries_answer n first last h hs p u c low new run is was now =
    let m = subst (λ (e : Event Doing). Moves queue n h.before e h.entry.responses last) is run.0 in
    let r = runs queue n (queue_holds n) first last (h ∷ hs) new run in
    let knows : Both (words_of last.memory).announce p u = subst (Knows (words_of last.memory) last.hidden p) now (r.sound.1 p low).0 in
    let k = subst (OnWay n) was (way n p first h.before hs new run.1) in
    let does : m.now ≡ Idle u = sym (put_here h.before.situation p m.now p refl) ∙ (sym (ap (λ (w : Queue). w.situation p) m.lands) ∙ now) in (
      elim m.takes [
        | inl d ↦ absurd (enqueue_none n d.call d.call.stage c (sym was ∙ d.at))
        | inr other ↦ (elim other [
          | inl d ↦ absurd (dequeue_none n d.call d.call.stage c (sym was ∙ d.at))
          | inr d ↦ (
              let before : OnWay n (Recovering d.call) = subst (OnWay n) (sym was ∙ (d.at ∙ doing_recovering n d.call d.call.stage d.goes)) k in
              let after = next_way n d.call.announced d.call.turns d.call.stage m.answer d.goes before in
              let d2 = recover_next d.call m.answer in
              subst (AnswersFor n u) (sym d.tells) (ends n d2 d2.stage u after (sym d.lands ∙ does)))
        ])
      ],
      (λ i j mine places. ⊎_elim (λ at. spent n p last.hidden.links (words_of last.memory).announce u i j knows (λ l few own. r.sound.0.spent_links p l few own) mine at) (λ at. spent n p last.hidden.claims (words_of last.memory).announce u i j knows (λ l few own. r.sound.0.spent_claims p l few own) mine at) places),
    )
