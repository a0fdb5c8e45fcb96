-- Fresh registers are sound; an eviction, a stop and a crash keep that, and what was answered.
use Rattle.std.proofs.Common.{ℕ, ◌≡◌, ◌+◌, ◌*◌, ◌<◌, List, [], ◌∷◌, refl, sym, subst, inl, inr, arith, le_refl, le_trans}
use mathlib.Core.Logic.{dite}
use native.Mathlib.Decide.{ℕ_discrete}
use Rattle.ds_words.specs.Memory.{Memory, EvictsAt, StopsAt, Crashes}
use Rattle.pm_base.specs.Structures.{World, put, IsFirst, IsStructure, Goes, after_evict, after_stop, after_crash}
use Rattle.pm_base.proofs.ByKind.{kind_begins, kind_steps}
use Rattle.pm_base.proofs.Puts.{put_here, put_same}
use Rattle.pm_registers.specs.Registers.{Own, own_of, IsWell, Knows, KnowsWrite, KnowsRecovery, up_to, registers, writes, recoveries}
use Rattle.pm_registers.specs.declared.calls.WriteStage.{WriteStage}
use Rattle.pm_registers.specs.declared.calls.WriteStage.TheVariants as write
use Rattle.pm_registers.specs.declared.calls.RecoverStage.{RecoverStage}
use Rattle.pm_registers.specs.declared.calls.RecoverStage.TheVariants as recover
use Rattle.pm_registers.specs.declared.calls.Doing.{Doing}
use Rattle.pm_registers.specs.declared.calls.Doing.TheVariants.{Idle, Writing, Recovering, Stopped}
use Rattle.pm_registers.proofs.Owns.{Grows, Others, Moves, moved, stepped, answered_on, up_to_in, in_up_to}
use Rattle.pm_registers.proofs.Writes.{write_begins, write_steps}
use Rattle.pm_registers.proofs.Recoveries.{recover_begins, recover_steps}

-- ---- fresh words

pub fresh_well : (n : ℕ) (memory : Memory ℕ) → IsFirst registers n memory → (p : ℕ) → p < n → IsWell p (own_of memory (λ q. 0 ∷ []) p) (Idle 0)
fresh_well n memory f p low =
    let a = f.cached (2 * p) (omega arith) in
    let b = f.persisted (2 * p) (omega arith) in
    let c = f.cached (2 * p + 1) (omega arith) in
    let d = f.persisted (2 * p + 1) (omega arith) in record {
      announced = omega (arith, a, b);
      head = omega (arith, c, d);
      follows = omega (arith, c, b);
      has = inl (sym c);
      has_kept = inl (sym d);
      most = λ v has. elim has [
        | inl e ↦ (let g : 0 ≡ v = e in omega (arith, g))
        | inr none ↦ absurd none
      ];
      knows = (f.buffer p, a, b);
    }

-- ---- an eviction

write_on : (p value : ℕ) (o : Own) (s : WriteStage) → KnowsWrite p value o s → KnowsWrite p value (record o { announced_kept = o.announced }) s
write_on p value o write.StoreAnnounce k = (k.0, refl, k.2)
write_on p value o write.FlushAnnounce k = k
write_on p value o write.BackAnnounce k = k
write_on p value o write.LoadHead k = (k.0, k.1, k.2, k.1)
write_on p value o (write.Swap seen) k = (k.0, k.1, k.2, k.1, k.4)
write_on p value o write.FlushHead k = (k.0, k.1, k.2, k.1)
write_on p value o write.BackHead k = (k.0, k.1, k.2, k.1)
write_on p value o write.Done k = k

recovery_on : (p : ℕ) (o : Own) (s : RecoverStage) → KnowsRecovery p o s → KnowsRecovery p (record o { announced_kept = o.announced }) s
recovery_on p o recover.LoadAnnounce k = k
recovery_on p o (recover.FlushAnnounce last) k = k
recovery_on p o (recover.BackAnnounce last) k = k
recovery_on p o (recover.LoadHead last) k = (k.0, k.1, k.1)
recovery_on p o (recover.FlushHead last head) k = (k.0, k.1, k.1, k.3)
recovery_on p o (recover.BackHead last head) k = (k.0, k.1, k.1, k.3)
recovery_on p o (recover.Done last head) k = k

announce_knows : (p : ℕ) (o : Own) (now : Doing) → Knows p o now → Knows p (record o { announced_kept = o.announced }) now
announce_knows p o (Idle last) k = (k.0, k.1, k.1)
announce_knows p o (Writing c) k = (k.0, write_on p c.value o c.stage k.1)
announce_knows p o (Recovering c) k = (k.0, recovery_on p o c.stage k.1)
announce_knows p o Stopped k = k

write_head : (p value kept : ℕ) (o : Own) (s : WriteStage) → KnowsWrite p value o s → KnowsWrite p value (record o { head_kept = kept }) s
write_head p value kept o write.StoreAnnounce k = k
write_head p value kept o write.FlushAnnounce k = k
write_head p value kept o write.BackAnnounce k = k
write_head p value kept o write.LoadHead k = k
write_head p value kept o (write.Swap seen) k = k
write_head p value kept o write.FlushHead k = k
write_head p value kept o write.BackHead k = k
write_head p value kept o write.Done k = k

recovery_head : (p kept : ℕ) (o : Own) (s : RecoverStage) → KnowsRecovery p o s → KnowsRecovery p (record o { head_kept = kept }) s
recovery_head p kept o recover.LoadAnnounce k = k
recovery_head p kept o (recover.FlushAnnounce last) k = k
recovery_head p kept o (recover.BackAnnounce last) k = k
recovery_head p kept o (recover.LoadHead last) k = k
recovery_head p kept o (recover.FlushHead last head) k = k
recovery_head p kept o (recover.BackHead last head) k = k
recovery_head p kept o (recover.Done last head) k = k

head_knows : (p kept : ℕ) (o : Own) (now : Doing) → Knows p o now → Knows p (record o { head_kept = kept }) now
head_knows p kept o (Idle last) k = k
head_knows p kept o (Writing c) k = (k.0, write_head p c.value kept o c.stage k.1)
head_knows p kept o (Recovering c) k = (k.0, recovery_head p kept o c.stage k.1)
head_knows p kept o Stopped k = k

-- a register after an eviction, of any word
record Evicted (o : Own) (now : Doing) (p : ℕ) (o' : Own) : Type 0 where
  well : IsWell p o' now
  grows : Grows o o' now now

evict_announce : (p : ℕ) (o : Own) (now : Doing) → IsWell p o now → Evicted o now p (record o { announced_kept = o.announced })
evict_announce p o now h = record {
  well = record { announced = le_refl _; head = h.head; follows = le_trans h.follows h.announced; has = h.has; has_kept = h.has_kept; most = h.most; knows = announce_knows p o now h.knows };
  grows = record { kept = λ v has le. has; head = le_refl _; announced = h.announced; came = λ v le out has. has; leaves = λ v le out. out };
}

evict_head : (p : ℕ) (o : Own) (now : Doing) → IsWell p o now → Evicted o now p (record o { head_kept = o.head })
evict_head p o now h = record {
  well = record { announced = h.announced; head = le_refl _; follows = h.follows; has = h.has; has_kept = h.has; most = h.most; knows = head_knows p o.head o now h.knows };
  grows = record { kept = λ v has le. has; head = h.head; announced = le_refl _; came = λ v le out has. has; leaves = λ v le out. out };
}

evict_none : (p : ℕ) (o : Own) (now : Doing) → IsWell p o now → Evicted o now p o
evict_none p o now h = record { well = h; grows = record { kept = λ v has le. has; head = le_refl _; announced = le_refl _; came = λ v le out has. has; leaves = λ v le out. out } }

evicted : (m m' : Memory ℕ) (had : ℕ → List ℕ) (r p : ℕ) (now : Doing) → IsWell p (own_of m had p) now → EvictsAt r m m' → Evicted (own_of m had p) now p (own_of m' had p)
evicted m m' had r p now h e = dite (ℕ_discrete (2 * p) r)
    (λ same.
    let there : m'.persisted (2 * p) ≡ m.cached (2 * p) = subst (λ (z : ℕ). m'.persisted z ≡ m.cached z) (sym same) e.there in
    let is : own_of m' had p ≡ (let o : Own = own_of m had p in let x : Own = record o { announced_kept = o.announced } in x) =
    λ i. record { announced = e.cached (2 * p) i; announced_kept = there i; head = e.cached (2 * p + 1) i; head_kept = e.elsewhere (2 * p + 1) (λ z. omega arith) i; buffer = e.buffer p i; had = had p } in
    subst (Evicted (own_of m had p) now p) (sym is) (evict_announce p (own_of m had p) now h))
    (λ ne. dite (ℕ_discrete (2 * p + 1) r)
    (λ same.
    let there : m'.persisted (2 * p + 1) ≡ m.cached (2 * p + 1) = subst (λ (z : ℕ). m'.persisted z ≡ m.cached z) (sym same) e.there in
    let is : own_of m' had p ≡ (let o : Own = own_of m had p in let x : Own = record o { head_kept = o.head } in x) =
    λ i. record { announced = e.cached (2 * p) i; announced_kept = e.elsewhere (2 * p) ne i; head = e.cached (2 * p + 1) i; head_kept = there i; buffer = e.buffer p i; had = had p } in
    subst (Evicted (own_of m had p) now p) (sym is) (evict_head p (own_of m had p) now h))
    (λ ne2.
    let is : own_of m' had p ≡ own_of m had p =
    λ i. record { announced = e.cached (2 * p) i; announced_kept = e.elsewhere (2 * p) ne i; head = e.cached (2 * p + 1) i; head_kept = e.elsewhere (2 * p + 1) ne2 i; buffer = e.buffer p i; had = had p } in
    subst (Evicted (own_of m had p) now p) (sym is) (evict_none p (own_of m had p) now h)))

-- ---- a stop

stopped_moves : (w : World Doing (ℕ → List ℕ)) (p : ℕ) (m' : Memory ℕ) → IsWell p (own_of w.memory w.hidden p) (w.situation p) → StopsAt p w.memory m' → Moves w p m' Stopped []
stopped_moves w p m' h e =
    let o : Own = own_of w.memory w.hidden p in
    let o' : Own = record o { buffer = [] } in record {
      own = o';
      is = λ i. record { announced = e.cached (2 * p) i; announced_kept = e.persisted (2 * p) i; head = e.cached (2 * p + 1) i; head_kept = e.persisted (2 * p + 1) i; buffer = e.mine i; had = put_here w.hidden p (w.hidden p) p refl i };
      well = record { announced = h.announced; head = h.head; follows = h.follows; has = h.has; has_kept = h.has_kept; most = h.most; knows = refl };
      grows = record { kept = λ v has le. has; head = le_refl _; announced = le_refl _; came = λ v le out has. has; leaves = λ v le out. tt };
      tells = λ t none. absurd none;
    }

stopped_others : (p : ℕ) (m m' : Memory ℕ) → StopsAt p m m' → Others p m m'
stopped_others p m m' e = record { cached = λ r a b. e.cached r; persisted = λ r a b. e.persisted r; buffer = e.others }

-- ---- a crash

-- the values that the register had up to what is kept of its head
abbrev pub left : World Doing (ℕ → List ℕ) → ℕ → List ℕ
left w p = up_to (w.memory.persisted (2 * p + 1)) (w.hidden p)

crashed_own : (w : World Doing (ℕ → List ℕ)) (m' : Memory ℕ) (p : ℕ) → Crashes w.memory m'
    → own_of m' (left w) p ≡ record { announced = w.memory.persisted (2 * p); announced_kept = w.memory.persisted (2 * p); head = w.memory.persisted (2 * p + 1); head_kept = w.memory.persisted (2 * p + 1); buffer = []; had = left w p }
crashed_own w m' p e = λ i. record { announced = e.cached (2 * p) i; announced_kept = e.persisted (2 * p) i; head = e.cached (2 * p + 1) i; head_kept = e.persisted (2 * p + 1) i; buffer = e.buffer p i; had = left w p }

crashed_well : (w : World Doing (ℕ → List ℕ)) (m' : Memory ℕ) (p : ℕ) → IsWell p (own_of w.memory w.hidden p) (w.situation p) → Crashes w.memory m' → IsWell p (own_of m' (left w) p) Stopped
crashed_well w m' p h e = subst (λ (z : Own). IsWell p z Stopped) (sym (crashed_own w m' p e)) (record {
  announced = le_refl _;
  head = le_refl _;
  follows = le_trans h.head h.follows;
  has = in_up_to _ _ _ h.has_kept (le_refl _);
  has_kept = in_up_to _ _ _ h.has_kept (le_refl _);
  most = λ v has. (up_to_in _ (w.hidden p) v has).1;
  knows = refl;
})

crashed_grows : (w : World Doing (ℕ → List ℕ)) (m' : Memory ℕ) (p : ℕ) → Crashes w.memory m' → Grows (own_of w.memory w.hidden p) (own_of m' (left w) p) (w.situation p) Stopped
crashed_grows w m' p e = subst (λ (z : Own). Grows (own_of w.memory w.hidden p) z (w.situation p) Stopped) (sym (crashed_own w m' p e)) (record {
  kept = λ v has le. in_up_to _ _ v has le;
  head = le_refl _;
  announced = le_refl _;
  came = λ v le out has. (up_to_in _ (w.hidden p) v has).0;
  leaves = λ v le out. tt;
})

-- ---- what registers owe

evict_goes : (n : ℕ) (w : World Doing (ℕ → List ℕ)) (r : ℕ) (m' : Memory ℕ) → registers.sound n w → EvictsAt r w.memory m' → Goes registers n w (after_evict registers n w r m')
evict_goes n w r m' sound e = record {
  sound = λ p lp. (evicted w.memory m' w.hidden r p (w.situation p) (sound p lp) e).well;
  keeps = λ p t h. (h.0, answered_on _ _ _ _ t (evicted w.memory m' w.hidden r p (w.situation p) (sound p h.0) e).grows h.1);
}

stop_goes : (n : ℕ) (w : World Doing (ℕ → List ℕ)) (p : ℕ) (m' : Memory ℕ) → registers.sound n w → p < n → StopsAt p w.memory m' → Goes registers n w (after_stop registers n w p m')
unfolding stopped_moves
stop_goes n w p m' sound low e =
    let k = stepped n w p m' Stopped [] sound low (stopped_others p w.memory m' e) (stopped_moves w p m' (sound p low) e) in
    let same : put w.hidden p (w.hidden p) ≡ w.hidden = λ i q. put_same w.hidden p (w.hidden p) refl q i in
    subst (λ (had : ℕ → List ℕ). Goes registers n w (moved w m' p Stopped had)) same (record { sound = k.sound; keeps = k.keeps })

crash_goes : (n : ℕ) (w : World Doing (ℕ → List ℕ)) (m' : Memory ℕ) → registers.sound n w → Crashes w.memory m' → Goes registers n w (after_crash registers n w m')
crash_goes n w m' sound e = record { sound = λ p lp. crashed_well w m' p (sound p lp) e; keeps = λ p t h. (h.0, answered_on _ _ _ _ t (crashed_grows w m' p e) h.1) }

pub registers_hold : (n : ℕ) → IsStructure registers n
registers_hold n = record {
  opens = λ memory fresh p low. fresh_well n memory fresh p low;
  begins = λ w p now sound low may. elim may [
    | inl k ↦ kind_begins registers n writes (write_begins n) w p now sound low k
    | inr k ↦ kind_begins registers n recoveries (recover_begins n) w p now sound low k
  ];
  steps = λ w p access answer now says m' sound low does perf. elim does [
    | inl k ↦ kind_steps registers n writes (write_steps n) w p access answer now says m' sound low k perf
    | inr k ↦ kind_steps registers n recoveries (recover_steps n) w p access answer now says m' sound low k perf
  ];
  evicts = λ w r m' sound low e. evict_goes n w r m' sound e;
  stops = λ w p m' sound low e. stop_goes n w p m' sound low e;
  crashes = λ w m' sound e. crash_goes n w m' sound e;
}
