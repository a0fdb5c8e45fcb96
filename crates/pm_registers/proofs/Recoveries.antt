-- A recovery keeps registers sound, and answers the truth.
use Rattle.std.proofs.Common.{ℕ, ◌≡◌, ◌+◌, ◌*◌, ◌<◌, ◌≤◌, max, List, [], ◌∷◌, refl, sym, ap, subst, ◌∙◌, inl, inr, arith, le_refl, le_trans, eq-eqb, ne_eqb}
use mathlib.Core.Logic.{dite}
use native.Mathlib.Decide.{ℕ_discrete}
use Rattle.ds_words.specs.Memory.{Memory, Performs}
use Rattle.pm_base.specs.Structures.{In, World, AreCalls, KindBegins, KindSteps, Serves}
use Rattle.pm_registers.specs.Calls.{recover_access_at, recover_stage, recalled}
use Rattle.pm_registers.specs.Registers.{Own, own_of, entry, IsWell, Knows, KnowsRecovery, IsTrueResponse, registers, recoveries, recover_doing, recover_says, RecoverGoes, MayRecover, had_in}
use Rattle.pm_registers.specs.declared.calls.RecoverCall.{RecoverCall}
use Rattle.pm_registers.specs.declared.calls.RecoverStage.{RecoverStage}
use Rattle.pm_registers.specs.declared.calls.RecoverStage.TheVariants as recover
use Rattle.pm_registers.specs.declared.calls.Doing.{Doing}
use Rattle.pm_registers.specs.declared.calls.Doing.TheVariants.{Idle, Writing, Recovering, Stopped}
use Rattle.pm_registers.proofs.Owns.{Others, Moves, begun, grown, kept_own, same_had, stepped_to, others_same, others_flushed, one_back, others_back, flushed_one}
use Rattle.pm_registers.proofs.Writes.{has_room, has_first}

doing_recovering : (c : RecoverCall) (s : RecoverStage) → RecoverGoes s → recover_doing c s ≡ Recovering (record c { stage = s })
doing_recovering c recover.LoadAnnounce go = refl
doing_recovering c (recover.FlushAnnounce last) go = refl
doing_recovering c (recover.BackAnnounce last) go = refl
doing_recovering c (recover.LoadHead last) go = refl
doing_recovering c (recover.FlushHead last head) go = refl
doing_recovering c (recover.BackHead last head) go = refl
doing_recovering c (recover.Done last head) go = absurd go

stood_begun : (o : Own) (now : Doing) (c : RecoverCall) → IsWell c.process o now → MayRecover now c → KnowsRecovery c.process o c.stage
stood_begun o (Idle last) c h may = absurd may
stood_begun o (Writing d) c h may = absurd may
stood_begun o (Recovering d) c h may = absurd may
stood_begun o Stopped c h may = subst (KnowsRecovery c.process o) (sym may) h.knows

stood : (o : Own) (now : Doing) (c : RecoverCall) → IsWell c.process o now → RecoverGoes c.stage → now ≡ recover_doing c c.stage → KnowsRecovery c.process o c.stage
stood o now c h go same = (let k : Knows c.process o (Recovering c) = subst (Knows c.process o) (same ∙ doing_recovering c c.stage go) h.knows in k.1)

free : (p : ℕ) (o : Own) (now : Doing) (c : RecoverCall) → Knows p o now → MayRecover now c → o.buffer ≡ []
free p o (Idle last) c k may = absurd may
free p o (Writing d) c k may = absurd may
free p o (Recovering d) c k may = absurd may
free p o Stopped c k may = k

served : (n p : ℕ) (o : Own) (s : RecoverStage) → p < n → RecoverGoes s → KnowsRecovery p o s → Serves (2 * n) (recover_access_at p s) o.buffer
served n p o recover.LoadAnnounce low go k = omega arith
served n p o (recover.FlushAnnounce last) low go k = (omega arith, has_room o.buffer k.0)
served n p o (recover.BackAnnounce last) low go k = has_first (2 * n) (2 * p) last o.buffer (omega arith) k.0
served n p o (recover.LoadHead last) low go k = omega arith
served n p o (recover.FlushHead last head) low go k = (omega arith, has_room o.buffer k.0)
served n p o (recover.BackHead last head) low go k = has_first (2 * n) (2 * p + 1) head o.buffer (omega arith) k.0
served n p o (recover.Done last head) low go k = absurd go

module _ (n : ℕ) (w : World Doing (ℕ → List ℕ)) (c : RecoverCall) (m' : Memory ℕ) (answer : ℕ) (h : IsWell c.process (own_of w.memory w.hidden c.process) (w.situation c.process)) where
  abbrev p : ℕ
  p = c.process

  abbrev m : Memory ℕ
  m = w.memory

  abbrev o : Own
  o = own_of w.memory w.hidden c.process

  abbrev now : Doing
  now = w.situation c.process

  -- what a recovery tells of the announcement and the head that it read is true
  tells_true : (o' : Own) (last head : ℕ) → In o'.had head → ((v : ℕ) → In o'.had v → v ≤ head) → head ≤ last → head ≤ o'.head_kept → last ≤ o'.announced_kept → IsTrueResponse o' (Idle last) (recalled last head)
  tells_true o' last head has most le kept said = dite (ℕ_discrete head last)
      (λ same. rw (eq-eqb head last same) (subst (In o'.had) same has, (let a : head ≡ last = same in omega (arith, a, kept))))
      (λ ne. rw (ne_eqb head last ne) ((λ had. ne (let a = most last had in omega (arith, a, le))), said, tt))

  moves : (s : RecoverStage) → RecoverGoes s → KnowsRecovery p o s → Performs (registers.class_in n) (recover_access_at p s) p m m' answer
      → Others p m m' × (d : Moves w p m' (recover_doing c (recover_stage s answer)) (recover_says (recover_stage s answer))) × (d.own.had ≡ o.had)
  moves recover.LoadAnnounce go k perf = (
    others_same p m m' perf.1,
    record {
      own = o;
      is = kept_own w p m' perf.1;
      well = record { announced = h.announced; head = h.head; follows = h.follows; has = h.has; has_kept = h.has_kept; most = h.most; knows = (refl, (k, sym perf.0)) };
      grows = grown w p o _ refl (le_refl _) (le_refl _) (λ v le out. tt);
      tells = λ t none. absurd none;
    },
    refl,
  )
  moves (recover.FlushAnnounce last) go k perf =
      let o' : Own = record o { buffer = entry (2 * p) last ∷ [] } in
      let s = perf.1 in (
        others_flushed p (2 * p) m m' s,
        record {
          own = o';
          is = λ i. record { announced = s.cached (2 * p) i; announced_kept = s.persisted (2 * p) i; head = s.cached (2 * p + 1) i; head_kept = s.persisted (2 * p + 1) i; buffer = flushed_one p (2 * p) last m m' k.0 k.1 s i; had = same_had w p i };
          well = record { announced = h.announced; head = h.head; follows = h.follows; has = h.has; has_kept = h.has_kept; most = h.most; knows = (refl, (refl, k.1)) };
          grows = grown w p o' _ refl (le_refl _) (le_refl _) (λ v le out. tt);
          tells = λ t none. absurd none;
        },
        refl,
      )
  moves (recover.BackAnnounce last) go k perf =
      let o' : Own = record o { announced_kept = last; buffer = [] } in
      let s = one_back p m m' (entry (2 * p) last) k.0 perf.1 in
      let less : o.announced_kept ≤ last = (let a = k.1 in let b = h.announced in omega (arith, a, b)) in
      let there : m'.persisted (2 * p) ≡ last = s.there ∙ (let e : max o.announced_kept last ≡ last = omega (arith, less) in e) in (
        others_back p (2 * p) last m m' (inl refl) s,
        record {
          own = o';
          is = λ i. record { announced = s.cached (2 * p) i; announced_kept = there i; head = s.cached (2 * p + 1) i; head_kept = s.elsewhere (2 * p + 1) (λ e. omega arith) i; buffer = s.mine i; had = same_had w p i };
          well = record { announced = (let a = k.1 in omega (arith, a)); head = h.head; follows = le_trans h.follows less; has = h.has; has_kept = h.has_kept; most = h.most; knows = (refl, (refl, k.1, refl)) };
          grows = grown w p o' _ refl (le_refl _) less (λ v le out. tt);
          tells = λ t none. absurd none;
        },
        refl,
      )
  moves (recover.LoadHead last) go k perf = (
    others_same p m m' perf.1,
    record {
      own = o;
      is = kept_own w p m' perf.1;
      well = record { announced = h.announced; head = h.head; follows = h.follows; has = h.has; has_kept = h.has_kept; most = h.most; knows = (refl, (k.0, k.1, k.2, sym perf.0)) };
      grows = grown w p o _ refl (le_refl _) (le_refl _) (λ v le out. tt);
      tells = λ t none. absurd none;
    },
    refl,
  )
  moves (recover.FlushHead last head) go k perf =
      let o' : Own = record o { buffer = entry (2 * p + 1) head ∷ [] } in
      let s = perf.1 in (
        others_flushed p (2 * p + 1) m m' s,
        record {
          own = o';
          is = λ i. record { announced = s.cached (2 * p) i; announced_kept = s.persisted (2 * p) i; head = s.cached (2 * p + 1) i; head_kept = s.persisted (2 * p + 1) i; buffer = flushed_one p (2 * p + 1) head m m' k.0 k.3 s i; had = same_had w p i };
          well = record { announced = h.announced; head = h.head; follows = h.follows; has = h.has; has_kept = h.has_kept; most = h.most; knows = (refl, (refl, k.1, k.2, k.3)) };
          grows = grown w p o' _ refl (le_refl _) (le_refl _) (λ v le out. tt);
          tells = λ t none. absurd none;
        },
        refl,
      )
  moves (recover.BackHead last head) go k perf =
      let o' : Own = record o { head_kept = head; buffer = [] } in
      let s = one_back p m m' (entry (2 * p + 1) head) k.0 perf.1 in
      let less : o.head_kept ≤ head = (let a = k.3 in let b = h.head in omega (arith, a, b)) in
      let there : m'.persisted (2 * p + 1) ≡ head = s.there ∙ (let e : max o.head_kept head ≡ head = omega (arith, less) in e) in
      let has : In o.had head = subst (In o.had) k.3 h.has in (
        others_back p (2 * p + 1) head m m' (inr refl) s,
        record {
          own = o';
          is = λ i. record { announced = s.cached (2 * p) i; announced_kept = s.elsewhere (2 * p) (λ e. omega arith) i; head = s.cached (2 * p + 1) i; head_kept = there i; buffer = s.mine i; had = same_had w p i };
          well = record { announced = h.announced; head = (let a = k.3 in omega (arith, a)); follows = h.follows; has = h.has; has_kept = has; most = h.most; knows = (refl, k.1, k.2) };
          grows = grown w p o' _ refl less (le_refl _) (λ v le out. tt);
          tells = λ t inside. elim inside [
            | inl e ↦ subst (IsTrueResponse o' (Idle last)) e (tells_true o' last head has (subst (λ (z : ℕ). (v : ℕ) → In o.had v → v ≤ z) k.3 h.most) (let a = k.3 in let b = k.2 in let d = h.follows in omega (arith, a, b, d)) (le_refl _) (let b = k.2 in omega (arith, b)))
            | inr none ↦ absurd none
          ];
        },
        refl,
      )
  moves (recover.Done last head) go k perf = absurd go

pub recover_steps : (n : ℕ) → KindSteps registers n recoveries
recover_steps n w c m' answer sound low at fits go perf =
    let h = sound c.process low in
    let d = moves n w c m' answer h c.stage go (stood (own_of w.memory w.hidden c.process) (w.situation c.process) c h go at) perf in
    let is : w.situation c.process ≡ Recovering c = at ∙ doing_recovering c c.stage go in
    let had : d.1.own.had ≡ had_in (w.situation c.process) (w.memory.cached (2 * c.process + 1)) (w.hidden c.process) = d.2 ∙ ap (λ (z : Doing). had_in z (w.memory.cached (2 * c.process + 1)) (w.hidden c.process)) (sym is) in
    stepped_to n w c.process m' _ _ sound low d.0 d.1 _ had

pub recover_begins : (n : ℕ) → KindBegins registers n recoveries
recover_begins n w c sound low fits go may =
    begun w c.process n (recover_doing c c.stage) (Recovering c) (doing_recovering c c.stage go) sound low
    (refl, stood_begun (own_of w.memory w.hidden c.process) (w.situation c.process) c (sound c.process low) may) (λ v le out. tt)

pub recoveries_hold : (n : ℕ) → AreCalls registers n recoveries
recoveries_hold n = record {
  begins = λ w c sound low fits go may. (
    inr (record { call = c; fits = fits; goes = go; own = refl; may = may; lands = refl }),
    free c.process (own_of w.memory w.hidden c.process) (w.situation c.process) c (sound c.process low).knows may,
  );
  serves = λ w c sound low at fits go. let h = sound c.process low in served n c.process (own_of w.memory w.hidden c.process) c.stage low go (stood (own_of w.memory w.hidden c.process) (w.situation c.process) c h go at);
  steps = λ c answer fits go. inr (record { call = c; fits = fits; goes = go; own = refl; at = refl; asks = refl; lands = refl; tells = refl });
  process = λ c answer. refl;
  apart = λ c end go over. subst RecoverGoes over.2 go;
}
