-- A write keeps registers sound, and answers the truth.
use Rattle.std.proofs.Common.{ℕ, ◌≡◌, ◌≢◌, ◌+◌, ◌*◌, ◌<◌, ◌≤◌, max, List, [], ◌∷◌, length, refl, sym, ap, subst, ◌∙◌, inl, inr, arith, le_refl, le_trans, eq-eqb}
use Rattle.ds_words.specs.declared.access.BufferEntry.{BufferEntry}
use Rattle.ds_words.specs.declared.words.TheConstants.{BUFFER_ENTRIES}
use Rattle.ds_words.specs.Memory.{Memory, Performs}
use Rattle.pm_base.specs.Structures.{In, World, AreCalls, KindBegins, KindSteps, HasFirst, Serves}
use Rattle.pm_base.proofs.Puts.{put_here}
use Rattle.pm_registers.specs.Calls.{write_access_at, write_stage}
use Rattle.pm_registers.specs.Registers.{Own, own_of, entry, IsWell, Knows, KnowsWrite, LeavesOut, IsTrueResponse, registers, writes, write_doing, write_says, WriteGoes, MayWrite, had_after, had_in}
use Rattle.pm_registers.specs.declared.calls.WriteCall.{WriteCall}
use Rattle.pm_registers.specs.declared.calls.WriteStage.{WriteStage}
use Rattle.pm_registers.specs.declared.calls.WriteStage.TheVariants as write
use Rattle.pm_registers.specs.declared.calls.Doing.{Doing}
use Rattle.pm_registers.specs.declared.calls.Doing.TheVariants.{Idle, Writing, Recovering, Stopped}
use Rattle.pm_registers.proofs.Owns.{Others, Moves, begun, grown, kept_own, same_had, stepped_to, others_same, others_stored, others_flushed, one_back, others_back, flushed_one}

-- ---- where a write stands

pub doing_writing : (c : WriteCall) (s : WriteStage) → WriteGoes s → write_doing c s ≡ Writing (record c { stage = s })
doing_writing c write.StoreAnnounce go = refl
doing_writing c write.FlushAnnounce go = refl
doing_writing c write.BackAnnounce go = refl
doing_writing c write.LoadHead go = refl
doing_writing c (write.Swap seen) go = refl
doing_writing c write.FlushHead go = refl
doing_writing c write.BackHead go = refl
doing_writing c write.Done go = absurd go

-- what a write knows, and that no value which was announced is its own unless its process is in it
pub record Stood (p value : ℕ) (o : Own) (now : Doing) (s : WriteStage) : Type 0 where
  pub knows : KnowsWrite p value o s
  pub new : (v : ℕ) → v ≤ o.announced_kept → LeavesOut v now → value ≢ v

stood_begun : (o : Own) (now : Doing) (c : WriteCall) → IsWell c.process o now → MayWrite now c → Stood c.process c.value o now c.stage
stood_begun o (Idle last) c h may =
    let k = h.knows in
    subst (Stood c.process c.value o (Idle last)) (sym may.1) (record {
      knows = (k.0, k.1 ∙ sym k.2, (let a = k.1 in let b = may.0 in omega (arith, a, b)));
      new = λ v le out same. (let a = k.2 in let b = may.0 in omega (arith, a, b, le, same));
    })
stood_begun o (Writing d) c h may = absurd may
stood_begun o (Recovering d) c h may = absurd may
stood_begun o Stopped c h may = absurd may

stood : (o : Own) (now : Doing) (c : WriteCall) → IsWell c.process o now → WriteGoes c.stage → now ≡ write_doing c c.stage → Stood c.process c.value o now c.stage
stood o now c h go same =
    let is : now ≡ Writing c = same ∙ doing_writing c c.stage go in
    let k : Knows c.process o (Writing c) = subst (Knows c.process o) is h.knows in
    record { knows = k.1; new = λ v le out. subst (LeavesOut v) is out }

free : (p : ℕ) (o : Own) (now : Doing) (c : WriteCall) → Knows p o now → MayWrite now c → o.buffer ≡ []
free p o (Idle last) c k may = k.0
free p o (Writing d) c k may = absurd may
free p o (Recovering d) c k may = absurd may
free p o Stopped c k may = absurd may

-- ---- what it is served

pub has_room : (b : List (BufferEntry ℕ)) → b ≡ [] → length b < BUFFER_ENTRIES
has_room b none = subst (λ (z : List (BufferEntry ℕ)). length z < BUFFER_ENTRIES) (sym none) (omega arith)

pub has_first : (n s v : ℕ) (b : List (BufferEntry ℕ)) → s < n → b ≡ entry s v ∷ [] → HasFirst n b
has_first n s v b low is = subst (HasFirst n) (sym is) low

served : (n p value : ℕ) (o : Own) (s : WriteStage) → p < n → WriteGoes s → KnowsWrite p value o s → Serves (2 * n) (write_access_at p value s) o.buffer
served n p value o write.StoreAnnounce low go k = omega arith
served n p value o write.FlushAnnounce low go k = (omega arith, has_room o.buffer k.0)
served n p value o write.BackAnnounce low go k = has_first (2 * n) (2 * p) value o.buffer (omega arith) k.0
served n p value o write.LoadHead low go k = omega arith
served n p value o (write.Swap seen) low go k = omega arith
served n p value o write.FlushHead low go k = (omega arith, has_room o.buffer k.0)
served n p value o write.BackHead low go k = has_first (2 * n) (2 * p + 1) value o.buffer (omega arith) k.0
served n p value o write.Done low go k = absurd go

-- ---- each step

module _ (n : ℕ) (w : World Doing (ℕ → List ℕ)) (c : WriteCall) (m' : Memory ℕ) (answer : ℕ) (h : IsWell c.process (own_of w.memory w.hidden c.process) (w.situation c.process)) where
  abbrev p : ℕ
  p = c.process

  abbrev m : Memory ℕ
  m = w.memory

  abbrev o : Own
  o = own_of w.memory w.hidden c.process

  abbrev now : Doing
  now = w.situation c.process

  abbrev then : WriteStage → Doing
  then s = write_doing c s

  moves : (s : WriteStage) → c.stage ≡ s → WriteGoes s → Stood p c.value o now s → Performs (registers.class_in n) (write_access_at p c.value s) p m m' answer
      → Others p m m' × (d : Moves w p m' (write_doing c (write_stage s answer)) (write_says c (write_stage s answer))) × (d.own.had ≡ had_after c.value s o.head o.had)
  moves write.StoreAnnounce at go st perf =
      let k = st.knows in
      let o' : Own = record o { announced = c.value } in
      let s = perf.1 in (
        others_stored p (2 * p) c.value m m' (inl refl) s,
        record {
          own = o';
          is = λ i. record { announced = s.there i; announced_kept = s.persisted (2 * p) i; head = s.elsewhere (2 * p + 1) (λ e. omega arith) i; head_kept = s.persisted (2 * p + 1) i; buffer = s.buffer p i; had = same_had w p i };
          well = record {
            announced = (let a = k.1 in let b = k.2 in omega (arith, a, b));
            head = h.head;
            follows = h.follows;
            has = h.has;
            has_kept = h.has_kept;
            most = h.most;
            knows = (refl, (k.0, refl, (let a = k.1 in let b = k.2 in let d = h.follows in omega (arith, a, b, d))));
          };
          grows = grown w p o' _ refl (le_refl _) (le_refl _) st.new;
          tells = λ t none. absurd none;
        },
        refl,
      )
  moves write.FlushAnnounce at go st perf =
      let k = st.knows in
      let o' : Own = record o { buffer = entry (2 * p) c.value ∷ [] } in
      let s = perf.1 in (
        others_flushed p (2 * p) m m' s,
        record {
          own = o';
          is = λ i. record { announced = s.cached (2 * p) i; announced_kept = s.persisted (2 * p) i; head = s.cached (2 * p + 1) i; head_kept = s.persisted (2 * p + 1) i; buffer = flushed_one p (2 * p) c.value m m' k.0 k.1 s i; had = same_had w p i };
          well = record { announced = h.announced; head = h.head; follows = h.follows; has = h.has; has_kept = h.has_kept; most = h.most; knows = (refl, (refl, k.1, k.2)) };
          grows = grown w p o' _ refl (le_refl _) (le_refl _) st.new;
          tells = λ t none. absurd none;
        },
        refl,
      )
  moves write.BackAnnounce at go st perf =
      let k = st.knows in
      let o' : Own = record o { announced_kept = c.value; buffer = [] } in
      let s = one_back p m m' (entry (2 * p) c.value) k.0 perf.1 in
      let less : o.announced_kept ≤ c.value = (let a = k.1 in let b = h.announced in omega (arith, a, b)) in
      let there : m'.persisted (2 * p) ≡ c.value = s.there ∙ (let e : max o.announced_kept c.value ≡ c.value = omega (arith, less) in e) in (
        others_back p (2 * p) c.value m m' (inl refl) s,
        record {
          own = o';
          is = λ i. record { announced = s.cached (2 * p) i; announced_kept = there i; head = s.cached (2 * p + 1) i; head_kept = s.elsewhere (2 * p + 1) (λ e. omega arith) i; buffer = s.mine i; had = same_had w p i };
          well = record {
            announced = (let a = k.1 in omega (arith, a));
            head = h.head;
            follows = le_trans h.follows less;
            has = h.has;
            has_kept = h.has_kept;
            most = h.most;
            knows = (refl, (refl, k.1, k.2, refl));
          };
          grows = grown w p o' _ refl (le_refl _) less st.new;
          tells = λ t none. absurd none;
        },
        refl,
      )
  moves write.LoadHead at go st perf =
      let k = st.knows in (
        others_same p m m' perf.1,
        record {
          own = o;
          is = kept_own w p m' perf.1;
          well = record { announced = h.announced; head = h.head; follows = h.follows; has = h.has; has_kept = h.has_kept; most = h.most; knows = (refl, (k.0, k.1, k.2, k.3, perf.0)) };
          grows = grown w p o _ refl (le_refl _) (le_refl _) st.new;
          tells = λ t none. absurd none;
        },
        refl,
      )
  moves (write.Swap seen) at go st perf =
      let k = st.knows in
      let o' : Own = record o { head = c.value; had = c.value ∷ o.had } in
      elim perf.1 [
        | inl hit ↦ (
            let s = hit.1 in (
              others_stored p (2 * p + 1) c.value m m' (inr refl) s,
              record {
                own = o';
                is = λ i. record { announced = s.elsewhere (2 * p) (λ e. omega arith) i; announced_kept = s.persisted (2 * p) i; head = s.there i; head_kept = s.persisted (2 * p + 1) i; buffer = s.buffer p i; had = put_here w.hidden p (c.value ∷ o.had) p refl i };
                well = record {
                  announced = h.announced;
                  head = (let a = h.head in let b = k.2 in omega (arith, a, b));
                  follows = (let a = k.3 in omega (arith, a));
                  has = inl refl;
                  has_kept = inr h.has_kept;
                  most = λ v has. elim has [
                    | inl e ↦ (let f : c.value ≡ v = e in omega (arith, f))
                    | inr r ↦ (let a = h.most v r in let b = k.2 in omega (arith, a, b))
                  ];
                  knows = (refl, (k.0, k.1, refl, k.3));
                };
                grows = record {
                  kept = λ v has le. inr has;
                  head = le_refl _;
                  announced = le_refl _;
                  came = λ v le out has. elim has [
                    | inl e ↦ absurd (st.new v le out e)
                    | inr r ↦ r
                  ];
                  leaves = st.new;
                };
                tells = λ t none. absurd none;
              },
              rw (eq-eqb o.head seen (sym k.4)) refl,
            ))
        | inr miss ↦ absurd (miss.0 (perf.0 ∙ sym k.4))
      ]
  moves write.FlushHead at go st perf =
      let k = st.knows in
      let o' : Own = record o { buffer = entry (2 * p + 1) c.value ∷ [] } in
      let s = perf.1 in (
        others_flushed p (2 * p + 1) m m' s,
        record {
          own = o';
          is = λ i. record { announced = s.cached (2 * p) i; announced_kept = s.persisted (2 * p) i; head = s.cached (2 * p + 1) i; head_kept = s.persisted (2 * p + 1) i; buffer = flushed_one p (2 * p + 1) c.value m m' k.0 k.2 s i; had = same_had w p i };
          well = record { announced = h.announced; head = h.head; follows = h.follows; has = h.has; has_kept = h.has_kept; most = h.most; knows = (refl, (refl, k.1, k.2, k.3)) };
          grows = grown w p o' _ refl (le_refl _) (le_refl _) st.new;
          tells = λ t none. absurd none;
        },
        refl,
      )
  moves write.BackHead at go st perf =
      let k = st.knows in
      let o' : Own = record o { head_kept = c.value; buffer = [] } in
      let s = one_back p m m' (entry (2 * p + 1) c.value) k.0 perf.1 in
      let less : o.head_kept ≤ c.value = (let a = k.2 in let b = h.head in omega (arith, a, b)) in
      let there : m'.persisted (2 * p + 1) ≡ c.value = s.there ∙ (let e : max o.head_kept c.value ≡ c.value = omega (arith, less) in e) in
      let has : In o.had c.value = subst (In o.had) k.2 h.has in (
        others_back p (2 * p + 1) c.value m m' (inr refl) s,
        record {
          own = o';
          is = λ i. record { announced = s.cached (2 * p) i; announced_kept = s.elsewhere (2 * p) (λ e. omega arith) i; head = s.cached (2 * p + 1) i; head_kept = there i; buffer = s.mine i; had = same_had w p i };
          well = record {
            announced = h.announced;
            head = (let a = k.2 in omega (arith, a));
            follows = h.follows;
            has = h.has;
            has_kept = has;
            most = h.most;
            knows = (refl, k.1, k.3);
          };
          grows = grown w p o' _ refl less (le_refl _) (λ v le out. tt);
          tells = λ t inside. elim inside [
            | inl e ↦ subst (IsTrueResponse o' (Idle c.value)) e (has, le_refl _)
            | inr none ↦ absurd none
          ];
        },
        refl,
      )
  moves write.Done at go st perf = absurd go

pub write_steps : (n : ℕ) → KindSteps registers n writes
write_steps n w c m' answer sound low at fits go perf =
    let h = sound c.process low in
    let d = moves n w c m' answer h c.stage refl go (stood (own_of w.memory w.hidden c.process) (w.situation c.process) c h go at) perf in
    let is : w.situation c.process ≡ Writing c = at ∙ doing_writing c c.stage go in
    let had : d.1.own.had ≡ had_in (w.situation c.process) (w.memory.cached (2 * c.process + 1)) (w.hidden c.process) = d.2 ∙ ap (λ (z : Doing). had_in z (w.memory.cached (2 * c.process + 1)) (w.hidden c.process)) (sym is) in
    stepped_to n w c.process m' _ _ sound low d.0 d.1 _ had

pub write_begins : (n : ℕ) → KindBegins registers n writes
write_begins n w c sound low fits go may =
    let st = stood_begun (own_of w.memory w.hidden c.process) (w.situation c.process) c (sound c.process low) may in
    begun w c.process n (write_doing c c.stage) (Writing c) (doing_writing c c.stage go) sound low (refl, st.knows) st.new

pub writes_hold : (n : ℕ) → AreCalls registers n writes
writes_hold n = record {
  begins = λ w c sound low fits go may. (
    inl (record { call = c; fits = fits; goes = go; own = refl; may = may; lands = refl }),
    free c.process (own_of w.memory w.hidden c.process) (w.situation c.process) c (sound c.process low).knows may,
  );
  serves = λ w c sound low at fits go. let h = sound c.process low in served n c.process c.value (own_of w.memory w.hidden c.process) c.stage low go (stood (own_of w.memory w.hidden c.process) (w.situation c.process) c h go at).knows;
  steps = λ c answer fits go. inl (record { call = c; fits = fits; goes = go; own = refl; at = refl; asks = refl; lands = refl; tells = refl });
  process = λ c answer. refl;
  apart = λ c end go over. subst WriteGoes over.0 go;
}
