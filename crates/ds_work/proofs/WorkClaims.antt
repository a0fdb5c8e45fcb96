-- Work up to its claim, its own words, and its last steps.
use Rattle.std.proofs.Common.{ℕ, ◌≡◌, ◌≢◌, ◌<◌, ◌≤◌, ◌+◌, ◌-◌, ◌/◌, ◌%◌, ◌^◌, ◌==◌, max, Bool, true, false, if◌then◌else◌, nat_lt, List, [], ◌∷◌, ◌++◌, Option, Some, None, refl, ap, sym, ◌∙◌, subst, arith, inl, inr}
use Rattle.std.proofs.lemmas.Bool.{cases_eq, ne_eqb, lt-ltb}
use Rattle.std.proofs.lemmas.Bool.Decides.{nat_tests}
use Rattle.ds_words.specs.Memory.{Memory, SameMemory, StoresAt, FlushesAt, WritesBack, BacksFirst}
use Rattle.ds_words.specs.declared.access.BufferEntry.{BufferEntry}
use Rattle.ds_layout.specs.Places.{class_of}
use Rattle.ds_layout.specs.declared.place.Place.{Place}
use Rattle.ds_layout.specs.declared.place.Place.TheVariants.{Mark}
use Rattle.ds_layout.specs.declared.mark.State.{State}
use Rattle.ds_layout.specs.declared.mark.State.TheVariants.{Clean, Marked, Held}
use Rattle.ds_layout.specs.Mark.{mark_of, state_of, holder_of, present, state_by, tenure, IsHeldBy, held_after}
use Rattle.ds_state.specs.Works.{PlainWorkCall}
use Rattle.ds_state.specs.World.{PlainWorld}
use Rattle.ds_state.specs.Owing.{entry, IsHeld, IsMark}
use Rattle.ds_state.specs.KnownWork.{BuffersClaim, WorkFits}
use Rattle.ds_work.specs.WorkSteps.{StepsAt, claims_from}
use Rattle.ds_state.specs.WordsFit.{MarkFits}
use Rattle.ds_state.specs.Rely.{Keeps}
use Rattle.ds_state.specs.Sound.{IsSound}
use Rattle.ds_state.specs.declared.work.WorkEnd.{WorkEnd}
use Rattle.ds_state.specs.declared.work.WorkEnd.TheVariants.{NotDirty, Missed, Worn}
use Rattle.ds_state.specs.declared.work.WorkStage.{WorkStage}
use Rattle.ds_state.specs.declared.work.WorkStage.TheVariants as works
use Rattle.ds_state.specs.declared.situation.Situation.TheVariants.{Working}
use Rattle.ds_state.proofs.Frames.{MovesMark, clean_free}
use Rattle.ds_state.proofs.Accesses.{Turn}
use Rattle.ds_work.proofs.WorkSteps.{on, mark_marks, claim_mine}
use Rattle.ds_work.proofs.WorkFrame as frame
use Rattle.ds_work.proofs.Keeping.{work_goes}

-- a write-back is that of the buffer's first entry
pub back_first : {p : ℕ} {old new : Memory Place} (x : BufferEntry Place) (xs : List (BufferEntry Place)) → old.buffer p ≡ x ∷ xs → BacksFirst p old new → WritesBack p x xs old new
back_first {p} {old} {new} x xs holds (entry, rest, m) =
    let both : x ∷ xs ≡ entry ∷ rest = sym holds ∙ m.oldest in
    let a : entry ≡ x = cc in
    let b : rest ≡ xs = cc in
    subst (λ (r : List (BufferEntry Place)). WritesBack p x r old new) b (subst (λ (y : BufferEntry Place). WritesBack p y rest old new) a m)

-- who is none of the sheet's is nobody, and no mark is such a one's
marked_free : (w : PlainWorld) (cell word : ℕ) → IsMark w.layout cell word → state_of (mark_of w.layout.processes word) ≡ Marked → (q : ℕ) → IsHeldBy q word → ⊥
marked_free w cell word mark marked q by =
    let real = (mark q by).0 in
    let some : holder_of (word / 2 % 16) ≡ Some q = ap holder_of by ∙ ap (λ (b : Bool). if b then None else Some (q + 1 - 1)) (ne_eqb (q + 1) 0 (λ x. omega (arith, x))) ∙ ap (λ (n : ℕ). Some n) (let n : q + 1 - 1 ≡ q = omega arith in n) in
    let here : present w.layout.processes (Some q) ≡ Some q = ap (λ (b : Bool). if b then Some q else None) (lt-ltb q w.layout.processes real) in
    let held : state_of (mark_of w.layout.processes word) ≡ Held q = ap (λ (o : Option ℕ). state_by (present w.layout.processes o) (word % 2 == 1)) some ∙ ap (λ (o : Option ℕ). state_by o (word % 2 == 1)) here in
    let both : Marked ≡ Held q = sym marked ∙ held in
    cc

module _ (e : PlainWorkCall) (word : ℕ) (old new : PlainWorld) (sound : IsSound old) (real : e.process < old.layout.processes) where
  turn_of : (s : WorkStage) → old.situation e.process ≡ Working (on e s) → StepsAt e s word old new → Turn e.process old new
  turn_of s was t = record { layout = t.layout; counted = t.counted; situations = t.others; pendings = λ q ne. t.open_edits q; goes = work_goes e s word old new real was t }

  -- ---- the mark, and the claim

  pub load_mark : WorkFits old e.process (on e works.LoadMark) → old.situation e.process ≡ Working (on e works.LoadMark) → StepsAt e works.LoadMark word old new → Keeps e.process old new
  load_mark fits was t = go (state_of (mark_of e.processes word)) refl
    where
      seen : word ≡ old.memory.cached (Mark e.cell)
      seen = t.memory.0

      ends : (end : WorkEnd) → claims_from e word (state_of (mark_of e.processes word)) ≡ on e (works.Answer end) → Keeps e.process old new
      ends end is = frame.loads e works.LoadMark (on e (works.Answer end)) old new sound real was (t.situation ∙ ap (λ (x : PlainWorkCall). Working x) is) (turn_of _ was t) (t.open_edits e.process) fits tt t.memory.1
          (λ c x bit matters o. absurd o) (λ o. absurd o) (λ k. record { hold = k.hold; loaded = tt; own = tt; evaluated = tt }) (λ h. h)

      marked : state_of (mark_of e.processes word) ≡ Marked → (b : Bool) → nat_lt (2 ^ 58) (word / 32) ≡ b → Keeps e.process old new
      marked st true worn = ends Worn (ap (λ (y : State). claims_from e word y) st ∙ ap (λ (b : Bool). if b then on e (works.Answer Worn) else record e { mark = word; stage = works.Claim }) worn)
      marked st false worn =
          frame.loads e works.LoadMark (record e { mark = word; stage = works.Claim }) old new sound real was
          (t.situation ∙ ap (λ (y : State). Working (claims_from e word y)) st ∙ ap (λ (b : Bool). Working (if b then on e (works.Answer Worn) else record e { mark = word; stage = works.Claim })) worn)
          (turn_of _ was t) (t.open_edits e.process) fits tt t.memory.1
          (λ c x bit matters o. absurd o) (λ o. absurd o)
          (λ k. record {
            hold = (k.hold, (let same = t.memory.1.cached (Mark e.cell) in let at = seen in omega arith), marked_free old e.cell word (rw seen (sound.words (Mark e.cell)).holder) (rw fits.processes st), (let is : nat_lt (2 ^ 58) (word / 32) ≡ false = worn in grind (arith, nat_tests)));
            loaded = tt;
            own = tt;
            evaluated = tt;
          }) (λ h. h)

      go : (st : State) → state_of (mark_of e.processes word) ≡ st → Keeps e.process old new
      go Clean is = ends NotDirty (ap (λ (y : State). claims_from e word y) is)
      go Marked is = marked is (nat_lt (2 ^ 58) (word / 32)) refl
      go (Held q) is = ends Missed (ap (λ (y : State). claims_from e word y) is)

  eq_true : (n : ℕ) → word ≡ n → (word == n) ≡ true
  eq_true n is = grind (arith, nat_tests)

  pub claim : WorkFits old e.process (on e works.Claim) → old.situation e.process ≡ Working (on e works.Claim) → StepsAt e works.Claim word old new → Keeps e.process old new
  claim fits was t = elim t.memory.1 [ inl won ↦ wins won.0 won.1 | inr lost ↦ loses lost.0 lost.1 ]
    where
      loses : word ≢ e.mark → SameMemory old.memory new.memory → Keeps e.process old new
      loses ne m = frame.loads e works.Claim (on e (works.Answer Missed)) old new sound real was
          (t.situation ∙ ap (λ (b : Bool). Working (if b then record e { mark = held_after e.process e.mark; stage = works.FlushClaim } else on e (works.Answer Missed))) (ne_eqb word e.mark ne))
          (turn_of _ was t) (t.open_edits e.process) fits tt m
          (λ c x bit matters o. absurd o) (λ o. absurd o) (λ k. record { hold = k.hold.0; loaded = tt; own = tt; evaluated = tt }) (λ h. h)

      wins : word ≡ e.mark → StoresAt (Mark e.cell) (held_after e.process e.mark) old.memory new.memory → Keeps e.process old new
      wins is m =
          let n : ℕ = held_after e.process e.mark in
          let seen : old.memory.cached (Mark e.cell) ≡ e.mark = sym t.memory.0 ∙ is in
          let limit = old.layout.limited in
          let by : IsHeldBy e.process n = omega arith in
          let even : n % 2 ≡ 0 = omega arith in
          let unheld = fits.knows.hold.2 in
          let old_fits : MarkFits old e.cell (old.memory.cached (Mark e.cell)) (old.memory.persisted (Mark e.cell)) = sound.words (Mark e.cell) in
          let free : (q : ℕ) → IsHeldBy q (old.memory.cached (Mark e.cell)) → ⊥ = (λ q h. unheld q (subst (λ (y : ℕ). IsHeldBy q y) seen h)) in
          let moved : MovesMark e.process (old.memory.cached (Mark e.cell)) (old.memory.persisted (Mark e.cell)) n (old.memory.persisted (Mark e.cell)) = record {
            cached = omega arith;
            persisted = omega arith;
            holds = λ q ne. record { cached = λ h. absurd (free q h); persisted = λ h k. absurd (free q h); came = λ h. absurd (let x = ne in ne (let y : q ≡ e.process = omega arith in y)) };
          } in
          frame.stores e works.Claim (record e { mark = n; stage = works.FlushClaim }) old new sound real was
          (t.situation ∙ ap (λ (b : Bool). Working (if b then record e { mark = n; stage = works.FlushClaim } else on e (works.Answer Missed))) (eq_true e.mark is))
          (turn_of _ was t) (t.open_edits e.process) fits tt (Mark e.cell) n (λ x. cc) (λ x. cc) moved m
          (λ moves. claim_mine e.process e e n old new was by m moves)
          (λ moves mine. mark_marks e.process e.cell n old new m moves (λ clean. clean_free n e.process clean by)
          (λ r c x bit matters held o. mine.owes r c x bit matters held o) (λ l c x matters o. mine.excuses l c x matters o))
          (λ o. absurd o) (λ o. absurd o)
          (λ moves. record {
            behind = (let b = old_fits.behind in omega arith);
            few = (let young = fits.knows.hold.3 in omega (arith, young));
            holder = λ q h. (let same : q ≡ e.process = omega arith in let young = fits.knows.hold.3 in (rw (t.layout, same) real, rw (t.layout, fits.cells) fits.cell, omega (arith, young)));
            persisted_holder = λ q h. rw t.layout (old_fits.persisted_holder q h);
          })
          (λ moves g b. record {
            hold = record {
              even = even;
              by = by;
              cached = ap tenure m.there;
              alone = λ r h. elim (cases_eq r e.cell) [
                | inl eq ↦ eq
                | inr ne ↦ absurd (fits.knows.hold.0 r (subst (λ (y : ℕ). IsHeldBy e.process y) (m.elsewhere (Mark r) (λ x. ne cc)) h))
              ];
            };
            loaded = tt;
            own = tt;
            evaluated = tt;
          })
          (m.buffer e.process ∙ fits.buffer)

  -- a flush that follows an empty buffer
  alone : (r : Place) → old.memory.buffer e.process ≡ [] → FlushesAt e.process r (class_of r) old.memory new.memory → new.memory.buffer e.process ≡ entry r (old.memory.cached r) ∷ []
  alone r none m = m.mine ∙ ap (λ (xs : List (BufferEntry Place)). xs ++ entry r (old.memory.cached r) ∷ []) none

  pub flush_claim : WorkFits old e.process (on e works.FlushClaim) → old.situation e.process ≡ Working (on e works.FlushClaim) → StepsAt e works.FlushClaim word old new → Keeps e.process old new
  flush_claim fits was t = frame.flushes e works.FlushClaim (on e works.BackClaim) old new sound real was t.situation (turn_of _ was t) (t.open_edits e.process) fits tt (Mark e.cell) t.memory.1
      (λ c x bit matters o. absurd o) (λ o. absurd o) (λ k. record { hold = k.hold; loaded = tt; own = tt; evaluated = tt })
      (λ g. record {
        value = old.memory.cached (Mark e.cell);
        alone = alone (Mark e.cell) fits.buffer t.memory.1;
        had = g.marks_cached e.cell;
        claims = fits.knows.hold.cached;
      })

  max_both : (a b : ℕ) → (a ≤ max a b) × (b ≤ max a b)
  max_both a b = (omega arith, omega arith)

  max_most : (a b c : ℕ) → a ≤ c → b ≤ c → max a b ≤ c
  max_most a b c p q = omega arith

  pub back_claim : WorkFits old e.process (on e works.BackClaim) → old.situation e.process ≡ Working (on e works.BackClaim) → StepsAt e works.BackClaim word old new → Keeps e.process old new
  back_claim fits was t =
      let b : BuffersClaim old e.process e.cell e.mark = fits.buffer in
      let m : WritesBack e.process (entry (Mark e.cell) b.value) [] old.memory new.memory = back_first (entry (Mark e.cell) b.value) [] b.alone t.memory.1 in
      let old_fits : MarkFits old e.cell (old.memory.cached (Mark e.cell)) (old.memory.persisted (Mark e.cell)) = sound.words (Mark e.cell) in
      let behind = old_fits.behind in
      let had = b.had in
      let there : new.memory.persisted (Mark e.cell) ≡ max (old.memory.persisted (Mark e.cell)) b.value = m.there in
      let least = max_both (old.memory.persisted (Mark e.cell)) b.value in
      let most = max_most (old.memory.persisted (Mark e.cell)) b.value (old.memory.cached (Mark e.cell)) behind had in
      let claims = b.claims in
      let cached = fits.knows.hold.cached in
      let by = fits.knows.hold.by in
      let mark_turn : tenure (new.memory.persisted (Mark e.cell)) ≡ tenure e.mark = omega (arith, there, least.1, most, claims, cached) in
      let of : IsMark old.layout e.cell b.value = (λ q h. let k = old_fits.holder q (omega (arith, h, claims, cached)) in let top = k.2 in (k.0, k.1, omega (arith, top, claims, cached))) in
      frame.backs e works.BackClaim (on e works.LoadHead) old new sound real was t.situation (turn_of _ was t) (t.open_edits e.process) fits tt (Mark e.cell) b.value [] m (had, of)
      (λ o. absurd o)
      (λ moves. frame.quiet_mine e works.BackClaim (on e works.LoadHead) old new sound real was t.situation (turn_of _ was t) (t.open_edits e.process) fits tt (Mark e.cell) moves
      (λ c at. elim at [ inl x ↦ cc | inr x ↦ cc ]) (λ c at. cc) (λ h. held mark_turn) (λ c x bit matters o. absurd o))
      (λ cell at. let same : cell ≡ e.cell = cc in rw same (omega (arith, there, least.0), omega (arith, there, most)))
      (λ h. held mark_turn) (λ o. absurd o)
      (λ k. record {
        hold = record { claim = k.hold; persisted = mark_turn };
        loaded = tt;
        own = tt;
        evaluated = tt;
      }) m.mine
    where
      held : tenure (new.memory.persisted (Mark e.cell)) ≡ tenure e.mark → IsHeld new.memory e.process e.cell
      held at =
          let b : BuffersClaim old e.process e.cell e.mark = fits.buffer in
          let m : WritesBack e.process (entry (Mark e.cell) b.value) [] old.memory new.memory = back_first (entry (Mark e.cell) b.value) [] b.alone t.memory.1 in
          let c = m.cached (Mark e.cell) in
          let cached = fits.knows.hold.cached in
          let by = fits.knows.hold.by in
          record { by = omega arith; same = omega arith }
