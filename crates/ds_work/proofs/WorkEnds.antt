-- Work lets its cell go, and answers.
use Rattle.std.proofs.Common.{ℕ, ◌≡◌, ◌≢◌, ◌<◌, ◌≤◌, ◌+◌, ◌/◌, ◌%◌, ◌==◌, max, Bool, true, if◌then◌else◌, List, [], ◌∷◌, ◌++◌, ap, sym, ◌∙◌, subst, arith, inl, inr}
use Rattle.std.proofs.lemmas.Bool.{cases_eq, ne_eqb}
use Rattle.std.proofs.lemmas.Bool.Decides.{nat_tests}
use Rattle.ds_words.specs.Memory.{SameMemory, StoresAt, FlushesAt, WritesBack}
use Rattle.ds_words.specs.declared.access.BufferEntry.{BufferEntry}
use Rattle.ds_layout.specs.Places.{class_of}
use Rattle.ds_layout.specs.declared.place.Place.{Place}
use Rattle.ds_layout.specs.declared.place.Place.TheVariants.{Version, Mark}
use Rattle.ds_state.specs.Works.{PlainWorkCall}
use Rattle.ds_state.specs.World.{PlainWorld}
use Rattle.ds_state.specs.Owing.{entry, HoldsNone, WorkOwes, WorkParts, Owes, Parts, Splits, Excuses}
use Rattle.ds_layout.specs.Mark.{IsHeldBy, freed_after}
use Rattle.ds_state.specs.CallsFit.{CallFits}
use Rattle.ds_state.specs.KnownWork.{ClaimsBoth, HasMark, WorkFits, IsAtRest}
use Rattle.ds_work.specs.WorkSteps.{StepsAt}
use Rattle.ds_state.specs.WordsFit.{MarkFits}
use Rattle.ds_state.specs.Rely.{Grows, Keeps}
use Rattle.ds_state.specs.Sound.{IsSound}
use Rattle.ds_state.specs.declared.work.WorkEnd.{WorkEnd}
use Rattle.ds_state.specs.declared.work.WorkEnd.TheVariants.{Published, Again, NoMemory}
use Rattle.ds_state.specs.declared.work.WorkStage.{WorkStage}
use Rattle.ds_state.specs.declared.work.WorkStage.TheVariants as works
use Rattle.ds_state.specs.declared.situation.Situation.{Situation}
use Rattle.ds_state.specs.declared.situation.Situation.TheVariants.{Working}
use Rattle.ds_state.proofs.Frames.{MovesMark, Moves, grows_own}
use Rattle.ds_state.proofs.Buffers.{buffered}
use Rattle.ds_state.proofs.Bearing.{Mine}
use Rattle.ds_state.proofs.Accesses.{Turn, same_moves, quiet_sound}
use Rattle.ds_state.proofs.EditFrame.{Framed, silent_framed, silent_keeps}
use Rattle.ds_state.proofs.StableWork.{rest_stable}
use Rattle.ds_work.proofs.WorkSteps.{on, mark_mine, mark_marks}
use Rattle.ds_work.proofs.WholeSteps.{clear_keeps}
use Rattle.ds_work.proofs.WorkClaims.{back_first}
use Rattle.ds_work.proofs.WorkFrame as frame
use Rattle.ds_work.proofs.Keeping.{work_goes}

-- a held cell is let go, dirty
module _ (e : PlainWorkCall) (s : WorkStage) (end : WorkEnd) (old new : PlainWorld) (sound : IsSound old) (real : e.process < old.layout.processes)
    (was : old.situation e.process ≡ Working (on e s)) (is : new.situation e.process ≡ Working (on e (works.FlushCleared end))) (tn : Turn e.process old new) (pending : new.open_edits e.process ≡ old.open_edits e.process)
    (fits : WorkFits old e.process (on e s)) (held : ClaimsBoth old e.process e.cell e.mark) (empty : old.memory.buffer e.process ≡ [])
    (owes : (c x : ℕ) → WorkOwes old.memory e.process e.row s c x → ⊥) (parts : WorkParts s → ⊥)
    (store : StoresAt (Mark e.cell) (freed_after e.mark + 1) old.memory new.memory) where
  abbrev n : ℕ
  n = freed_after e.mark + 1

  free : (q : ℕ) → IsHeldBy q (freed_after e.mark + 1) → ⊥
  free q by = omega arith

  other : (q : ℕ) → IsHeldBy q (old.memory.cached (Mark e.cell)) → q ≡ e.process
  other q h = let by = held.claim.by in let c = held.claim.cached in omega arith

  moved : MovesMark e.process (old.memory.cached (Mark e.cell)) (old.memory.persisted (Mark e.cell)) (freed_after e.mark + 1) (old.memory.persisted (Mark e.cell))
  moved =
      let c = held.claim.cached in
      record {
        cached = omega arith;
        persisted = omega arith;
        holds = λ q ne. record { cached = λ h. absurd (ne (other q h)); persisted = λ h k. absurd (ne (other q h)); came = λ h. absurd (free q h) };
      }

  owes_none : (moves : Moves e.process (Mark e.cell) old new) → Mine e.process (Mark e.cell) old new moves
  owes_none moves = mark_mine e.process e.cell (freed_after e.mark + 1) old new store moves (λ clean. omega arith)
      (λ r c x bit matters h o. absurd (owes c x (subst (λ (t : Situation). Owes old.memory e.process t r c x) was o).1))
      (λ l c x matters o. absurd (subst (λ (t : Situation). Excuses old e.process t c x) was o))

  pub release : Keeps e.process old new
  release =
      let old_fits : MarkFits old e.cell (old.memory.cached (Mark e.cell)) (old.memory.persisted (Mark e.cell)) = sound.words (Mark e.cell) in
      frame.stores e s (on e (works.FlushCleared end)) old new sound real was is tn pending fits tt (Mark e.cell) (freed_after e.mark + 1) (λ x. cc) (λ x. cc) moved store
      owes_none
      (λ moves mine. mark_marks e.process e.cell (freed_after e.mark + 1) old new store moves (λ clean. omega arith) (λ r c x bit matters h o. mine.owes r c x bit matters h o) (λ l c x matters o. mine.excuses l c x matters o))
      (λ o. absurd (parts o)) (λ o. absurd (parts o))
      (λ moves. record {
        behind = (let b = old_fits.behind in let c = held.claim.cached in omega arith);
        few = (
            let by = held.claim.by in
            let c = held.claim.cached in
            let top = (old_fits.holder e.process (omega (arith, by, c))).2 in
            omega (arith, top, c));
        holder = λ q h. absurd (free q h);
        persisted_holder = λ q h. rw tn.layout (old_fits.persisted_holder q h);
      })
      (λ moves g b. record { hold = none; loaded = tt; own = tt; evaluated = tt })
      (store.buffer e.process ∙ empty)
    where
      none : HoldsNone new e.process
      none r by = elim (cases_eq r e.cell) [
        | inl eq ↦ free e.process (subst (λ (x : ℕ). IsHeldBy e.process x) (ap (λ (y : ℕ). new.memory.cached (Mark y)) eq ∙ store.there) by)
        | inr ne ↦ ne (held.claim.alone r (subst (λ (x : ℕ). IsHeldBy e.process x) (store.elsewhere (Mark r) (λ same. ne cc)) by))
      ]

module _ (e : PlainWorkCall) (word : ℕ) (old new : PlainWorld) (sound : IsSound old) (real : e.process < old.layout.processes) where
  turn_of : (s : WorkStage) → old.situation e.process ≡ Working (on e s) → StepsAt e s word old new → Turn e.process old new
  turn_of s was t = record { layout = t.layout; counted = t.counted; situations = t.others; pendings = λ q ne. t.open_edits q; goes = work_goes e s word old new real was t }

  eq_true : (n : ℕ) → word ≡ n → (word == n) ≡ true
  eq_true n is = grind (arith, nat_tests)

  -- it was marked meanwhile
  outran : ClaimsBoth new e.process e.cell e.mark → new.memory.cached (Mark e.cell) ≢ e.mark → new.memory.cached (Mark e.cell) ≡ e.mark + 1
  outran h ne = elim (cases_eq (new.memory.cached (Mark e.cell)) (e.mark + 1)) [
    | inl eq ↦ eq
    | inr other ↦ absurd (ne (let even = h.claim.even in let c = h.claim.cached in odd_or (new.memory.cached (Mark e.cell)) e.mark even c other))
  ]
    where
      odd_or : (c k : ℕ) → k % 2 ≡ 0 → c / 2 ≡ k / 2 → c ≢ k + 1 → c ≡ k
      odd_or c k even same ne = elim (cases_eq (c % 2) 0) [
        | inl zero ↦ omega arith
        | inr one ↦ absurd (ne (let r : c % 2 ≡ 1 = (let l : c % 2 < 2 = omega arith in at_one (c % 2) l one) in omega arith))
      ]
        where
          at_one : (r : ℕ) → r < 2 → r ≢ 0 → r ≡ 1
          at_one r l n = grind arith

  pub clear : (changed : Bool) → WorkFits old e.process (on e (works.Clear changed)) → old.situation e.process ≡ Working (on e (works.Clear changed)) → StepsAt e (works.Clear changed) word old new → Keeps e.process old new
  clear changed fits was t = elim t.memory.1 [
    | inl won ↦ clear_keeps e.process e changed old new sound (turn_of _ was t) fits was
        (t.situation ∙ ap (λ (b : Bool). Working (if b then on e (works.FlushCleared (Published changed)) else on e works.ClearDirty)) (eq_true e.mark won.0))
        (t.open_edits e.process) (sym t.memory.0 ∙ won.0) won.1
    | inr lost ↦ frame.loads e (works.Clear changed) (on e works.ClearDirty) old new sound real was
        (t.situation ∙ ap (λ (b : Bool). Working (if b then on e (works.FlushCleared (Published changed)) else on e works.ClearDirty)) (ne_eqb word e.mark lost.0))
        (turn_of _ was t) (t.open_edits e.process) fits tt lost.1
        (λ c x bit matters o. absurd o) (λ o. absurd o)
        (λ k. record { hold = (k.hold, outran k.hold (λ at. lost.0 (t.memory.0 ∙ sym (lost.1.cached (Mark e.cell)) ∙ at))); loaded = tt; own = tt; evaluated = tt }) (λ h. h)
  ]

  pub clear_dirty : WorkFits old e.process (on e works.ClearDirty) → old.situation e.process ≡ Working (on e works.ClearDirty) → StepsAt e works.ClearDirty word old new → Keeps e.process old new
  clear_dirty fits was t = elim t.memory.1 [
    | inl won ↦ release e works.ClearDirty Again old new sound real was t.situation (turn_of _ was t) (t.open_edits e.process) fits fits.knows.hold.0 fits.buffer (λ c x o. o) (λ o. o) won.1
    | inr lost ↦ absurd (lost.0 (t.memory.0 ∙ fits.knows.hold.1))
  ]

  pub give : WorkFits old e.process (on e works.Give) → old.situation e.process ≡ Working (on e works.Give) → StepsAt e works.Give word old new → Keeps e.process old new
  give fits was t = elim t.memory.1 [
    | inl won ↦ release e works.Give NoMemory old new sound real was
        (t.situation ∙ ap (λ (b : Bool). Working (if b then on e (works.FlushCleared NoMemory) else on e works.GiveDirty)) (eq_true e.mark won.0))
        (turn_of _ was t) (t.open_edits e.process) fits fits.knows.hold fits.buffer (λ c x o. o) (λ o. o) won.1
    | inr lost ↦ frame.loads e works.Give (on e works.GiveDirty) old new sound real was
        (t.situation ∙ ap (λ (b : Bool). Working (if b then on e (works.FlushCleared NoMemory) else on e works.GiveDirty)) (ne_eqb word e.mark lost.0))
        (turn_of _ was t) (t.open_edits e.process) fits tt lost.1
        (λ c x bit matters o. absurd o) (λ o. absurd o)
        (λ k. record { hold = (k.hold, outran k.hold (λ at. lost.0 (t.memory.0 ∙ sym (lost.1.cached (Mark e.cell)) ∙ at))); loaded = tt; own = tt; evaluated = tt }) (λ h. h)
  ]

  pub give_dirty : WorkFits old e.process (on e works.GiveDirty) → old.situation e.process ≡ Working (on e works.GiveDirty) → StepsAt e works.GiveDirty word old new → Keeps e.process old new
  give_dirty fits was t = elim t.memory.1 [
    | inl won ↦ release e works.GiveDirty NoMemory old new sound real was t.situation (turn_of _ was t) (t.open_edits e.process) fits fits.knows.hold.0 fits.buffer (λ c x o. o) (λ o. o) won.1
    | inr lost ↦ absurd (lost.0 (t.memory.0 ∙ fits.knows.hold.1))
  ]

  -- ---- the last steps

  pub flush_cleared : (end : WorkEnd) → WorkFits old e.process (on e (works.FlushCleared end)) → old.situation e.process ≡ Working (on e (works.FlushCleared end)) → StepsAt e (works.FlushCleared end) word old new → Keeps e.process old new
  flush_cleared end fits was t =
      let m : FlushesAt e.process (Mark e.cell) (class_of (Mark e.cell)) old.memory new.memory = t.memory.1 in
      frame.flushes e (works.FlushCleared end) (on e (works.BackCleared end)) old new sound real was t.situation (turn_of _ was t) (t.open_edits e.process) fits tt (Mark e.cell) m
      (λ c x bit matters o. absurd o) (λ o. absurd o) (λ k. record { hold = k.hold; loaded = tt; own = tt; evaluated = tt })
      (λ g. record {
        value = old.memory.cached (Mark e.cell);
        alone = m.mine ∙ ap (λ (xs : List (BufferEntry Place)). xs ++ entry (Mark e.cell) (old.memory.cached (Mark e.cell)) ∷ []) fits.buffer;
        had = g.marks_cached e.cell;
        is = λ q by. rw t.layout ((sound.words (Mark e.cell)).holder q by);
      })

  max_both : (a b : ℕ) → (a ≤ max a b) × (b ≤ max a b)
  max_both a b = (omega arith, omega arith)

  max_most : (a b c : ℕ) → a ≤ c → b ≤ c → max a b ≤ c
  max_most a b c p q = omega arith

  pub back_cleared : (end : WorkEnd) → WorkFits old e.process (on e (works.BackCleared end)) → old.situation e.process ≡ Working (on e (works.BackCleared end)) → StepsAt e (works.BackCleared end) word old new → Keeps e.process old new
  back_cleared end fits was t =
      let b : HasMark old e.process e.cell = fits.buffer in
      let m : WritesBack e.process (entry (Mark e.cell) b.value) [] old.memory new.memory = back_first (entry (Mark e.cell) b.value) [] b.alone t.memory.1 in
      let there : new.memory.persisted (Mark e.cell) ≡ max (old.memory.persisted (Mark e.cell)) b.value = m.there in
      let least = max_both (old.memory.persisted (Mark e.cell)) b.value in
      let most = max_most (old.memory.persisted (Mark e.cell)) b.value (old.memory.cached (Mark e.cell)) (sound.words (Mark e.cell)).behind b.had in
      frame.backs e (works.BackCleared end) (on e (works.Answer end)) old new sound real was t.situation (turn_of _ was t) (t.open_edits e.process) fits tt (Mark e.cell) b.value [] m (b.had, b.is)
      (λ o. absurd o)
      (λ moves. frame.quiet_mine e (works.BackCleared end) (on e (works.Answer end)) old new sound real was t.situation (turn_of _ was t) (t.open_edits e.process) fits tt (Mark e.cell) moves
      (λ c at. elim at [ inl x ↦ cc | inr x ↦ cc ]) (λ c at. cc) (λ h. absurd (fits.knows.hold e.cell h.by)) (λ c x bit matters o. absurd o))
      (λ cell at. let same : cell ≡ e.cell = cc in rw same (omega (arith, there, least.0), omega (arith, there, most)))
      (λ h. absurd (fits.knows.hold e.cell h.by)) (λ o. absurd o)
      (λ k. record { hold = k.hold; loaded = tt; own = tt; evaluated = tt }) m.mine

  pub answer : (end : WorkEnd) → WorkFits old e.process (on e (works.Answer end)) → old.situation e.process ≡ Working (on e (works.Answer end)) → StepsAt e (works.Answer end) word old new → Keeps e.process old new
  answer end fits was t =
      let p : ℕ = e.process in
      let m : SameMemory old.memory new.memory = t.memory.1 in
      let tn : Turn e.process old new = turn_of _ was t in
      let moves : Moves e.process Version old new = same_moves e.process old new tn m in
      let owes : (r c x : ℕ) → Owes old.memory e.process (old.situation e.process) r c x → ⊥ = (λ r c x o. (subst (λ (s : Situation). Owes old.memory e.process s r c x) was o).1) in
      let excuses : (c x : ℕ) → Excuses old e.process (old.situation e.process) c x → ⊥ = (λ c x o. subst (λ (s : Situation). Excuses old e.process s c x) was o) in
      let parts : (r : ℕ) → Parts (old.situation e.process) r → ⊥ = (λ r o. (subst (λ (s : Situation). Parts s r) was o).1) in
      let splits : (c head : ℕ) → Splits old e.process (old.situation e.process) c head → ⊥ = (λ c head o. subst (λ (s : Situation). Splits old e.process s c head) was o) in
      let f : Framed old new = silent_framed e.process old new moves tn.counted sound (buffered old sound) owes excuses parts splits m.buffer in
      let g : Grows e.process Version old new = grows_own e.process Version old new moves tn.counted in
      let rest : IsAtRest new e.process e.next = rest_stable Version old new (on e (works.Answer end)) g f.bears (λ x. cc) (t.open_edits e.process) fits.rest in
      quiet_sound e.process old new tn sound moves f.bears f.stand f.apart (silent_keeps e.process old new moves tn.counted sound (buffered old sound) owes excuses parts splits m.buffer)
      (λ l. subst (λ (s : Situation). CallFits new e.process s) (sym t.situation) (record {
        number = rest.number;
        holds_none = λ r by. fits.knows.hold r (subst (λ (x : ℕ). IsHeldBy e.process x) (m.cached (Mark r)) by);
        open_edits = rest.open_edits;
        buffer = m.buffer e.process ∙ fits.buffer;
        below = rest.below;
        cached = rest.cached;
        persisted = rest.persisted;
      }))
