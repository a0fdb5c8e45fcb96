-- Work marks the cells that refer to its own.
use Rattle.std.proofs.Common.{ℕ, ◌≡◌, ◌<◌, ◌≤◌, ◌+◌, ◌-◌, ◌/◌, ◌%◌, max, Bool, true, false, if◌then◌else◌, nat_lt, List, [], ◌∷◌, ◌++◌, Option, Some, None, refl, ap, sym, ◌∙◌, subst, arith, length, inl, inr}
use Rattle.std.specs.Prelude.{bit_or}
use Rattle.std.proofs.lemmas.Bool.{cases_eq, cases_lt, ltb-false, ltb-true}
use Rattle.ds_words.specs.Memory.{StoresAt, FlushesAt, WritesBack}
use Rattle.ds_words.specs.declared.access.BufferEntry.{BufferEntry}
use Rattle.ds_layout.specs.Places.{class_of, cells_of}
use Rattle.ds_layout.specs.declared.place.Place.{Place}
use Rattle.ds_layout.specs.declared.place.Place.TheVariants.{Version, Mark}
use Rattle.ds_layout.specs.declared.mark.TheConstants.{DIRTY}
use Rattle.ds_layout.proofs.PlaceCases.{place_cases}
use Rattle.ds_state.specs.Works.{PlainWorkCall}
use Rattle.ds_state.specs.World.{PlainWorld}
use Rattle.ds_state.specs.Owing.{entry, IsHeld, IsIndexed, SpreadOwes}
use Rattle.ds_state.specs.KnownWork.{WorkFits, work_known}
use Rattle.ds_state.specs.Telling.{told_from}
use Rattle.ds_work.specs.WorkSteps.{StepsAt, told, tell_from}
use Rattle.ds_state.specs.Rely.{IsOwnedBy, KeepsHold, Grows, Keeps}
use Rattle.ds_state.specs.Sound.{IsSound}
use Rattle.ds_state.specs.declared.work.WorkStage.{WorkStage}
use Rattle.ds_state.specs.declared.work.WorkStage.TheVariants as works
use Rattle.ds_state.specs.declared.spread.Spread.TheVariants.{LoadRow, OrTold, FlushTold, BackTold}
use Rattle.ds_state.specs.declared.situation.Situation.TheVariants.{Working}
use Rattle.ds_state.proofs.Frames.{stays_hold, grows_by}
use Rattle.ds_state.proofs.Dirty.{or_dirty, or_moves, or_mark_fits}
use Rattle.ds_state.proofs.Buffers.{buffered}
use Rattle.ds_state.proofs.Accesses.{Turn}
use Rattle.ds_state.proofs.StableWork.{knows_stable, held_or_none}
use Rattle.ds_state.proofs.Telling.{ToldFits, first_told, or_hold, row_passes, flush_passes, back_passes}
use Rattle.ds_work.proofs.WorkSteps.{on, mark_marks, told_mine}
use Rattle.ds_work.proofs.WorkClaims.{back_first}
use Rattle.ds_work.proofs.WorkFrame as frame
use Rattle.ds_work.proofs.Keeping.{work_goes}

module _ (e : PlainWorkCall) (word : ℕ) (old new : PlainWorld) (sound : IsSound old) (real : e.process < old.layout.processes) where
  turn_of : (s : WorkStage) → old.situation e.process ≡ Working (on e s) → StepsAt e s word old new → Turn e.process old new
  turn_of s was t = record { layout = t.layout; counted = t.counted; situations = t.others; pendings = λ q ne. t.open_edits q; goes = work_goes e s word old new real was t }

  indexed_below : cells_of old.layout ≡ e.cells → (c : ℕ) → IsIndexed old e.cell c → c < e.cells
  indexed_below same c bit = let l = bit.1 in omega arith

  pub load_row : (part : ℕ) → WorkFits old e.process (on e (works.Telling (LoadRow part))) → old.situation e.process ≡ Working (on e (works.Telling (LoadRow part))) → StepsAt e (works.Telling (LoadRow part)) word old new → Keeps e.process old new
  load_row part fits was t = go (nat_lt (part + 1) ((e.cells + 63) / 64)) refl
    where
      pushed : (xs : List ℕ) (v : ℕ) → length (xs ++ v ∷ []) ≡ length xs + 1
      pushed [] v = refl
      pushed (x ∷ xs) v = let k = pushed xs v in omega arith

      loaded : (c x : ℕ) → IsIndexed old e.cell c → SpreadOwes old.memory e.process e.row (LoadRow part) c x → SpreadOwes new.memory e.process (e.row ++ word ∷ []) (LoadRow (part + 1)) c x
      loaded c x bit o = row_passes e.process e.row e.cell part word old new fits.at.0 t.memory.0 c x bit o

      tells : (o : Option ℕ) → ToldFits (e.row ++ word ∷ []) (e.cells - 0) 0 o → (e.cells + 63) / 64 ≤ part + 1 → new.situation e.process ≡ Working (told (record e { row = e.row ++ word ∷ [] }) o) → Keeps e.process old new
      tells (Some k) least all is = frame.loads e (works.Telling (LoadRow part)) (record e { row = e.row ++ word ∷ []; stage = works.Telling (OrTold k) }) old new sound real was is (turn_of _ was t) (t.open_edits e.process) fits (let l = least.1 in omega arith) t.memory.1
          (λ c x bit matters o. elim (loaded c x bit o) [
            | inl later ↦ absurd (let l = indexed_below fits.cells c bit in omega arith)
            | inr there ↦ (there, least.2 c (omega arith) there)
          ]) (λ o. absurd o) (λ k. record { hold = k.hold; loaded = k.loaded; own = k.own; evaluated = k.evaluated }) (λ h. h)
      tells None none all is = frame.loads e (works.Telling (LoadRow part)) (record e { row = e.row ++ word ∷ []; stage = works.Clear true }) old new sound real was is (turn_of _ was t) (t.open_edits e.process) fits tt t.memory.1
          (λ c x bit matters o. elim (loaded c x bit o) [
            | inl later ↦ absurd (let l = indexed_below fits.cells c bit in omega arith)
            | inr there ↦ none c (omega arith) (let l = indexed_below fits.cells c bit in omega arith) there
          ]) (λ o. absurd o) (λ k. record { hold = k.hold; loaded = k.loaded; own = k.own; evaluated = k.evaluated }) (λ h. h)

      go : (b : Bool) → nat_lt (part + 1) ((e.cells + 63) / 64) ≡ b → Keeps e.process old new
      go true some = frame.loads e (works.Telling (LoadRow part)) (record e { row = e.row ++ word ∷ []; stage = works.Telling (LoadRow (part + 1)) }) old new sound real was
          (t.situation ∙ ap (λ (b : Bool). Working (if b then record e { row = e.row ++ word ∷ []; stage = works.Telling (LoadRow (part + 1)) } else tell_from (record e { row = e.row ++ word ∷ [] }) 0)) some)
          (turn_of _ was t) (t.open_edits e.process) fits (let l = fits.at.0 in let p = pushed e.row word in omega arith, ltb-true (part + 1) ((e.cells + 63) / 64) some) t.memory.1
          (λ c x bit matters o. loaded c x bit o) (λ o. absurd o) (λ k. record { hold = k.hold; loaded = k.loaded; own = k.own; evaluated = k.evaluated }) (λ h. h)
      go false none = tells (told_from (e.row ++ word ∷ []) (e.cells - 0) 0) (first_told (e.row ++ word ∷ []) (e.cells - 0) 0) (ltb-false (part + 1) ((e.cells + 63) / 64) none)
          (t.situation ∙ ap (λ (b : Bool). Working (if b then record e { row = e.row ++ word ∷ []; stage = works.Telling (LoadRow (part + 1)) } else tell_from (record e { row = e.row ++ word ∷ [] }) 0)) none)

  pub or_told : (d : ℕ) → WorkFits old e.process (on e (works.Telling (OrTold d))) → old.situation e.process ≡ Working (on e (works.Telling (OrTold d))) → StepsAt e (works.Telling (OrTold d)) word old new → Keeps e.process old new
  or_told d fits was t =
      let n : ℕ = bit_or (old.memory.cached (Mark d)) DIRTY in
      let m : StoresAt (Mark d) n old.memory new.memory = t.memory.1 in
      let is = or_dirty (old.memory.cached (Mark d)) in
      let odd : n % 2 ≡ 1 = omega arith in
      let same : n / 2 ≡ old.memory.cached (Mark d) / 2 = omega arith in
      let s : WorkStage = works.Telling (OrTold d) in
      frame.stores e s (on e (works.Telling (FlushTold d))) old new sound real was t.situation (turn_of _ was t) (t.open_edits e.process) fits fits.at (Mark d) n (λ x. cc) (λ x. cc)
      (or_moves e.process (old.memory.cached (Mark d)) (old.memory.persisted (Mark d))) m
      (λ moves. told_mine e.process e d n old new sound (buffered old sound) was t.situation odd same m moves)
      (λ moves mine. mark_marks e.process d n old new m moves (λ clean. omega arith) (λ r c x bit matters held o. mine.owes r c x bit matters held o) (λ l c x matters o. mine.excuses l c x matters o))
      (λ o. absurd o) (λ o. absurd o)
      (λ moves. let k = or_mark_fits old d (old.memory.cached (Mark d)) (old.memory.persisted (Mark d)) (sound.words (Mark d)) in
      record { behind = k.behind; few = k.few; holder = λ q by. rw t.layout (k.holder q by); persisted_holder = λ q by. rw t.layout (k.persisted_holder q by) })
      (λ moves g b. (
      let all : Grows e.process Version old new = grows_by e.process (Mark d) old new moves t.counted e.process Version
      (λ r own ne. elim (place_cases r (Mark d)) [
        | inl eq ↦ absurd (subst (λ (y : Place). IsOwnedBy old.memory e.process y) eq own)
        | inr apart ↦ (moves.cached r apart, inl (moves.persisted r apart))
      ])
      (λ cell ne. elim (cases_eq cell d) [
        | inl eq ↦ subst (λ (y : ℕ). KeepsHold e.process (old.memory.cached (Mark y)) (old.memory.persisted (Mark y)) (new.memory.cached (Mark y)) (new.memory.persisted (Mark y))) (sym eq)
            (subst (λ (y : ℕ). KeepsHold e.process (old.memory.cached (Mark d)) (old.memory.persisted (Mark d)) y (new.memory.persisted (Mark d))) (sym m.there)
            (subst (λ (y : ℕ). KeepsHold e.process (old.memory.cached (Mark d)) (old.memory.persisted (Mark d)) n y) (sym (m.persisted (Mark d))) (or_hold e.process (old.memory.cached (Mark d)) (old.memory.persisted (Mark d)))))
        | inr apart ↦ stays_hold e.process _ _ _ _ (m.elsewhere (Mark cell) (λ x. apart cc)) (m.persisted (Mark cell))
      ]) in
      let k = knows_stable Version old new (on e s) all b (λ r x. cc) (λ x. cc) (λ x. cc) (work_known (length e.inputs) s) (held_or_none (length e.inputs) s) fits.knows in
      record { hold = k.hold; loaded = k.loaded; own = k.own; evaluated = k.evaluated }))
      (m.buffer e.process ∙ fits.buffer)

  pub flush_told : (d : ℕ) → WorkFits old e.process (on e (works.Telling (FlushTold d))) → old.situation e.process ≡ Working (on e (works.Telling (FlushTold d))) → StepsAt e (works.Telling (FlushTold d)) word old new → Keeps e.process old new
  flush_told d fits was t =
      let m : FlushesAt e.process (Mark d) (class_of (Mark d)) old.memory new.memory = t.memory.1 in
      let alone : new.memory.buffer e.process ≡ entry (Mark d) (old.memory.cached (Mark d)) ∷ [] = m.mine ∙ ap (λ (xs : List (BufferEntry Place)). xs ++ entry (Mark d) (old.memory.cached (Mark d)) ∷ []) fits.buffer in
      frame.flushes e (works.Telling (FlushTold d)) (on e (works.Telling (BackTold d))) old new sound real was t.situation (turn_of _ was t) (t.open_edits e.process) fits fits.at (Mark d) m
      (λ c x bit matters o. flush_passes e.process e.row d old new alone c x o) (λ o. absurd o)
      (λ k. record { hold = k.hold; loaded = k.loaded; own = k.own; evaluated = k.evaluated })
      (λ g. record { value = old.memory.cached (Mark d); alone = alone; had = g.marks_cached d; is = λ q by. rw t.layout ((sound.words (Mark d)).holder q by) })

  max_both : (a b : ℕ) → (a ≤ max a b) × (b ≤ max a b)
  max_both a b = (omega arith, omega arith)

  max_most : (a b c : ℕ) → a ≤ c → b ≤ c → max a b ≤ c
  max_most a b c p q = omega arith

  pub back_told : (d : ℕ) → WorkFits old e.process (on e (works.Telling (BackTold d))) → old.situation e.process ≡ Working (on e (works.Telling (BackTold d))) → StepsAt e (works.Telling (BackTold d)) word old new → Keeps e.process old new
  back_told d fits was t = tells (told_from e.row (e.cells - (d + 1)) (d + 1)) (first_told e.row (e.cells - (d + 1)) (d + 1)) t.situation
    where
      m : WritesBack e.process (entry (Mark d) fits.buffer.value) [] old.memory new.memory
      m = back_first (entry (Mark d) fits.buffer.value) [] fits.buffer.alone t.memory.1

      least : (old.memory.persisted (Mark d) ≤ new.memory.persisted (Mark d)) × (fits.buffer.value ≤ new.memory.persisted (Mark d))
      least = let both = max_both (old.memory.persisted (Mark d)) fits.buffer.value in let there = (back_first (entry (Mark d) fits.buffer.value) [] fits.buffer.alone t.memory.1).there in (omega arith, omega arith)

      most : new.memory.persisted (Mark d) ≤ old.memory.cached (Mark d)
      most =
          let l = max_most (old.memory.persisted (Mark d)) fits.buffer.value (old.memory.cached (Mark d)) (sound.words (Mark d)).behind fits.buffer.had in
          let there = (back_first (entry (Mark d) fits.buffer.value) [] fits.buffer.alone t.memory.1).there in omega arith

      still : IsHeld old.memory e.process e.cell → IsHeld new.memory e.process e.cell
      still h =
          let w = back_first (entry (Mark d) fits.buffer.value) [] fits.buffer.alone t.memory.1 in
          let c = w.cached (Mark e.cell) in
          let by = h.by in
          let same = h.same in
          elim (cases_eq e.cell d) [
            | inl eq ↦ (
                let up : old.memory.persisted (Mark e.cell) ≤ new.memory.persisted (Mark e.cell) = subst (λ (y : ℕ). old.memory.persisted (Mark y) ≤ new.memory.persisted (Mark y)) (sym eq) least.0 in
                let down : new.memory.persisted (Mark e.cell) ≤ old.memory.cached (Mark e.cell) = subst (λ (y : ℕ). new.memory.persisted (Mark y) ≤ old.memory.cached (Mark y)) (sym eq) most in
                record { by = omega arith; same = omega arith })
            | inr ne ↦ (let v = w.elsewhere (Mark e.cell) (λ x. ne cc) in record { by = omega arith; same = omega arith })
          ]

      behind : new.memory.persisted (Mark d) ≤ new.memory.cached (Mark d)
      behind = let c = (back_first (entry (Mark d) fits.buffer.value) [] fits.buffer.alone t.memory.1).cached (Mark d) in let l = most in omega arith

      below : (k : ℕ) → d + 1 ≤ k → k < d + 1 + (e.cells - (d + 1)) → k < e.cells
      below k least l = omega arith

      tells : (o : Option ℕ) → ToldFits e.row (e.cells - (d + 1)) (d + 1) o → new.situation e.process ≡ Working (told e o) → Keeps e.process old new
      tells (Some k) first is = frame.backs e (works.Telling (BackTold d)) (on e (works.Telling (OrTold k))) old new sound real was is (turn_of _ was t) (t.open_edits e.process) fits (below k first.0 first.1) (Mark d) fits.buffer.value [] m
          (fits.buffer.had, fits.buffer.is) (λ o. absurd o)
          (λ moves. frame.quiet_mine e (works.Telling (BackTold d)) (on e (works.Telling (OrTold k))) old new sound real was is (turn_of _ was t) (t.open_edits e.process) fits (below k first.0 first.1) (Mark d) moves
          (λ c at. elim at [ inl x ↦ cc | inr x ↦ cc ]) (λ c at. cc) still
          (λ c x bit matters o. back_passes e.process e.row d k fits.buffer.value old new fits.buffer.alone least.1 behind (λ c lt has. first.2 c (omega arith) has) c x matters o))
          (λ cell at. let same : cell ≡ d = cc in rw same (least.0, most))
          still (λ o. absurd o) (λ k. record { hold = k.hold; loaded = k.loaded; own = k.own; evaluated = k.evaluated }) m.mine
      tells None none is = frame.backs e (works.Telling (BackTold d)) (on e (works.Clear true)) old new sound real was is (turn_of _ was t) (t.open_edits e.process) fits tt (Mark d) fits.buffer.value [] m
          (fits.buffer.had, fits.buffer.is) (λ o. absurd o)
          (λ moves. frame.quiet_mine e (works.Telling (BackTold d)) (on e (works.Clear true)) old new sound real was is (turn_of _ was t) (t.open_edits e.process) fits tt (Mark d) moves
          (λ c at. elim at [ inl x ↦ cc | inr x ↦ cc ]) (λ c at. cc) still
          (λ c x bit matters o. (
          let inside = indexed_below fits.cells c bit in
          let past = back_passes e.process e.row d e.cells fits.buffer.value old new fits.buffer.alone least.1 behind (λ y lt has. elim (cases_lt y e.cells) [ inl l ↦ absurd (none y (omega arith) (omega arith) has) | inr l ↦ l ]) c x matters o in
          let l = past.1 in omega arith)))
          (λ cell at. let same : cell ≡ d = cc in rw same (least.0, most))
          still (λ o. absurd o) (λ k. record { hold = k.hold; loaded = k.loaded; own = k.own; evaluated = k.evaluated }) m.mine
