-- The sorts of work's steps.
use Rattle.std.proofs.Common.{ℕ, ◌≡◌, ◌≢◌, ◌<◌, ◌≤◌, ◌⊎◌, List, refl, sym, ◌∙◌, subst, arith, length, inl, inr}
use Rattle.std.specs.Prelude.{Contains}
use Rattle.std.proofs.lemmas.Bool.{cases_eq}
use Rattle.ds_words.specs.declared.access.BufferEntry.{BufferEntry}
use Rattle.ds_words.specs.Memory.{SameMemory, StoresAt, FlushesAt, WritesBack, newer}
use Rattle.ds_layout.specs.Places.{class_of}
use Rattle.ds_layout.specs.declared.place.Place.{Place}
use Rattle.ds_layout.specs.declared.place.Place.TheVariants.{Version, Mark, Value, Kind, Head, Announce}
use Rattle.ds_state.specs.Works.{PlainWorkCall, StageFits}
use Rattle.ds_state.specs.World.{PlainWorld}
use Rattle.ds_state.specs.Owing.{entry, IsHeld, WorkOwes, Owes, WorkParts, Parts, CellOwes, IsApart, Excuses, IsIndexed}
use Rattle.ds_state.specs.Standing.{Matters}
use Rattle.ds_state.specs.KnownWork.{work_known, WorkKnows, work_held, WorkHolds, WorkFits}
use Rattle.ds_state.specs.WordsFit.{WordFits}
use Rattle.ds_state.specs.CallsFit.{CallFits}
use Rattle.ds_state.specs.Rely.{IsOwnedBy, KeepsHold, Grows, Bears, Keeps}
use Rattle.ds_state.specs.Sound.{IsSound}
use Rattle.ds_state.specs.declared.work.WorkStage.{WorkStage}
use Rattle.ds_state.specs.declared.situation.Situation.{Situation}
use Rattle.ds_state.specs.declared.situation.Situation.TheVariants.{Working}
use Rattle.ds_state.proofs.Heads.{small_counted}
use Rattle.ds_state.proofs.Buffers.{buffered}
use Rattle.ds_state.proofs.StableWork.{rest_stable, knows_stable, held_or_none, work_holds_stable}
use Rattle.ds_state.proofs.Frames.{MovesWord, Moves, KeepsOwing, KeepsApart, grows_own, moves_sound}
use Rattle.ds_state.proofs.Sides.{EntryFits, IsBetween, newer_between}
use Rattle.ds_state.proofs.Bearing.{Mine, MyMarks, bears, all_stand, text_same, no_new_marks, apart_lasts}
use Rattle.ds_state.proofs.EditFrame.{Framed, flush_any, back_any}
use Rattle.ds_state.proofs.Accesses.{Turn, same_moves, flush_moves, store_moves, quiet_sound, Backs, written_backs, back_moves, back_grows, back_sound}
use Rattle.ds_work.proofs.WorkSteps.{on}
use Rattle.ds_work.proofs.WholeSteps.{keeps_heads}

-- f, as the same process's work on the same cell
abbrev pub kin : PlainWorkCall → PlainWorkCall → PlainWorkCall
kin e f = record f { process = e.process; next = e.next; cell = e.cell; cells = e.cells; processes = e.processes }

pub back_hold : (q c v v' : ℕ) → v ≤ v' → v' ≤ c → KeepsHold q c v c v'
back_hold q c v v' least most = record { cached = λ k. refl; persisted = λ k same. omega arith; came = λ k. k }

-- the sides of the cell's own words agree
abbrev pub Agrees : PlainWorld → ℕ → Type 0
Agrees w c = (w.memory.persisted (Value c) ≡ w.memory.cached (Value c)) × (w.memory.persisted (Kind c) ≡ w.memory.cached (Kind c))

module _ (e : PlainWorkCall) (s : WorkStage) (f : PlainWorkCall) (old new : PlainWorld) (sound : IsSound old) (real : e.process < old.layout.processes)
    (was : old.situation e.process ≡ Working (on e s)) (is : new.situation e.process ≡ Working (kin e f))
    (tn : Turn e.process old new) (pending : new.open_edits e.process ≡ old.open_edits e.process) (fits : WorkFits old e.process (on e s)) (fit_at : StageFits (kin e f) f.stage) where
  -- what is owed is owed after
  abbrev pub Passes : Type 0
  Passes = (c x : ℕ) → IsIndexed old e.cell c → Matters new c x → WorkOwes old.memory e.process e.row s c x → WorkOwes new.memory e.process f.row f.stage c x

  abbrev pub PartsPass : Type 0
  PartsPass = WorkParts s → WorkParts f.stage ⊎ Agrees new e.cell

  abbrev pub KnowsNow : Type 0
  KnowsNow = WorkKnows new (on e s) (work_known (length e.inputs) s) → WorkKnows new (kin e f) (work_known (length f.inputs) f.stage)

  abbrev pub HoldsNow : Type 0
  HoldsNow = WorkHolds new (kin e f) (work_held (kin e f) f.stage)

  pub owed_new : IsHeld new.memory e.process e.cell → (r c x : ℕ) → e.cell ≡ r → WorkOwes new.memory e.process f.row f.stage c x → CellOwes new r c x
  owed_new held r c x at owes = subst (λ (y : ℕ). CellOwes new y c x) at (record {
    holder = e.process;
    held = held;
    still = subst (λ (t : Situation). Owes new.memory e.process t e.cell c x) (sym is) (refl, owes);
  })

  module _ (place : Place) (moves : Moves e.process place old new) where
    -- no word of a cell's is touched
    pub quiet_mine : ((c : ℕ) → (place ≡ Value c) ⊎ (place ≡ Kind c) → ⊥) → ((c : ℕ) → place ≡ Head c → ⊥)
        → (IsHeld old.memory e.process e.cell → IsHeld new.memory e.process e.cell) → Passes → Mine e.process place old new moves
    quiet_mine no_value no_head holds passes = record {
      owes = λ r c x bit matters held o. (
          let k : Owes old.memory e.process (Working (on e s)) r c x = subst (λ (t : Situation). Owes old.memory e.process t r c x) was o in
          let at : e.cell ≡ r = k.0 in
          owed_new (holds (subst (λ (y : ℕ). IsHeld old.memory e.process y) (sym at) held)) r c x at
          (passes c x (subst (λ (y : ℕ). IsIndexed old y c) (sym at) bit) matters k.1));
      excuses = λ l c x matters o. absurd (subst (λ (t : Situation). Excuses old e.process t c x) was o);
      stored = λ r at by c x. absurd (no_value r at);
      holds = λ r at by. absurd (no_value r at);
      cached_heads = λ c at. absurd (no_head c at);
      persisted_heads = λ c at. absurd (no_head c at);
    }

    -- one of the cell's own is, and everyone is owed after
    pub own_mine : ((c : ℕ) → (place ≡ Value c) ⊎ (place ≡ Kind c) → e.cell ≡ c) → ((c : ℕ) → place ≡ Head c → ⊥)
        → IsHeld old.memory e.process e.cell → IsHeld new.memory e.process e.cell → ((c x : ℕ) → WorkOwes new.memory e.process f.row f.stage c x) → Mine e.process place old new moves
    own_mine own no_head held now all = record {
      owes = λ r c x bit matters h o. owed_new now r c x (subst (λ (t : Situation). Owes old.memory e.process t r c x) was o).0 (all c x);
      excuses = λ l c x matters o. absurd (subst (λ (t : Situation). Excuses old e.process t c x) was o);
      stored = λ r at by c x. owed_new now r c x (own r at) (all c x);
      holds = λ r at by. subst (λ (y : ℕ). IsHeld old.memory e.process y) (own r at) held;
      cached_heads = λ c at. absurd (no_head c at);
      persisted_heads = λ c at. absurd (no_head c at);
    }

    pub keeps : (cell : ℕ) → KeepsOwing old new cell
    keeps = keeps_heads e.process (on e s) place old new moves was

    pub work_apart : (WorkParts s → IsHeld old.memory e.process e.cell → IsHeld new.memory e.process e.cell) → PartsPass → KeepsApart old new
    work_apart holds parts cell a = elim (cases_eq a.holder e.process) [
      | inr ne ↦ inl (apart_lasts e.process place old new moves cell a ne)
      | inl eq ↦ (
          let k : Parts (Working (on e s)) cell = subst (λ (t : Situation). Parts t cell) was (subst (λ (q : ℕ). Parts (old.situation q) cell) eq a.still) in
          let at : e.cell ≡ cell = k.0 in
          let held : IsHeld old.memory e.process e.cell = subst (λ (y : ℕ). IsHeld old.memory e.process y) (sym at) (subst (λ (q : ℕ). IsHeld old.memory q cell) eq a.held) in
          elim (parts k.1) [
            | inl still ↦ inl (subst (λ (y : ℕ). IsApart new y) at (record { holder = e.process; held = holds k.1 held; still = subst (λ (t : Situation). Parts t e.cell) (sym is) (refl, still) }))
            | inr agree ↦ inr (subst (λ (y : ℕ). Agrees new y) at agree)
          ])
    ]

    pub framed : Mine e.process place old new moves → MyMarks e.process place old new moves → KeepsApart old new → Framed old new
    framed mine marks apart = record {
      bears = bears e.process place old new moves sound mine;
      stand = all_stand e.process place old new moves sound (buffered old sound) mine (text_same old new moves.layout tn.counted) marks;
      apart = apart;
    }

  pub fits_new : (but : Place) → Announce e.process ≢ but → Grows e.process but old new → Bears old new
      → WorkKnows new (kin e f) (work_known (length f.inputs) f.stage) → HoldsNow → CallFits new e.process (new.situation e.process)
  fits_new but apart g b knows buffer = subst (λ (t : Situation). CallFits new e.process t) (sym is) fit
    where
      fit : WorkFits new e.process (kin e f)
      fit = record {
        mine = refl;
        cells = rw tn.layout fits.cells;
        processes = rw tn.layout fits.processes;
        cell = fits.cell;
        rest = rest_stable but old new (on e s) g b apart pending fits.rest;
        knows = knows;
        buffer = buffer;
        at = fit_at;
      }

  pub same_hold : new.memory.cached (Mark e.cell) ≡ old.memory.cached (Mark e.cell) → new.memory.persisted (Mark e.cell) ≡ old.memory.persisted (Mark e.cell)
      → IsHeld old.memory e.process e.cell → IsHeld new.memory e.process e.cell
  same_hold a b h = let by = h.by in let same = h.same in record { by = omega arith; same = omega arith }

  stays : (but : Place) → ((r : ℕ) → Mark r ≢ but) → Value e.cell ≢ but → Kind e.cell ≢ but → Grows e.process but old new → Bears old new → WorkKnows new (on e s) (work_known (length e.inputs) s)
  stays but apart a a' g b = knows_stable but old new (on e s) g b apart a a' (work_known (length e.inputs) s) (held_or_none (length e.inputs) s) fits.knows

  -- nothing is changed
  pub loads : SameMemory old.memory new.memory → Passes → PartsPass → KnowsNow → (WorkHolds new (on e s) (work_held (on e s) s) → HoldsNow) → Keeps e.process old new
  loads m passes parts advance held =
      let moves : Moves e.process Version old new = same_moves e.process old new tn m in
      let g : Grows e.process Version old new = grows_own e.process Version old new moves tn.counted in
      let hold = same_hold (m.cached (Mark e.cell)) (m.persisted (Mark e.cell)) in
      let fr : Framed old new = framed Version moves (quiet_mine Version moves (λ c at. elim at [ inl x ↦ cc | inr x ↦ cc ]) (λ c at. cc) hold passes)
      (no_new_marks e.process Version old new moves (λ c at. cc) (λ c x q h. subst (λ (xs : List (BufferEntry Place)). Contains xs (entry (Mark c) x)) (m.buffer q) h))
      (work_apart Version moves (λ o. hold) parts) in
      quiet_sound e.process old new tn sound moves fr.bears fr.stand fr.apart (keeps Version moves)
      (λ l. fits_new Version (λ x. cc) g fr.bears (advance (stays Version (λ r x. cc) (λ x. cc) (λ x. cc) g fr.bears))
      (held (work_holds_stable Version old new (on e s) g fr.bears (m.buffer e.process) (work_held (on e s) s) fits.buffer)))

  -- a word is flushed
  pub flushes : (place : Place) → FlushesAt e.process place (class_of place) old.memory new.memory → Passes → PartsPass → KnowsNow
      → (Grows e.process Version old new → HoldsNow) → Keeps e.process old new
  flushes place m passes parts advance held =
      let moves : Moves e.process Version old new = flush_moves e.process old new tn place (class_of place) m in
      let g : Grows e.process Version old new = grows_own e.process Version old new moves tn.counted in
      let hold = same_hold (m.cached (Mark e.cell)) (m.persisted (Mark e.cell)) in
      let mine : Mine e.process Version old new moves = quiet_mine Version moves (λ c at. elim at [ inl x ↦ cc | inr x ↦ cc ]) (λ c at. cc) hold passes in
      let fr : Framed old new = framed Version moves mine (flush_any e.process old new moves sound (buffered old sound) mine (text_same old new moves.layout tn.counted) place m)
      (work_apart Version moves (λ o. hold) parts) in
      quiet_sound e.process old new tn sound moves fr.bears fr.stand fr.apart (keeps Version moves)
      (λ l. fits_new Version (λ x. cc) g fr.bears (advance (stays Version (λ r x. cc) (λ x. cc) (λ x. cc) g fr.bears)) (held g))

  -- the oldest entry of the buffer is written back
  pub backs : (place : Place) (value : ℕ) (rest : List (BufferEntry Place)) → (m : WritesBack e.process (entry place value) rest old.memory new.memory) → EntryFits old place (old.memory.cached place) value
      → (IsOwnedBy old.memory e.process place → newer (class_of place) (old.memory.persisted place) value ≡ old.memory.cached place)
      → ((moves : Moves e.process place old new) → Mine e.process place old new moves)
      → ((cell : ℕ) → Mark cell ≡ place → (old.memory.persisted (Mark cell) ≤ new.memory.persisted (Mark cell)) × (new.memory.persisted (Mark cell) ≤ old.memory.cached (Mark cell)))
      → (IsHeld old.memory e.process e.cell → IsHeld new.memory e.process e.cell) → PartsPass
      → (WorkKnows new (on e s) (work_known (length e.inputs) s) → WorkKnows new (kin e f) (work_known (length f.inputs) f.stage)) → HoldsNow → Keeps e.process old new
  backs place value rest m fitting caught my marks hold parts advance held =
      let now : ℕ = newer (class_of place) (old.memory.persisted place) value in
      let b : Backs e.process old new tn place now = written_backs e.process old new tn place value rest m in
      let between : IsBetween old.layout place (old.memory.cached place) (old.memory.persisted place) now =
      newer_between old (small_counted old sound.of_sheet) place (old.memory.cached place) (old.memory.persisted place) value (sound.words place) fitting in
      let moves : Moves e.process place old new = back_moves e.process old new tn sound place now b between in
      let g : Grows e.process Version old new = back_grows e.process old new tn sound place now b between (λ o. (m.cached place, inr (m.there ∙ caught o)))
      (λ cell at. let two = marks cell at in let c = m.cached (Mark cell) in subst (λ (y : ℕ). KeepsHold e.process (old.memory.cached (Mark cell)) (old.memory.persisted (Mark cell)) y (new.memory.persisted (Mark cell))) (sym c)
      (back_hold e.process (old.memory.cached (Mark cell)) (old.memory.persisted (Mark cell)) (new.memory.persisted (Mark cell)) two.0 two.1)) in
      let mine : Mine e.process place old new moves = my moves in
      let fr : Framed old new = framed place moves mine (back_any e.process place value old new moves sound (buffered old sound) mine (text_same old new moves.layout tn.counted) real m)
      (work_apart place moves (λ o. hold) parts) in
      back_sound e.process old new tn sound place now b between fr.bears fr.stand fr.apart (keeps place moves)
      (λ l. fits_new Version (λ x. cc) g fr.bears (advance (stays Version (λ r x. cc) (λ x. cc) (λ x. cc) g fr.bears)) held)

  -- a word is stored
  pub stores : (place : Place) (v : ℕ) → Announce e.process ≢ place → Version ≢ place
      → MovesWord old e.process place (old.memory.cached place) (old.memory.persisted place) v (old.memory.persisted place)
      → (m : StoresAt place v old.memory new.memory)
      → ((moves : Moves e.process place old new) → Mine e.process place old new moves) → ((moves : Moves e.process place old new) → Mine e.process place old new moves → MyMarks e.process place old new moves)
      → (WorkParts s → IsHeld old.memory e.process e.cell → IsHeld new.memory e.process e.cell) → PartsPass
      → ((moves : Moves e.process place old new) → WordFits new place v (old.memory.persisted place))
      → ((moves : Moves e.process place old new) → Grows e.process place old new → Bears old new → WorkKnows new (kin e f) (work_known (length f.inputs) f.stage))
      → HoldsNow → Keeps e.process old new
  stores place v apart apart' moved m my marks hold parts here knows held =
      let moves : Moves e.process place old new = store_moves e.process old new tn place v apart' moved m in
      let g : Grows e.process place old new = grows_own e.process place old new moves tn.counted in
      let mine : Mine e.process place old new moves = my moves in
      let fr : Framed old new = framed place moves mine (marks moves mine) (work_apart place moves hold parts) in
      moves_sound e.process place old new moves tn.counted sound fr.bears fr.stand fr.apart (λ cell ne. keeps place moves cell)
      (subst (λ (c : ℕ). WordFits new place c (new.memory.persisted place)) (sym m.there)
      (subst (λ (y : ℕ). WordFits new place v y) (sym (m.persisted place)) (here moves)))
      (λ l. fits_new place apart g fr.bears (knows moves g fr.bears) held)
