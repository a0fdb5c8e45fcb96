-- The header of a record that no edit is writing: each of its sides stays one of the two that it had.
use Rattle.std.proofs.Common.{ℕ, ◌≡◌, ◌≢◌, ◌⊎◌, List, [], ◌∷◌, refl, ap, sym, ◌∙◌, subst, inl, inr, zero, suc, map}
use Rattle.std.specs.List.{range_with_len}
use Rattle.ds_formula.specs.declared.cells.Shape.{Shape}
use Rattle.ds_words.specs.Memory.{Memory, SameMemory, StoresAt, EvictsAt, StopsAt, Crashes}
use Rattle.ds_words.specs.declared.access.Access.{Access}
use Rattle.ds_words.specs.declared.access.Access.TheVariants as acts
use Rattle.ds_words.specs.declared.access.BufferEntry.{BufferEntry}
use Rattle.ds_layout.specs.declared.place.Edition.{Edition}
use Rattle.ds_layout.specs.declared.place.Place.{Place}
use Rattle.ds_layout.specs.declared.place.Place.TheVariants.{Header, Version}
use Rattle.ds_layout.specs.SheetMemory.{PerformsAt}
use Rattle.ds_state.specs.Edits.{PlainEditCall, text_parts}
use Rattle.ds_state.specs.Works.{PlainWorkCall}
use Rattle.ds_state.specs.World.{PlainEdit, PlainWorld, edit_of}
use Rattle.ds_state.specs.Rely.{Rely}
use Rattle.ds_state.specs.CallsFit.{Held, Holds, held_at, record_entry}
use Rattle.ds_state.specs.CallsFit as held
use Rattle.ds_state.specs.KnownWork.{WorkHeld, WorkHolds, work_held}
use Rattle.ds_state.specs.KnownWork as works
use Rattle.ds_state.specs.KnownRecovery.{RecoveryHeld, RecoveryHolds}
use Rattle.ds_state.specs.KnownRecovery as recoveries
use Rattle.ds_state.specs.Telling.{spread_access}
use Rattle.ds_state.specs.declared.stage.Stage.{Stage}
use Rattle.ds_state.specs.declared.stage.Stage.TheVariants.{StoreHeader}
use Rattle.ds_state.specs.declared.work.WorkStage.{WorkStage}
use Rattle.ds_state.specs.declared.work.WorkStage.TheVariants as work_stages
use Rattle.ds_state.specs.declared.spread.Spread.{Spread}
use Rattle.ds_state.specs.declared.spread.Spread.TheVariants as spreads
use Rattle.ds_edit.specs.EditSteps as edits
use Rattle.ds_work.specs.WorkSteps as work_steps

-- each side is one of the two that the word had
pub record SidesStay (old new : Memory Place) (r : Place) : Type 0 where
  pub cached : (new.cached r ≡ old.cached r) ⊎ (new.cached r ≡ old.persisted r)
  pub persisted : (new.persisted r ≡ old.cached r) ⊎ (new.persisted r ≡ old.persisted r)

-- what both sides have, they have after it
pub sides_keep : (P : ℕ → Type 0) (old new : Memory Place) (r : Place) → SidesStay old new r → P (old.cached r) → P (old.persisted r) → P (new.cached r) × P (new.persisted r)
sides_keep P old new r s a b = (
  elim s.cached [ inl is ↦ subst P (sym is) a | inr is ↦ subst P (sym is) b ],
  elim s.persisted [ inl is ↦ subst P (sym is) a | inr is ↦ subst P (sym is) b ],
)

-- where nothing changes each word has the sides that it had
pub sides_same : (old new : Memory Place) (r : Place) → SameMemory old new → SidesStay old new r
sides_same old new r s = record { cached = inl (s.cached r); persisted = inr (s.persisted r) }

-- an eviction leaves each word sides that it had
pub sides_evicted : (place : Place) (old new : Memory Place) (r : Place) → EvictsAt place old new → ((r ≡ place) ⊎ (r ≢ place)) → SidesStay old new r
sides_evicted place old new r e (inl same) = record { cached = inl (e.cached r); persisted = inl (ap new.persisted same ∙ e.there ∙ ap old.cached (sym same)) }
sides_evicted place old new r e (inr other) = record { cached = inl (e.cached r); persisted = inr (e.elsewhere r other) }

-- a crash leaves each word sides that it had
pub sides_crashed : (old new : Memory Place) (r : Place) → Crashes old new → SidesStay old new r
sides_crashed old new r c = record { cached = inr (c.cached r); persisted = inr (c.persisted r) }

-- a stop leaves each word sides that it had
pub sides_stopped : (p : ℕ) (old new : Memory Place) (r : Place) → StopsAt p old new → SidesStay old new r
sides_stopped p old new r s = record { cached = inl (s.cached r); persisted = inr (s.persisted r) }

-- another process's turn
pub sides_relied : (p n : ℕ) (old new : PlainWorld) → Rely p old new → SidesStay old.memory new.memory (Header p n)
sides_relied p n old new r =
    let g = r.grows Version in
    let not : Header p n ≢ Version = λ is. cc in
    record {
      cached = inl (g.owned_cached (Header p n) refl not);
      persisted = elim (g.owned_persisted (Header p n) refl not) [ inl same ↦ inr same | inr caught ↦ inl caught ];
    }

-- ---- a process's own step

-- not the header of that record
abbrev pub Elsewhere : ℕ → ℕ → Place → Type 0
Elsewhere p n (Header q m) = q ≡ p → m ≡ n → ⊥
Elsewhere p n r = Unit {0}

-- the access changes no word, or another one than that header
abbrev pub Spares : ℕ → ℕ → Access Place → Type 0
Spares p n (acts.Store r value) = Elsewhere p n r
Spares p n (acts.Or r bits) = Elsewhere p n r
Spares p n (acts.SwapIf r expected value) = Elsewhere p n r
Spares p n access = Unit {0}

-- the oldest entry is not of that header
abbrev pub FirstSpares : ℕ → ℕ → List (BufferEntry Place) → Type 0
FirstSpares p n [] = Unit {0}
FirstSpares p n (e ∷ rest) = Elsewhere p n e.place

not_there : (p n : ℕ) (r : Place) → Elsewhere p n r → Header p n ≢ r
not_there p n r e is = (subst (λ (x : Place). Elsewhere p n x) (sym is) e) refl refl

stored_there : (p n : ℕ) (r : Place) (value : ℕ) (old new : Memory Place) → Elsewhere p n r → StoresAt r value old new → SidesStay old new (Header p n)
stored_there p n r value old new e s = record { cached = inl (s.elsewhere (Header p n) (not_there p n r e)); persisted = inr (s.persisted (Header p n)) }

-- an access that spares a header, as the oldest entry does, leaves it sides that it had
pub sides_performed : (p n q : ℕ) (access : Access Place) (old new : Memory Place) (word : ℕ) → Spares p n access → FirstSpares p n (old.buffer q) → PerformsAt access q old new word → SidesStay old new (Header p n)
sides_performed p n q acts.Nothing old new word s f h = sides_same old new (Header p n) h.1
sides_performed p n q (acts.Load r) old new word s f h = sides_same old new (Header p n) h.1
sides_performed p n q (acts.Store r value) old new word s f h = stored_there p n r value old new s h.1
sides_performed p n q (acts.Or r bits) old new word s f h = stored_there p n r _ old new s h.1
sides_performed p n q (acts.SwapIf r expected value) old new word s f h = elim h.1 [
  | inl won ↦ stored_there p n r value old new s won.1
  | inr lost ↦ sides_same old new (Header p n) lost.1
]
sides_performed p n q (acts.Flush r) old new word s f h = record { cached = inl (h.1.cached (Header p n)); persisted = inr (h.1.persisted (Header p n)) }
sides_performed p n q acts.Back old new word s f h =
    let b = h.1.2 in
    let e : BufferEntry Place = h.1.0 in
    let first : Elsewhere p n e.place = subst (λ (xs : List (BufferEntry Place)). FirstSpares p n xs) b.oldest f in
    record { cached = inl (b.cached (Header p n)); persisted = inr (b.elsewhere (Header p n) (not_there p n e.place first)) }

-- ---- of an edit with another number

edit_spares : (p n : ℕ) (e : PlainEditCall) (s : Stage) → (e.number ≡ n → ⊥) → Spares p n (edits.access_at e s)
edit_spares p n e StoreHeader ne = λ a b. ne b
edit_spares p n e _ ne = tt

record_spares : (p n : ℕ) (edition : Edition) (e : PlainEdit) (first count : ℕ) → (e.number ≡ n → ⊥) → FirstSpares p n (map (record_entry edition e) (range_with_len first count))
record_spares p n edition e first zero ne = tt
record_spares p n edition e zero (suc count) ne = λ a b. ne b
record_spares p n edition e (suc first) (suc count) ne = tt

held_spares : (p n : ℕ) (w : PlainWorld) (edition : Edition) (e : PlainEdit) (h : Held) → (e.number ≡ n → ⊥) → Holds w edition e h → FirstSpares p n (w.memory.buffer e.process)
held_spares p n w edition e held.empty ne h = subst (λ (xs : List (BufferEntry Place)). FirstSpares p n xs) (sym h) tt
held_spares p n w edition e (held.record_words first count) ne h = subst (λ (xs : List (BufferEntry Place)). FirstSpares p n xs) (sym h) (record_spares p n edition e first count ne)
held_spares p n w edition e (held.announcing_word a) ne h = subst (λ (xs : List (BufferEntry Place)). FirstSpares p n xs) (sym h) tt
held_spares p n w edition e (held.row_bits row) ne h = subst (λ (xs : List (BufferEntry Place)). FirstSpares p n xs) (sym h.alone) tt
held_spares p n w edition e (held.done_bits process number) ne h = subst (λ (xs : List (BufferEntry Place)). FirstSpares p n xs) (sym h.alone) tt
held_spares p n w edition e (held.head_from least) ne h = subst (λ (xs : List (BufferEntry Place)). FirstSpares p n xs) (sym h.alone) tt
held_spares p n w edition e held.mark ne h = subst (λ (xs : List (BufferEntry Place)). FirstSpares p n xs) (sym h.alone) tt

-- a step of an edit leaves the header of a record of another number the sides that it had
pub edit_sides : (p n : ℕ) (old new : PlainWorld) (e : PlainEditCall) (word : ℕ) → (e.number ≡ n → ⊥) → Holds old e.edition (edit_of e) (held_at (text_parts e.text) e.refs e.stage) → PerformsAt (edits.access_at e e.stage) e.process old.memory new.memory word
    → SidesStay old.memory new.memory (Header p n)
edit_sides p n old new e word ne h performs = sides_performed p n e.process (edits.access_at e e.stage) old.memory new.memory word (edit_spares p n e e.stage ne) (held_spares p n old e.edition (edit_of e) (held_at (text_parts e.text) e.refs e.stage) ne h) performs

-- ---- of work

-- no step of telling stores a header
pub spread_spares : (p n cell : ℕ) (s : Spread) → Spares p n (spread_access cell s)
spread_spares p n cell (spreads.OrTold d) = tt
spread_spares p n cell _ = tt

work_spares : (p n : ℕ) (shape : Shape) (e : PlainWorkCall) (s : WorkStage) → Spares p n (work_steps.access_at shape e s)
work_spares p n shape e (work_stages.Telling spread) = spread_spares p n e.cell spread
work_spares p n shape e _ = tt

work_first : (p n : ℕ) (w : PlainWorld) (e : PlainWorkCall) (h : WorkHeld) → WorkHolds w e h → FirstSpares p n (w.memory.buffer e.process)
work_first p n w e works.empty h = subst (λ (xs : List (BufferEntry Place)). FirstSpares p n xs) (sym h) tt
work_first p n w e works.claim h = subst (λ (xs : List (BufferEntry Place)). FirstSpares p n xs) (sym h.alone) tt
work_first p n w e (works.a_mark cell) h = subst (λ (xs : List (BufferEntry Place)). FirstSpares p n xs) (sym h.alone) tt
work_first p n w e works.the_value h = subst (λ (xs : List (BufferEntry Place)). FirstSpares p n xs) (sym h) tt
work_first p n w e works.both_words h = subst (λ (xs : List (BufferEntry Place)). FirstSpares p n xs) (sym h) tt
work_first p n w e works.the_kind h = subst (λ (xs : List (BufferEntry Place)). FirstSpares p n xs) (sym h) tt

-- a step of work leaves each header the sides that it had
pub work_sides : (p n : ℕ) (shape : Shape) (old new : PlainWorld) (e : PlainWorkCall) (word : ℕ) → WorkHolds old e (work_held e e.stage) → PerformsAt (work_steps.access_at shape e e.stage) e.process old.memory new.memory word
    → SidesStay old.memory new.memory (Header p n)
work_sides p n shape old new e word h performs = sides_performed p n e.process (work_steps.access_at shape e e.stage) old.memory new.memory word (work_spares p n shape e e.stage) (work_first p n old e (work_held e e.stage) h) performs

-- ---- of a recovery

-- the oldest entry of a recovery's buffer is of no header
pub recovery_first : (p n q : ℕ) (w : PlainWorld) (word cell : ℕ) (h : RecoveryHeld) → RecoveryHolds w q word cell h → FirstSpares p n (w.memory.buffer q)
recovery_first p n q w word cell recoveries.empty h = subst (λ (xs : List (BufferEntry Place)). FirstSpares p n xs) (sym h) tt
recovery_first p n q w word cell (recoveries.the_value c) h = subst (λ (xs : List (BufferEntry Place)). FirstSpares p n xs) (sym h) tt
recovery_first p n q w word cell (recoveries.both_words c) h = subst (λ (xs : List (BufferEntry Place)). FirstSpares p n xs) (sym h) tt
recovery_first p n q w word cell (recoveries.the_kind c) h = subst (λ (xs : List (BufferEntry Place)). FirstSpares p n xs) (sym h) tt
recovery_first p n q w word cell (recoveries.a_mark c) h = subst (λ (xs : List (BufferEntry Place)). FirstSpares p n xs) (sym h.alone) tt
recovery_first p n q w word cell recoveries.a_head h = subst (λ (xs : List (BufferEntry Place)). FirstSpares p n xs) (sym h.alone) tt
recovery_first p n q w word cell recoveries.the_version h = subst (λ (xs : List (BufferEntry Place)). FirstSpares p n xs) (sym h.alone) tt
recovery_first p n q w word cell recoveries.the_outcome h = subst (λ (xs : List (BufferEntry Place)). FirstSpares p n xs) (sym h) tt
