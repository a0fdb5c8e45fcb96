-- What stays of the linearized edits, while words only grow.
use Rattle.std.proofs.Common.{ℕ, ◌≡◌, ◌≢◌, ◌<◌, ◌≤◌, List, [], ◌∷◌, ◌++◌, refl, ap, ◌∙◌, arith, length, length-append, inl, inr, zero, suc, take}
use Rattle.std.specs.Prelude.{All, if◌then◌else◌}
use Rattle.std.proofs.lemmas.List.{take-append-le}
use Rattle.std.proofs.lemmas.Bool.Decides.{eqb_tells}
use Rattle.std.proofs.lemmas.List.Elements.{All-append, All-weaker, All-same, All-head, All-tail}
use Rattle.ds_words.specs.Memory.{Memory}
use Rattle.ds_layout.specs.declared.place.Place.{Place}
use Rattle.ds_layout.specs.declared.announcement.Phase.TheVariants as phase
use Rattle.ds_layout.proofs.OrBits.{HasBit-subset}
use Rattle.ds_state.specs.World.{PlainEdit, PlainWorld, record_place, done_place, of_cell, of_cell_when, IsHeadBy, phase_among, is_edit_of, last_announcement, announcement}
use Rattle.ds_state.specs.Known.{AreBelow, IsSafe, IsDone}
use Rattle.ds_state.specs.Rely.{IsOwnedBy, Grows}
use Rattle.ds_state.proofs.Heads.{of_cell-append, by_append}
use Rattle.ds_layout.specs.declared.place.Edition.{Edition}
use Rattle.ds_state.specs.Editions.{seen_edition}

-- a number that is at most a second one is at most what that one is at most
pub at_most : {a b c : ℕ} → a ≤ b → b ≤ c → a ≤ c
at_most h k = omega arith

-- edits of others say nothing of a process's own
phase_append : (xs ys : List PlainEdit) (p n : ℕ) → All (λ e. e.process ≢ p) ys → phase_among (xs ++ ys) p n ≡ phase_among xs p n
phase_append [] [] p n h = refl
phase_append [] (y ∷ ys) p n h =
    let other : y.process ≢ p = All-head (λ (e : PlainEdit). e.process ≢ p) y ys h in
    elim (eqb_tells y.process p) [
      | inl same ↦ absurd (other same.1)
      | inr differs ↦ rw differs.0 (phase_append [] ys p n (All-tail (λ (e : PlainEdit). e.process ≢ p) y ys h))
    ]
phase_append (x ∷ xs) ys p n h = ap (λ rest. if is_edit_of p n x then phase.Done else rest) (phase_append xs ys p n h)

pub last_append : (xs ys : List PlainEdit) (p n : ℕ) → All (λ e. e.process ≢ p) ys → last_announcement (xs ++ ys) p n ≡ last_announcement xs p n
last_append xs ys p zero h = refl
last_append xs ys p (suc n) h = ap (λ f. announcement n f) (phase_append xs ys p n h)

-- a record's word is its process's own
pub record_owned : (m : Memory Place) (edition : Edition) → seen_edition m ≡ edition → (p n k : ℕ) → IsOwnedBy m p (record_place edition p n k)
record_owned m edition seen p n zero = refl
record_owned m edition seen p n (suc k) = (refl, seen)

module _ (q : ℕ) (but : Place) (old new : PlainWorld) (g : Grows q but old new) where
  pub below_stable : (n : ℕ) → AreBelow old q n → AreBelow new q n
  below_stable n h = All-same (λ e. e.process ≡ q → e.number < n) new.counted (old.counted ++ g.added) g.counted
      (All-append (λ e. e.process ≡ q → e.number < n) old.counted g.added h
      (All-weaker (λ e. e.process ≢ q) (λ e. e.process ≡ q → e.number < n) (λ e h k. absurd (h k)) g.added g.foreign))

  pub by_stable : (cell word : ℕ) (e : PlainEdit) → IsHeadBy (of_cell cell old.counted) word e → IsHeadBy (of_cell cell new.counted) word e
  by_stable cell word e h = rw (g.counted, of_cell-append) (by_append (of_cell cell old.counted) (of_cell cell g.added) word e h)

  pub last_stable : (n : ℕ) → last_announcement new.counted q n ≡ last_announcement old.counted q n
  last_stable n = ap (λ es. last_announcement es q n) g.counted ∙ last_append old.counted g.added q n g.foreign

  pub when_stable : (cell count : ℕ) → count ≤ length old.counted → of_cell_when new cell count ≡ of_cell_when old cell count
  when_stable cell count l = ap (λ es. of_cell cell (take count es)) g.counted ∙ ap (λ es. of_cell cell es) (take-append-le count old.counted g.added l)

  pub longer : length old.counted ≤ length new.counted
  longer = let l = ap length g.counted in omega (arith, length-append old.counted g.added)

  pub safe_stable : (e : PlainEdit) → IsSafe old e → IsSafe new e
  safe_stable e h = record {
    own = h.own;
    head = by_stable e.cell h.own e h.head;
    persisted = at_most h.persisted (g.heads_persisted e.cell);
  }

  pub done_stable : (p n : ℕ) → IsDone old p n → IsDone new p n
  done_stable p n h = HasBit-subset (old.memory.persisted (done_place p n)) (new.memory.persisted (done_place p n)) n (g.done_persisted p _) h
