-- What a process may rely on while another one steps.
use Rattle.std.specs.Prelude.{ℕ, ◌≡◌, ◌≢◌, ◌≤◌, ◌⊎◌, ◌++◌, List, All}
use Rattle.ds_words.specs.Memory.{Memory}
use Rattle.ds_layout.specs.declared.place.Place.{Place}
use Rattle.ds_layout.specs.declared.place.Place.TheVariants.{Head, Mark, Value, Kind, Index, Announce, Header, Text, Done}
use Rattle.ds_layout.specs.Bits.{IsSubset}
use Rattle.ds_state.specs.World.{PlainEdit, PlainWorld}
use Rattle.ds_state.specs.Owing.{IsIndexed, CellOwes, IsExcused}
use Rattle.ds_layout.specs.Mark.{tenure, IsClean, IsHeldBy}
use Rattle.ds_state.specs.Standing.{Matters}
use Rattle.ds_state.specs.Sound.{IsSound}
use Rattle.ds_state.specs.Editions.{seen_edition}

-- whose word it is, where it is one process's alone: a cell's value and kind are its holder's; only the texts of the
-- layout that processes see are theirs
abbrev pub IsOwnedBy : Memory Place → ℕ → Place → Type 0
IsOwnedBy m q (Announce p) = p ≡ q
IsOwnedBy m q (Header p number) = p ≡ q
IsOwnedBy m q (Text edition p number part) = (p ≡ q) × (seen_edition m ≡ edition)
IsOwnedBy m q (Value cell) = IsHeldBy q (m.cached (Mark cell))
IsOwnedBy m q (Kind cell) = IsHeldBy q (m.cached (Mark cell))
IsOwnedBy m q _ = ⊥

-- a hold of q's, where a mark's sides go from c (cached) and v to c' and v': it stays, on both sides where it was on
-- both, and none comes
pub record KeepsHold (q c v c' v' : ℕ) : Type 0 where
  pub cached : IsHeldBy q c → tenure c' ≡ tenure c
  pub persisted : IsHeldBy q c → tenure v ≡ tenure c → tenure v' ≡ tenure c
  pub came : IsHeldBy q c' → IsHeldBy q c

-- what q may rely on, but for one word: its own words keep their cached side, and their persisted side at most
-- catches up; stamped words only grow, bits only come, and the edits that are linearized are others' and come after
-- them
pub record Grows (q : ℕ) (but : Place) (old new : PlainWorld) : Type 0 where
  pub layout : new.layout ≡ old.layout
  pub owned_cached : (r : Place) → IsOwnedBy old.memory q r → r ≢ but → new.memory.cached r ≡ old.memory.cached r
  pub owned_persisted : (r : Place) → IsOwnedBy old.memory q r → r ≢ but → (new.memory.persisted r ≡ old.memory.persisted r) ⊎ (new.memory.persisted r ≡ old.memory.cached r)
  pub heads_cached : (cell : ℕ) → old.memory.cached (Head cell) ≤ new.memory.cached (Head cell)
  pub heads_persisted : (cell : ℕ) → old.memory.persisted (Head cell) ≤ new.memory.persisted (Head cell)
  pub marks_cached : (cell : ℕ) → old.memory.cached (Mark cell) ≤ new.memory.cached (Mark cell)
  pub marks_persisted : (cell : ℕ) → old.memory.persisted (Mark cell) ≤ new.memory.persisted (Mark cell)
  pub holds : (cell : ℕ) → Mark cell ≢ but → KeepsHold q (old.memory.cached (Mark cell)) (old.memory.persisted (Mark cell)) (new.memory.cached (Mark cell)) (new.memory.persisted (Mark cell))
  pub announces_cached : (p : ℕ) → old.memory.cached (Announce p) ≤ new.memory.cached (Announce p)
  pub announces_persisted : (p : ℕ) → old.memory.persisted (Announce p) ≤ new.memory.persisted (Announce p)
  pub values : (cell : ℕ) → IsClean (old.memory.cached (Mark cell)) → (new.memory.cached (Value cell) ≡ old.memory.cached (Value cell)) × (new.memory.cached (Kind cell) ≡ old.memory.cached (Kind cell))
  pub index_cached : (row part : ℕ) → IsSubset (old.memory.cached (Index row part)) (new.memory.cached (Index row part))
  pub index_persisted : (row part : ℕ) → IsSubset (old.memory.persisted (Index row part)) (new.memory.persisted (Index row part))
  pub done_cached : (p part : ℕ) → IsSubset (old.memory.cached (Done p part)) (new.memory.cached (Done p part))
  pub done_persisted : (p part : ℕ) → IsSubset (old.memory.persisted (Done p part)) (new.memory.persisted (Done p part))
  pub added : List PlainEdit
  pub counted : new.counted ≡ old.counted ++ added
  pub foreign : All (λ e. e.process ≢ q) added

-- what was owed is owed, where it matters; words and heads, as processes see them, stay, or somebody owes
pub record Bears (old new : PlainWorld) : Type 0 where
  pub owing : (r c x : ℕ) → IsIndexed old r c → Matters new c x → CellOwes old r c x → CellOwes new r c x
  pub excused : (c x : ℕ) → Matters new c x → IsExcused old c x → IsExcused new c x
  pub values : (r : ℕ) → (new.memory.cached (Value r) ≡ old.memory.cached (Value r)) ⊎ ((c x : ℕ) → CellOwes new r c x)
  pub kinds : (r : ℕ) → (new.memory.cached (Kind r) ≡ old.memory.cached (Kind r)) ⊎ ((c x : ℕ) → CellOwes new r c x)
  pub heads : (c : ℕ) → (new.memory.cached (Head c) ≡ old.memory.cached (Head c)) ⊎ ((x : ℕ) → IsExcused new c x)

-- what q may rely on while another process steps: its situation, its issue and its buffer stay, words only change as
-- `Grows` says, and what was owed is owed
pub record Rely (q : ℕ) (old new : PlainWorld) : Type 0 where
  pub situation : new.situation q ≡ old.situation q
  pub open_edits : new.open_edits q ≡ old.open_edits q
  pub buffer : new.memory.buffer q ≡ old.memory.buffer q
  pub grows : (but : Place) → Grows q but old new
  pub bears : Bears old new

-- the process leaves the world sound, and what each other process may rely on is kept
pub record Keeps (p : ℕ) (old new : PlainWorld) : Type 0 where
  pub sound : IsSound new
  pub others : (q : ℕ) → q ≢ p → Rely q old new
