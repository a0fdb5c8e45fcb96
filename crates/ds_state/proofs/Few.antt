-- How many edits can be linearized: as many as there are records.
use Rattle.std.proofs.Common.{ℕ, ◌≡◌, ◌<◌, ◌≤◌, ◌+◌, ◌*◌, List, [], ◌∷◌, sym, ◌∙◌, arith, inl, inr, zero, suc, length}
use Rattle.std.specs.Prelude.{All, ◌==◌, if◌then◌else◌, filter}
use Rattle.std.proofs.lemmas.Bool.Decides.{eqb_tells}
use Rattle.std.proofs.lemmas.List.Elements.{All-head, All-tail, All-weaker}
use Rattle.ds_state.specs.World.{PlainEdit, PlainWorld, of_cell}
use Rattle.ds_state.specs.Sound.{IsSound, Increasing}
use Rattle.ds_state.proofs.Heads.{IsSmall, Small, small_counted}

-- the edits of one process, and of the first n
abbrev own : ℕ → List PlainEdit → ℕ
own p [] = 0
own p (e ∷ es) = (if e.process == p then 1 else 0) + own p es

abbrev total : ℕ → List PlainEdit → ℕ
total zero es = 0
total (suc k) es = own k es + total k es

own_few : (p m : ℕ) (es : List PlainEdit) → Increasing es → Small es → All (λ e. e.process ≡ p → m ≤ e.number) es → m ≤ 256 → own p es + m ≤ 256
own_few p m [] i s l le = omega arith
own_few p m (e ∷ es) i s l le =
    let tail : All (λ (f : PlainEdit). f.process ≡ p → m ≤ f.number) es = All-tail (λ (f : PlainEdit). f.process ≡ p → m ≤ f.number) e es l in
    let small : Small es = All-tail (λ f. IsSmall f) e es s in
    elim (eqb_tells e.process p) [
      | inl mine ↦ (
          let low : m ≤ e.number = All-head (λ (f : PlainEdit). f.process ≡ p → m ≤ f.number) e es l mine.1 in
          let high : e.number < 256 = (All-head (λ f. IsSmall f) e es s).number in
          let rest : own p es + (e.number + 1) ≤ 256 = own_few p (e.number + 1) es i.1 small
          (All-weaker (λ (f : PlainEdit). f.process ≡ e.process → e.number < f.number) (λ (f : PlainEdit). f.process ≡ p → e.number + 1 ≤ f.number) (λ f h is. let g = h (is ∙ sym mine.1) in omega arith) es i.0) (omega arith) in
          rw mine.0 (omega arith))
      | inr other ↦ (let rest = own_few p m es i.1 small tail le in rw other.0 (omega arith))
    ]

total_few : (k : ℕ) (es : List PlainEdit) → Increasing es → Small es → total k es ≤ 256 * k
total_few zero es i s = omega arith
total_few (suc k) es i s =
    let a : own k es + 0 ≤ 256 = own_few k 0 es i s (λ j d l is. omega arith) (omega arith) in
    let b = total_few k es i s in
    omega arith

total_grows : (k : ℕ) (e : PlainEdit) (es : List PlainEdit) → total k es ≤ total k (e ∷ es)
total_grows zero e es = omega arith
total_grows (suc k) e es = let h = total_grows k e es in omega arith

total_more : (k : ℕ) (e : PlainEdit) (es : List PlainEdit) → e.process < k → total k es + 1 ≤ total k (e ∷ es)
total_more zero e es l = absurd (omega arith)
total_more (suc k) e es l = elim (eqb_tells e.process k) [
  | inl mine ↦ (let h = total_grows k e es in rw mine.0 (omega arith))
  | inr other ↦ (let ne = other.1 in let h = total_more k e es (omega arith) in omega arith)
]

length_total : (k : ℕ) (es : List PlainEdit) → All (λ e. e.process < k) es → length es ≤ total k es
length_total k [] h = omega arith
length_total k (e ∷ es) h =
    let a = length_total k es (All-tail (λ (f : PlainEdit). f.process < k) e es h) in
    let b = total_more k e es (All-head (λ (f : PlainEdit). f.process < k) e es h) in
    omega arith

-- in a sound world no more edits are linearized than 256 for each process
pub counted_few : (w : PlainWorld) → IsSound w → length w.counted ≤ 256 * w.layout.processes
counted_few w s =
    let a = length_total w.layout.processes w.counted (λ k d l. (s.of_sheet k d l).process) in
    let b = total_few w.layout.processes w.counted s.increasing (small_counted w s.of_sheet) in
    omega arith

filter_fewer : (cell : ℕ) (es : List PlainEdit) → length (filter (λ (e : PlainEdit). e.cell == cell) es) ≤ length es
filter_fewer cell [] = omega arith
filter_fewer cell (e ∷ es) = let h = filter_fewer cell es in elim (eqb_tells e.cell cell) [
  | inl same ↦ rw same.0 (omega arith)
  | inr other ↦ rw other.0 (omega arith)
]

-- and so of each cell: 2,048 at most
pub of_cell_few : (w : PlainWorld) → IsSound w → (cell : ℕ) → length (of_cell cell w.counted) ≤ 2048
unfolding of_cell
of_cell_few w s cell = let a = counted_few w s in let b = filter_fewer cell w.counted in let l = w.layout.limited in omega arith
