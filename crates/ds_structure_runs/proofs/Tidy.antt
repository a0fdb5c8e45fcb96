-- The words of a world of the structure are those of a table.
use Rattle.std.proofs.Common.{ℕ, ◌≡◌, ◌+◌, ◌*◌, ◌%◌, ◌/◌, ◌<◌, ◌≤◌, ◌==◌, List, [], map, refl, sym, ap, ◌∙◌, arith, Bool, true, false, eq-eqb, ne_eqb}
use Rattle.std.proofs.lemmas.List.FromFn.{get_or-map-range_with_len}
use Rattle.std.specs.List.{range_with_len}
use Rattle.std.specs.Prelude.{if◌then◌else◌, None, slice_index}
use Rattle.ds_shared_runs.specs.History.{IsTidy}
use Rattle.ds_layout.specs.declared.layout.Layout.{Layout}
use Rattle.ds_layout.specs.declared.place.Place.{Place}
use Rattle.ds_layout.specs.Places.{words_of, number_of}
use Rattle.ds_layout.specs.SheetMemory.{is_place, side_at, memory_at}
use Rattle.ds_layout.proofs.Places.{number_of_below}
use Rattle.ds_layout.proofs.Sheet.{IsPlace-is_place}
use Rattle.ds_words.specs.Memory.{Memory}
use Rattle.pm_board.specs.Table.{cached_at, persisted_at}
use Rattle.pm_board.proofs.Sides.{lies_beside}
use Rattle.ds_structure.specs.Sheet.{SheetWorld, plain}
use Rattle.ds_structure.specs.declared.sheet.SheetKey.{SheetKey}
use Rattle.ds_structure_runs.specs.Runs.{core_world}
use Rattle.ds_structure_runs.proofs.Clipped.{far}

-- of no process that the sheet has not is a buffer or an open edit
pub record IsBare (key : SheetKey) (w : SheetWorld) : Type 0 where
  pub buffers : (q : ℕ) → key.layout.processes ≤ q → w.memory.buffer q ≡ []
  pub open_edits : (q : ℕ) → key.layout.processes ≤ q → w.hidden.open_edits q ≡ None

-- the table's word with this number, where one word follows on the other
abbrev word_at : Memory ℕ → ℕ → ℕ
word_at m i = if i % 2 == 0 then m.cached (i / 2) else m.persisted (i / 2)

abbrev table : ℕ → Memory ℕ → List ℕ
table count m = map (word_at m) (range_with_len 0 (2 * count))

cached_there : (count : ℕ) (m : Memory ℕ) (n : ℕ) → n < count → slice_index (table count m) (cached_at 0 n) ≡ m.cached n
cached_there count m n low =
    let at : 2 * n / 2 ≡ n = omega arith in
    ap (λ (i : ℕ). slice_index (table count m) i) (let is = lies_beside 0 n (omega arith) in let here : cached_at 0 n ≡ 2 * n = omega (arith, is) in here)
    ∙ get_or-map-range_with_len (word_at m) 0 (2 * count) (2 * n) (2 * n) 0 (omega arith) (let e : 0 + 2 * n ≡ 2 * n = omega arith in e)
    ∙ ap (λ (b : Bool). if b then m.cached (2 * n / 2) else m.persisted (2 * n / 2)) (eq-eqb (2 * n % 2) 0 (omega arith)) ∙ ap m.cached at

persisted_there : (count : ℕ) (m : Memory ℕ) (n : ℕ) → n < count → slice_index (table count m) (persisted_at 0 n) ≡ m.persisted n
persisted_there count m n low =
    let at : (2 * n + 1) / 2 ≡ n = omega arith in
    ap (λ (i : ℕ). slice_index (table count m) i) (let is = lies_beside 0 n (omega arith) in let here : persisted_at 0 n ≡ 2 * n + 1 = omega (arith, is) in here)
    ∙ get_or-map-range_with_len (word_at m) 0 (2 * count) (2 * n + 1) (2 * n + 1) 0 (omega arith) (let e : 0 + (2 * n + 1) ≡ 2 * n + 1 = omega arith in e)
    ∙ ap (λ (b : Bool). if b then m.cached ((2 * n + 1) / 2) else m.persisted ((2 * n + 1) / 2)) (ne_eqb ((2 * n + 1) % 2) 0 (λ e. omega arith)) ∙ ap m.persisted at

if_same : (b : Bool) (x y : ℕ) → (b ≡ true → x ≡ y) → (if b then x else 0) ≡ (if b then y else 0)
if_same true x y h = h refl
if_same false x y h = refl

-- a side is the same at each place where it is the same at each word of the sheet
side_in : (layout : Layout) (f g : ℕ → ℕ) → ((n : ℕ) → n < words_of layout → f n ≡ g n) → (r : Place) → side_at layout f r ≡ side_at layout g r
unfolding side_at
side_in layout f g h r = if_same (is_place layout r) (f (number_of layout r)) (g (number_of layout r)) (λ is. h (number_of layout r) (number_of_below layout r (IsPlace-is_place layout r is)))

pub tidy : (key : SheetKey) (w : SheetWorld) → IsBare key w → IsTidy (core_world key w)
tidy key w bare = record {
  words = table (words_of key.layout) w.memory;
  buffer = w.memory.buffer;
  memory = λ i. record {
    cached = λ r. side_in key.layout w.memory.cached (λ n. slice_index (table (words_of key.layout) w.memory) (cached_at 0 n)) (λ n low. sym (cached_there (words_of key.layout) w.memory n low)) r i;
    persisted = λ r. side_in key.layout w.memory.persisted (λ n. slice_index (table (words_of key.layout) w.memory) (persisted_at 0 n)) (λ n low. sym (persisted_there (words_of key.layout) w.memory n low)) r i;
    buffer = (memory_at key.layout w.memory).buffer;
  };
  buffers = bare.buffers;
  situations = λ q high. far key.layout.processes (plain key w) q high;
  open_edits = bare.open_edits;
}
