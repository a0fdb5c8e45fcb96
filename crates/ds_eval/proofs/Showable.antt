-- What a content that was read gives of entries that cells can show, a cell can show.
use Rattle.std.proofs.Common.{◌≡◌, ◌≢◌, ◌⊎◌, ℕ, zero, suc, ◌%◌, ◌^◌, ◌<◌, ◌≤◌, min, ℤ, pos, negsuc, nat_lt, Bool, true, false, ◌==◌, if◌then◌else◌, List, refl, sym, ap, subst, inl, inr, arith}
use Rattle.std.proofs.lemmas.Bool.{cases_lt, ltb-true, lt-ltb, ne_eqb}
use Rattle.std.proofs.lemmas.Bool.Decides.{nat_tests}
use Rattle.std.specs.Prelude.{unsigned_abs}
use Rattle.ds_formula.specs.declared.cells.Shape.{Shape}
use Rattle.ds_formula.specs.declared.cells.Cell.{Cell}
use Rattle.ds_formula.specs.Cells.{IsInside, count_of}
use Rattle.ds_formula.specs.Plain.{Formula, Literal, At, Area, Signed, Joined, Called, Formulas, Nothing, Then, PlainContent}
use Rattle.ds_formula.specs.Refs.{Refers}
use Rattle.ds_formula.specs.Grammar.{Reads, ReadsLong, blank, constant, computed}
use Rattle.ds_formula.proofs.Formed.{Formed, AllFormed, level_good}
use Rattle.ds_formula.proofs.ReadsBack.{InRange, constant_range}
use Rattle.ds_eval.specs.declared.value.Value.{Value}
use Rattle.ds_eval.specs.declared.value.Value.TheVariants.{Blank, Number, DivZero, Num, Circular}
use Rattle.ds_eval.specs.declared.inputs.Entry.{Entry}
use Rattle.ds_eval.specs.Numbers.{in_range, is_i64, floor_rest}
use Rattle.ds_eval.specs.CodeSteps.{size_of_rest, with_sign, is_negative, same}
use Rattle.ds_eval.specs.Evaluation.{content_value}
use Rattle.ds_eval.specs.Local.{content_height, entry_at, local, value_of, height_of}
use Rattle.ds_eval.specs.Showable.{IsOrdinary, CanShow, ordinary, round}
use Rattle.ds_eval.proofs.Division.{floor_mod_is}
use Rattle.ds_eval.proofs.Neighbours.{bound, value_on}
use Rattle.ds_eval.proofs.Results.{Written, AllWritten, Keeps, fine_formula}

-- ---- numbers in range

abbrev Small : ℤ → Type 0
Small z = is_i64 z ≡ true

small_sign : (b : Bool) (n : ℕ) → n < 2 ^ 63 → Small (with_sign b n)
small_sign true zero h = refl
small_sign true (suc n) h = lt-ltb n (2 ^ 63) (omega arith)
small_sign false n h = lt-ltb n (2 ^ 63) h

size_below : (b : Bool) (rest size : ℕ) → rest < size → size_of_rest b rest size < size
size_below true rest size h = h
size_below false rest size h = grind (arith, nat_tests)

some_size : (b : ℤ) → b ≢ pos 0 → 0 < unsigned_abs b
some_size (pos zero) h = absurd (h refl)
some_size (pos (suc n)) h = omega arith
some_size (negsuc n) h = omega arith

lt_is : (m n : ℕ) → nat_lt m n ≡ true → m < n
lt_is m n e = ltb-true m n e

most_size : (b : ℤ) → Small b → unsigned_abs b ≤ 2 ^ 63
most_size (pos n) h = let l = lt_is n (2 ^ 63) h in omega arith
most_size (negsuc n) h = let l = lt_is n (2 ^ 63) h in omega arith

small_rest : (a b : ℤ) → Small b → b ≢ pos 0 → Small (floor_rest a b)
small_rest a b h ne =
    let size : ℕ = unsigned_abs b in
    let some = some_size b ne in
    let most = most_size b h in
    let rest : unsigned_abs a % size < size = omega arith in
    let below = size_below (same (is_negative a) (is_negative b)) (unsigned_abs a % size) size rest in
    subst (λ (z : ℤ). Small z) (floor_mod_is a b ne) (small_sign (is_negative b) (size_of_rest (same (is_negative a) (is_negative b)) (unsigned_abs a % size) size) (omega arith))

small_in_range : (z : ℤ) → InRange z → Small z
small_in_range (pos n) h = lt-ltb n (2 ^ 63) (omega (arith, h))
small_in_range (negsuc n) h = lt-ltb n (2 ^ 63) (omega (arith, h))

-- ---- what comes out

fine_range : (z : ℤ) → IsOrdinary (in_range z)
fine_range z = go (is_i64 z) refl
  where
    go : (b : Bool) → is_i64 z ≡ b → IsOrdinary (if b then Number z else Num)
    go true e = e
    go false e = tt

keeps : Keeps Small IsOrdinary IsOrdinary
keeps = record { number = λ z h. h; small = λ z h. h; within = λ z h. h; rest = small_rest; num = tt; div = tt; round = λ g. g; blank = tt; again = λ v p. p }

mutual
  small_written : (shape : Shape) (f : Formula) → Formed shape f → Written Small f
  small_written shape (Literal z) h = subst (λ (x : ℤ). Small x) (sym h.is) (lt-ltb h.value (2 ^ 63) (omega (arith, h.small)))
  small_written shape (At c) h = tt
  small_written shape (Area a) h = tt
  small_written shape (Signed s f) h = small_written shape f h
  small_written shape (Joined o f g) h = (small_written shape f h.0, small_written shape g h.1)
  small_written shape (Called g fs) h = all_written shape fs h.1

  all_written : (shape : Shape) (fs : Formulas) → AllFormed shape fs → AllWritten Small fs
  all_written shape Nothing h = tt
  all_written shape (Then f fs) h = (small_written shape f h.0, all_written shape fs h.1)

module _ (shape : Shape) (read : Cell → Value) (reads : (c : Cell) → IsOrdinary (read c)) where
  fine_content : (text : List ℕ) (p : PlainContent) → ReadsLong shape text p → IsOrdinary (content_value shape read p)
  fine_content text p blank = tt
  fine_content text p (constant t z l n e) = small_in_range z (constant_range t z e)
  fine_content text p (computed t b f r n e m k) = fine_formula Small IsOrdinary IsOrdinary keeps shape read reads f (small_written shape f (level_good e.2).formed)

-- ---- entries

equal : (n : ℕ) → (n == n) ≡ true
equal n = grind (arith, nat_tests)

-- the value where it is an ordinary one
tame : Value → Value
tame (Number z) = in_range z
tame Circular = Num
tame v = v

tame_fine : (v : Value) → IsOrdinary (tame v)
unfolding tame
tame_fine Blank = tt
tame_fine (Number z) = fine_range z
tame_fine DivZero = tt
tame_fine Num = tt
tame_fine Circular = tt

tame_is : (v : Value) → IsOrdinary v → v ≡ tame v
unfolding tame
tame_is Blank h = refl
tame_is (Number z) h = sym (ap (λ (b : Bool). if b then Number z else Num) h)
tame_is DivZero h = refl
tame_is Num h = refl
tame_is Circular h = absurd h

module _ (shape : Shape) (text : List ℕ) (content : PlainContent) (entries : Cell → Entry) (reads : Reads shape text content)
    (shown : (d : Cell) → Refers content d → IsInside shape d → CanShow shape (entries d)) where
  -- below the height of all cells nothing that was read is circular
  below : content_height shape (height_of entries) content < count_of shape → IsOrdinary (content_value shape (value_of entries) content)
  below h =
      let read : Cell → Value = λ d. tame (entries d).value in
      let same : content_value shape (value_of entries) content ≡ content_value shape read content =
      value_on shape (value_of entries) read content (λ d refers inside. tame_is (entries d).value (look d refers inside (shown d refers inside))) in
      subst (λ (v : Value). IsOrdinary v) (sym same) (fine_content shape read (λ c. tame_fine (entries c).value) text content reads.reads)
    where
      look : (d : Cell) → Refers content d → IsInside shape d → CanShow shape (entries d) → IsOrdinary (entries d).value
      look d refers inside (ordinary l o) = o
      look d refers inside (round at is) = absurd (let b = bound shape (height_of entries) content d refers inside in omega (arith, at, b, h))

  pub local_shown : CanShow shape (local shape content entries)
  local_shown = go (cases_lt (content_height shape (height_of entries) content) (count_of shape))
    where
      go : (content_height shape (height_of entries) content < count_of shape) ⊎ (count_of shape ≤ content_height shape (height_of entries) content) → CanShow shape (local shape content entries)
      go (inl l) =
          let n : ℕ = count_of shape in
          let h : ℕ = content_height shape (height_of entries) content in
          let at : min n h ≡ h = omega (arith, l) in
          let not_all : (h == n) ≡ false = ne_eqb h n (λ e. omega (arith, e, l)) in
          subst (λ (x : ℕ). CanShow shape (entry_at shape content entries x)) (sym at)
          (ordinary l (subst (λ (b : Bool). IsOrdinary (if b then Circular else content_value shape (value_of entries) content)) (sym not_all) (below l)))
      go (inr g) =
          let n : ℕ = count_of shape in
          let h : ℕ = content_height shape (height_of entries) content in
          let at : min n h ≡ n = omega (arith, g) in
          subst (λ (x : ℕ). CanShow shape (entry_at shape content entries x)) (sym at)
          (round refl (ap (λ (b : Bool). if b then Circular else content_value shape (value_of entries) content) (equal n)))
