-- A mark that reads as clean is clean, and no other.
use Rattle.std.proofs.Common.{ℕ, ◌≡◌, ◌<◌, ◌+◌, ◌-◌, ◌/◌, ◌%◌, ◌==◌, refl, ap, sym, ◌∙◌, arith, Some, None, zero, suc, true, false}
use Rattle.std.specs.Prelude.{Bool, Option}
use Rattle.std.proofs.lemmas.Bool.{eqb-false, false≢true, ne_eqb, lt-ltb}
use Rattle.ds_layout.specs.Mark.{state_by, holder_of, present, IsClean}
use Rattle.ds_state.specs.World.{PlainWorld}
use Rattle.ds_state.specs.Owing.{IsMark}
use Rattle.ds_state.specs.KnownShow.{is_clean, reads_clean}

none_clean : (dirty : Bool) → is_clean (state_by None dirty) ≡ true → dirty ≡ false
none_clean false is = refl
none_clean true is = absurd (false≢true is)

some_code : (code : ℕ) → holder_of (suc code) ≡ Some code
some_code code = rw (ne_eqb (suc code) 0 (λ same. omega arith)) (ap Some (let same : suc code - 1 ≡ code = omega arith in same))

held_not : (processes q : ℕ) (dirty : Bool) → q < processes → is_clean (state_by (present processes (Some q)) dirty) ≡ false
held_not processes q dirty l = rw (lt-ltb q processes l) refl

read_code : (processes code : ℕ) (dirty : Bool) → ((q : ℕ) → code ≡ q + 1 → q < processes) → is_clean (state_by (present processes (holder_of code)) dirty) ≡ true → (code ≡ 0) × (dirty ≡ false)
read_code processes zero dirty h is = (refl, none_clean dirty is)
read_code processes (suc code) dirty h is = absurd (false≢true (
    sym (ap (λ (o : Option ℕ). is_clean (state_by (present processes o) dirty)) (some_code code) ∙ held_not processes code dirty (h code (omega arith))) ∙ is))

-- a mark of the sheet that is read as clean is clean
pub clean_read : (w : PlainWorld) (c word : ℕ) → IsMark w.layout c word → reads_clean w.layout.processes word ≡ true → IsClean word
clean_read w c word mark is =
    let r = read_code w.layout.processes (word / 2 % 16) (word % 2 == 1) (λ q by. (mark q by).0) is in
    let a = r.0 in
    let b = eqb-false (word % 2) 1 r.1 in
    omega arith

-- a clean mark is read as clean
pub clean_reads : (processes word : ℕ) → IsClean word → reads_clean processes word ≡ true
clean_reads processes word clean =
    let a : word / 2 % 16 ≡ 0 = omega arith in
    ap (λ (code : ℕ). is_clean (state_by (present processes (holder_of code)) (word % 2 == 1))) a
    ∙ ap (λ (b : Bool). is_clean (state_by None b)) (ne_eqb (word % 2) 1 (λ same. omega arith))

-- a mark that is not read as clean is not clean
pub dirty_read : (processes word : ℕ) → reads_clean processes word ≡ false → IsClean word → ⊥
dirty_read processes word is clean = false≢true (sym is ∙ clean_reads processes word clean)
