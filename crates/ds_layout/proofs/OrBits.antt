-- A bit added to a word.
use Rattle.std.proofs.Common.{ℕ, ◌≡◌, ◌≢◌, ◌/◌, ◌%◌, ◌^◌, arith}
use Rattle.std.specs.Prelude.{bit_or}
use Rattle.std.proofs.lemmas.Nat.Bits.{bit_at_or, bit_at-pow_same, bit_at-pow_other, bit_at-lt}
use Rattle.ds_layout.specs.Bits.{HasBit, IsSubset, bit_of}

-- a bit that is added to a word is one of its bits
pub HasBit-or_bit : (word number : ℕ) → HasBit (bit_or word (bit_of number)) number
HasBit-or_bit word number =
    let k : ℕ = number % 64 in
    let e = bit_at_or word (2 ^ k) k in
    let s = bit_at-pow_same k in
    let b = bit_at-lt word k in
    omega arith

-- a bit of a word stays where others are added
pub HasBit-or : (word bits number : ℕ) → HasBit word number → HasBit (bit_or word bits) number
HasBit-or word bits number h =
    let k : ℕ = number % 64 in
    let e = bit_at_or word bits k in
    let b = bit_at-lt bits k in
    omega arith

-- a bit that is not the added one, of a number of the same part, was one of the word's before
pub HasBit-or_other : (word number other : ℕ) → other / 64 ≡ number / 64 → other ≢ number → HasBit (bit_or word (bit_of number)) other → HasBit word other
HasBit-or_other word number other part ne h =
    let k : ℕ = number % 64 in
    let j : ℕ = other % 64 in
    let apart : j ≢ k = λ same. ne (omega arith) in
    let e = bit_at_or word (2 ^ k) j in
    let s = bit_at-pow_other k j apart in
    omega arith

-- bits are kept and added, and no others
pub IsSubset-or_left : (a b : ℕ) → IsSubset a (bit_or a b)
IsSubset-or_left a b = λ i. let e = bit_at_or a b i in omega arith

-- the bits that are added to a word are bits of what comes of it
pub IsSubset-or_right : (a b : ℕ) → IsSubset b (bit_or a b)
IsSubset-or_right a b = λ i. let e = bit_at_or a b i in omega arith

-- where a word has all bits of each of two, it has those of both together
pub IsSubset-or_both : (a b c : ℕ) → IsSubset a c → IsSubset b c → IsSubset (bit_or a b) c
IsSubset-or_both a b c h k = λ i. let e = bit_at_or a b i in let p = h i in let q = k i in omega arith

-- a word has all its own bits
pub IsSubset-same : (a : ℕ) → IsSubset a a
IsSubset-same a = λ i. omega arith

-- what has all bits of a word that has all of another's has all of that one's, too
pub IsSubset-both : (a b c : ℕ) → IsSubset a b → IsSubset b c → IsSubset a c
IsSubset-both a b c h k = λ i. let p = h i in let q = k i in omega arith

-- a bit of a word is one of each word that has all its bits
pub HasBit-subset : (a b number : ℕ) → IsSubset a b → HasBit a number → HasBit b number
HasBit-subset a b number h k =
    let p = h (number % 64) in
    let q = bit_at-lt b (number % 64) in
    omega arith
