use Rattle.std.proofs.Common.{ℕ, ◌≡◌, ◌%◌, ◌^◌, ◌*◌, sym, subst, arith}
use Rattle.std.specs.Prelude.{bit_or}
use Rattle.std.proofs.lemmas.Nat.{one_shl}
use Rattle.ds_layout.specs.Bits.{HasBit, bit_of}
use Rattle.ds_layout.proofs.OrBits.{HasBit-or_bit, HasBit-or, HasBit-or_other}
use Rattle.ds_layout.proofs.bits.bit.Goals as goal

shifted : (number : ℕ) → 1 * 2 ^ (number % 64) % 18446744073709551616 ≡ bit_of number
shifted number = one_shl (number % 64) 64 (omega arith)

pub returns-clause-sets : goal.returns-clause-sets
returns-clause-sets c = λ word. subst (λ (b : ℕ). HasBit (bit_or word b) c.args.number) (sym (shifted c.args.number)) (HasBit-or_bit word c.args.number)

pub returns-clause-keeps : goal.returns-clause-keeps
returns-clause-keeps c = λ word other h. HasBit-or word _ other h

pub returns-clause-alone : goal.returns-clause-alone
returns-clause-alone c = λ word other part ne h.
    HasBit-or_other word c.args.number other part ne (subst (λ (b : ℕ). HasBit (bit_or word b) other) (shifted c.args.number) h)
