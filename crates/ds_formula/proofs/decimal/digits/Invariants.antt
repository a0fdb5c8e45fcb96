use Rattle.std.proofs.Common.{◌≡◌, ℕ, ◌-◌, ◌^◌, ◌≤◌, min, length}
use Rattle.ds_formula.specs.Bytes.{number_from}
use Rattle.ds_formula.proofs.decimal.digits.Given as goal

-- some number, capped, was read so far
abbrev pub invariant-loop-rest : goal.invariant-loop-rest
invariant-loop-rest l = (m : ℕ) × (l.value ≡ min m (2 ^ 64 - 1)) × (number_from m l.rest ≡ number_from 0 l.text) × (length l.rest ≤ length l.text)

abbrev pub decreases-loop-rest : goal.decreases-loop-rest
decreases-loop-rest l = length l.rest
