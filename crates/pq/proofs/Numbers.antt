-- The words of different kinds are different words, and an operation is that of one process.
use Rattle.std.proofs.Common.{ℕ, ◌≡◌, ◌≢◌, ◌+◌, ◌*◌, ◌/◌, ◌<◌, arith}
use Rattle.pq.specs.Places.{Belongs, nodes}

pub kinds_apart : (a b k j : ℕ) → k < 8 → j < 8 → k ≢ j → 8 * a + k ≢ 8 * b + j
kinds_apart a b k j lk lj ne e = omega (arith, lk, lj, ne, e)

pub same_node : (a b k : ℕ) → 8 * a + k ≡ 8 * b + k → a ≡ b
same_node a b k e = omega (arith, e)

pub half_odd : (i : ℕ) → (2 * i + 1) / 2 ≡ i
half_odd i = omega arith

pub half_even : (i : ℕ) → (2 * i) / 2 ≡ i
half_even i = omega arith

pub one_process : (p q i : ℕ) → Belongs p i → Belongs q i → p ≡ q
one_process p q i a b = (let x = a.0 in let y = a.1 in let z = b.0 in let w = b.1 in omega (arith, x, y, z, w))

pub belongs_above : (p i : ℕ) → Belongs p i → 0 < i
belongs_above p i b = (let x = b.0 in omega (arith, x))

pub belongs_below : (n p i : ℕ) → Belongs p i → p < n → i < nodes n
belongs_below n p i b low = (let x = b.1 in omega (arith, x, low))
