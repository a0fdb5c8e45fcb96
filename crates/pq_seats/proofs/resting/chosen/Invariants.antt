use Rattle.std.proofs.Common.{◌≡◌, ◌<◌, ℕ, length, get_or}
use Rattle.std.specs.Prelude.{false}
use Rattle.pq_seats.specs.Choices.{is_chosen}
use Rattle.pq_seats.proofs.resting.chosen.Given as goal

abbrev pub invariant-loop-number : goal.invariant-loop-number
invariant-loop-number l = (length l.words.items ≡ l.number) × ((n : ℕ) → n < l.number → get_or l.words.items n false ≡ is_chosen l.choice n)
