use Rattle.std.proofs.Common.{ℕ, ◌≡◌, ◌<◌, ◌+◌, get_or, length}
use Rattle.ds_explore.specs.declared.exploration.Outcome.{Outcome}
use Rattle.ds_explore.proofs.exploration.add_outcomes.Given as goal

abbrev pub invariant-loop-number : goal.invariant-loop-number
invariant-loop-number l = record {
  long : length l.counts.items ≡ length l.fn.counts.items + l.number;
  orders : (n : ℕ) (d : Outcome) → n < l.number → get_or l.counts.items (length l.fn.counts.items + n) 0 ≡ (get_or l.outcomes n d).orders;
}
