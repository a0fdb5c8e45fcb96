use Rattle.std.proofs.Common.{◌≡◌, ◌≤◌, ℕ, length, vec_capacity}
use Rattle.std.specs.Prelude.{slice_index_or}
use Rattle.ds_store_journal.proofs.counts.EditCounts.new.Given as goal

abbrev pub invariant-loop-process : goal.invariant-loop-process
invariant-loop-process l = (length l.counts.items ≡ l._process) × (l.processes ≤ vec_capacity l.counts) × ((k : ℕ) → slice_index_or l.counts.items k 0 ≡ 0)
