use Rattle.std.proofs.Common.{◌≡◌, ◌<◌, ◌≤◌, ℕ, length, vec_capacity}
use Rattle.std.specs.Prelude.{slice_index_or}
use Rattle.ds_store_journal.specs.declared.standing.Standing.{Standing}
use Rattle.ds_store_journal.specs.Standings.{none_made}
use Rattle.ds_store_journal.proofs.standings.none_made.Given as goal

abbrev pub invariant-loop-process : goal.invariant-loop-process
invariant-loop-process l = (length l.standings.items ≡ l._process) × (l.layout.processes ≤ vec_capacity l.standings) × ((k : ℕ) (d : Standing) → k < l._process → slice_index_or l.standings.items k d ≡ none_made)
