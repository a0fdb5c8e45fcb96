use Rattle.std.proofs.Common.{◌≡◌, ◌<◌, ◌≤◌, ℕ, List, length, map, vec_capacity}
use Rattle.std.specs.Prelude.{slice_index_or}
use Rattle.std.specs.String.{string_bytes}
use Rattle.ds_store_journal.specs.Journals.{KeptEdit, edits_by}
use Rattle.ds_store_journal.specs.Standings.{AreStandings, standing_of}
use Rattle.ds_store.specs.Stores.{GoesOn}
use Rattle.ds_net_desks.specs.Numberings.{Numbers}
use Rattle.ds_net_desks.specs.declared.numbering.Numbering.{Numbering}
use Rattle.ds_net_desks.proofs.numbering.numberings.Given as goal

abbrev pub invariant-loop-process : goal.invariant-loop-process
invariant-loop-process g l =
    (length l.numberings.items ≡ l.process)
    × (l.layout.processes ≤ vec_capacity l.numberings)
    × (l.layout ≡ l.store.layout)
    × (length l.standings.items ≡ l.store.layout.processes)
    × AreStandings l.store.layout l.standings.items (map string_bytes l.lines)
    × ((k : ℕ) (d : Numbering) (edits : List KeptEdit) → k < l.process → GoesOn l.store.layout l.store.counts.counts.items (map string_bytes l.lines) edits
    → Numbers l.store.layout.shape (standing_of l.store.layout k (map string_bytes l.lines)) (edits_by k edits) (slice_index_or l.numberings.items k d))
