use Rattle.std.proofs.Common.{◌≡◌, length, map, take}
use Rattle.std.specs.String.{string_bytes}
use Rattle.ds_store_journal.specs.Standings.{AreStandings}
use Rattle.ds_store_journal.proofs.standings.standings_of.Given as goal

abbrev pub invariant-loop-line : goal.invariant-loop-line
invariant-loop-line l = (length l.standings.items ≡ l.layout.processes) × AreStandings l.layout l.standings.items (map string_bytes (take l.line-index l.lines))
