use Rattle.std.proofs.Common.{◌≡◌, length, map, take}
use Rattle.ds_server.specs.Replies.{entry_view}
use Rattle.ds_store_edits.specs.JournalEdits as edits
use Rattle.ds_net_floor.specs.Listings.{listed_from}
use Rattle.ds_net_floor.proofs.listing.listed_all.Given as goal

abbrev pub invariant-loop-entry : goal.invariant-loop-entry
invariant-loop-entry l = record {
  count : length l.list.items ≡ l.entry-index;
  listed : map entry_view l.list.items ≡ listed_from l.nobody 0 (map edits.entry_view (take l.entry-index l.entries));
}
