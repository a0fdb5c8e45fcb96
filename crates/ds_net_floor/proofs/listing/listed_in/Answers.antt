use Rattle.std.proofs.Common.{◌∙◌, List, ap, map}
use Rattle.ds_server.specs.Replies.{entry_view}
use Rattle.ds_store_edits.specs.JournalEdits as edits
use Rattle.ds_store_edits.specs.declared.edits.Entry.{Entry}
use Rattle.ds_net_floor.specs.Listings.{listed_from}
use Rattle.ds_net_floor.proofs.Listed.{listed_split}
use Rattle.ds_net_floor.proofs.listing.listed_in.Goals as goal

pub returns : goal.returns
returns c =
    listed_split c.args.layout.now c.args.nobody c.min.result c.args.lines.now c.split_at.result.0.now c.split_at.result.1.now (map entry_view c.in_ok-list.list.items) c.min.ensures c.split_at.ensures.front c.split_at.ensures.back
    (c.in_ok-list.ensures ∙ ap (listed_from c.args.nobody 0) (ap (λ (es : List Entry). map edits.entry_view es) c.deref.ensures.value ∙ c.in_ok-entries.ensures))
