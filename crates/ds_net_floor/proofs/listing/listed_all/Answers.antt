use Rattle.std.proofs.Common.{◌≡◌, ◌+◌, ap, length-append, map, subst, sym, take, arith, length, [], ◌∷◌}
use Rattle.ds_server.specs.Replies.{entry_view}
use Rattle.ds_store_edits.specs.JournalEdits as edits
use Rattle.ds_net_floor.specs.Listings.{listed_from}
use Rattle.ds_net_floor.proofs.Listed.{none_listed, one_listed}
use Rattle.ds_net_floor.proofs.listing.listed_all.Goals as goal

pub loop-entry-init : goal.loop-entry-init
loop-entry-init c = record { count = ap length c.in_ok-list.ensures.items; listed = none_listed c.args.nobody c.in_ok-list.list.items c.in_ok-list.ensures.items }

pub loop-entry-preserved : goal.loop-entry-preserved
loop-entry-preserved c =
    let list = c.loop-entry.list.items in
    let edit = c.in_ok-edit.edit in
    let grown = length-append list (edit ∷ []) in
    let longer = ap length c.in_ok-push.ensures.items in
    record {
      count = omega (arith, longer, grown, c.loop-entry.invariant.count);
      listed = subst (λ l. map entry_view l ≡ listed_from c.args.nobody 0 (map edits.entry_view (take (c.loop-entry.entry-index + 1) c.args.entries.now))) (sym c.in_ok-push.ensures.items)
          (one_listed c.args.nobody c.args.entries.now c.loop-entry.entry-index _ list edit _ c.loop-entry-test.true c.loop-entry.invariant.count (ap length c.as_slice-place.ensures.value) c.loop-entry.invariant.listed c.in_ok-edit.ensures);
    }
