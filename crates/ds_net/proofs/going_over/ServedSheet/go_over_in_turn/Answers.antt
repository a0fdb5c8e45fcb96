use Rattle.std.proofs.Common.{◌++◌, map, subst, sym}
use Rattle.std.specs.Arc.{arc_value}
use Rattle.std.specs.String.{string_bytes}
use Rattle.ds_net_desks.specs.SeatsOfStores.{AreSeatsOf}
use Rattle.ds_net.proofs.going_over.ServedSheet.go_over_in_turn.Goals as goal

pub returns : goal.returns
returns g c =
    let next = c.in_ok-next.next in
    let lines = map string_bytes next.lines.items in
    let store = c.next_sheet.new.store in (
      lines,
      (
        next.seats.items,
        subst (λ l. AreSeatsOf store.layout store.joins store.counts.counts.items store.sums lines c.saturating_add-epoch.result (arc_value next.sheet.sheet) next.seats.items l) (sym c.go_over-2.ensures.list) c.in_ok-next.ensures.seats,
      ),
      λ clean held holds.
          let kept = c.in_ok-keep_rest.ensures.kept in
          let over = c.in_ok-next.ensures.goes_over clean (held ++ kept.0) (kept.1 (c.next_sheet.ensures.clean clean) held holds) in
          (kept.0, over.0, over.1, over.2),
    )
