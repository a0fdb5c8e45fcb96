use Rattle.std.proofs.Common.{◌≡◌, ◌∙◌, ap, map, subst, sym}
use Rattle.std.specs.Prelude.{Vec}
use Rattle.std.specs.Arc.{arc_value}
use Rattle.std.specs.Global.{Global}
use Rattle.std.specs.String.{string_bytes}
use Rattle.ds_shared_seats.specs.declared.seat.Seat.{Seat}
use Rattle.ds_shared_seats.specs.declared.sheet.OpenSheet.{OpenSheet}
use Rattle.ds_store.specs.Stores.{GoesOn, LeadsTo}
use Rattle.ds_store_table.specs.Tables.{Holds}
use Rattle.ds_net_floor.specs.Listings.{IsListOf}
use Rattle.ds_net_desks.specs.SeatsOfStores.{AreNumberedBy, seats_below}
use Rattle.ds_net.proofs.Over.{gone_over, made}
use Rattle.ds_net.proofs.going_over.next_sheet.Goals as goal

pub returns-clause-seats : goal.returns-clause-seats
returns-clause-seats g c =
    let store = c.go_over.new.store in
    let next = c.in_ok-next.next in
    let lines = map string_bytes next.lines.items in
    let leads : LeadsTo store.layout store.counts.counts.items (arc_value c.into_parts-sheet.result.0.sheet) next.sheet.seats.items lines =
    subst (λ (o : OpenSheet). LeadsTo store.layout store.counts.counts.items (arc_value o.sheet) next.sheet.seats.items lines) (sym c.into_parts-sheet.ensures.0) c.in_ok-next.ensures.leads in
    record {
      made = next.sheet.seats.items;
      leads = leads;
      summed = c.in_ok-next.ensures.summed;
      joined = c.in_ok-seats.ensures.joined ∙ ap (λ (v : Vec Seat Global). seats_below store.joins v.items) c.into_parts-sheet.ensures.1;
      numbered = subst (λ ls. AreNumberedBy store.layout store.joins (map string_bytes ls) leads.edits c.args.epoch c.in_ok-seats.seats.items) c.deref.ensures.value
          (c.in_ok-seats.ensures.numbered leads.edits (subst (λ ls. GoesOn store.layout store.counts.counts.items (map string_bytes ls) leads.edits) (sym c.deref.ensures.value) leads.goes_on));
      list_is = subst (λ ls. IsListOf store.layout store.joins (map string_bytes ls) c.in_ok-list.list) c.deref-2.ensures.value c.in_ok-list.ensures;
    }

pub returns-clause-goes_over : goal.returns-clause-goes_over
returns-clause-goes_over g c = λ clean held holds.
    gone_over (map string_bytes c.in_ok-held.held.lines.items) held (map string_bytes c.in_ok-next.next.lines.items) _ _ _
    (made (λ it. (map string_bytes it.lines.items ≡ held) × Holds held _) c.of.result c.in_ok-held.held c.in_ok-held.was (c.of.ensures.all (c.go_over.ensures.clean clean) held holds)) c.in_ok-next.ensures.over
    (c.in_ok-next.ensures.holds clean)
