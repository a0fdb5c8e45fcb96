use Rattle.std.proofs.Common.{List, Option, subst, sym}
use Rattle.std.specs.Prelude.{IfSome}
use Rattle.std.proofs.lemmas.List.Elements.{All-push}
use Rattle.ds_explore_state.specs.declared.position.Position.{Position}
use Rattle.ds_explore.specs.declared.met.Stop.{Stop}
use Rattle.ds_explore.specs.Met.{AreLedTo}
use Rattle.ds_explore.specs.Starts.{IsLedTo}
use Rattle.ds_explore.proofs.met.Meeting.go_on.Goals as goal

pub returns-in_default-next : goal.returns-in_default-next
returns-in_default-next c = λ led way met.
    let start = c.args.self.now.start.now in (
      subst (λ (l : List Stop). AreLedTo start l) (sym c.in_ok-push.ensures.items)
          (All-push (λ (stop : Stop). IsLedTo start stop.position) c.args.way.now.items (record { position = c.args.stop.position; state = c.args.stop.state; done = c.saturating_add.result }) way led),
      c.in_ok-next.ensures.marks led met,
    )

pub returns : goal.returns
returns c = λ led way met.
    let start = c.args.self.now.start.now in
    let P : Stop → Type 0 = λ (stop : Stop). IsLedTo start stop.position in (
      subst (λ (l : List Stop). AreLedTo start l) (sym c.in_ok-push-2.ensures.items)
          (All-push P c.push.new.self.items (record { position = c.in-Some-next.next; state = c.in-Some.lead.to; done = 0 })
          (subst (λ (l : List Stop). AreLedTo start l) (sym c.in_ok-push.ensures.items)
          (All-push P c.args.way.now.items (record { position = c.args.stop.position; state = c.args.stop.state; done = c.saturating_add.result }) way led))
          (subst (λ (o : Option Position). IfSome o (IsLedTo start)) c.in-Some-next.is (c.in_ok-next.ensures.led led))),
      c.in_ok-next.ensures.marks led met,
    )
