use Rattle.std.proofs.Common.{rules, ◌≡◌, ◌<◌, ◌≤◌, ◌++◌, ◌∷◌, [], ◌∙◌, List, length, ap, append-nil, append_assoc, arith, refl, subst, sym}
use Rattle.std.specs.Prelude.{All}
use Rattle.std.specs.Vec.Iter.{into_iter_items}
use Rattle.std.proofs.lemmas.List.Elements.{All-push}
use Rattle.ds_net_desks.specs.SeatsOfStores.{seats_below, seats_in}
use Rattle.ds_net_desks.specs.declared.numbered_seat.NumberedSeat.{NumberedSeat}
use Rattle.ds_net_desks.proofs.Seating.{one_behind, one_below}
use Rattle.ds_net_desks.proofs.numbered_seat.numbered_seats.Goals as goal

nothing_left : {X : Type 0} (l : List X) → length l ≡ 0 → l ≡ []
nothing_left [] h = refl
nothing_left (x ∷ xs) h = absurd (omega arith)

pub loop-seat-preserved-then-process-joins : goal.loop-seat-preserved-then-process-joins
loop-seat-preserved-then-process-joins c =
    let at = c.loop-seat in
    let x = c.in-Some.seat in
    let steps : into_iter_items at.seat-iterator ≡ x ∷ into_iter_items c.next.new.self = c.in-Some.ensures.steps.0 in
    let behind : c.args.joins ≤ x.pass.process = search rules in
    record {
      numbered = at.invariant.numbered;
      left = append_assoc at.yielded (x ∷ []) _ ∙ rw (← steps) at.invariant.left;
      count = let was = at.invariant.count in
          let gone = c.in-Some.ensures.steps.1 in
          let short = ap length steps in
          omega arith;
      joined = one_behind c.args.joins at.all.items at.yielded x behind at.invariant.joined;
    }

pub loop-seat-preserved : goal.loop-seat-preserved
loop-seat-preserved c =
    let at = c.loop-seat in
    let x = c.in-Some.seat in
    let steps : into_iter_items at.seat-iterator ≡ x ∷ into_iter_items c.next.new.self = c.in-Some.ensures.steps.0 in
    let below : x.pass.process < c.args.joins = search rules in
    let pushed : c.push.new.self.items ≡ at.all.items ++ c.new.result ∷ [] = search rules in
    let fits : (c.new.result.numberings.items ≡ c.args.numberings.now) × (c.new.result.epoch ≡ c.args.epoch) × (c.new.result.seat.pass.process < c.args.joins) = search rules in
    record {
      numbered = subst (λ l. All (λ (p : NumberedSeat). (p.numberings.items ≡ c.args.numberings.now) × (p.epoch ≡ c.args.epoch) × (p.seat.pass.process < c.args.joins)) l) (sym pushed)
          (All-push (λ (p : NumberedSeat). (p.numberings.items ≡ c.args.numberings.now) × (p.epoch ≡ c.args.epoch) × (p.seat.pass.process < c.args.joins)) at.all.items c.new.result at.invariant.numbered fits);
      left = append_assoc at.yielded (x ∷ []) _ ∙ rw (← steps) at.invariant.left;
      count = let was = at.invariant.count in
          let gone = c.in-Some.ensures.steps.1 in
          let short = ap length steps in
          omega arith;
      joined = ap seats_in pushed ∙ one_below c.args.joins at.all.items at.yielded x c.new.result c.new.ensures.0 below at.invariant.joined;
    }

pub returns-clause-joined : goal.returns-clause-joined
returns-clause-joined c =
    let at = c.loop-seat in
    let none = c.in-None.ensures.steps in
    let empty : into_iter_items at.seat-iterator ≡ [] = nothing_left _ (sym at.invariant.count ∙ none.0) in
    let all = sym (append-nil at.yielded) ∙ rw empty at at.invariant.left ∙ c.into_iter-seat-iterator.ensures.into_iter_gives.0 in
    subst (λ l. seats_in at.all.items ≡ seats_below c.args.joins l) all at.invariant.joined
