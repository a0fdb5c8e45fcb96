use Rattle.std.proofs.Common.{rules, ◌<◌, get_or, sym, subst, ◌∙◌, length}
use Rattle.std.proofs.lemmas.List.{get_or_default}
use Rattle.pq_seats.specs.Homes.{HomeLooked}
use Rattle.pq_seats.proofs.Looking.{one_more, full_more, full_before, full_here}
use Rattle.pq_seats.proofs.housing.look.Goals as goal
use Rattle.pq_seats.proofs.housing.look.Goals.{then-full, else-full}

pub loop-number-preserved : goal.loop-number-preserved
loop-number-preserved c =
    let i = c.loop-number.invariant in
    let ys = c.loop-number.homes.items in
    let n = c.loop-number.number in
    let y = c.is_full-here.new.self in
    let below : n < length ys = search rules in
    let looked : HomeLooked (get_or ys n y) y = subst (λ h. HomeLooked h y) (c.index_mut.ensures.value ∙ get_or_default ys n _ y below) c.is_full-here.ensures.looked in (
      one_more _ ys n y below looked i.0,
      (
        (λ all. full_more ys n y below
            (i.1.0 (elim c.if-full.branch [ then-full w ↦ w.if-full.true | else-full w ↦ absurd (search rules) ]))
            (c.is_full-here.ensures.full.0 (elim c.if-full.branch [ then-full w ↦ sym w.full-is ∙ all | else-full w ↦ absurd (search rules) ]))),
        (λ each.
            let before = i.1.1 (full_before ys n y below each) in
            elim c.if-full.branch [
              | then-full w ↦ w.full-is ∙ c.is_full-here.ensures.full.1 (full_here ys n y below each)
              | else-full w ↦ absurd (search (rules, before))
            ]),
      ),
    )
