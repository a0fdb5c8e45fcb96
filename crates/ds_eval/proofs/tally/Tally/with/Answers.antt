use Rattle.std.proofs.Common.{rules, w64, to_z, of_z, ◌≡◌, arith}
use Rattle.std.proofs.lemmas.Int.{ints, clamps, to_z-of_z}
use Rattle.ds_eval.proofs.Tallies.{NoGreater, NoLess, IsMore, blank_more, number_more, error_more, is_error}
use Rattle.ds_eval.proofs.tally.Tally.with.Goals as goal

pub returns-in-Blank-clause-tally : goal.returns-in-Blank-clause-tally
returns-in-Blank-clause-tally c = rw c.in-Blank.is (λ vs h. blank_more c.args.wants vs _ h)

pub returns-in-Number-clause-tally : goal.returns-in-Number-clause-tally
returns-in-Number-clause-tally c =
    let e = c.with.ensures in
    let z = c.in-Number.number in
    let q : to_z w64 (of_z w64 z) ≡ z = to_z-of_z w64 _ (search rules) in
    let f : NoGreater (to_z w64 (of_z w64 z)) = omega (arith, ints, clamps) in
    let g : NoLess (to_z w64 (of_z w64 z)) = omega (arith, ints, clamps) in
    let m : IsMore c.args.wants z c.args.self.totals c.with.result = record { y = to_z w64 (of_z w64 z); same = q; no_greater = f; no_less = g; count = e.count; zeros = e.zeros; sum = e.sum; least = e.least; greatest = e.greatest } in
    rw c.in-Number.is (λ vs h. number_more c.args.wants vs z c.args.self c.with.result m h)

pub returns-in-DivZero-clause-tally : goal.returns-in-DivZero-clause-tally
returns-in-DivZero-clause-tally c = λ vs h. error_more c.args.wants vs c.args.value c.args.self _ (is_error c.args.value c.in-DivZero.is) (search rules) h
