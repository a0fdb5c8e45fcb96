use Rattle.std.proofs.Common.{ℕ, ◌≡◌, ◌+◌, ◌∙◌, ap, sym, take, arith}
use Rattle.ds_state.specs.Underway.{shows_under_way}
use Rattle.ds_state.proofs.Underway.{one_further, at_most_one, at_most_so_many}
use Rattle.ds_show.proofs.begin.under_way.Goals as goal

pub overflow_add-count : goal.overflow_add-count
overflow_add-count c =
    let one = c.reports_in-count.ensures in
    let most = at_most_one c.situation-item.result in
    let all = at_most_so_many c.args.situations.now c.loop-situation.situation-index in
    let is : c.loop-situation.count ≡ shows_under_way (take c.loop-situation.situation-index c.args.situations.now) = c.loop-situation.invariant in
    let more = c.loop-situation-test.true in
    omega arith

pub loop-situation-preserved : goal.loop-situation-preserved
loop-situation-preserved c =
    ap (λ (n : ℕ). n + c.reports_in-count.result) c.loop-situation.invariant ∙ ap (λ (n : ℕ). shows_under_way (take c.loop-situation.situation-index c.args.situations.now) + n) c.reports_in-count.ensures
    ∙ sym (one_further c.args.situations.now c.loop-situation.situation-index c.situation-item.result c.loop-situation-test.true c.situation-item.is)
