use Rattle.std.proofs.Common.{arith, rules, ◌≡◌}
use Rattle.ds_explore_state.proofs.Drawing.{dirt_by}
use Rattle.ds_explore_state.proofs.touched.has_all_dirt.Goals as goal

pub returns : goal.returns
returns c = λ yes.
    let e : c.layout-layout.result ≡ c.args.world.now.sheet.layout = search rules in
    dirt_by c.args.world.now c.layout-layout.result c.args.places.now e (λ n low. c.loop-number.invariant n (let end = c.loop-number-test.false in let value = c.words-number-end.ensures.value in omega (arith, low, end, value)))
