use Rattle.std.proofs.Common.{ℕ, ◌≡◌, ◌<◌}
use Rattle.ds_layout.proofs.Places.{AreClasses, one_more_class}
use Rattle.ds_layout.proofs.layout.Layout.classes.Goals as goal

pub loop-number-preserved : goal.loop-number-preserved
loop-number-preserved c =
    let next = one_more_class c.args.self.now c.loop-number.classes.items c.push.new.self.items c.loop-number.number c.class.result c.place.result
    (record { count = c.loop-number.invariant.count; each = c.loop-number.invariant.each })
    c.in_ok-push.ensures.items c.class.ensures c.place.ensures.value in
    record { count = next.count; each = next.each }
