use Rattle.std.proofs.Common.{◌∙◌, ap}
use Rattle.ds_state.specs.Value.{WorldValue}
use Rattle.ds_trace.proofs.Sides.{reads_zero, not_there}
use Rattle.ds_trace.proofs.look.sides.Goals as goal

pub returns-else-contains : goal.returns-else-contains
returns-else-contains c =
    reads_zero c.args.world.now c.args.place
    (not_there c.args.world.now.sheet.layout c.layout.result c.args.place c.contains.result c.contains.ensures c.if-contains.false (c.layout.ensures ∙ ap (λ (v : WorldValue). v.sheet.layout) c.world.view_is))
