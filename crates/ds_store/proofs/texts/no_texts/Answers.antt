use Rattle.std.proofs.Common.{rules, ◌<◌}
use Rattle.ds_store.specs.Texts.{text_after}
use Rattle.ds_store.proofs.texts.no_texts.Goals as goal

pub returns-clause-texts : goal.returns-clause-texts
unfolding text_after
returns-clause-texts c k d low =
    let under : k < c.loop-cell._cell = search rules in
    c.loop-cell.invariant.2 k d under
