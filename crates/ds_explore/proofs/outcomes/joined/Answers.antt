use Rattle.std.proofs.Common.{List, ℕ, ◌∙◌, ◌++◌, ap}
use Rattle.std.proofs.lemmas.List.{take_all}
use Rattle.std.specs.Global.{Vec}
use Rattle.ds_explore.specs.Explored.{joined}
use Rattle.ds_explore.specs.Judging.{texts_of}
use Rattle.ds_explore.proofs.Telling.{joined_at}
use Rattle.ds_explore.proofs.outcomes.joined.Goals as goal

pub loop-more-preserved : goal.loop-more-preserved
loop-more-preserved c =
    joined_at c.args.texts.now c.loop-more.more-index c.more-item.result c.loop-more.text.items c.extend_from_slice.new.self.items c.loop-more-test.true c.more-item.is c.loop-more.invariant
    (c.in_ok-extend_from_slice.ensures.items ∙ ap (λ (xs : List ℕ). c.loop-more.text.items ++ xs) c.deref.ensures.value)

pub returns : goal.returns
returns c = c.loop-more.invariant ∙ ap (λ (ts : List (Vec ℕ)). joined (texts_of ts)) (take_all c.loop-more.more-index c.args.texts.now c.loop-more-test.false)
