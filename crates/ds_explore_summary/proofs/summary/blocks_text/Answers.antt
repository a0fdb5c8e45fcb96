use Rattle.std.proofs.Common.{List, ℕ, ◌∙◌, ◌++◌, ap}
use Rattle.ds_explore_summary.specs.Summaries.{first_text}
use Rattle.ds_explore_summary.proofs.Endings.{blocks_more}
use Rattle.ds_explore_summary.proofs.summary.blocks_text.Goals as goal

pub loop-at-preserved : goal.loop-at-preserved
loop-at-preserved c =
    blocks_more (first_text c.args.outcomes.now) c.loop-at.at c.loop-at.text.items c.in_ok-block.block.items c.extend_from_slice.new.self.items c.loop-at.invariant c.in_ok-block.ensures
    (c.in_ok-extend_from_slice.ensures.items ∙ ap (λ (xs : List ℕ). c.loop-at.text.items ++ xs) c.deref.ensures.value)
