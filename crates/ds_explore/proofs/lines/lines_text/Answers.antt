use Rattle.std.proofs.Common.{ℕ, List, ◌∙◌, ◌++◌, ap}
use Rattle.ds_explore.proofs.Telling.{lines_none, lines_more}
use Rattle.ds_explore.proofs.lines.lines_text.Goals as goal

pub loop-line-init : goal.loop-line-init
loop-line-init c = lines_none c.args.shape c.new-text.result.items c.new-text.ensures.items

pub loop-line-preserved : goal.loop-line-preserved
loop-line-preserved c =
    lines_more c.args.shape c.loop-line.text.items c.in_ok-bytes.bytes.items c.extend_from_slice.new.self.items _ c.loop-line.invariant c.in_ok-bytes.ensures
    (c.in_ok-extend_from_slice.ensures.items ∙ ap (λ (xs : List ℕ). c.loop-line.text.items ++ xs) c.deref.ensures.value)
