use Rattle.std.proofs.Common.{ℕ, ◌≡◌, subst}
use Rattle.ds_layout.specs.SheetMemory.{memory}
use Rattle.ds_state.specs.Shown.{text_at}
use Rattle.ds_state.specs.Value.{WorldValue}
use Rattle.ds_explore.proofs.Judged.{texts_more}
use Rattle.ds_explore.proofs.judge.texts.Goals as goal

pub loop-cell-preserved : goal.loop-cell-preserved
loop-cell-preserved c =
    texts_more (text_at c.args.world.now.sheet.layout (memory c.args.world.now.sheet)) c.loop-cell.cell c.loop-cell.texts.items c.push.new.self.items c.in_ok-text.field-0 c.loop-cell.invariant
    (subst (λ (w : WorldValue). c.in_ok-text.field-0.items ≡ text_at w.sheet.layout (memory w.sheet) c.loop-cell.cell) c.world.view_is c.in_ok-text.ensures) c.in_ok-push.ensures.items
