use Rattle.std.proofs.Common.{◌≡◌, List, [], subst}
use Rattle.std.specs.Prelude.{MatchOption}
use Rattle.ds_state.specs.World.{PlainEdit}
use Rattle.ds_server.specs.WorldDesks.{IsTextBefore}
use Rattle.ds_server.proofs.Edits.{same_edits}
use Rattle.ds_server.proofs.world.undo_text.Goals as goal

pub returns : goal.returns
returns c =
    subst (λ (es : List PlainEdit). MatchOption c.text_before.result (es ≡ []) (IsTextBefore es))
    (same_edits c.args.world.now c.args.cell c.shape-shape.result c.index-index.result c.counted.result.now c.shape-shape.ensures c.index-index.ensures.value c.counted.ensures) c.text_before.ensures
