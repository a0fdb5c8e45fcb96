use Rattle.std.proofs.Common.{◌<◌, subst, sym}
use Rattle.ds_layout.specs.Places.{words_of}
use Rattle.ds_layout.specs.declared.layout.Layout.{Layout}
use Rattle.ds_structure_shared.proofs.board.KeptBoard.touch.Goals as goal

pub fetch-requires : goal.fetch-requires
fetch-requires c = subst (λ (l : Layout). c.number.result < words_of l) (sym c.args.self.now.same) c.number.ensures.below
