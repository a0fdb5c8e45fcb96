use Rattle.std.proofs.Common.{◌<◌, ◌∙◌, ℕ, ap, get_or, subst, sym}
use Rattle.std.specs.Mem.Slots.{slots_items}
use Rattle.ds_layout.specs.Places.{words_of}
use Rattle.ds_layout.specs.declared.layout.Layout.{Layout}
use Rattle.pm_board.specs.Table.{cached_at}
use Rattle.ds_structure.specs.Sheet.{apart_of}
use Rattle.ds_shared.proofs.sheet.ClosedSheet.cached.Goals as goal

pub cached-requires : goal.cached-requires
cached-requires c = subst (λ (l : Layout). c.number.result < words_of l) (sym c.args.self.now.same) c.number.ensures.below

pub returns : goal.returns
returns c =
    let ws = slots_items c.args.self.now.words.table.words in
    c.cached.ensures
    ∙ ap (λ (l : Layout). get_or ws (cached_at (apart_of l) c.number.result) 0) c.args.self.now.same
    ∙ ap (λ (n : ℕ). get_or ws (cached_at (apart_of c.args.self.now.layout) n) 0) c.number.ensures.value
