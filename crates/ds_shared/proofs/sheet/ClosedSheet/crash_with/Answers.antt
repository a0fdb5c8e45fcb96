use Rattle.std.proofs.Common.{◌≡◌, ◌<◌, length, subst, sym, false, slice_index_or}
use Rattle.std.specs.Mem.Slots.{slots_items}
use Rattle.ds_layout.specs.Places.{words_of}
use Rattle.ds_layout.specs.declared.layout.Layout.{Layout}
use Rattle.pm_board.specs.Rule.{HasSideLeft}
use Rattle.ds_structure.specs.Sheet.{apart_of}
use Rattle.ds_shared.proofs.sheet.ClosedSheet.crash_with.Goals as goal

pub crash_with-requires : goal.crash_with-requires
crash_with-requires c = subst (λ (l : Layout). length c.args.choice.now ≡ words_of l) (sym c.args.self.now.same) c.requires

pub returns-clause-words : goal.returns-clause-words
returns-clause-words c = λ n low.
    let old = c.args.self.now in
    subst (λ (l : Layout). HasSideLeft (apart_of l) (slice_index_or c.args.choice.now n false) (slots_items old.words.table.words) (slots_items c.crash_with.new.self.table.words) n) old.same
    (c.crash_with.ensures.words n (subst (λ (l : Layout). n < words_of l) (sym old.same) low))
