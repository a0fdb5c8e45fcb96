use Rattle.std.proofs.Common.{◌≡◌, ap, sym, subst, ◌∙◌}
use Rattle.std.specs.Arc.{arc_value}
use Rattle.ds_shared.specs.Answers.{opened_with}
use Rattle.ds_store.specs.Stores.{AreSeated, HaveMade}
use Rattle.ds_store.proofs.seated.SeatedSheet.make.Goals as goal

pub returns : goal.returns
returns c =
    let same : arc_value c.all_seats.new.sheet.sheet ≡ arc_value c.in_ok-sheet.sheet.sheet = c.all_seats.ensures.sheet in
    let are = c.in_ok-seats.ensures.seats in
    record {
      layout_is = ap (λ s. s.board.layout) same ∙ c.in_ok-sheet.ensures.layout;
      words = ap opened_with same ∙ c.in_ok-sheet.ensures.words;
      first = c.in_ok-seats.seats.items;
      fresh = are.1;
      seated = subst (λ s. AreSeated s c.in_ok-seats.seats.items) (sym same) are.0;
      made = HaveMade.none;
    }
