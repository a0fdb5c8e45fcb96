use Rattle.std.proofs.Common.{ap, ◌∙◌}
use Rattle.std.specs.Prelude.{false}
use Rattle.ds_shared.specs.Known.{past_in}
use Rattle.ds_shared_seats.proofs.sheet.OpenSheet.make.Goals as goal

pub returns-in-Ok-clause-fresh : goal.returns-in-Ok-clause-fresh
returns-in-Ok-clause-fresh c =
    let made = c.in_ok-sheet.ensures in (
      c.in-Ok.ensures.fresh false (λ k d low. (made.fit k d low).1),
      ap (λ p. past_in p.place) c.in-Ok.ensures.made.1 ∙ made.past.1,
    )
