use Rattle.std.proofs.Common.{ap, ◌∙◌}
use Rattle.std.specs.Prelude.{false}
use Rattle.pq_seats.specs.Places.{past_in}
use Rattle.pq_seats.proofs.queue.OpenQueue.make.Goals as goal

pub returns-in-Ok-clause-fresh : goal.returns-in-Ok-clause-fresh
returns-in-Ok-clause-fresh c = (
  c.in-Ok.ensures.fresh false (λ k d low. (c.dealt-passes.ensures.fit k d low).1),
  ap (λ p. past_in p.place) c.in-Ok.ensures.made.1 ∙ (c.dealt-passes.ensures.rest.1 ∙ ap (λ m. m.0.past) c.in_ok-board.ensures.place.1),
)
