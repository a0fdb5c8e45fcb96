use Rattle.std.proofs.Common.{List, subst}
use Rattle.std.specs.Arc.{arc_value}
use Rattle.pm_base.specs.Structures.{In}
use Rattle.pm_board.specs.declared.board.Seated.{Seated}
use Rattle.pq.specs.declared.calls.Doing.{Doing}
use Rattle.pq.specs.declared.calls.Response.{Response}
use Rattle.pq_seats.specs.Resting.{words_in}
use Rattle.pq_shared.proofs.Truth.{truths}
use Rattle.pq_seats.proofs.laws.closed_queues_tell_the_truth.Goals as goal

pub returns : goal.returns
returns c = λ q r h.
    let true_of = truths (arc_value q.board).key (words_in r) _ h.run in (
      true_of.0,
      true_of.1,
      (λ e t inside here. true_of.2 e t (subst (λ (l : List (Seated Doing Response)). In l e) h.before inside) here),
    )
