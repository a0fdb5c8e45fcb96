use Rattle.ds_state.proofs.Spent.{swap_law, answer_law}
use Rattle.ds_state.proofs.laws.spent_numbers_do_not_count.Goals as goal

pub returns : goal.returns
returns c = record { swap = swap_law; answer = answer_law }
