use Rattle.ds_store.proofs.Growing.{if_ok}
use Rattle.ds_store.proofs.compact.compact.Goals as goal

pub returns-clause-holds : goal.returns-clause-holds
returns-clause-holds g c = if_ok c.of_lines.result c.of_lines.ensures.holds (λ opened holds clean bare. (holds clean bare).1)
