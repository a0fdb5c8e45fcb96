use Rattle.ds_store.proofs.Lasting.{numbers_go_on, texts_go_on}
use Rattle.ds_store.proofs.laws.stores_go_on.Goals as goal

pub returns-clause-numbers : goal.returns-clause-numbers
returns-clause-numbers c = numbers_go_on

pub returns-clause-texts : goal.returns-clause-texts
returns-clause-texts c = texts_go_on
