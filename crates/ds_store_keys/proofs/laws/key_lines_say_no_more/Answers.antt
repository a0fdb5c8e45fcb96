use Rattle.ds_store_keys.proofs.Aside.{no_joins, no_standing, skipped}
use Rattle.ds_store_keys.proofs.laws.key_lines_say_no_more.Goals as goal

pub returns-clause-skipped : goal.returns-clause-skipped
returns-clause-skipped c = skipped

pub returns-clause-standing : goal.returns-clause-standing
returns-clause-standing c = no_standing

pub returns-clause-joins : goal.returns-clause-joins
returns-clause-joins c = no_joins
