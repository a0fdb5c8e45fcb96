use Rattle.ds_analyze.proofs.analyst.orders.Goals as goal

pub returns-then-is_err : goal.returns-then-is_err
returns-then-is_err c = c.no_text.ensures c.args.states_most
