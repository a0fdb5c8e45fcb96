use Rattle.pm_explore.proofs.cells.Cells.perform.Goals as goal

pub returns-in-Load : goal.returns-in-Load
returns-in-Load c = rw c.in-Load.is (c.load.ensures c.args.class c.args.process)

pub returns-in-Store : goal.returns-in-Store
returns-in-Store c = rw c.in-Store.is (c.store.ensures c.args.class c.args.process)

pub returns-in-Or : goal.returns-in-Or
returns-in-Or c = rw c.in-Or.is (c.or.ensures c.args.class c.args.process)

pub returns-in-SwapIf : goal.returns-in-SwapIf
returns-in-SwapIf c = rw c.in-SwapIf.is (c.swap_if.ensures c.args.class c.args.process)

pub returns-in-Back : goal.returns-in-Back
returns-in-Back c = rw c.in-Back.is (c.back.ensures c.args.class)
