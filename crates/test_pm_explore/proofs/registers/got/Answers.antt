use Rattle.test_pm_explore.proofs.registers.got.Goals as goal

pub returns-in-Writing : goal.returns-in-Writing
returns-in-Writing c = rw c.in-Writing.is c.got_write.ensures

pub returns-in-Recovering : goal.returns-in-Recovering
returns-in-Recovering c = rw c.in-Recovering.is c.got_recover.ensures
