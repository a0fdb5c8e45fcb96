use Rattle.pm_explore.proofs.Starting.{starts}
use Rattle.pm_explore.proofs.start.start_of.Goals as goal

pub returns : goal.returns
returns g c = starts g.P.Explored.structure c.args.setting.now
    (record { cells = record { words = c.in-Some.words; buffers = c.in_ok-buffers.buffers }; doing = c.in_ok-repeated.field-0; begun = c.in_ok-repeated-2.field-0; told = c.new.result })
    (rw (c.in-Some.is, c.deref.ensures.value) at c.in_ok-words.ensures)
    (rw (← c.processes-processes.ensures) c.in_ok-buffers.ensures)
    (rw (← c.processes-processes.ensures, ← c.first.ensures) c.in_ok-repeated.ensures)
    (rw (← c.processes-processes.ensures) c.in_ok-repeated-2.ensures)
    c.new.ensures.items
