use Rattle.ds_layout.specs.SheetMemory.{memory}
use Rattle.ds_state.proofs.Made.{second_new}
use Rattle.ds_state.proofs.making.say_second.Goals as goal

pub returns-clause-new : goal.returns-clause-new
returns-clause-new c = second_new (memory c.args.words.now) (memory c.perform.new.self) (memory c.evict.new.self) c.requires.fresh c.perform.ensures.performs.1 c.evict.ensures.evicts
