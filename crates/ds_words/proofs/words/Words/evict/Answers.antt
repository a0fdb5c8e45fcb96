use Rattle.ds_words.proofs.Laws.{evicts-with, SameShape-with_word}
use Rattle.ds_words.proofs.words.Words.evict.Goals as goal

pub returns-clause-evicts : goal.returns-clause-evicts
returns-clause-evicts c = rw (c.set_word.ensures, c.word-evicted.ensures) (evicts-with c.args.self.now c.args.number c.requires)

pub returns-clause-shape : goal.returns-clause-shape
returns-clause-shape c = rw c.set_word.ensures (SameShape-with_word c.args.self.now c.args.number _)
