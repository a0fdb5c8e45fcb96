use Rattle.ds_words.proofs.Laws.{stores-with, SameShape-with_word}
use Rattle.ds_words.proofs.words.Words.store.Goals as goal

pub returns-clause-stores : goal.returns-clause-stores
returns-clause-stores c = rw (c.set_word.ensures, c.word-word.ensures) (stores-with c.args.self.now c.args.number c.args.value c.requires)

pub returns-clause-shape : goal.returns-clause-shape
returns-clause-shape c = rw c.set_word.ensures (SameShape-with_word c.args.self.now c.args.number _)
